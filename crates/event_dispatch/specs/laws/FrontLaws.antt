-- Laws of the point up to which a run was done, in a world that tells in order: it kept its word as far as there, and all was at rest.
use Rattle.std.specs.Prelude.{List, ◌++◌, Option, is_some, refl}
use Rattle.std.proofs.Common.{sym, ap, ◌∙◌, subst}
use Rattle.flow_table.specs.Switch.{SwitchState}
use Rattle.outside.specs.declared.step.WorldStep.{WorldStep}
use Rattle.outside.specs.Seen.{Seen, Continues}
use Rattle.outside.specs.State.{waits_of, upcoming, state, waiting_in}
use Rattle.outside.specs.Conforming.{Conforming}
use Rattle.outside.specs.InOrder.{InOrder, BringMessages}
use Rattle.outside.specs.laws.InOrderLaws.{InOrder-before, in_order-Conforming, Conforming-on}
use Rattle.net_txn.specs.Net.{NetState}
use Rattle.net_txn.specs.Abreast.{Abreast}
use Rattle.batch_laws.specs.Calm.{Calm}
use Rattle.batch_laws.specs.laws.ItemLaws.{links_ascend, none_waiting}
use Rattle.run_laws.specs.laws.FirstLaws.{none-joined, calm-first}
use Rattle.run_laws.specs.First.{IsOpened, net_at_first}
use Rattle.event_dispatch.specs.Steady.{Reads, NothingUnderWay}

-- ---- A world that was just opened

-- no switch is joined
pub abreast_first : {Own : Type 0} (seen : Seen Own) → IsOpened seen → Abreast seen net_at_first
abreast_first seen is = record {
  joined = λ d. ap (λ (o : Option SwitchState). is_some o) (none-joined seen is d);
  none_due = (calm-first seen is).none_due;
}

-- nothing came
pub messages_first : {Own : Type 0} (seen : Seen Own) → IsOpened seen → BringMessages seen.history
messages_first seen is = subst (λ (steps : List WorldStep). BringMessages steps) (sym is) (refl, tt)

pub keeps_first : {Own : Type 0} (seen : Seen Own) → IsOpened seen → InOrder seen → Conforming seen
keeps_first seen is order = in_order-Conforming seen order (messages_first seen is)

-- ---- Behind parts that were done

-- as far as there it kept its word
pub keeps_to : {Own : Type 0} {Tells : Type 0} {net : NetState} (first last : Seen Own) → Tells → IsOpened first → Continues Tells first last → Reads Tells first last net_at_first net → InOrder last → Conforming last
keeps_to first last told is on reads order =
    Conforming-on first last told on (keeps_first first is (InOrder-before told on order)) order (reads.read told order (abreast_first first is))

-- all is at rest there
pub calm_rest : {Own : Type 0} (seen : Seen Own) (net : NetState) → Conforming seen → Calm seen net → NothingUnderWay (state seen)
unfolding waits_of upcoming
calm_rest seen net keeps calm = record {
  none_begun = calm.none_begun;
  none_upcoming = ap (λ (steps : List WorldStep). steps ++ waiting_in (state seen).links) calm.none_due ∙ none_waiting 1 (state seen).links (links_ascend seen keeps) calm.ready.waits;
}
