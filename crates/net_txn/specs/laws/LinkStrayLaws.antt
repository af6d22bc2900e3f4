-- Laws of calls of links that are in place: a barrier's reply waits until it is got, so that each message that is taken before it waits.
use Rattle.std.specs.Prelude.{◌≡◌, ℕ, ◌^◌, ◌<◌, true, false, List, [], ◌∷◌, ◌++◌, drop, Option, Some, None, Result, Ok, Err, refl}
use Rattle.std.specs.List.{AllByRecursion}
use Rattle.std.specs.Option.{is_some}
use Rattle.std.proofs.Common.{sym, ap, ◌∙◌, subst, append_assoc}
use Rattle.std.proofs.lemmas.List.{append-nil, append_cancel_left}
use Rattle.of_types.specs.declared.journal.Act.TheVariants.{Sent, Got}
use Rattle.of_wire.specs.declared.message.Envelope.{Envelope}
use Rattle.of_wire.specs.declared.message.Message.TheVariants.{BarrierRequest, BarrierReply}
use Rattle.of_wire.specs.declared.fault.WireFault.{WireFault}
use Rattle.of_wire.specs.Reading.{reading_of}
use Rattle.of_wire.specs.laws.ReadingLaws.{reading_of-message_bytes}
use Rattle.of_wire.specs.Spelling.{message_bytes}
use Rattle.flow_table.specs.Switch.{Declared, SwitchState}
use Rattle.outside.specs.declared.step.WorldStep.{WorldStep}
use Rattle.outside.specs.declared.step.WorldStep.TheVariants.{Acted}
use Rattle.outside.specs.Seen.{Seen, Continues}
use Rattle.outside.specs.State.{State, after_step, after_steps, state, switch_of, switch_told, message_sends, waits_of, is_joined, has_waiting, is_empty}
use Rattle.outside.specs.laws.LinkLaws.{switch_of-sent, waits_of-sent, switch_of-got, waits_of-got}
use Rattle.outside.specs.laws.StateLaws.{after_steps-append, state-append}
use Rattle.outside.specs.InOrder.{MayComeAll}
use Rattle.outside.specs.laws.InOrderLaws.{come_rest}
use Rattle.lego_model.specs.declared.wait.Awaited.{Awaited}
use Rattle.lego_model.specs.declared.wait.Heard.{Heard}
use Rattle.lego_model.specs.declared.wait.Heard.TheVariants.{Reply, Refused, Notice, Echo, Other}
use Rattle.lego_model.specs.BarrierWaits.{heard, is_reply, echo_reply, steps_by, heard_steps, wait_steps, barrier_sent, reply_got}
use Rattle.net_txn.specs.laws.HeardLaws.{IsMessage-barrier}
use Rattle.net_txn.specs.laws.StepLaws.{first_came, reply_is_none, told_waits, barrier_sends}
use Rattle.net_txn.specs.LinkSteps.{MakesNoStrayCall, Awaits}
use Rattle.lego_model.specs.UndoFaults.{IsExpectedOnLink, AreExpectedOnLinks}

-- ---- One after the other

pub places_append : (xs ys : List WorldStep) (s : State) → AreExpectedOnLinks xs s → AreExpectedOnLinks ys (after_steps xs s) → AreExpectedOnLinks (xs ++ ys) s
places_append [] ys s all rest = rest
places_append (x ∷ xs) ys s all rest = (all.0, places_append xs ys (after_step x s) all.1 rest)

-- by steps that are told
pub no_strays_by : {Own : Type 0} (old new : Seen Own) (known : List WorldStep) → new.history ≡ old.history ++ known → AreExpectedOnLinks known (state old) → MakesNoStrayCall old new
no_strays_by old new known told all steps longer = subst (λ (xs : List WorldStep). AreExpectedOnLinks xs (state old)) (append_cancel_left old.history known steps (sym told ∙ longer)) all

pub no_strays_none : {Own : Type 0} (seen : Seen Own) → MakesNoStrayCall seen seen
no_strays_none seen = no_strays_by seen seen [] (sym (append-nil seen.history)) tt

pub no_strays_then : {Own : Type 0} {Tells : Type 0} (old mid new : Seen Own) → Tells → Continues Tells old mid → Continues Tells mid new → MakesNoStrayCall old mid → MakesNoStrayCall mid new → MakesNoStrayCall old new
no_strays_then old mid new told before later first second =
    let a = before.told told in
    let b = later.told told in
    no_strays_by old new (a.0 ++ b.0) (b.1 ∙ ap (λ (xs : List WorldStep). xs ++ b.0) a.1 ∙ append_assoc old.history a.0 b.0)
    (places_append a.0 b.0 (state old) (first a.0 a.1) (subst (λ (s : State). AreExpectedOnLinks b.0 s) (state-append old mid a.0 before.given a.1) (second b.0 b.1)))

-- ---- Steps of calls that succeeded

abbrev pub IsSure : WorldStep → Type 0
IsSure step = (s : State) → IsExpectedOnLink step s

sure_append : (xs ys : List WorldStep) → AllByRecursion IsSure xs → AllByRecursion IsSure ys → AllByRecursion IsSure (xs ++ ys)
sure_append [] ys all rest = rest
sure_append (x ∷ xs) ys all rest = (all.0, sure_append xs ys all.1 rest)

pub sure_places : (steps : List WorldStep) (s : State) → AllByRecursion IsSure steps → AreExpectedOnLinks steps s
sure_places [] s all = tt
sure_places (x ∷ xs) s all = (all.0 s, sure_places xs (after_step x s) all.1)

sure_by : (d : ℕ) (h : Heard) (bytes : List ℕ) → AllByRecursion IsSure (steps_by d h bytes)
sure_by d Reply bytes = tt
sure_by d (Refused r) bytes = tt
sure_by d Notice bytes = tt
sure_by d Echo bytes = (λ s. tt, tt)
sure_by d Other bytes = tt

pub sure_wait : (a : Awaited) (got : List (List ℕ)) → AllByRecursion IsSure (wait_steps a got)
sure_wait a [] = tt
sure_wait a (b ∷ bs) = (λ s. tt, sure_append (steps_by a.dpid (heard a b) b) (wait_steps a bs) (sure_by a.dpid (heard a b) b) (sure_wait a bs))

-- ---- A switch stays joined

told_some : (read : Result Envelope WireFault) (o : Option SwitchState) → is_some o ≡ true → is_some (switch_told read o) ≡ true
told_some (Ok e) None some = absurd cc
told_some (Ok e) (Some s) some = refl
told_some (Err fault) o some = some

pub joined_sent : (d : ℕ) (bytes : List ℕ) (s : State) → is_joined d s ≡ true → is_joined d (after_step (Acted (Sent d bytes)) s) ≡ true
joined_sent d bytes s joined = ap (λ (o : Option SwitchState). is_some o) (switch_of-sent d bytes s) ∙ told_some (reading_of bytes) (switch_of d s) joined

pub joined_got : (d : ℕ) (bytes : List ℕ) (s : State) → is_joined d s ≡ true → is_joined d (after_step (Acted (Got d bytes)) s) ≡ true
joined_got d bytes s joined = ap (λ (o : Option SwitchState). is_some o) (switch_of-got d bytes s) ∙ joined

pub switch_there : (o : Option SwitchState) → is_some o ≡ true → (s : SwitchState) × (o ≡ Some s)
switch_there None some = absurd cc
switch_there (Some s) some = (s, refl)

-- ---- The reply waits

not_empty : (before behind : List (List ℕ)) (b : List ℕ) → is_empty (before ++ b ∷ behind) ≡ false
not_empty [] behind b = refl
not_empty (x ∷ xs) behind b = refl

pub awaits_waiting : (a : Awaited) (s : State) → Awaits a s → has_waiting a.dpid s ≡ true
awaits_waiting a s w =
    let some : is_empty (waits_of a.dpid s) ≡ false = ap (λ (ws : List (List ℕ)). is_empty ws) w.waits ∙ not_empty w.before w.behind (message_bytes a.barrier BarrierReply) in
    rw some refl

pub awaits_barrier : (a : Awaited) (s : State) → a.barrier < 2 ^ 32 → is_joined a.dpid s ≡ true → Awaits a (after_step (barrier_sent a) s)
awaits_barrier a s small joined =
    let bytes = message_bytes a.barrier BarrierRequest in
    let here = switch_there (switch_of a.dpid s) joined in
    record {
      joined = joined_sent a.dpid bytes s joined;
      before = waits_of a.dpid s;
      behind = [];
      waits = told_waits a.dpid a.barrier BarrierRequest bytes s here.0 (reading_of-message_bytes a.barrier BarrierRequest small IsMessage-barrier) here.1
          ∙ ap (λ (ws : List (List ℕ)). waits_of a.dpid s ++ ws) (barrier_sends a.barrier here.0);
    }

-- one message was got that is not the reply
first_not : (declared : List Declared) (a : Awaited) (b : List ℕ) (rest : List WorldStep) (before behind : List (List ℕ)) (s : State) → MayComeAll declared (Acted (Got a.dpid b) ∷ rest) s → is_reply (heard a b) ≡ false
    → waits_of a.dpid s ≡ before ++ message_bytes a.barrier BarrierReply ∷ behind → is_joined a.dpid s ≡ true → Awaits a (after_step (Acted (Got a.dpid b)) s)
first_not declared a b rest [] behind s may other waits joined =
    absurd (reply_is_none a b (first_came declared a.dpid b (message_bytes a.barrier BarrierReply) behind rest s waits may) other)
first_not declared a b rest (w ∷ ws) behind s may other waits joined = record {
  joined = joined_got a.dpid b s joined;
  before = ws;
  behind = behind;
  waits = waits_of-got a.dpid b s ∙ ap (drop 1) waits;
}

pub awaits_sent : (a : Awaited) (bytes : List ℕ) (s : State) → Awaits a s → Awaits a (after_step (Acted (Sent a.dpid bytes)) s)
awaits_sent a bytes s w =
    let more = message_sends (reading_of bytes) (switch_of a.dpid s) in
    record {
      joined = joined_sent a.dpid bytes s w.joined;
      before = w.before;
      behind = w.behind ++ more;
      waits = waits_of-sent a.dpid bytes s ∙ ap (λ (ws : List (List ℕ)). ws ++ more) w.waits ∙ append_assoc w.before (message_bytes a.barrier BarrierReply ∷ w.behind) more;
    }

awaits_by : (a : Awaited) (h : Heard) (b : List ℕ) (s : State) → Awaits a s → Awaits a (after_steps (steps_by a.dpid h b) s)
awaits_by a Reply b s w = w
awaits_by a (Refused r) b s w = w
awaits_by a Notice b s w = w
awaits_by a Echo b s w = awaits_sent a (echo_reply b) s w
awaits_by a Other b s w = w

-- before the reply
pub awaits_wait : (declared : List Declared) (a : Awaited) (got : List (List ℕ)) (s : State) → MayComeAll declared (wait_steps a got) s → AllByRecursion (λ b. is_reply (heard a b) ≡ false) got → Awaits a s → Awaits a (after_steps (wait_steps a got) s)
awaits_wait declared a [] s may other w = w
awaits_wait declared a (b ∷ bs) s may other w =
    let first = first_not declared a b _ w.before w.behind s may other.0 w.waits w.joined in
    let heard_is = awaits_by a (heard a b) b (after_step (Acted (Got a.dpid b)) s) first in
    subst (λ (t : State). Awaits a t) (sym (after_steps-append (heard_steps a b) (wait_steps a bs) s))
    (awaits_wait declared a bs (after_steps (heard_steps a b) s) (come_rest declared (heard_steps a b) (wait_steps a bs) s may) other.1 heard_is)

-- a barrier whose reply was got
pub sure_settled : (a : Awaited) (got : List (List ℕ)) → AllByRecursion IsSure (barrier_sent a ∷ (wait_steps a got ++ reply_got a ∷ []))
sure_settled a got = (λ s. tt, sure_append (wait_steps a got) (reply_got a ∷ []) (sure_wait a got) (λ s. tt, tt))
