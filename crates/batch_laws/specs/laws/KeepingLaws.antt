-- A world that keeps its word tells in order; and where calls of links alone were made, each in place, they are in order.
use Rattle.std.specs.Prelude.{◌≡◌, ℕ, true, List, [], ◌∷◌}
use Rattle.std.specs.List.{AllByRecursion}
use Rattle.std.proofs.Common.{sym, true≢false}
use Rattle.of_types.specs.declared.journal.Act.TheVariants.{Stim, Started, Gave, Gone, Took, Ended, Sent, Got, Lost}
use Rattle.flow_table.specs.Switch.{Declared}
use Rattle.outside.specs.declared.step.WorldStep.{WorldStep}
use Rattle.outside.specs.declared.step.WorldStep.TheVariants.{Acted, TookInto, From, Joined, Left, Moment, Idle, End, Opened, NotOpened, NextFailed, SendLost, RecvLost, SendFailed, RecvFailed}
use Rattle.outside.specs.Seen.{Seen}
use Rattle.outside.specs.State.{State, at_first, after_step, state}
use Rattle.outside.specs.Conforming.{MayAct, MayStep, MaySteps, Conforming}
use Rattle.outside.specs.InOrder.{MayCome, MayComeAll, InOrder}
use Rattle.lego_model.specs.OrderlySteps.{IsOrderly}
use Rattle.lego_model.specs.UndoFaults.{AreExpectedOnLinks}
use Rattle.net_txn.specs.LinkSteps.{is_link_step, AreLinkSteps, LinkSteps, MakesNoStrayCall}
use Rattle.switch_laws.specs.Orderly.{OrderlySince}

-- ---- A world that keeps its word

may_come : (declared : List Declared) (step : WorldStep) (s : State) → MayStep declared step s → MayCome declared step s
unfolding MayCome MayStep MayAct
may_come declared (Acted (Stim x)) s may = may
may_come declared (Acted (Started app ok)) s may = may
may_come declared (Acted (Gave app bytes)) s may = may
may_come declared (Acted (Gone app bytes)) s may = may
may_come declared (Acted (Took app what)) s may = may
may_come declared (Acted (Ended app)) s may = may
may_come declared (Acted (Sent d bytes)) s may = may
may_come declared (Acted (Got d bytes)) s may = may.0
may_come declared (Acted (Lost d)) s may = may
may_come declared (TookInto app what room) s may = may
may_come declared (From d bytes) s may = may.0
may_come declared (Joined d bytes) s may = may
may_come declared (Left d) s may = may
may_come declared (Moment t) s may = may
may_come declared Idle s may = may
may_come declared End s may = may
may_come declared Opened s may = may
may_come declared NotOpened s may = may
may_come declared NextFailed s may = may
may_come declared (SendLost d) s may = may
may_come declared (RecvLost d) s may = may
may_come declared (SendFailed d) s may = may
may_come declared (RecvFailed d) s may = may

all_come : (declared : List Declared) (steps : List WorldStep) (s : State) → MaySteps declared steps s → MayComeAll declared steps s
all_come declared [] s may = tt
all_come declared (step ∷ steps) s may = (may_come declared step s may.0, all_come declared steps (after_step step s) may.1)

pub Conforming-in_order : {Own : Type 0} (seen : Seen Own) → Conforming seen → InOrder seen
Conforming-in_order seen keeps = record {
  declared = keeps.declared;
  switches = keeps.switches;
  steps = all_come seen.given.declared seen.history (at_first seen.given) keeps.steps;
}

-- ---- Calls of links, each in place

step_orderly : (app : ℕ) (step : WorldStep) (steps : List WorldStep) (s : State) → is_link_step step ≡ true → AreExpectedOnLinks (step ∷ steps) s → IsOrderly app step
step_orderly app (Acted (Sent d bytes)) steps s is are = tt
step_orderly app (Acted (Got d bytes)) steps s is are = tt
step_orderly app (SendLost d) steps s is are = tt
step_orderly app (RecvLost d) steps s is are = tt
step_orderly app (SendFailed d) steps s is are = absurd are.0
step_orderly app (RecvFailed d) steps s is are = absurd are.0
step_orderly app (Acted (Stim x)) steps s is are = absurd (true≢false (sym is))
step_orderly app (Acted (Started of ok)) steps s is are = absurd (true≢false (sym is))
step_orderly app (Acted (Gave of bytes)) steps s is are = absurd (true≢false (sym is))
step_orderly app (Acted (Gone of bytes)) steps s is are = absurd (true≢false (sym is))
step_orderly app (Acted (Took of what)) steps s is are = absurd (true≢false (sym is))
step_orderly app (Acted (Ended of)) steps s is are = absurd (true≢false (sym is))
step_orderly app (Acted (Lost d)) steps s is are = absurd (true≢false (sym is))
step_orderly app (TookInto of what room) steps s is are = absurd (true≢false (sym is))
step_orderly app (From d bytes) steps s is are = absurd (true≢false (sym is))
step_orderly app (Joined d bytes) steps s is are = absurd (true≢false (sym is))
step_orderly app (Left d) steps s is are = absurd (true≢false (sym is))
step_orderly app (Moment t) steps s is are = absurd (true≢false (sym is))
step_orderly app Idle steps s is are = absurd (true≢false (sym is))
step_orderly app End steps s is are = absurd (true≢false (sym is))
step_orderly app Opened steps s is are = absurd (true≢false (sym is))
step_orderly app NotOpened steps s is are = absurd (true≢false (sym is))
step_orderly app NextFailed steps s is are = absurd (true≢false (sym is))

links_orderly : (app : ℕ) (steps : List WorldStep) (s : State) → AreLinkSteps steps → AreExpectedOnLinks steps s → AllByRecursion (IsOrderly app) steps
links_orderly app [] s all are = tt
links_orderly app (step ∷ steps) s all are = (step_orderly app step steps s all.0 are, links_orderly app steps (after_step step s) all.1 are.1)

pub calls-orderly : {Own : Type 0} (app : ℕ) (old new : Seen Own) → LinkSteps old new → MakesNoStrayCall old new → OrderlySince app old new
calls-orderly app old new only places = record { steps = only.steps; history = only.history; orderly = links_orderly app only.steps (state old) only.all (places only.steps only.history) }
