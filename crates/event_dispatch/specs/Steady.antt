-- What the engine keeps of a world that tells in order: no call of a link is a stray one, all bytes that came of switches were read where a part
-- of a run was done, and no quiescent point lies behind the one where a part began that was not; and of any world that tells: no other application
-- is called, and none runs at last. All of this is our own.
use Rattle.std.specs.Prelude.{◌≡◌, ◌<◌, ℕ, false, List, [], ◌++◌}
use Rattle.outside.specs.declared.step.WorldStep.{WorldStep}
use Rattle.outside.specs.Seen.{Seen, journal}
use Rattle.outside.specs.State.{State, state, upcoming, is_running}
use Rattle.outside.specs.InOrder.{InOrder, MessagesSince}
use Rattle.outside.specs.Quiescence.{NoneQuiescentSince}
use Rattle.run_course.specs.Points.{IsLastPoint}
use Rattle.app_visor.specs.CallsFor.{CallsFor}
use Rattle.net_txn.specs.Net.{NetState}
use Rattle.net_txn.specs.LinkSteps.{MakesNoStrayCall}
use Rattle.net_txn.specs.Abreast.{Abreast}
use Rattle.run_laws.specs.Cut.{CallsAmong}
use Rattle.lego_model.specs.Journal.{released}
use Rattle.lego_model.specs.OwnIds.{own_ids}
use Rattle.lego_model.specs.AfterFault.{SwitchesStay}

-- however it ended: no call of a link was a stray one, and none was for another application than the first so many
pub record NoStray {Own : Type 0} (Tells : Type 0) (number : ℕ) (old new : Seen Own) (net : NetState) : Type 0 where
  pub places : Tells → InOrder new → Abreast old net → MakesNoStrayCall old new
  pub own : Tells → CallsAmong number old new

-- where it was done: the host keeps up with the switches, and what came of them are messages
pub record Reads {Own : Type 0} (Tells : Type 0) (old new : Seen Own) (net now_net : NetState) : Type 0 where
  pub abreast : Tells → InOrder new → Abreast old net → Abreast new now_net
  pub read : Tells → InOrder new → Abreast old net → MessagesSince old new

-- no stimulus is begun, and nothing is to be told
pub record NothingUnderWay (s : State) : Type 0 where
  pub none_begun : s.begun ≡ false
  pub none_upcoming : upcoming s ≡ []

-- however it ended: no quiescent point since then, and no call for another application
pub record NoPoint {Own : Type 0} (Tells : Type 0) (number : ℕ) (old new : Seen Own) : Type 0 where
  pub none_quiescent : Tells → NoneQuiescentSince old new
  pub own : Tells → CallsAmong number old new

-- no quiescent point behind that one, where all was at rest there
pub record AtMostThisPoint {Own : Type 0} (Tells : Type 0) (number : ℕ) (old new : Seen Own) : Type 0 where
  pub last : Tells → InOrder new → NothingUnderWay (state old) → IsLastPoint old new
  pub own : Tells → CallsAmong number old new

-- no quiescent point behind that one, and no other application was called
pub record OwnPoint {Own : Type 0} (app : ℕ) (old new : Seen Own) : Type 0 where
  pub last : IsLastPoint old new
  pub own : CallsFor app old new

-- no packet was released since then
pub record NoneReleased {Own : Type 0} (old new : Seen Own) : Type 0 where
  pub steps : List WorldStep
  pub history : new.history ≡ old.history ++ steps
  pub none : released (journal steps) ≡ []

-- no switch moved, and no packet was released
pub record NoneMoves {Own : Type 0} (Tells : Type 0) (old new : Seen Own) : Type 0 where
  pub stay : Tells → SwitchesStay old new
  pub releases : Tells → NoneReleased old new

-- no message of its own was sent since then
pub record NoOwnMessage {Own : Type 0} (old new : Seen Own) : Type 0 where
  pub steps : List WorldStep
  pub history : new.history ≡ old.history ++ steps
  pub none : own_ids (journal steps) ≡ []

-- ---- The applications are ended at last

-- none of the first so many runs then: no call of a link was a stray one, no bytes came of a switch, no quiescent point lies behind, no switch moved, and
-- no packet was released
pub record IsEnded {Own : Type 0} (Tells : Type 0) (number : ℕ) (old new : Seen Own) : Type 0 where
  pub no_point : NoPoint Tells number old new
  pub places : Tells → MakesNoStrayCall old new
  pub messages : Tells → MessagesSince old new
  pub none_sent : Tells → NoOwnMessage old new
  pub ended : Tells → (app : ℕ) → app < number → is_running app (state new) ≡ false
  pub none_moves : NoneMoves Tells old new

-- however a run ended, which ended its applications: no call was a stray one, and no application runs where none ran before
pub record NoneRuns {Own : Type 0} (Tells : Type 0) (number : ℕ) (old new : Seen Own) (net : NetState) : Type 0 where
  pub no_stray : NoStray Tells number old new net
  pub none_runs : Tells → (state old).running ≡ [] → (state new).running ≡ []
