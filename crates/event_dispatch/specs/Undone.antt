-- What a fault leaves of a turn: its changes are undone; or it was whole, and its packets were being released. All of this is our own.
use Rattle.std.specs.Prelude.{ℕ, List}
use Rattle.lego_model.specs.AtOnce.{Passes, AtOnce}
use Rattle.outside.specs.Seen.{Seen, journal}
use Rattle.outside.specs.Conforming.{Conforming}
use Rattle.outside.specs.InOrder.{InOrder}
use Rattle.net_txn.specs.Net.{NetState}
use Rattle.switch_laws.specs.Since.{Ready}
use Rattle.lego_model.specs.AfterFault.{TablesLeft}
use Rattle.run_course.specs.TurnsLeft.{TurnsBehind}
use Rattle.run_laws.specs.Engine.{Engine, EachFrom, rules_of}
use Rattle.run_laws.specs.Moves.{IsAtRest}
use Rattle.event_dispatch.specs.declared.fault.Fault.{Fault}
use Rattle.event_dispatch.specs.declared.fault.Fault.TheVariants as faults

-- memory was wanting
abbrev pub IsShort : Fault → Type 0
IsShort faults.NoMemory = Unit {0}
IsShort other = ⊥

-- Where the world tells in order, it kept its word up to the turn, all was ready there, and these bytes of the application are unread: what is
-- left of the turn with what follows. Each switch has its entries again, or it failed in the undo, with its cause in these calls; or memory was
-- wanting behind it, it was whole, and its changes stay; or it was whole, and its packets were being released.
pub record TurnLeft {Own : Type 0} (Tells Short : Type 0) (app budget : ℕ) (rest : List ℕ) (old new : Seen Own) (net : NetState) : Type 0 where
  pub left : Tells → Conforming old → InOrder new → Ready old net → (a : AtOnce app (journal old.history)) → Passes a.last.unread rest → TablesLeft app budget Short old new

-- There the same of what comes behind some turns at an event, in which no application may have been given it.
pub record DispatchLeft {Own : Type 0} (Tells Short : Type 0) (old new : Seen Own) (e : Engine) : Type 0 where
  pub left : Tells → Conforming old → InOrder new → Ready old e.net → EachFrom (IsAtRest old) 0 e.apps → TurnsBehind (rules_of e) Short old new
