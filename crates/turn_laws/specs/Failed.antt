-- A turn that failed and was undone, behind which there were calls for its application alone: it was started again, or is gone. All of this is our own.
use Rattle.std.specs.Prelude.{◌≡◌, ℕ, Bool, List, length, Ok}
use Rattle.flow_table.specs.View.{TableView}
use Rattle.app_frames.specs.declared.cause.Cause.{Cause}
use Rattle.outside.specs.Seen.{Seen, Continues}
use Rattle.net_txn.specs.Leaving.{none_left}
use Rattle.net_txn.specs.Net.{NetState}
use Rattle.net_txn.specs.Undos.{Undoes}
use Rattle.app_visor.specs.declared.state.TurnEnd.TheVariants as ends
use Rattle.app_visor.specs.CallsFor.{OwnSteps}
use Rattle.app_visor.specs.Turns.{Turns}

pub record TurnFailed {Own : Type 0} (Tells : Type 0) (accepts : List TableView → Bool) (app budget : ℕ) (rest frame : List ℕ) (old new : Seen Own) (net now_net : NetState) : Type 0 where
  pub mid : Seen Own
  pub mid_net : NetState
  pub cause : Cause
  pub unread : List ℕ
  pub turns : Turns Tells accepts app budget rest frame old mid net mid_net (ends.Failed cause) unread
  pub undone : Seen Own
  pub undone_net : NetState
  pub undoes : Undoes Tells (length net.log) mid undone mid_net undone_net (Ok tt)
  pub later : Continues Tells undone new
  pub own : Tells → OwnSteps app undone new
  -- the switches that were lost are told
  pub net_is : now_net ≡ none_left undone_net
