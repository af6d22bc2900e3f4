-- A run at one point of a batch: what the world has seen, what the host keeps, the events that wait, and the text that was printed. All of
-- this is our own.
use Rattle.std.specs.Prelude.{ℕ, List}
use Rattle.app_frames.specs.declared.frame.Event.{Event}
use Rattle.outside.specs.Seen.{Seen}
use Rattle.net_txn.specs.Net.{NetState}

pub record Standing (Own : Type 0) : Type 0 where
  pub seen : Seen Own
  pub net : NetState
  pub queue : List Event
  pub text : List ℕ
