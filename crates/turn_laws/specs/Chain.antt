-- A turn in a world that keeps its word, beat after beat (a beat is a call for the application, or one of its messages and the answer): what
-- the reference controller does at the same beats. All of this is our own.
use Rattle.std.specs.Prelude.{◌≡◌, ℕ, Bool, List, [], ◌++◌, length}
use Rattle.app_frames.specs.declared.frame.Answer.{Answer}
use Rattle.app_frames.specs.declared.frame.Event.{Event}
use Rattle.lego_model.specs.Journal.{Reply}
use Rattle.lego_model.specs.Places.{Place}
use Rattle.lego_model.specs.Packets.{Play}
use Rattle.lego_model.specs.Turns.{Outcome, turn_of}
use Rattle.lego_model.specs.Controller.{leavers, table_of}
use Rattle.outside.specs.Seen.{Seen}
use Rattle.net_txn.specs.Net.{NetState}
use Rattle.app_visor.specs.Beats.{Exchange}
use Rattle.app_visor.specs.Turns.{Agrees as AnswersSo, played_on}
use Rattle.switch_laws.specs.Lost.{LeavesBy, shown_play}
use Rattle.switch_laws.specs.Since.{Goes}

-- what the reference controller plays the turn on: its own switches, the packets that are held, at which messages to come switches are lost,
-- and the Leave events of those that were
abbrev pub play_at : {Own : Type 0} → Seen Own → Seen Own → NetState → List Bool → List Event → Play
play_at first seen net losing left = shown_play first.given.declared seen net losing left

-- what these messages and answers leave, with the switches that were lost at them
pub record Leads {Own : Type 0} (allows : List Place → Bool) (start : ℕ) (lost : List ℕ) (first old new : Seen Own) (net0 net now_net : NetState) (xs : List (Exchange Own)) : Type 0 where
  pub messages : List Bool
  pub left : List Event
  pub leaves : LeavesBy old new net now_net left
  pub answers : (before : List Event) → AnswersSo (table_of allows) xs (play_at first old net messages before) (play_at first new now_net [] (before ++ left))
  pub goes : Goes start (lost ++ leavers left) first new net0 now_net

-- A turn as the reference controller plays it, with the same switches lost at the same messages: on its own switches, with the same answers,
-- the same packets held, and the same end. The Leave events of the lost ones come in order.
pub record PlayedAlike {Own : Type 0} (allows : List Place → Bool) (budget : ℕ) (rest : List ℕ) (reply : Reply) (old new : Seen Own) (net now_net : NetState) (given : List Answer) (outcome : Outcome) : Type 0 where
  pub messages : List Bool
  pub left : List Event
  pub leaves : LeavesBy old new net now_net left
  pub goes : Goes (length net.log) (leavers left) old new net now_net
  pub played : turn_of (table_of allows) budget rest reply (play_at old old net messages []) ≡ played_on (play_at old new now_net [] left) given outcome
