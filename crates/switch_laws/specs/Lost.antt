-- Switches that are lost, as the reference controller loses them: their Leave events. All of this is our own.
use Rattle.std.specs.Prelude.{◌≡◌, ℕ, Bool, List, [], ◌∷◌, ◌++◌, map}
use Rattle.flow_table.specs.Switch.{Declared}
use Rattle.app_frames.specs.declared.frame.Answer.{Answer}
use Rattle.app_frames.specs.declared.frame.Event.{Event}
use Rattle.lego_model.specs.Controller.{leavers, undoing}
use Rattle.lego_model.specs.History.{lost_of}
use Rattle.lego_model.specs.Packets.{Play, play}
use Rattle.outside.specs.Seen.{Seen}
use Rattle.outside.specs.State.{state}
use Rattle.net_txn.specs.declared.ports.KnownPorts.{KnownPorts}
use Rattle.net_txn.specs.Net.{NetState}
use Rattle.net_txn.specs.Leaving.{left_event}
use Rattle.switch_laws.specs.Shown.{shown_places, shown_by}

-- Switches were lost, with these Leave events, in order, which the host has not told yet; the history has their losses.
pub record LeavesBy {Own : Type 0} (old new : Seen Own) (net now_net : NetState) (left : List Event) : Type 0 where
  pub gone : List KnownPorts
  pub left_is : now_net.left ≡ net.left ++ gone
  pub events_is : map left_event gone ≡ left
  pub lost_is : lost_of new ≡ lost_of old ++ leavers left

-- ---- One message

-- what the reference controller plays messages on: its own switches, what is held, at which messages to come switches are lost, and the Leave
-- events of those that were
abbrev pub shown_play : {Own : Type 0} → List Declared → Seen Own → NetState → List Bool → List Event → Play
shown_play declared seen net losing left = record { places = shown_places declared (shown_by net) (state seen); held = net.held; losing = losing; inner = []; left = left }

-- The reference controller answers the message the same, and loses its switch there or not; its switches stand then as the world's do.
pub record ExchangeShown {Own : Type 0} (declared : List Declared) (d : ℕ) (bytes : List ℕ) (old new : Seen Own) (net now_net : NetState) (given : Answer) : Type 0 where
  pub lost : Bool
  pub left : List Event
  pub leaves : LeavesBy old new net now_net left
  pub played : (losing : List Bool) (before : List Event) → play (shown_play declared old net (lost ∷ losing) before) d bytes ≡ (given, shown_play declared new now_net losing (before ++ left))

-- ---- An undo

-- The reference controller gets the earlier tables back and loses these switches in it; its switches stand then as the world's do.
pub record UndoShown {Own : Type 0} (declared : List Declared) (lost : List ℕ) (first old new : Seen Own) (net0 net now_net : NetState) : Type 0 where
  pub left : List Event
  pub leaves : LeavesBy old new net now_net left
  pub leavers_is : leavers left ≡ lost
  pub undoing_is : undoing lost (shown_places declared (shown_by net0) (state first)) (shown_places declared (shown_by net) (state old)) ≡ (shown_places declared (shown_by now_net) (state new), left)
