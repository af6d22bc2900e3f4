-- What a release of packets leaves of a world that keeps its word, and steps that release none (OpenFlow 1.0.0, 5.3.6 Send Packet
-- Message). All of this is our own.
use Rattle.std.specs.Prelude.{◌≡◌, ◌⊎◌, ℕ, List, [], ◌++◌, Option, Some, None}
use Rattle.std.specs.List.{AllByRecursion}
use Rattle.std.specs.Option.{option_map}
use Rattle.app_frames.specs.declared.frame.Event.{Event}
use Rattle.lego_model.specs.declared.fault.TxnFault.{TxnFault}
use Rattle.lego_model.specs.declared.fault.TxnFault.TheVariants.{Flooded}
use Rattle.lego_model.specs.AfterFault.{WasLost, after_packets}
use Rattle.lego_model.specs.BarrierWaits.{flood}
use Rattle.lego_model.specs.Controller.{Release, release, leavers}
use Rattle.lego_model.specs.History.{released_of}
use Rattle.lego_model.specs.Journal.{released_in, released, lost_in}
use Rattle.lego_model.specs.Losses.{PacketLoss}
use Rattle.lego_model.specs.Packets.{Held, HeldBack}
use Rattle.lego_model.specs.SwitchFaults.{FloodedByPacket}
use Rattle.outside.specs.declared.step.WorldStep.{WorldStep}
use Rattle.outside.specs.declared.step.WorldStep.TheVariants.{Acted, SendLost, RecvLost}
use Rattle.outside.specs.Seen.{Seen, journal}
use Rattle.outside.specs.State.{state, switch_of}
use Rattle.net_txn.specs.Causes.{IsPlain}
use Rattle.net_txn.specs.Losing.{lose_all}
use Rattle.net_txn.specs.Net.{NetState}
use Rattle.switch_laws.specs.Lost.{LeavesBy}
use Rattle.switch_laws.specs.Shown.{shown_places, shown_by}
use Rattle.switch_laws.specs.Since.{Ready}
use Rattle.switch_laws.specs.Sound.{Sound}

-- the packet that a step releases, where it releases one
abbrev pub released_by : WorldStep → Option Held
released_by (Acted act) = released_in act
released_by other = None

abbrev pub ReleasesNone : List WorldStep → Type 0
ReleasesNone steps = AllByRecursion (λ step. released_by step ≡ None) steps

-- the switch that a step loses, where it loses one
abbrev pub lost_by : WorldStep → Option ℕ
lost_by (Acted act) = lost_in act
lost_by (SendLost d) = Some d
lost_by (RecvLost d) = Some d
lost_by other = None

abbrev pub LosesNone : List WorldStep → Type 0
LosesNone steps = AllByRecursion (λ step. lost_by step ≡ None) steps

-- How the switches move: the history goes on by steps that release these packets, and each switch moves by those that are sent to it, and by
-- nothing else, or it is lost.
pub record MovesOrLoses {Own : Type 0} (packets : List Held) (old new : Seen Own) : Type 0 where
  pub steps : List WorldStep
  pub history : new.history ≡ old.history ++ steps
  pub released_is : released (journal steps) ≡ packets
  pub moved : (e : ℕ) → (switch_of e (state new) ≡ option_map (after_packets e packets) (switch_of e (state old))) ⊎ WasLost e old new

-- The switches stand then, as they are shown, as the reference controller's do that releases the same packets and loses these of
-- their switches; its events joined the queue, and the history released its packets. All is ready again, and nothing else is known of them.
pub record ReleaseShown {Own : Type 0} (held : HeldBack) (sent : List Held) (old new : Seen Own) (net now_net : NetState) (queue now_queue : List Event) : Type 0 where
  pub losing : List PacketLoss
  pub release_is : Release
  pub is : release_is ≡ release losing (shown_places old.given.declared (shown_by net) (state old)) held
  pub places : shown_places old.given.declared (shown_by now_net) (state new) ≡ release_is.places
  pub events : now_queue ≡ queue ++ release_is.events
  pub packets : release_is.packets ≡ sent
  pub none_more : release_is.losing ≡ []
  pub leaves : LeavesBy old new net now_net release_is.left
  pub released_is : released_of new ≡ released_of old ++ release_is.packets
  pub ready : Ready new now_net
  pub sound : Sound (state new)
  pub net_is : now_net ≡ record (lose_all (leavers release_is.left) net) { xid = now_net.xid }

-- How a release may stop in a world that keeps its word: memory ran out, or a packet made its switch send more messages than a wait takes.
abbrev pub StopsFor : {Own : Type 0} → Seen Own → Seen Own → TxnFault → Type 0
StopsFor old new fault = IsPlain fault ⊎ ((d : ℕ) × ((fault ≡ Flooded d flood) × FloodedByPacket d old new))
