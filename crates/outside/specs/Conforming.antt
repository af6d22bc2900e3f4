-- A world that keeps its word: each step of its history is one that a world of OpenFlow 1.0.0 switches may make in the state
-- before it. What a stimulus may be, and the order of the items, are our own choice.
use Rattle.std.specs.Prelude.{◌≡◌, ℕ, ◌+◌, ◌<◌, ◌≤◌, ◌^◌, Bool, true, false, not, ◌&&◌, ◌||◌, List, [], ◌∷◌, length, Some, Result, Ok, Err, IsTrue, IsOk, slice_get}
use Rattle.std.specs.List.{AllByRecursion}
use Rattle.of_types.specs.declared.journal.Act.{Act}
use Rattle.of_types.specs.declared.journal.Act.TheVariants.{Stim, Started, Gave, Gone, Took, Ended, Sent, Got, Lost}
use Rattle.of_types.specs.declared.journal.Stimulus.{Stimulus}
use Rattle.of_types.specs.declared.journal.Stimulus.TheVariants.{Frame, Advance, Port, Counts, Raw}
use Rattle.of_types.specs.declared.journal.WorldStim.{WorldStim}
use Rattle.of_types.specs.declared.journal.WorldStim.TheVariants.{Join, Leave, At, Of}
use Rattle.of_wire.specs.declared.kind.MessageKind.{MessageKind}
use Rattle.of_wire.specs.declared.kind.MessageKind.TheVariants as wire
use Rattle.of_wire.specs.declared.message.Envelope.{Envelope}
use Rattle.of_wire.specs.declared.fault.WireFault.{WireFault}
use Rattle.of_wire.specs.Reading.{reading_of}
use Rattle.of_wire.specs.Spelling.{kind_of}
use Rattle.flow_table.specs.Switch.{Declared}
use Rattle.outside.specs.declared.step.WorldStep.{WorldStep}
use Rattle.outside.specs.declared.step.WorldStep.TheVariants.{Acted, TookInto, From, Joined, Left, Moment, Idle, End, Opened, NotOpened, NextFailed, SendLost, RecvLost, SendFailed, RecvFailed}
use Rattle.outside.specs.Seen.{Seen, is_declared}
use Rattle.outside.specs.State.{State, at_first, after_stim, after_step, waits_of, is_joined, has_waiting, link_fails, upcoming}
use Rattle.outside.specs.Calls.{IsIdle, IsOver}

-- ---- What may be declared

-- Switches stand by number, strictly ascending from one on, and no table takes more than 4,096 entries.
abbrev pub AreDeclaredFrom : ℕ → List Declared → Type 0
AreDeclaredFrom least [] = Unit {0}
AreDeclaredFrom least (x ∷ xs) = (least ≤ x.dpid) × (x.cap ≤ 4096) × AreDeclaredFrom (x.dpid + 1) xs

-- Ports are numbered from 1 to 65,280, strictly ascending.
abbrev pub ArePortsFrom : ℕ → List ℕ → Type 0
ArePortsFrom least [] = Unit {0}
ArePortsFrom least (p ∷ ps) = (least ≤ p) × (p ≤ 65280) × ArePortsFrom (p + 1) ps

-- A switch has a number of 64 bits, and at most 64 ports.
pub record MayDeclare (d : Declared) : Type 0 where
  pub number : d.dpid < 2 ^ 64
  pub ports : ArePortsFrom 1 d.ports
  pub few : length d.ports ≤ 64

-- ---- What may be a stimulus

-- A switch sends of its own: bytes that are no message, or a HELLO, ERROR, ECHO_REQUEST, VENDOR or PACKET_IN.
abbrev pub is_unasked : MessageKind → Bool
is_unasked wire.Hello = true
is_unasked wire.Error = true
is_unasked wire.EchoRequest = true
is_unasked wire.Vendor = true
is_unasked wire.PacketIn = true
is_unasked other = false

abbrev pub may_be_raw : Result Envelope WireFault → Bool
may_be_raw (Ok e) = is_unasked (kind_of e.message)
may_be_raw (Err fault) = true

-- A frame has 14 to 9,216 bytes, a port number is 1 to 65,280, and raw bytes are at most 65,535.
unfoldable pub IsStimulus : Stimulus → Type 0
IsStimulus (Frame port bytes) = (port < 2 ^ 16) × (14 ≤ length bytes) × (length bytes ≤ 9216)
IsStimulus (Advance t) = ⊥
IsStimulus (Port port change) = (1 ≤ port) × (port ≤ 65280)
IsStimulus (Counts priority packets bytes) = (priority < 2 ^ 16) × (packets < 2 ^ 64) × (bytes < 2 ^ 64)
IsStimulus (Raw bytes) = (1 ≤ length bytes) × (length bytes ≤ 65535) × IsTrue (may_be_raw (reading_of bytes))

-- It is of a declared switch, and the moment does not go back.
unfoldable pub IsWorldStim : List Declared → ℕ → WorldStim → Type 0
IsWorldStim declared moment (Join d) = IsTrue (is_declared d declared)
IsWorldStim declared moment (Leave d) = IsTrue (is_declared d declared)
IsWorldStim declared moment (At t) = (moment ≤ t) × (t ≤ 4294967295)
IsWorldStim declared moment (Of d x) = IsTrue (is_declared d declared) × IsStimulus x

-- ---- What may be a step

-- A stimulus is begun where none is, as the next of those to come, and gives fewer than 1,000,000 items.
pub record MayBegin (declared : List Declared) (x : WorldStim) (s : State) : Type 0 where
  pub stimulus : IsWorldStim declared s.moment x
  pub none_begun : s.begun ≡ false
  pub to_come : slice_get s.to_come 0 ≡ Some x
  pub few : length (upcoming (after_stim x s)) < length (upcoming s) + 1000000

-- an item is told as the next that is upcoming
abbrev pub IsNext : WorldStep → State → Type 0
IsNext step s = slice_get (upcoming s) 0 ≡ Some step

unfoldable pub MayAct : List Declared → Act → State → Type 0
MayAct declared (Stim x) s = MayBegin declared x s
MayAct declared (Started app ok) s = Unit {0}
MayAct declared (Gave app bytes) s = Unit {0}
MayAct declared (Gone app bytes) s = Unit {0}
MayAct declared (Took app what) s = Unit {0}
MayAct declared (Ended app) s = Unit {0}
MayAct declared (Sent d bytes) s = Unit {0}
MayAct declared (Got d bytes) s = (slice_get (waits_of d s) 0 ≡ Some bytes) × IsOk (reading_of bytes)
MayAct declared (Lost d) s = ⊥

-- A switch is lost where a call of its link is to fail, or where a message of it is to be taken and none waits. A call for a switch that is
-- not joined fails.
unfoldable pub MayStep : List Declared → WorldStep → State → Type 0
MayStep declared (Acted act) s = MayAct declared act s
MayStep declared (TookInto app what room) s = Unit {0}
MayStep declared (From d bytes) s = IsNext (From d bytes) s × IsOk (reading_of bytes)
MayStep declared (Joined d bytes) s = IsNext (Joined d bytes) s
MayStep declared (Left d) s = IsNext (Left d) s
MayStep declared (Moment t) s = IsNext (Moment t) s
MayStep declared Idle s = IsIdle s
MayStep declared End s = IsOver s
MayStep declared Opened s = Unit {0}
MayStep declared NotOpened s = Unit {0}
MayStep declared NextFailed s = Unit {0}
MayStep declared (SendLost d) s = IsTrue (is_joined d s && link_fails d s)
MayStep declared (RecvLost d) s = IsTrue (is_joined d s && (link_fails d s || not (has_waiting d s)))
MayStep declared (SendFailed d) s = is_joined d s ≡ false
MayStep declared (RecvFailed d) s = is_joined d s ≡ false

abbrev pub MaySteps : List Declared → List WorldStep → State → Type 0
MaySteps declared [] s = Unit {0}
MaySteps declared (step ∷ steps) s = MayStep declared step s × MaySteps declared steps (after_step step s)

-- ---- The world

pub record Conforming {Own : Type 0} (seen : Seen Own) : Type 0 where
  pub declared : AreDeclaredFrom 1 seen.given.declared
  pub switches : AllByRecursion MayDeclare seen.given.declared
  pub steps : MaySteps seen.given.declared seen.history (at_first seen.given)
