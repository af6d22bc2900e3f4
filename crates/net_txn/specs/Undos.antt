-- How logged additions are undone: switch by switch, ascending, each key is removed again in key order (OpenFlow 1.0.0, 5.3.3 Modify
-- State Messages: DELETE_STRICT), with barriers behind (5.3.7 Barrier Message). A switch that fails is left alone from then on. The log
-- is put in order first, and then read from its end. What is done is a list of parts, the last one first. All of this is our own choice.
use Rattle.std.specs.Prelude.{◌≡◌, ◌≢◌, ◌==◌, ℕ, ◌+◌, ◌^◌, ◌<◌, ◌≤◌, Bool, true, false, List, [], ◌∷◌, ◌++◌, length, take, drop, map, reverse, ◌⊎◌, Option, Some, None, Result, Ok, Err, IsOk, IsErr, IfErr, OnOk, if◌then◌else◌, not, ◌&&◌, filter}
use Rattle.std.specs.List.{AllByRecursion, list_any}
use Rattle.std.specs.List.Sorted.{IsPermutation, IsSorted}
use Rattle.std.specs.Ordering.{nat_cmp, on, flip_args, then_cmp}
use Rattle.std.specs.declared.cmp.Ordering.{Ordering}
use Rattle.std.proofs.Common.{zero, suc}
use Rattle.lego_io.specs.Count.{Rose}
use Rattle.of_types.specs.declared.journal.Act.TheVariants.{Sent}
use Rattle.of_match.specs.declared.key.Key.{Key}
use Rattle.of_match.specs.Key.{key_cmp}
use Rattle.of_wire.specs.Reading.{reading_of}
use Rattle.flow_table.specs.View.{TableView}
use Rattle.flow_table.specs.Table.{TableState, IsTable}
use Rattle.flow_table.specs.Switch.{SwitchState}
use Rattle.flow_table.specs.Undone.{undone}
use Rattle.outside.specs.declared.step.WorldStep.{WorldStep}
use Rattle.outside.specs.declared.step.WorldStep.TheVariants.{Acted}
use Rattle.outside.specs.Seen.{Counts, Seen, Continues, journal}
use Rattle.outside.specs.State.{State, after_steps, state, switch_of, waits_of, is_joined}
use Rattle.outside.specs.Conforming.{Conforming}
use Rattle.outside.specs.InOrder.{BringMessages, InOrder, MessagesSince}
use Rattle.undo_laws.specs.Serials.{IsSerialed}
use Rattle.undo_laws.specs.Removal.{OnlyAdded}
use Rattle.lego_model.specs.declared.fault.TxnFault.{TxnFault}
use Rattle.lego_model.specs.declared.fault.TxnFault.TheVariants.{SwitchBroke, Diverged, Flooded, NoMemory}
use Rattle.net_txn.specs.declared.halt.Halt.{Halt}
use Rattle.net_txn.specs.declared.halt.Halt.TheVariants.{Lost, Fault}
use Rattle.lego_model.specs.Packets.{nothing_held}
use Rattle.lego_model.specs.declared.wait.Awaited.{Awaited}
use Rattle.lego_model.specs.declared.wait.Notices.TheVariants as notices
use Rattle.lego_model.specs.declared.wait.Heard.TheVariants.{Echo}
use Rattle.net_txn.specs.declared.logged.UndoProgress.{UndoProgress}
use Rattle.net_txn.specs.declared.logged.Logged.{Logged}
use Rattle.net_txn.specs.declared.trouble.Trouble.{Trouble}
use Rattle.net_txn.specs.declared.trouble.Trouble.TheVariants as troubles
use Rattle.lego_model.specs.OwnIds.{own_ids, AscendWithin}
use Rattle.net_txn.specs.Causes.{IsPlain}
pub use Rattle.net_txn.specs.Causes.{halt_by}
use Rattle.lego_model.specs.BarrierWaits.{flood, next_xid, heard, kept_of, wait_steps, barrier_sent, reply_got}
use Rattle.lego_model.specs.KeptMessages.{got_in}
use Rattle.net_txn.specs.LinkSteps.{OnLinks, MakesNoStrayCall}
use Rattle.lego_model.specs.UndoFaults.{inverse_bytes, AreBefore, EndsBy, Refuses, Overruns, IsStepOf, GoesWithoutStrays}
use Rattle.net_txn.specs.Views.{with_rows, is_viewed}
use Rattle.flow_table.specs.Sorted.{without_key}
use Rattle.net_txn.specs.Net.{NetState, no_progress}
use Rattle.lego_model.specs.AfterFault.{FailsInUndo}
use Rattle.net_txn.specs.MessageStore.{KeptWhereFit}
use Rattle.net_txn.specs.Agrees.{Agrees}
use Rattle.net_txn.specs.Losing.{lose_all}
use Rattle.of_types.specs.Membership.{is_among}
use Rattle.net_txn.specs.Ports.{PortLists, lost_ports, ports_lost}
use Rattle.lego_model.specs.History.{released_of, lost_of}
use Rattle.lego_model.specs.Journal.{released, losses}

-- ---- The order of an undo

-- switch by switch, ascending, and the keys of one switch as a flow table lists its entries
abbrev pub undo_cmp : ℕ × Key → ℕ × Key → Ordering
undo_cmp = then_cmp (on (λ (p : ℕ × Key). p.0) nat_cmp) (on (λ (p : ℕ × Key). p.1) key_cmp)

-- the keys of a log in the order in which they are undone, the last one first
pub record IsUndoOrder (logged keys : List (ℕ × Key)) : Type 0 where
  pub same : IsPermutation logged keys
  pub descends : IsSorted (flip_args undo_cmp) keys

-- ---- Steps of one switch

-- Calls of one switch went so: in a world that tells, its history goes on by these steps.
pub record Moves {Own : Type 0} (Tells : Type 0) (d : ℕ) (steps : List WorldStep) (old new : Seen Own) : Type 0 where
  pub continues : Continues Tells old new
  pub each : AllByRecursion (IsStepOf d) steps
  pub told : Tells → new.history ≡ old.history ++ steps

-- what is awaited behind a barrier alone
abbrev pub alone : ℕ → ℕ → Awaited
alone d xid = record { dpid = d; first = xid; barrier = xid; notices = notices.Dropped }

-- ---- Why a switch failed in an undo

-- Each fault is of its switch: the bytes that were got last are no message, or refuse an inverse; too many messages came before the reply to a
-- barrier. Memory was wanting only where the world's own was.
abbrev pub IsFaultOf : ℕ → List (ℕ × Key) → Counts → Counts → List WorldStep → TxnFault → Type 0
IsFaultOf d sent old new steps (SwitchBroke e bytes) = (e ≡ d) × IsErr (reading_of bytes) × EndsBy d bytes steps
IsFaultOf d sent old new steps (Diverged e inverse bytes) = (e ≡ d) × Refuses d sent steps inverse bytes
IsFaultOf d sent old new steps (Flooded e n) = (e ≡ d) × (n ≡ flood) × Overruns d steps
IsFaultOf d sent old new steps NoMemory = Rose old.shorts new.shorts × Rose (old.shorts_of d) (new.shorts_of d)

-- or it was lost: the count of its link rose, and all bytes that came were messages
abbrev pub IsHaltOf : ℕ → List (ℕ × Key) → Counts → Counts → List WorldStep → Halt → Type 0
IsHaltOf d sent old new steps Lost = Rose (old.link_faults d) (new.link_faults d) × BringMessages steps
IsHaltOf d sent old new steps (Fault fault) = IsFaultOf d sent old new steps fault

-- by these steps the switch goes out, with all that waits of it, and no other one does
pub record GoesOutBy (d : ℕ) (steps : List WorldStep) : Type 0 where
  pub lost : losses (journal steps) ≡ d ∷ []
  pub out : (t : State) → switch_of d (after_steps steps t) ≡ None
  pub waits : (t : State) → waits_of d (after_steps steps t) ≡ []

abbrev pub is_lost : Halt → Bool
is_lost Lost = true
is_lost (Fault fault) = false

-- a switch that fails stays in
abbrev pub LosesBy : ℕ → Halt → List WorldStep → Type 0
LosesBy d Lost steps = GoesOutBy d steps
LosesBy d (Fault fault) steps = losses (journal steps) ≡ []

-- No message of its own was sent to it, or one with this id; and where the switch was lost some step tells so.
pub record HasIdAtMost (xid : ℕ) (halt : Halt) (steps : List WorldStep) : Type 0 where
  pub ids : xid + 1 < 2 ^ 32 → AscendWithin xid (own_ids (journal steps)) (xid + 1)
  pub some : halt ≡ Lost → 1 ≤ length steps

-- the fault of a switch, where it is not lost
abbrev pub fault_by : Halt → Option TxnFault
fault_by Lost = None
fault_by (Fault fault) = Some fault

-- A message ended a wait and is not kept: it is what the fault names, or an ECHO_REQUEST that could not be answered.
abbrev pub IsUnkept : Awaited → Option TxnFault → List ℕ → Type 0
IsUnkept a (Some (SwitchBroke e bytes)) m = m ≡ bytes
IsUnkept a (Some (Diverged e inverse bytes)) m = m ≡ bytes
IsUnkept a (Some (Flooded e n)) m = ⊥
IsUnkept a (Some NoMemory) m = heard a m ≡ Echo
IsUnkept a None m = heard a m ≡ Echo

-- By these steps one such message came, or none.
abbrev pub EndsWait : Awaited → Option TxnFault → List WorldStep → Type 0
EndsWait a fault steps = (got_in steps ≡ []) ⊎ ((m : List ℕ) × (got_in steps ≡ (a.dpid, m) ∷ []) × IsUnkept a fault m)

-- What these steps leave kept, the last of which failed: of all messages that came those that are nothing to the wait, where they fit.
pub record KeepsUntil (a : Awaited) (fault : Option TxnFault) (steps : List WorldStep) (kept now_kept : List (ℕ × List ℕ)) : Type 0 where
  pub front : List WorldStep
  pub got : List (List ℕ)
  pub last : List WorldStep
  pub steps_is : steps ≡ front ++ (wait_steps a got ++ last)
  pub none_before : got_in front ≡ []
  pub ends : EndsWait a fault last
  pub kept_is : KeptWhereFit kept (kept_of a got) now_kept

-- Calls of one switch, the last of which failed, all in place, by which no packet is released; in a world that tells it is lost by them where
-- it was joined.
pub record Fails {Own : Type 0} (Tells : Type 0) (d xid : ℕ) (sent : List (ℕ × Key)) (old new : Seen Own) (kept now_kept : List (ℕ × List ℕ)) (halt : Halt) : Type 0 where
  pub steps : List WorldStep
  pub ids : HasIdAtMost xid halt steps
  pub moves : Moves Tells d steps old new
  pub cause : IsHaltOf d sent old.counts new.counts steps halt
  pub places : GoesWithoutStrays d steps
  pub quiet : released (journal steps) ≡ []
  pub loses : Tells → is_joined d (state old) ≡ true → LosesBy d halt steps
  pub keeps : KeepsUntil (alone d xid) (fault_by halt) steps kept now_kept

-- a barrier whose reply was got, at most 65,535 messages before it
pub record AwaitsReplies {Own : Type 0} (Tells : Type 0) (a : Awaited) (front : List WorldStep) (sent : List (ℕ × Key)) (old new : Seen Own) (kept now_kept : List (ℕ × List ℕ)) : Type 0 where
  pub got : List (List ℕ)
  pub kept_is : KeptWhereFit kept (kept_of a got) now_kept
  pub few : length got ≤ 65535
  pub before : AreBefore a sent got
  pub moves : Moves Tells a.dpid (front ++ (wait_steps a got ++ reply_got a ∷ [])) old new

-- a barrier, whose reply was got or not
pub record PassesBarrier {Own : Type 0} (Tells : Type 0) (d xid : ℕ) (sent : List (ℕ × Key)) (old new : Seen Own) (kept now_kept : List (ℕ × List ℕ)) (buf : List ℕ) (result : Result (Unit {0}) Trouble) : Type 0 where
  pub replied : OnOk result (AwaitsReplies Tells (alone d xid) (barrier_sent (alone d xid) ∷ []) sent old new kept now_kept)
  pub failed : IfErr result (λ t. Fails Tells d xid sent old new kept now_kept (halt_by d t buf))

-- ---- The parts of an undo, each with its switch, the last one first

pub data Part : Type 0 where
  -- the inverse for a key was sent, with this transaction id
  Inverse : ℕ → Key → Part
  -- a barrier was sent with this id, and behind these messages its reply was got
  BarrierPassed : ℕ → List (List ℕ) → Part
  -- a message with this id was to be sent, and the switch failed so or was lost, with these steps
  Stuck : ℕ → Halt → List WorldStep → Part

abbrev pub part_steps : ℕ → Part → List WorldStep
part_steps d (Inverse xid k) = Acted (Sent d (inverse_bytes xid k)) ∷ []
part_steps d (BarrierPassed xid got) = barrier_sent (alone d xid) ∷ (wait_steps (alone d xid) got ++ reply_got (alone d xid) ∷ [])
part_steps d (Stuck xid halt steps) = steps

abbrev pub steps_of : List (ℕ × Part) → List WorldStep
steps_of [] = []
steps_of (p ∷ older) = steps_of older ++ part_steps p.0 p.1

abbrev pub parts_of : ℕ → List (ℕ × Part) → List Part
parts_of d [] = []
parts_of d (p ∷ older) = if p.0 == d then p.1 ∷ parts_of d older else parts_of d older

-- each part takes the next transaction id
abbrev pub next_free : ℕ → List (ℕ × Part) → ℕ
next_free xid [] = xid
next_free xid (p ∷ older) = next_xid (next_free xid older)

abbrev pub xid_of : Part → ℕ
xid_of (Inverse xid k) = xid
xid_of (BarrierPassed xid got) = xid
xid_of (Stuck xid halt steps) = xid

abbrev pub AreNumbered : ℕ → List (ℕ × Part) → Type 0
AreNumbered xid [] = Unit {0}
AreNumbered xid (p ∷ older) = (xid_of p.1 ≡ next_free xid older) × AreNumbered xid older

-- What a part keeps: of the messages that came those that are nothing to a wait, where they fit.
abbrev pub KeepsOne : ℕ → Part → List (ℕ × List ℕ) → List (ℕ × List ℕ) → Type 0
KeepsOne d (Inverse xid k) kept now_kept = now_kept ≡ kept
KeepsOne d (BarrierPassed xid got) kept now_kept = KeptWhereFit kept (kept_of (alone d xid) got) now_kept
KeepsOne d (Stuck xid halt steps) kept now_kept = KeepsUntil (alone d xid) (fault_by halt) steps kept now_kept

abbrev pub Keeps : List (ℕ × List ℕ) → List (ℕ × Part) → List (ℕ × List ℕ) → Type 0
Keeps kept [] now_kept = now_kept ≡ kept
Keeps kept (p ∷ older) now_kept = (mid : List (ℕ × List ℕ)) × Keeps kept older mid × KeepsOne p.0 p.1 mid now_kept

-- the inverses that were sent, each with its switch
abbrev pub inverse_in : ℕ → Part → List (ℕ × Key)
inverse_in d (Inverse xid k) = (d, k) ∷ []
inverse_in d (BarrierPassed xid got) = []
inverse_in d (Stuck xid halt steps) = []

abbrev pub sent_in : List (ℕ × Part) → List (ℕ × Key)
sent_in [] = []
sent_in (p ∷ older) = inverse_in p.0 p.1 ++ sent_in older

-- items without some of them, in their order
abbrev pub IsThinned : {X : Type 0} → List X → List X → Type 0
IsThinned [] ys = Unit {0}
IsThinned (x ∷ xs) [] = ⊥
IsThinned (x ∷ xs) (y ∷ ys) = ((x ≡ y) × IsThinned xs ys) ⊎ IsThinned (x ∷ xs) ys

-- the first fault of all
abbrev pub fault_in : Part → Option TxnFault
fault_in (Stuck xid halt steps) = fault_by halt
fault_in other = None

abbrev pub first_fault_of : Option TxnFault → Option TxnFault → Option TxnFault
first_fault_of None later = later
first_fault_of (Some fault) later = Some fault

abbrev pub first_fault : List (ℕ × Part) → Option TxnFault
first_fault [] = None
first_fault (p ∷ older) = first_fault_of (first_fault older) (fault_in p.1)

-- the switches that were lost, in order
abbrev pub lost_in : ℕ → Part → List ℕ
lost_in d (Stuck xid Lost steps) = d ∷ []
lost_in d other = []

abbrev pub lost_parts : List (ℕ × Part) → List ℕ
lost_parts [] = []
lost_parts (p ∷ older) = lost_parts older ++ lost_in p.0 p.1

abbrev pub LosesIn : ℕ → Part → Type 0
LosesIn d (Stuck xid halt steps) = LosesBy d halt steps
LosesIn d other = Unit {0}

abbrev pub AreLostBy : List (ℕ × Part) → Type 0
AreLostBy [] = Unit {0}
AreLostBy (p ∷ older) = LosesIn p.0 p.1 × AreLostBy older

-- ---- The parts of one switch

abbrev pub is_stuck : List Part → Bool
is_stuck [] = false
is_stuck (Stuck xid halt steps ∷ older) = true
is_stuck (p ∷ older) = false

-- it was lost
abbrev pub is_out : List Part → Bool
is_out [] = false
is_out (Stuck xid Lost steps ∷ older) = true
is_out (p ∷ older) = false

-- how many inverses were sent since the last barrier
abbrev pub since_of : List Part → ℕ
since_of [] = 0
since_of (Inverse xid k ∷ older) = since_of older + 1
since_of (p ∷ older) = 0

abbrev pub inverses_of : List Part → List (ℕ × Key)
inverses_of [] = []
inverses_of (Inverse xid k ∷ older) = (xid, k) ∷ inverses_of older
inverses_of (p ∷ older) = inverses_of older

pub record IsBarrierPassed (d xid : ℕ) (sent : List (ℕ × Key)) (got : List (List ℕ)) : Type 0 where
  pub is_xid : xid < 2 ^ 32
  pub few : length got ≤ 65535
  pub before : AreBefore (alone d xid) sent got

-- its numbers fit their fields (5.1 OpenFlow Header and 5.3.3 Modify State Messages)
pub record CanBeSent (xid : ℕ) (k : Key) : Type 0 where
  pub is_xid : xid < 2 ^ 32
  pub priority : k.priority < 2 ^ 16

pub record IsStuckBy (d xid : ℕ) (sent : List (ℕ × Key)) (old new : Counts) (halt : Halt) (steps : List WorldStep) : Type 0 where
  pub ids : HasIdAtMost xid halt steps
  pub each : AllByRecursion (IsStepOf d) steps
  pub cause : IsHaltOf d sent old new steps halt
  pub places : GoesWithoutStrays d steps
  pub quiet : released (journal steps) ≡ []

-- At most 4,096 inverses stand behind a barrier, no inverse was refused before the reply to a barrier, and nothing comes behind a
-- fault, which has its cause in the calls between; these are in place.
abbrev pub IsRun : Counts → Counts → ℕ → List Part → Type 0
IsRun old new d [] = Unit {0}
IsRun old new d (Inverse xid k ∷ older) = CanBeSent xid k × (since_of older < 4096) × (is_stuck older ≡ false) × IsRun old new d older
IsRun old new d (BarrierPassed xid got ∷ older) = IsBarrierPassed d xid (inverses_of older) got × (is_stuck older ≡ false) × IsRun old new d older
IsRun old new d (Stuck xid halt steps ∷ older) = IsStuckBy d xid (inverses_of older) old new halt steps × (is_stuck older ≡ false) × IsRun old new d older

-- the joined switches, the last one first
abbrev pub switches_of : List TableView → List ℕ
switches_of views = reverse (map (λ v. v.dpid) views)

-- Behind the last inverse of all stand barriers alone, whose switches come in this order (as the parts, from the last one on): one for
-- each of them for which an inverse was sent and that did not fail.
pub record EndsByBarriers (switches : List ℕ) (parts : List (ℕ × Part)) : Type 0 where
  pub last : List (ℕ × Part)
  pub front : List (ℕ × Part)
  pub parts_is : parts ≡ last ++ front
  pub no_inverse : sent_in last ≡ []
  pub in_order : IsThinned (map (λ p. p.0) last) switches
  pub each : (d : ℕ) → list_any (λ c. c == d) switches ≡ true → is_stuck (parts_of d parts) ≡ false → (inverses_of (parts_of d parts) ≡ []) ⊎ (list_any (λ p. p.0 == d) last ≡ true)

-- ---- What the log keeps of its inverses that were reverted

abbrev pub progress_of : ℕ → List Logged → UndoProgress
progress_of d [] = no_progress
progress_of d (e ∷ es) = if e.dpid == d then e.progress else progress_of d es

abbrev pub inverses_in : ℕ → List Logged → List (ℕ × Key)
inverses_in d [] = []
inverses_in d (e ∷ es) = if e.dpid == d then (e.progress.xid, e.key) ∷ inverses_in d es else inverses_in d es

-- the keys that were logged for a switch
abbrev pub keys_in : ℕ → List Logged → List Key
keys_in d [] = []
keys_in d (e ∷ es) = if e.dpid == d then e.key ∷ keys_in d es else keys_in d es

-- where the newest of them stands
abbrev pub IsProgressAt : ℕ → List Logged → ℕ → Type 0
IsProgressAt d [] i = ⊥
IsProgressAt d (e ∷ es) zero = e.dpid ≡ d
IsProgressAt d (e ∷ es) (suc i) = ((e.dpid == d) ≡ false) × IsProgressAt d es i

-- an entry but for its progress
abbrev pub with_progress : UndoProgress → Logged → Logged
with_progress progress e = record e { progress = progress }

abbrev pub key_logged : Logged → ℕ × Key
key_logged e = (e.dpid, e.key)

-- how what was done with a switch stands to what the log keeps of it; `known` tells whether it is joined
pub record Stands (known : Bool) (d : ℕ) (old new : Counts) (parts : List Part) (reverted : List Logged) : Type 0 where
  pub unknown : known ≡ false → parts ≡ []
  pub run : IsRun old new d parts
  pub stuck : known ≡ true → (progress_of d reverted).failed ≡ is_stuck parts
  pub out : (progress_of d reverted).lost ≡ is_out parts
  pub since : known ≡ true → is_stuck parts ≡ false → (progress_of d reverted).since ≡ since_of parts
  pub inverses : known ≡ true → is_stuck parts ≡ false → inverses_in d reverted ≡ inverses_of parts

-- each switch that has a view is joined
abbrev pub AreJoined : List TableView → State → Type 0
AreJoined views s = (d : ℕ) → is_viewed d views ≡ true → is_joined d s ≡ true

-- An undo so far: the inverses of these entries were reverted, and then barriers sent to these switches, the last one first.
pub record Undoing {Own : Type 0} (Tells : Type 0) (views : List TableView) (old new : Seen Own) (kept now_kept : List (ℕ × List ℕ)) (xid now_xid : ℕ) (switches : List ℕ) (reverted : List Logged) (parts : List (ℕ × Part)) : Type 0 where
  pub continues : Continues Tells old new
  pub told : Tells → new.history ≡ old.history ++ steps_of parts
  pub next : now_xid ≡ next_free xid parts
  pub numbered : AreNumbered xid parts
  pub stands : (d : ℕ) → Stands (is_viewed d views) d old.counts new.counts (parts_of d parts) reverted
  pub loses : Tells → AreJoined views (state old) → AreLostBy parts
  pub keeps : Keeps kept parts now_kept
  pub order : IsThinned (sent_in parts) (map key_logged reverted)
  pub ends : EndsByBarriers switches parts

-- no inverse of the switch stands behind its last barrier, unless it has failed
abbrev pub HasPassedBarrier : ℕ → List Logged → Type 0
HasPassedBarrier d reverted = (progress_of d reverted).failed ≡ false → (progress_of d reverted).since ≡ 0

-- of the room for the bytes of faults none was taken without a fault, and that of one at most
abbrev pub IsRoomLeft : Option TxnFault → Option TxnFault → ℕ → ℕ → Type 0
IsRoomLeft fault now_fault room now_room = (now_fault ≡ None → (fault ≡ None) × (now_room ≡ room)) × (room ≤ now_room + 1) × ((fault ≡ None → ⊥) → now_room ≡ room)

-- An undo so far, with its first fault, the known ports of the switches that were lost in order, and fewer than 4,096 inverses behind the last
-- barrier of each switch.
pub record Further {Own : Type 0} (Tells : Type 0) (views : List TableView) (old new : Seen Own) (kept now_kept : List (ℕ × List ℕ)) (ports now_ports : PortLists) (xid now_xid : ℕ) (switches : List ℕ) (reverted : List Logged) (fault : Option TxnFault) : Type 0 where
  pub parts : List (ℕ × Part)
  pub undoing : Undoing Tells views old new kept now_kept xid now_xid switches reverted parts
  pub few : (d : ℕ) → since_of (parts_of d parts) < 4096
  pub fault_is : fault ≡ first_fault parts
  pub ports_is : now_ports ≡ ports_lost (lost_parts parts) ports

abbrev pub fault_of : ℕ → Result (Unit {0}) Trouble → List ℕ → Option TxnFault
fault_of d (Ok x) buf = None
fault_of d (Err trouble) buf = fault_by (halt_by d trouble buf)

-- the known ports, where it may be
abbrev pub ports_by : ℕ → Halt → PortLists → PortLists
ports_by d Lost ports = lost_ports d ports
ports_by d (Fault fault) ports = ports

abbrev pub ports_of : ℕ → Result (Unit {0}) Trouble → List ℕ → PortLists → PortLists
ports_of d (Ok x) buf ports = ports
ports_of d (Err trouble) buf ports = ports_by d (halt_by d trouble buf) ports

-- whether it is lost
abbrev pub is_of_link : Trouble → Bool
is_of_link troubles.Link = true
is_of_link troubles.Parted = true
is_of_link other = false

abbrev pub loses_by : Result (Unit {0}) Trouble → Bool
loses_by (Ok x) = false
loses_by (Err trouble) = is_of_link trouble

-- the same, where so many may stand behind the last barrier of one switch, which has not failed
pub record Pending {Own : Type 0} (Tells : Type 0) (views : List TableView) (old new : Seen Own) (kept now_kept : List (ℕ × List ℕ)) (ports now_ports : PortLists) (xid now_xid : ℕ) (switches : List ℕ) (reverted : List Logged) (fault : Option TxnFault) (d : ℕ) : Type 0 where
  pub parts : List (ℕ × Part)
  pub undoing : Undoing Tells views old new kept now_kept xid now_xid switches reverted parts
  pub few : (c : ℕ) → c ≢ d → since_of (parts_of c parts) < 4096
  pub free : is_stuck (parts_of d parts) ≡ false
  pub fault_is : fault ≡ first_fault parts
  pub ports_is : now_ports ≡ ports_lost (lost_parts parts) ports

-- the switch was lost
abbrev pub was_lost : List Logged → ℕ → Bool
was_lost reverted d = (progress_of d reverted).lost

-- ---- The whole

-- the views without logged keys
abbrev pub without_keys : List (ℕ × Key) → List TableView → List TableView
without_keys [] views = views
without_keys (p ∷ ps) views = without_keys ps (with_rows p.0 (without_key p.1) views)

-- the keys of one switch
abbrev pub keys_of : ℕ → List (ℕ × Key) → List Key
keys_of d [] = []
keys_of d (p ∷ ps) = if p.0 == d then p.1 ∷ keys_of d ps else keys_of d ps

abbrev pub ended_by : Option TxnFault → Result (Unit {0}) TxnFault
ended_by None = Ok tt
ended_by (Some fault) = Err fault

-- the views and the messages that are kept, without those of the switches of some entries that were lost
abbrev pub views_left : List Logged → List Logged → List TableView → List TableView
views_left reverted [] views = views
views_left reverted (e ∷ es) views = views_left reverted es (if was_lost reverted e.dpid then filter (λ v. not (v.dpid == e.dpid)) views else views)

abbrev pub kept_left : List Logged → List Logged → List (ℕ × List ℕ) → List (ℕ × List ℕ)
kept_left reverted [] kept = kept
kept_left reverted (e ∷ es) kept = kept_left reverted es (if was_lost reverted e.dpid then filter (λ m. not (m.0 == e.dpid)) kept else kept)

-- What was logged is undone: the keys leave the views, and the switches that were lost leave the views and what is kept.
pub record UndoesLog {Own : Type 0} (Tells : Type 0) (views now_views : List TableView) (old new : Seen Own) (kept now_kept : List (ℕ × List ℕ)) (ports now_ports : PortLists) (xid now_xid : ℕ) (keys : List (ℕ × Key)) (result : Result (Unit {0}) TxnFault) : Type 0 where
  pub fault : Option TxnFault
  pub reverted : List Logged
  pub all_kept : List (ℕ × List ℕ)
  pub result_is : result ≡ ended_by fault
  pub further : Further Tells views old new kept all_kept ports now_ports xid now_xid (switches_of views) reverted fault
  pub barred : (d : ℕ) → is_viewed d views ≡ true → HasPassedBarrier d reverted
  pub same : map key_logged reverted ≡ keys
  pub views_is : now_views ≡ filter (λ v. not (was_lost reverted v.dpid)) (without_keys keys views)
  pub kept_is : now_kept ≡ filter (λ m. not (was_lost reverted m.0)) all_kept

-- the switch is joined and did not fail
abbrev pub is_served : List TableView → List (ℕ × Part) → ℕ → Bool
is_served views parts d = is_viewed d views && not (is_stuck (parts_of d parts))

-- Nothing is done with a switch that is not joined. With one that is and does not fail: the inverses of exactly its keys are sent,
-- the last one first here, and a barrier behind them.
pub record IsRevertedOn (known : Bool) (d : ℕ) (old new : Counts) (keys : List Key) (parts : List Part) : Type 0 where
  pub unknown : known ≡ false → parts ≡ []
  pub run : IsRun old new d parts
  pub keys_is : known ≡ true → is_stuck parts ≡ false → map (λ p. p.1) (inverses_of parts) ≡ keys
  pub barred : known ≡ true → is_stuck parts ≡ false → since_of parts ≡ 0

-- ---- What it leaves of each switch

-- the switch stands as it stood, and the same messages of it wait
abbrev pub SameSwitch : ℕ → State → State → Type 0
SameSwitch d old new = (switch_of d new ≡ switch_of d old) × (waits_of d new ≡ waits_of d old)

-- the switch has the earlier table again, all else of it stands as it stood, and nothing of it waits
pub record Restored (d : ℕ) (before : TableState) (s : SwitchState) (new : State) : Type 0 where
  pub switch : switch_of d new ≡ Some (record s { table = undone before s.table s.moment })
  pub waits : waits_of d new ≡ []

-- the same of its table alone, whatever waits of it
abbrev pub IsTableBack : ℕ → TableState → SwitchState → State → Type 0
IsTableBack d before s new = switch_of d new ≡ Some (record s { table = undone before s.table s.moment })

-- the switch is joined, and nothing of it waits
pub record StandsReady (d : ℕ) (s : State) : Type 0 where
  pub switch : SwitchState
  pub stands : switch_of d s ≡ Some switch
  pub waits : waits_of d s ≡ []

-- its view shows its table, and nothing of it waits
pub record AgreesAgain (d : ℕ) (views : List TableView) (new : State) : Type 0 where
  pub agrees : Agrees d views new
  pub waits : waits_of d new ≡ []

-- what the host keeps where what was logged from a place on is undone and forgotten: the views lose its keys, and nothing is held any more
abbrev pub undone_net : ℕ → NetState → NetState
undone_net start net = record net { views = without_keys (map key_logged (drop start net.log)) net.views; log = take start net.log; held = nothing_held }

-- the switch was lost
abbrev pub is_lost_in : ℕ → List (ℕ × Part) → Bool
is_lost_in d parts = is_among d (lost_parts parts)

-- What was logged from a place on is undone and forgotten, the views lose its keys, and nothing is held any more; a switch whose link fails is
-- lost. Its keys are undone switch by switch, ascending, and those of one switch in key order: in this order stand the inverses that were sent,
-- those of each joined switch that did not fail and was not lost all of them. It goes on past a fault or a loss with the other switches, and the first fault is answered; after Ok none
-- failed, and all bytes that came were messages. In a world that tells, no switch moves that is not joined; those that were lost are out, the
-- history has their losses in order, and no packet is released. Where it keeps its word, each joined switch that did not fail and was not lost, of which nothing waited,
-- and whose table had but the logged keys added since an earlier one, has that table again; and where its view agreed with its table, it does so
-- again. The same is so of its table and its view whether or not the world keeps its word, and whatever waits; a switch that failed has its cause
-- in these calls. Where the world keeps its word no inverse is refused; and where nothing waited of any joined switch, no message more was kept
-- after Ok, and a fault is one of memory. Where the world tells in order and each switch that has a view is joined, each call is in place, also one
-- that fails.
pub record Undoes {Own : Type 0} (Tells : Type 0) (start : ℕ) (old new : Seen Own) (net now_net : NetState) (result : Result (Unit {0}) TxnFault) : Type 0 where
  pub parts : List (ℕ × Part)
  pub continues : Continues Tells old new
  pub links : OnLinks Tells old new
  pub no_strays : Tells → InOrder new → AreJoined net.views (state old) → MakesNoStrayCall old new
  pub told : Tells → new.history ≡ old.history ++ steps_of parts
  pub numbered : AreNumbered net.xid parts
  -- what was logged, in the order in which it is undone, the last one first
  pub keys : List (ℕ × Key)
  pub ordered : IsUndoOrder (map key_logged (drop start net.log)) keys
  pub each : (d : ℕ) → IsRevertedOn (is_viewed d net.views) d old.counts new.counts (keys_of d keys) (parts_of d parts)
  pub order : IsThinned (sent_in parts) keys
  pub whole_order : filter (λ p. is_served net.views parts p.0) (sent_in parts) ≡ filter (λ p. is_served net.views parts p.0) keys
  pub last : EndsByBarriers (switches_of net.views) parts
  pub result_is : result ≡ ended_by (first_fault parts)
  pub read : IsOk result → Tells → MessagesSince old new
  pub none_failed : IsOk result → (d : ℕ) → is_stuck (parts_of d parts) ≡ is_lost_in d parts
  -- what was kept before the switches that were lost went
  pub kept : List (ℕ × List ℕ)
  pub keeps : Keeps net.kept parts kept
  pub net_is : now_net ≡ lose_all (lost_parts parts) (record (undone_net start net) { xid = next_free net.xid parts; kept = kept; room = now_net.room })
  pub room : (net.room ≤ now_net.room + 1) × (IsOk result → now_net.room ≡ net.room)
  pub others : (d : ℕ) → Tells → is_viewed d net.views ≡ false → SameSwitch d (state old) (state new)
  pub lost_out : (d : ℕ) → Tells → AreJoined net.views (state old) → is_lost_in d parts ≡ true → (switch_of d (state new) ≡ None) × (waits_of d (state new) ≡ [])
  pub losses : Tells → AreJoined net.views (state old) → lost_of new ≡ lost_of old ++ lost_parts parts
  pub none_released : Tells → released_of new ≡ released_of old
  pub accepted : (d : ℕ) (s : SwitchState) (inverse bytes : List ℕ) → Tells → Conforming new → switch_of d (state old) ≡ Some s → waits_of d (state old) ≡ [] → result ≡ Err (Diverged d inverse bytes) → ⊥
  pub restored : (d : ℕ) (s : SwitchState) (before : TableState) → Tells → Conforming new → is_viewed d net.views ≡ true → is_stuck (parts_of d parts) ≡ false
      → switch_of d (state old) ≡ Some s → waits_of d (state old) ≡ [] → IsTable before.entries → IsSerialed s.table
      → OnlyAdded (keys_of d (map key_logged (drop start net.log))) before.entries s.table.entries → Restored d before s (state new)
  pub tables_restored : (d : ℕ) (s : SwitchState) (before : TableState) → Tells → is_viewed d net.views ≡ true → is_stuck (parts_of d parts) ≡ false
      → switch_of d (state old) ≡ Some s → IsTable before.entries → IsSerialed s.table
      → OnlyAdded (keys_of d (map key_logged (drop start net.log))) before.entries s.table.entries → IsTableBack d before s (state new)
  pub none_kept : Tells → Conforming new → IsOk result → ((d : ℕ) → is_viewed d net.views ≡ true → StandsReady d (state old)) → now_net.kept ≡ filter (λ m. not (is_lost_in m.0 parts)) net.kept
  pub plain : Tells → Conforming new → ((d : ℕ) → is_viewed d net.views ≡ true → StandsReady d (state old)) → IfErr result IsPlain
  pub agrees : (d : ℕ) → Tells → Conforming new → is_stuck (parts_of d parts) ≡ false → waits_of d (state old) ≡ [] → Agrees d net.views (state old) → AgreesAgain d now_net.views (state new)
  pub tables_agree : (d : ℕ) → Tells → is_stuck (parts_of d parts) ≡ false → Agrees d net.views (state old) → Agrees d now_net.views (state new)
  pub failed_by : (d : ℕ) → is_stuck (parts_of d parts) ≡ true → is_lost_in d parts ≡ false → FailsInUndo Tells d old new
