-- Why a batch ended: what was told, and what was kept, has its cause in the run.
use Rattle.std.specs.Prelude.{◌≡◌, ℕ, List, [], ◌∷◌, take, slice_get, Some, Ok, IsOk}
use Rattle.std.proofs.Common.{sym, subst}
use Rattle.std.proofs.lemmas.Option.{same_Some}
use Rattle.of_wire.specs.Reading.{reading_of}
use Rattle.outside.specs.declared.item.Item.{Item}
use Rattle.outside.specs.declared.item.Item.TheVariants as items
use Rattle.outside.specs.declared.step.WorldStep.{WorldStep}
use Rattle.outside.specs.Seen.{Seen, Continues}
use Rattle.outside.specs.laws.SeenLaws.{Nexts-continues}
use Rattle.outside.specs.Calls.{Nexts, item_step, next_steps, stim_steps}
use Rattle.net_txn.specs.laws.FloodLaws.{both_ways}
use Rattle.event_dispatch.specs.declared.fault.Fault.{Fault}
use Rattle.event_dispatch.specs.declared.fault.Fault.TheVariants as faults
use Rattle.event_dispatch.specs.Runs.{AreRead}
use Rattle.event_dispatch.specs.laws.BatchLaws.{from_step}
use Rattle.event_dispatch.specs.Why.{IsReason, WhyItem, WhyMessage, served_by}
use Rattle.event_dispatch.specs.laws.WhyLaws.{why_then}

-- ---- Want of memory

pub message_memory : {Own Tells : Type 0} (d : ℕ) (frame : List ℕ) (old new : Seen Own) → WhyMessage Tells d frame old new faults.NoMemory
message_memory d frame old new = record { why = λ before first told. tt }

pub item_memory : {Own Tells : Type 0} (step : WorldStep) (old new : Seen Own) → WhyItem Tells step old new faults.NoMemory
item_memory step old new = record { why = λ before first told. tt }

-- ---- What was told

pub from_why : {Own Tells : Type 0} (item : Item) (d n : ℕ) (buf : List ℕ) (old new : Seen Own) (fault : Fault) → item ≡ items.From d n → WhyMessage Tells d (take n buf) old new fault → WhyItem Tells (item_step item buf) old new fault
from_why {Tells = Tells} item d n buf old new fault is message =
    subst (λ (step : WorldStep). WhyItem Tells step old new fault) (from_step item d n buf is) (record { why = λ before first told. message.why before first (λ broken. told) })

pub joined_why : {Own Tells : Type 0} (step : WorldStep) (old new : Seen Own) (fault : Fault) → IsReason Tells old new 0 0 fault → WhyItem Tells step old new fault
joined_why step old new fault join = record { why = λ before first told. why_then before old new (served_by fault) first join }

pub next_why : {Own Tells : Type 0} (item : Item) (buf : List ℕ) (old mid new : Seen Own) (fault : Fault) → Nexts Tells old mid (Ok item) buf → WhyItem Tells (item_step item buf) mid new fault → IsReason Tells old new 0 0 fault
unfolding next_steps
next_why item buf old mid new fault nexts at = at.why old (Nexts-continues nexts) (λ tells. record { before = stim_steps (nexts.told tells).begun; behind = []; told = (nexts.told tells).history })

-- ---- What was kept

pub first_read : (kept : List (ℕ × List ℕ)) (m : ℕ × List ℕ) → AreRead kept → slice_get kept 0 ≡ Some m → IsOk (reading_of m.1)
first_read [] m read is = absurd cc
first_read (x ∷ xs) m read is = subst (λ (y : ℕ × List ℕ). IsOk (reading_of y.1)) (same_Some x m is) read.0.0

pub kept_why : {Own Tells : Type 0} (kept : List (ℕ × List ℕ)) (d : ℕ) (bytes frame : List ℕ) (before old new : Seen Own) (fault : Fault) → AreRead kept → slice_get kept 0 ≡ Some (d, bytes) → frame ≡ bytes → Continues Tells before old → WhyMessage Tells d frame old new fault
    → IsReason Tells before new 0 0 fault
kept_why kept d bytes frame before old new fault read is same first message =
    let ok = subst (λ (b : List ℕ). IsOk (reading_of b)) (sym same) (first_read kept (d, bytes) read is) in
    message.why before first (λ broken. absurd (both_ways (reading_of frame) ok broken))
