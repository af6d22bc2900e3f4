-- Which stop a status is that of.
use Rattle.std.proofs.Common.{◌≡◌, ◌⊎◌, ℕ, List, [], ◌∷◌, Option, Contains, refl, subst, arith, inl, inr}
use Rattle.legosdn.specs.declared.stop.InputRefusal.{InputRefusal}
use Rattle.legosdn.specs.declared.stop.Stop.{Stop}
use Rattle.legosdn.specs.declared.stop.Stop.TheVariants.{Usage, Refused, ReadFault, WriteFault, Shut, NextFault, SwitchBroke, Diverged, EventsLeft, NoMemory}
use Rattle.legosdn.specs.Stops.{stop_status}
use Rattle.legosdn.specs.Headline.{IsEarly, IsLate, IsReadCause}
use Rattle.legosdn.specs.Live.{IsOfNoSwitch}

pub is_usage : (stop : Stop) → stop_status stop ≡ 2 → stop ≡ Usage
is_usage Usage e = refl
is_usage (Refused refusal) e = absurd (omega arith)
is_usage ReadFault e = absurd (omega arith)
is_usage WriteFault e = absurd (omega arith)
is_usage Shut e = absurd (omega arith)
is_usage NextFault e = absurd (omega arith)
is_usage (SwitchBroke d) e = absurd (omega arith)
is_usage (Diverged d) e = absurd (omega arith)
is_usage (EventsLeft left) e = absurd (omega arith)
is_usage NoMemory e = absurd (omega arith)

pub is_read_fault : (stop : Stop) → stop_status stop ≡ 4 → stop ≡ ReadFault
is_read_fault Usage e = absurd (omega arith)
is_read_fault (Refused refusal) e = absurd (omega arith)
is_read_fault ReadFault e = refl
is_read_fault WriteFault e = absurd (omega arith)
is_read_fault Shut e = absurd (omega arith)
is_read_fault NextFault e = absurd (omega arith)
is_read_fault (SwitchBroke d) e = absurd (omega arith)
is_read_fault (Diverged d) e = absurd (omega arith)
is_read_fault (EventsLeft left) e = absurd (omega arith)
is_read_fault NoMemory e = absurd (omega arith)

pub is_write_fault : (stop : Stop) → stop_status stop ≡ 5 → stop ≡ WriteFault
is_write_fault Usage e = absurd (omega arith)
is_write_fault (Refused refusal) e = absurd (omega arith)
is_write_fault ReadFault e = absurd (omega arith)
is_write_fault WriteFault e = refl
is_write_fault Shut e = absurd (omega arith)
is_write_fault NextFault e = absurd (omega arith)
is_write_fault (SwitchBroke d) e = absurd (omega arith)
is_write_fault (Diverged d) e = absurd (omega arith)
is_write_fault (EventsLeft left) e = absurd (omega arith)
is_write_fault NoMemory e = absurd (omega arith)

pub is_refused : (stop : Stop) → stop_status stop ≡ 3 → (refusal : InputRefusal) × (stop ≡ Refused refusal)
is_refused Usage e = absurd (omega arith)
is_refused (Refused refusal) e = (refusal, refl)
is_refused ReadFault e = absurd (omega arith)
is_refused WriteFault e = absurd (omega arith)
is_refused Shut e = absurd (omega arith)
is_refused NextFault e = absurd (omega arith)
is_refused (SwitchBroke d) e = absurd (omega arith)
is_refused (Diverged d) e = absurd (omega arith)
is_refused (EventsLeft left) e = absurd (omega arith)
is_refused NoMemory e = absurd (omega arith)

pub is_late : (stop : Stop) → Contains (0 ∷ 5 ∷ 6 ∷ 8 ∷ 9 ∷ 10 ∷ []) (stop_status stop) → IsLate stop
is_late Usage e = absurd (grind arith)
is_late (Refused refusal) e = absurd (grind arith)
is_late ReadFault e = absurd (grind arith)
is_late WriteFault e = tt
is_late Shut e = tt
is_late NextFault e = tt
is_late (SwitchBroke d) e = tt
is_late (Diverged d) e = tt
is_late (EventsLeft left) e = tt
is_late NoMemory e = absurd (grind arith)

pub is_early : (stop : Stop) → Contains (2 ∷ 3 ∷ 4 ∷ []) (stop_status stop) → IsEarly stop
is_early Usage e = tt
is_early (Refused refusal) e = tt
is_early ReadFault e = tt
is_early WriteFault e = absurd (grind arith)
is_early Shut e = absurd (grind arith)
is_early NextFault e = absurd (grind arith)
is_early (SwitchBroke d) e = absurd (grind arith)
is_early (Diverged d) e = absurd (grind arith)
is_early (EventsLeft left) e = absurd (grind arith)
is_early NoMemory e = absurd (grind arith)

pub not_late : (stop : Stop) → (IsLate stop → ⊥) → Contains (2 ∷ 3 ∷ 4 ∷ 12 ∷ []) (stop_status stop)
not_late Usage e = (0, omega arith, refl)
not_late (Refused refusal) e = (1, omega arith, refl)
not_late ReadFault e = (2, omega arith, refl)
not_late WriteFault e = absurd (e tt)
not_late Shut e = absurd (e tt)
not_late NextFault e = absurd (e tt)
not_late (SwitchBroke d) e = absurd (e tt)
not_late (Diverged d) e = absurd (e tt)
not_late (EventsLeft left) e = absurd (e tt)
not_late NoMemory e = (3, omega arith, refl)

pub is_left : (stop : Stop) → stop_status stop ≡ 10 → (left : ℕ) × (stop ≡ EventsLeft left)
is_left Usage e = absurd (omega arith)
is_left (Refused refusal) e = absurd (omega arith)
is_left ReadFault e = absurd (omega arith)
is_left WriteFault e = absurd (omega arith)
is_left Shut e = absurd (omega arith)
is_left NextFault e = absurd (omega arith)
is_left (SwitchBroke d) e = absurd (omega arith)
is_left (Diverged d) e = absurd (omega arith)
is_left (EventsLeft left) e = (left, refl)
is_left NoMemory e = absurd (omega arith)

pub is_broken : (stop : Stop) → stop_status stop ≡ 8 → (d : ℕ) × (stop ≡ SwitchBroke d)
is_broken Usage e = absurd (omega arith)
is_broken (Refused refusal) e = absurd (omega arith)
is_broken ReadFault e = absurd (omega arith)
is_broken WriteFault e = absurd (omega arith)
is_broken Shut e = absurd (omega arith)
is_broken NextFault e = absurd (omega arith)
is_broken (SwitchBroke d) e = (d, refl)
is_broken (Diverged d) e = absurd (omega arith)
is_broken (EventsLeft left) e = absurd (omega arith)
is_broken NoMemory e = absurd (omega arith)

pub is_diverged : (stop : Stop) → stop_status stop ≡ 9 → (d : ℕ) × (stop ≡ Diverged d)
is_diverged Usage e = absurd (omega arith)
is_diverged (Refused refusal) e = absurd (omega arith)
is_diverged ReadFault e = absurd (omega arith)
is_diverged WriteFault e = absurd (omega arith)
is_diverged Shut e = absurd (omega arith)
is_diverged NextFault e = absurd (omega arith)
is_diverged (SwitchBroke d) e = absurd (omega arith)
is_diverged (Diverged d) e = (d, refl)
is_diverged (EventsLeft left) e = absurd (omega arith)
is_diverged NoMemory e = absurd (omega arith)

pub not_zero : (stop : Stop) → stop_status stop ≡ 0 → ⊥
not_zero Usage e = omega arith
not_zero (Refused refusal) e = omega arith
not_zero ReadFault e = omega arith
not_zero WriteFault e = omega arith
not_zero Shut e = omega arith
not_zero NextFault e = omega arith
not_zero (SwitchBroke d) e = omega arith
not_zero (Diverged d) e = omega arith
not_zero (EventsLeft left) e = omega arith
not_zero NoMemory e = omega arith

-- it is not that of a source or a sink that failed
pub not_read : (stop : Stop) → stop ≡ ReadFault → Contains (2 ∷ 12 ∷ []) (stop_status stop) → ⊥
not_read stop is within = four (subst (λ (s : Stop). Contains {X = ℕ} (2 ∷ 12 ∷ []) (stop_status s)) is within)
  where
    four : Contains {X = ℕ} (2 ∷ 12 ∷ []) 4 → ⊥
    four e = grind arith

pub not_written : (stop : Stop) → stop ≡ WriteFault → Contains (2 ∷ 12 ∷ []) (stop_status stop) → ⊥
not_written stop is within = five (subst (λ (s : Stop). Contains {X = ℕ} (2 ∷ 12 ∷ []) (stop_status s)) is within)
  where
    five : Contains {X = ℕ} (2 ∷ 12 ∷ []) 5 → ⊥
    five e = grind arith

-- ---- A stop that comes before anything runs, or for want of memory

-- it does not come once the world runs
late_memory : (stop : Stop) → stop ≡ NoMemory → IsLate stop → ⊥
late_memory stop is late = subst IsLate is late

early_or_late : (stop : Stop) → IsEarly stop → IsLate stop → ⊥
early_or_late Usage early late = late
early_or_late (Refused refusal) early late = late
early_or_late ReadFault early late = late
early_or_late WriteFault early late = early
early_or_late Shut early late = early
early_or_late NextFault early late = early
early_or_late (SwitchBroke d) early late = early
early_or_late (Diverged d) early late = early
early_or_late (EventsLeft left) early late = early
early_or_late NoMemory early late = early

pub not_before : (P : Type 0) (stop : Stop) → IsEarly stop ⊎ (stop ≡ NoMemory) → IsLate stop → P
not_before P stop (inl early) late = absurd (early_or_late stop early late)
not_before P stop (inr memory) late = absurd (late_memory stop memory late)

-- and not at such a status
early_status : (stop : Stop) → IsEarly stop → Contains (5 ∷ 6 ∷ 8 ∷ 9 ∷ 10 ∷ 12 ∷ []) (stop_status stop) → ⊥
early_status Usage early within = grind arith
early_status (Refused refusal) early within = grind arith
early_status ReadFault early within = grind arith
early_status WriteFault early within = early
early_status Shut early within = early
early_status NextFault early within = early
early_status (SwitchBroke d) early within = early
early_status (Diverged d) early within = early
early_status (EventsLeft left) early within = early
early_status NoMemory early within = early

pub is_memory : (stop : Stop) → IsEarly stop ⊎ (stop ≡ NoMemory) → Contains (5 ∷ 6 ∷ 8 ∷ 9 ∷ 10 ∷ 12 ∷ []) (stop_status stop) → stop ≡ NoMemory
is_memory stop (inl early) within = absurd (early_status stop early within)
is_memory stop (inr memory) within = memory

pub fault_or_left : (stop : Stop) → Contains (5 ∷ 6 ∷ 8 ∷ 9 ∷ 12 ∷ []) (stop_status stop) → Contains (5 ∷ 6 ∷ 8 ∷ 9 ∷ 10 ∷ 12 ∷ []) (stop_status stop)
fault_or_left Usage within = absurd (grind arith)
fault_or_left (Refused refusal) within = absurd (grind arith)
fault_or_left ReadFault within = absurd (grind arith)
fault_or_left WriteFault within = (0, omega arith, refl)
fault_or_left Shut within = (1, omega arith, refl)
fault_or_left NextFault within = (1, omega arith, refl)
fault_or_left (SwitchBroke d) within = (2, omega arith, refl)
fault_or_left (Diverged d) within = (3, omega arith, refl)
fault_or_left (EventsLeft left) within = (4, omega arith, refl)
fault_or_left NoMemory within = (5, omega arith, refl)

-- no stop of a switch has the status of one
pub not_of_switch : (stop : Stop) → IsOfNoSwitch stop → Contains (8 ∷ 9 ∷ []) (stop_status stop) → ⊥
not_of_switch Usage is e = absurd (grind arith)
not_of_switch (Refused refusal) is e = absurd (grind arith)
not_of_switch ReadFault is e = absurd (grind arith)
not_of_switch WriteFault is e = absurd (grind arith)
not_of_switch Shut is e = absurd (grind arith)
not_of_switch NextFault is e = absurd (grind arith)
not_of_switch (SwitchBroke d) is e = absurd is
not_of_switch (Diverged d) is e = absurd is
not_of_switch (EventsLeft left) is e = absurd (grind arith)
not_of_switch NoMemory is e = absurd (grind arith)

-- an input that is not read is no fault of a switch
pub read_of_no_switch : (IsRefused : InputRefusal → List ℕ → Type 0) (told : Option (List ℕ)) (old new : ℕ) (stop : Stop) → IsReadCause IsRefused told old new stop → IsOfNoSwitch stop
read_of_no_switch IsRefused told old new Usage why = tt
read_of_no_switch IsRefused told old new (Refused refusal) why = tt
read_of_no_switch IsRefused told old new ReadFault why = tt
read_of_no_switch IsRefused told old new WriteFault why = tt
read_of_no_switch IsRefused told old new Shut why = tt
read_of_no_switch IsRefused told old new NextFault why = tt
read_of_no_switch IsRefused told old new (SwitchBroke d) why = absurd why
read_of_no_switch IsRefused told old new (Diverged d) why = absurd why
read_of_no_switch IsRefused told old new (EventsLeft left) why = tt
read_of_no_switch IsRefused told old new NoMemory why = tt
