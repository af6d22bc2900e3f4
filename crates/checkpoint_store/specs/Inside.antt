-- How a place holds what contracts see of it.
use Rattle.std.specs.Prelude.{◌≤◌, take, drop, length, unwrap_or}
use Rattle.checkpoint_store.specs.Past.{IsWithinLimits}
use Rattle.checkpoint_store.specs.Slots.{Slot}
use Rattle.checkpoint_store.specs.declared.slot.Slot.TheInside.{Inside}

-- what contracts see
abbrev pub slot_view : Inside → Slot
slot_view s = record {
  kept = record { checkpoint = s.checkpoint; turns = take s.remembered s.turns.items };
  pending = record { checkpoint = unwrap_or s.staged s.checkpoint; turns = drop s.forgotten s.turns.items };
}

-- the counts fit the turns, and both are within the limits
pub record IsSound (s : Inside) : Type 0 where
  pub forgotten : s.forgotten ≤ s.remembered
  pub remembered : s.remembered ≤ length s.turns.items
  pub kept : IsWithinLimits (slot_view s).kept
  pub pending : IsWithinLimits (slot_view s).pending
