-- The timeouts of a flow entry. OpenFlow 1.0.0, 3.3 Flow Removal; that a tie counts as hard is our own choice.
use Rattle.std.specs.Prelude.{◌==◌, ℕ, ◌+◌, ◌-◌, nat_le, Option, Some, None, if◌then◌else◌}
use Rattle.flow_timeouts.specs.declared.timeouts.Reason.{Reason}
use Rattle.flow_timeouts.specs.declared.timeouts.Reason.TheVariants.{Idle, Hard}

-- A timeout of 0 does not count.
abbrev pub end_of : ℕ → ℕ → Option ℕ
end_of start timeout = if timeout == 0 then None else Some (start + timeout)

abbrev pub earlier_of : ℕ → ℕ → ℕ × Reason
earlier_of hard_end idle_end = if nat_le hard_end idle_end then (hard_end, Hard) else (idle_end, Idle)

-- the earlier of the two ends, of those that count
abbrev pub first_end : Option ℕ → Option ℕ → Option (ℕ × Reason)
first_end None None = None
first_end None (Some idle_end) = Some (idle_end, Idle)
first_end (Some hard_end) None = Some (hard_end, Hard)
first_end (Some hard_end) (Some idle_end) = Some (earlier_of hard_end idle_end)

unfoldable pub deadline_of : ℕ → ℕ → ℕ → ℕ → Option (ℕ × Reason)
deadline_of installed used idle hard = first_end (end_of installed hard) (end_of used idle)

abbrev pub remaining_of : ℕ → ℕ → ℕ
remaining_of hard age = if hard == 0 then 0 else hard - age
