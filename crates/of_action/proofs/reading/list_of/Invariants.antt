use Rattle.std.proofs.Common.{◌≡◌, ◌≤◌, ◌-◌, length}
use Rattle.of_action.specs.Reading.{actions_of}
use Rattle.of_action.proofs.Loop.{with_front, read_from}
use Rattle.of_action.proofs.reading.list_of.Given as goal

abbrev pub invariant-loop-place : goal.invariant-loop-place
invariant-loop-place l = (l.place ≤ length l.bytes) × (with_front l.actions.items (read_from l.place l.bytes) ≡ actions_of l.bytes)

abbrev pub decreases-loop-place : goal.decreases-loop-place
decreases-loop-place l = length l.bytes - l.place
