use Rattle.std.proofs.Common.{◌≡◌, ◌≤◌, ◌-◌, List, length}
use Rattle.of_action.specs.declared.action.Action.{Action}
use Rattle.of_action.specs.Reading.{actions_of}
use Rattle.of_action.proofs.Loop.{with_front, read_from}
use Rattle.of_action.proofs.reading.check_list.Given as goal

abbrev pub invariant-loop-place : goal.invariant-loop-place
invariant-loop-place l = (l.place ≤ length l.bytes) × ((front : List Action) × (with_front front (read_from l.place l.bytes) ≡ actions_of l.bytes))

abbrev pub decreases-loop-place : goal.decreases-loop-place
decreases-loop-place l = length l.bytes - l.place
