use Rattle.std.proofs.Common.{◌≡◌, ◌^◌, ◌-◌, min, take}
use Rattle.of_action.specs.Spelling.{list_size}
use Rattle.of_action.proofs.writing.size.Given as goal

abbrev pub invariant-loop-action : goal.invariant-loop-action
invariant-loop-action l = l.total ≡ min (list_size (take l.action-index l.action-items)) (2 ^ 64 - 1)
