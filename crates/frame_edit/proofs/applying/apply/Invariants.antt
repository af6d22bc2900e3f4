use Rattle.std.proofs.Common.{◌≡◌, ◌++◌, drop}
use Rattle.frame_edit.specs.Edits.{outputs}
use Rattle.frame_edit.proofs.applying.apply.Given as goal

abbrev pub invariant-loop-action : goal.invariant-loop-action
invariant-loop-action l =
    outputs l.action-items l.frame ≡ l.frames.items ++ outputs (drop l.action-index l.action-items) l.current.items
