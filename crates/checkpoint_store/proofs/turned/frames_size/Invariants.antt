use Rattle.std.proofs.Common.{◌≡◌, ◌-◌, ◌^◌, length, min, sum_by, take}
use Rattle.checkpoint_store.proofs.turned.frames_size.Given as goal

abbrev pub invariant-loop-frame : goal.invariant-loop-frame
invariant-loop-frame l = l.size ≡ min (sum_by length (take l.frame-index l.frames)) (2 ^ 64 - 1)
