use Rattle.std.proofs.Common.{◌≡◌, ◌++◌, take}
use Rattle.std.specs.List.{flat_map}
use Rattle.app_frames.specs.Spelling.{app_bytes}
use Rattle.machine_apps.proofs.saying.say_all.Given as goal

abbrev pub invariant-loop-frame : goal.invariant-loop-frame
invariant-loop-frame l = l.out.items ≡ l.fn.out.items ++ flat_map app_bytes (take l.frame-index l.frames)
