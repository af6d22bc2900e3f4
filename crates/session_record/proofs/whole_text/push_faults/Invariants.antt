use Rattle.std.proofs.Common.{◌≡◌, ◌++◌, drop, map, string_bytes}
use Rattle.session_record.specs.Lines.{lines_text}
use Rattle.session_record.specs.Recording.{fault_line}
use Rattle.session_record.proofs.whole_text.push_faults.Given as goal

abbrev pub invariant-loop-loss : goal.invariant-loop-loss
invariant-loop-loss l = string_bytes l.out ++ lines_text (map fault_line (drop l.loss-index l.losses)) ≡ string_bytes l.fn.out ++ lines_text (map fault_line l.losses)
