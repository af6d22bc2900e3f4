use Rattle.std.proofs.Common.{◌≡◌, ◌++◌, drop, map, string_bytes}
use Rattle.session_record.specs.Lines.{lines_text, SwitchLine}
use Rattle.session_record.proofs.whole_text.push_switches.Given as goal

abbrev pub invariant-loop-switch : goal.invariant-loop-switch
invariant-loop-switch l = string_bytes l.out ++ lines_text (map SwitchLine (drop l.switch-index l.switches)) ≡ string_bytes l.fn.out ++ lines_text (map SwitchLine l.switches)
