use Rattle.std.proofs.Common.{◌≡◌, ◌++◌, drop, string_bytes}
use Rattle.session_record.specs.Lines.{ports_behind}
use Rattle.session_record.proofs.line_words.push_behind.Given as goal

abbrev pub invariant-loop-port : goal.invariant-loop-port
invariant-loop-port l = string_bytes l.out ++ ports_behind (drop l.port-index l.ports) ≡ string_bytes l.fn.out ++ ports_behind l.ports
