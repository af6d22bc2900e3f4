use Rattle.std.proofs.Common.{◌≡◌, ◌++◌, drop, string_bytes}
use Rattle.session_record.specs.Deeds.{deeds_in}
use Rattle.session_record.specs.Spelled.{pieces_text, rest_behind}
use Rattle.session_record.proofs.app_lines.push_steps.Given as goal

abbrev pub invariant-loop-kept : goal.invariant-loop-kept
invariant-loop-kept l =
    (string_bytes l.out ++ pieces_text l.left (deeds_in l.bytes (drop l.kept-index l.turn)) ≡ string_bytes l.fn.out ++ pieces_text l.fn.left (deeds_in l.bytes l.turn))
    × (rest_behind l.left (deeds_in l.bytes (drop l.kept-index l.turn)) ≡ rest_behind l.fn.left (deeds_in l.bytes l.turn))
