use Rattle.std.proofs.Common.{◌≡◌, ◌++◌, drop, map, string_bytes}
use Rattle.session_record.specs.Deeds.{deeds_in}
use Rattle.session_record.specs.Spelled.{turns_text}
use Rattle.session_record.proofs.app_lines.push_turns.Given as goal

abbrev pub invariant-loop-turn : goal.invariant-loop-turn
invariant-loop-turn l =
    string_bytes l.out ++ turns_text l.app l.left (map (λ s. deeds_in l.bytes s.now) (drop l.turn-index l.turns))
    ≡ string_bytes l.fn.out ++ turns_text l.app l.fn.left (map (λ s. deeds_in l.bytes s.now) l.turns)
