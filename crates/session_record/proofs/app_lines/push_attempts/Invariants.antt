use Rattle.std.proofs.Common.{◌≡◌, ◌++◌, drop, map, string_bytes}
use Rattle.session_record.specs.Deeds.{deeds_in}
use Rattle.session_record.specs.Spelled.{attempts_text}
use Rattle.session_record.proofs.app_lines.push_attempts.Given as goal

abbrev pub invariant-loop-attempt : goal.invariant-loop-attempt
invariant-loop-attempt l =
    string_bytes l.out ++ attempts_text l.app (map (λ s. deeds_in l.bytes s.now) (drop l.attempt-index l.attempts))
    ≡ string_bytes l.fn.out ++ attempts_text l.app (map (λ s. deeds_in l.bytes s.now) l.attempts)
