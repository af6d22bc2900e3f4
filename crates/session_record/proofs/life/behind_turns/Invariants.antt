use Rattle.std.proofs.Common.{◌≡◌, ◌≤◌, length, drop, map}
use Rattle.session_record.specs.Deeds.{deeds_in}
use Rattle.session_record.specs.Recording.{behind_turns}
use Rattle.session_record.proofs.life.behind_turns.Given as goal

abbrev pub invariant-loop-turn : goal.invariant-loop-turn
invariant-loop-turn l =
    (behind_turns l.life l.at (map (λ s. deeds_in l.bytes s.now) (drop l.turn-index l.turns)) ≡ behind_turns l.life 0 (map (λ s. deeds_in l.bytes s.now) l.turns)) × (l.at ≤ length l.life)
