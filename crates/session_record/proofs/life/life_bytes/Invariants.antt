use Rattle.std.proofs.Common.{◌≡◌, ◌++◌, drop, map}
use Rattle.std.specs.List.{flat_map}
use Rattle.session_record.specs.Deeds.{deeds_in}
use Rattle.session_record.specs.Recording.{bytes_of}
use Rattle.session_record.proofs.life.life_bytes.Given as goal

abbrev pub invariant-loop-turn : goal.invariant-loop-turn
invariant-loop-turn l =
    l.all.items ++ flat_map bytes_of (map (λ s. deeds_in l.bytes s.now) (drop l.turn-index l.turns)) ≡ l.rest ++ flat_map bytes_of (map (λ s. deeds_in l.bytes s.now) l.turns)
