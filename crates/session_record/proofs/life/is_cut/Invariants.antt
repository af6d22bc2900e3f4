use Rattle.std.proofs.Common.{◌≡◌, drop, map}
use Rattle.std.specs.List.{list_any}
use Rattle.session_record.specs.Deeds.{deeds_in, is_lost}
use Rattle.session_record.proofs.life.is_cut.Given as goal

abbrev pub invariant-loop-turn : goal.invariant-loop-turn
invariant-loop-turn l =
    list_any (λ turn. list_any (λ d. is_lost d.kind) turn) (map (λ s. deeds_in l.bytes s.now) (drop l.turn-index l.turns))
    ≡ list_any (λ turn. list_any (λ d. is_lost d.kind) turn) (map (λ s. deeds_in l.bytes s.now) l.turns)
