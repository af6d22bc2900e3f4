use Rattle.match_overlap.specs.laws.RelationsLaws.{Overlaps-sym, Overlaps-subsumed, Overlaps-wider}
use Rattle.match_overlap.proofs.laws.overlap_is_symmetric.Goals as goal

pub returns : goal.returns
returns c = record { symmetric = Overlaps-sym; subsumed = Overlaps-subsumed; wider = Overlaps-wider }
