use Rattle.match_overlap.specs.laws.RelationsLaws.{Subsumes-refl, Subsumes-trans, Subsumes-antisym}
use Rattle.match_overlap.proofs.laws.subsumes_is_an_order.Goals as goal

pub returns : goal.returns
returns c = record { reflexive = Subsumes-refl; transitive = Subsumes-trans; antisymmetric = Subsumes-antisym }
