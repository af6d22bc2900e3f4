use Rattle.undo_laws.specs.laws.RemovalLaws.{OnlyAdded-nothing, OnlyAdded-more, OnlyAdded-fewer}
use Rattle.undo_laws.proofs.adding.additions_are_kept.Goals as goal

pub returns-clause-nothing : goal.returns-clause-nothing
returns-clause-nothing c = OnlyAdded-nothing

pub returns-clause-more : goal.returns-clause-more
returns-clause-more c = OnlyAdded-more

pub returns-clause-fewer : goal.returns-clause-fewer
returns-clause-fewer c = OnlyAdded-fewer
