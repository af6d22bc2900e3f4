use Rattle.run_laws.specs.laws.StartMoveLaws.{starts_alike, follows_alike}
use Rattle.run_laws.proofs.events.starts_move.Goals as goal

pub returns-clause-starts : goal.returns-clause-starts
returns-clause-starts g c = starts_alike g.W.World.Tells

pub returns-clause-follows : goal.returns-clause-follows
returns-clause-follows g c = follows_alike g.W.World.Tells
