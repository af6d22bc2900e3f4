use Rattle.legosdn.proofs.CommandEnds.{serves_ok, serves_err}
use Rattle.legosdn.proofs.live.run_live.Goals as goal

pub returns-in-Ok-clause-serves : goal.returns-in-Ok-clause-serves
returns-in-Ok-clause-serves g c = serves_ok g.W.World.Tells c.args.rounds _ _ _ _ _ _ c.in-Ok.ensures.serves

pub returns-clause-serves : goal.returns-clause-serves
returns-clause-serves g c = serves_err g.W.World.Tells c.args.rounds _ _ _ _ _ c.in-Err.stop c.in-Err.ensures.serves
