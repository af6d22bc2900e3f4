use Rattle.std.proofs.Common.{refl}
use Rattle.app_visor.specs.laws.TurnLaws.{plays_done, plays_unbalanced}
use Rattle.app_visor.specs.laws.PlayLaws.{is_unbalanced}
use Rattle.app_visor.specs.laws.BeatLaws.{Leads-refl}
use Rattle.app_visor.specs.laws.CalmLaws.{calm_none}
use Rattle.app_visor.proofs.turning.play.Goals as goal

pub returns-in-Done-clause-ok : goal.returns-in-Done-clause-ok
returns-in-Done-clause-ok g c =
    rw c.in-Done.is (plays_done g.W.World.Tells (g.J.Judge.accepts c.args.judge.now) c.args.app c.in-Done.stop c.in-Done.checkpoint (g.W.World.seen c.args.world.now) c.args.txn.now.net.now c.finish.result c.finish.ensures)

pub returns-in-Save : goal.returns-in-Save
returns-in-Save g c = record {
  same_reference = refl;
  start = refl;
  leads = Leads-refl c.args.app (g.W.World.seen c.args.world.now) c.args.txn.now.net.now;
  ok = plays_unbalanced g.W.World.Tells (g.J.Judge.accepts c.args.judge.now) c.args.app c.args.frame (g.W.World.seen c.args.world.now) c.args.txn.now.net.now (is_unbalanced c.args.frame c.in-Save.is);
  err = tt;
  talks = tt;
  calm = λ tells. calm_none c.args.app (g.W.World.seen c.args.world.now);
  parted = λ can. tt;
}

pub returns-in-Done-clause-calm : goal.returns-in-Done-clause-calm
returns-in-Done-clause-calm g c = λ tells. calm_none c.args.app (g.W.World.seen c.args.world.now)
