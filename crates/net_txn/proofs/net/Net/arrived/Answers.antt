use Rattle.std.proofs.Common.{rules, refl}
use Rattle.std.proofs.lemmas.Result.{err_from_is_err_and}
use Rattle.outside.specs.laws.SeenLaws.{Continues-refl}
use Rattle.net_txn.specs.laws.LinkStepLaws.{OnLinks-refl}
use Rattle.net_txn.specs.laws.LinkStrayLaws.{no_strays_none}
use Rattle.net_txn.specs.laws.OwnIdLaws.{ids_none}
use Rattle.net_txn.specs.laws.ArrivalLaws.{arrives_read_as}
use Rattle.net_txn.proofs.net.Net.arrived.Goals as goal

pub returns-in_err-bytes-in-Err : goal.returns-in_err-bytes-in-Err
returns-in_err-bytes-in-Err g c =
    let p = err_from_is_err_and c.from_residual.result c.from_residual.ensures.1 in
    rw (p.1, p.2) (record {
      continues = Continues-refl g.W.World.Tells (g.W.World.seen c.args.world.now);
      links = OnLinks-refl g.W.World.Tells (g.W.World.seen c.args.world.now);
      no_strays = λ told keeps joined. no_strays_none (g.W.World.seen c.args.world.now);
      ids = ids_none g.W.World.Tells 0 (g.W.World.seen c.args.world.now) c.args.self.now.xid _ (search rules);
      cause = tt;
      err = search rules;
      losses = λ told. refl;
      read = tt;
    })

pub returns-in-Err-NoMemory : goal.returns-in-Err-NoMemory
returns-in-Err-NoMemory g c =
    record {
      continues = Continues-refl g.W.World.Tells (g.W.World.seen c.args.world.now);
      links = OnLinks-refl g.W.World.Tells (g.W.World.seen c.args.world.now);
      no_strays = λ told keeps joined. no_strays_none (g.W.World.seen c.args.world.now);
      ids = ids_none g.W.World.Tells 0 (g.W.World.seen c.args.world.now) c.args.self.now.xid _ (search rules);
      cause = tt;
      err = search rules;
      losses = λ told. refl;
      read = tt;
    }

pub returns-in_ok-bytes-in-Err : goal.returns-in_ok-bytes-in-Err
returns-in_ok-bytes-in-Err g c =
    record {
      continues = Continues-refl g.W.World.Tells (g.W.World.seen c.args.world.now);
      links = OnLinks-refl g.W.World.Tells (g.W.World.seen c.args.world.now);
      no_strays = λ told keeps joined. no_strays_none (g.W.World.seen c.args.world.now);
      ids = ids_none g.W.World.Tells 0 (g.W.World.seen c.args.world.now) c.args.self.now.xid _ (search rules);
      cause = search rules;
      err = search rules;
      losses = λ told. refl;
      read = tt;
    }

pub returns-in-Ok : goal.returns-in-Ok
returns-in-Ok g c =
    arrives_read_as {Tells = g.W.World.Tells} c.args.dpid c.args.frame.now c.in-Ok.envelope (g.W.World.seen c.args.world.now) (g.W.World.seen c.take_or_lose.new.world) c.args.self.now c.take_or_lose.new.self c.take_or_lose.result (search rules) c.take_or_lose.ensures
