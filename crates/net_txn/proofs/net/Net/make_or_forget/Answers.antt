use Rattle.std.proofs.Common.{rules}
use Rattle.net_txn.specs.laws.ChangeLaws.{forgotten}
use Rattle.net_txn.proofs.net.Net.make_or_forget.Goals as goal

pub returns-then-is_forgotten-clause-result : goal.returns-then-is_forgotten-clause-result
returns-then-is_forgotten-clause-result g c =
    forgotten g.W.World.Tells c.args.dpid c.args.flow (g.W.World.seen c.args.world.now) (g.W.World.seen c.make-made.new.world) c.args.self.now c.make-made.new.self _ c.len-before.result c.is_row-known.result c.make-made.result
    (search rules) (search rules) (search rules) (search rules) c.make-made.ensures.result
