use Rattle.std.proofs.Common.{sym, ap, ◌∙◌, rules}
use Rattle.net_txn.specs.Net.{NetState}
use Rattle.net_txn.specs.Settling.{doubted_in}
use Rattle.net_txn.specs.laws.ArrivalLaws.{arrives_read_as}
use Rattle.net_txn.specs.laws.SettleLaws.{settles_plain, settles_doubt}
use Rattle.net_txn.proofs.net.Net.settle.Goals as goal

pub returns-in-None-clause-settles : goal.returns-in-None-clause-settles
returns-in-None-clause-settles g c =
    settles_plain {Tells = g.W.World.Tells} c.args.dpid c.args.frame.now c.in-Ok.envelope (g.W.World.seen c.args.world.now) (g.W.World.seen c.take_or_lose.new.world) c.args.self.now c.take_or_lose.new.self c.take_or_lose.result (search rules)
    (ap (λ (n : NetState). doubted_in c.args.dpid n.views c.in-Ok.envelope.message) (sym c.self.view_is) ∙ sym c.in-None.ensures)
    (arrives_read_as {Tells = g.W.World.Tells} c.args.dpid c.args.frame.now c.in-Ok.envelope (g.W.World.seen c.args.world.now) (g.W.World.seen c.take_or_lose.new.world) c.args.self.now c.take_or_lose.new.self c.take_or_lose.result (search rules) c.take_or_lose.ensures)

pub returns-in-Ok-clause-settles : goal.returns-in-Ok-clause-settles
returns-in-Ok-clause-settles g c =
    settles_doubt {Tells = g.W.World.Tells} c.args.dpid c.args.frame.now c.in-Ok.envelope c.in-Some.key (g.W.World.seen c.args.world.now) (g.W.World.seen c.settle_doubt.new.world) c.args.self.now c.settle_doubt.new.self c.settle_doubt.result (search rules)
    (ap (λ (n : NetState). doubted_in c.args.dpid n.views c.in-Ok.envelope.message) (sym c.self.view_is) ∙ sym c.in-Some.ensures)
    c.settle_doubt.ensures.settles
