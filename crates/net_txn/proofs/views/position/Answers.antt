use Rattle.std.proofs.Common.{arith}
use Rattle.std.proofs.lemmas.Bool.{ne_eqb}
use Rattle.std.proofs.lemmas.Grind.{common_steps}
use Rattle.net_txn.proofs.ViewPositions.{views_more, views_stop}
use Rattle.net_txn.proofs.views.position.Goals as goal

pub returns-then-view-dpid : goal.returns-then-view-dpid
returns-then-view-dpid c = views_stop c.args.dpid c.args.views.now c.loop-i.i c.index-views-i.result c.loop-i-test.true c.index-views-i.is c.if-view-dpid.true c.loop-i.invariant.places

pub loop-i-preserved : goal.loop-i-preserved
loop-i-preserved c =
    let other = ne_eqb c.index-views-i.result.dpid c.args.dpid c.if-view-dpid.false in
    record {
      rows = grind (arith, common_steps);
      places = views_more c.args.dpid c.args.views.now c.loop-i.i c.index-views-i.result c.loop-i-test.true c.index-views-i.is other c.loop-i.invariant.places;
    }
