use Rattle.std.proofs.Common.{arith}
use Rattle.std.proofs.lemmas.Bool.{ne_eqb}
use Rattle.std.proofs.lemmas.Grind.{common_steps}
use Rattle.net_txn.proofs.ProgressPositions.{progress_more, progress_stop}
use Rattle.net_txn.proofs.undo_progress.position_of.Goals as goal

pub returns-then-entry-dpid-clause-place : goal.returns-then-entry-dpid-clause-place
returns-then-entry-dpid-clause-place c = progress_stop c.args.dpid c.args.reverted.now c.loop-i.i c.index-reverted-i.result c.loop-i-test.true c.index-reverted-i.is c.if-entry-dpid.true c.loop-i.invariant.places

pub loop-i-preserved : goal.loop-i-preserved
loop-i-preserved c =
    let other = ne_eqb c.index-reverted-i.result.dpid c.args.dpid c.if-entry-dpid.false in
    record {
      keys = grind (arith, common_steps);
      places = progress_more c.args.dpid c.args.reverted.now c.loop-i.i c.index-reverted-i.result c.loop-i-test.true c.index-reverted-i.is other c.loop-i.invariant.places;
    }
