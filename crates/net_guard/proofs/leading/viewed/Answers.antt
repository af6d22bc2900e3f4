use Rattle.flow_table.specs.View.{plains}
use Rattle.net_guard.specs.Leading.{is_viewed}
use Rattle.net_guard.proofs.Marking.{Marking-none, Marking-more, Marks-all}
use Rattle.net_guard.proofs.leading.viewed.Goals as goal

pub loop-i-init : goal.loop-i-init
loop-i-init c = Marking-none _ _

pub loop-i-preserved : goal.loop-i-preserved
loop-i-preserved c =
    Marking-more c.loop-i.set c.with_if-set.result c.args.hops.now (λ h. is_viewed h.to.0 (plains c.args.tables.now)) c.loop-i.i c.is_viewed.result c.loop-i.invariant c.is_viewed.ensures c.with_if-set.ensures

pub returns : goal.returns
returns c = Marks-all _ _ _ _ c.loop-i.invariant c.loop-i-test.false
