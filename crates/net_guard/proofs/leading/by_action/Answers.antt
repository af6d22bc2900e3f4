use Rattle.net_guard.specs.Leading.{goes_over}
use Rattle.net_guard.proofs.Marking.{Marking-none, Marking-more, Marks-all}
use Rattle.net_guard.proofs.leading.by_action.Goals as goal

pub loop-i-init : goal.loop-i-init
loop-i-init c = Marking-none _ _

pub loop-i-preserved : goal.loop-i-preserved
loop-i-preserved c =
    Marking-more c.loop-i.set c.with_if-set.result c.args.hops.now (λ h. goes_over c.args.place h c.args.action.now) c.loop-i.i c.goes_over.result c.loop-i.invariant c.goes_over.ensures c.with_if-set.ensures

pub returns : goal.returns
returns c = Marks-all _ _ _ _ c.loop-i.invariant c.loop-i-test.false
