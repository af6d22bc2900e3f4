use Rattle.std.proofs.Common.{subst, sym, ◌+◌}
use Rattle.net_guard.specs.Bits.{edge_of}
use Rattle.net_guard.specs.Loops.{IsLeastOf}
use Rattle.net_guard.proofs.Placing.{IsLeastOf-none, IsLeastOf-more}
use Rattle.net_guard.proofs.looping.least_place.Goals as goal

pub loop-i-init : goal.loop-i-init
loop-i-init c = IsLeastOf-none c.args.hops.now (λ k. edge_of c.args.graph.now k k)

pub loop-i-preserved : goal.loop-i-preserved
loop-i-preserved c =
    subst (IsLeastOf c.args.hops.now (λ k. edge_of c.args.graph.now k k) (c.loop-i.i + 1)) (sym c.with_place-best.ensures)
    (IsLeastOf-more c.args.hops.now (λ k. edge_of c.args.graph.now k k) c.loop-i.i c.loop-i.best c.has.result c.has.ensures c.loop-i.invariant)
