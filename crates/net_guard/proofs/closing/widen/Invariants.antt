use Rattle.std.proofs.Common.{◌≡◌, ◌++◌, map, take, drop}
use Rattle.net_guard.specs.Bits.{joined}
use Rattle.net_guard.proofs.closing.widen.Given as goal

abbrev pub invariant-loop-set : goal.invariant-loop-set
invariant-loop-set l = l.graph ≡ map (joined l.k l.behind) (take l.set-index l.initial.graph) ++ drop l.set-index l.initial.graph
