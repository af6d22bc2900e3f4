use Rattle.net_guard.specs.Bits.{edge_of}
use Rattle.net_guard.specs.Loops.{IsLeastOf}
use Rattle.net_guard.proofs.looping.least_place.Given as goal

abbrev pub invariant-loop-i : goal.invariant-loop-i
invariant-loop-i l = IsLeastOf l.hops (λ k. edge_of l.graph k k) l.i l.best
