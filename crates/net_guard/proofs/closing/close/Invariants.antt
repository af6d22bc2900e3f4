use Rattle.std.proofs.Common.{◌≡◌, ◌<◌, ℕ, length}
use Rattle.net_guard.specs.Bits.{edge_of}
use Rattle.net_guard.specs.Walks.{reaches}
use Rattle.net_guard.proofs.closing.close.Given as goal

abbrev pub invariant-loop-k : goal.invariant-loop-k
invariant-loop-k l = (length l.graph ≡ length l.initial.graph) × ((i j : ℕ) → i < length l.initial.graph → edge_of l.graph i j ≡ reaches (edge_of l.initial.graph) l.k i j)
