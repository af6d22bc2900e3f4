use Rattle.std.proofs.Common.{◌≡◌, ◌++◌, drop}
use Rattle.net_guard.specs.Links.{hops_of}
use Rattle.net_guard.proofs.hop.hops_of.Given as goal

abbrev pub invariant-loop-link : goal.invariant-loop-link
invariant-loop-link l = l.hops.items ++ hops_of (drop l.link-index l.links) ≡ hops_of l.links
