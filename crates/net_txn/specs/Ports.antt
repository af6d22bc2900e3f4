-- The known ports of the joined switches, and those of the switches that were lost and whose leaving was not told yet, in the order of the
-- losses. All of this is our own.
use Rattle.std.specs.Prelude.{◌==◌, ℕ, not, List, ◌++◌, filter, fold}
use Rattle.net_txn.specs.declared.ports.KnownPorts.{KnownPorts}

pub record PortLists : Type 0 where
  pub known : List KnownPorts
  pub left : List KnownPorts

-- a switch is lost
abbrev pub lost_ports : ℕ → PortLists → PortLists
lost_ports d p = record { known = filter (λ k. not (k.dpid == d)) p.known; left = p.left ++ filter (λ k. k.dpid == d) p.known }

-- one after the other
abbrev pub ports_lost : List ℕ → PortLists → PortLists
ports_lost lost p = fold (λ q d. lost_ports d q) p lost
