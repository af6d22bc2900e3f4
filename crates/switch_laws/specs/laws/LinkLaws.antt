-- Where no link of a switch changes between two states, its switch and what waits of it are the same in both.
use Rattle.std.specs.Prelude.{◌≡◌, ℕ, List}
use Rattle.std.proofs.Common.{ap}
use Rattle.outside.specs.State.{Link, State, link_of, switch_in, waits_in, switch_of, waits_of}

pub links_switch : (d : ℕ) (s t : State) → t.links ≡ s.links → switch_of d t ≡ switch_of d s
unfolding switch_of
links_switch d s t same = ap (λ (ls : List Link). switch_in (link_of d ls)) same

pub links_waits : (d : ℕ) (s t : State) → t.links ≡ s.links → waits_of d t ≡ waits_of d s
unfolding waits_of
links_waits d s t same = ap (λ (ls : List Link). waits_in (link_of d ls)) same
