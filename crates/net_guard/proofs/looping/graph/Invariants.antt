use Rattle.std.proofs.Common.{◌≡◌, ℕ, ◌<◌, length, get_or}
use Rattle.flow_table.specs.View.{plains}
use Rattle.net_guard.specs.Bits.{Marks}
use Rattle.net_guard.specs.Links.{place_at}
use Rattle.net_guard.specs.Leading.{leads_over}
use Rattle.net_guard.proofs.looping.graph.Given as goal

abbrev pub invariant-loop-i : goal.invariant-loop-i
invariant-loop-i l =
    (length l.graph ≡ 128) × ((k : ℕ) → k < l.i → Marks (get_or l.graph k 0) l.hops (leads_over (record { field = l.field; hops = l.hops }) l.scope (plains l.tables) (place_at l.hops k)))
