use Rattle.std.proofs.Common.{◌-◌, ◌^◌, ◌≤◌}
use Rattle.flow_table.specs.View.{plains}
use Rattle.net_guard.proofs.Searching.{FreeBelow}
use Rattle.net_guard.proofs.guard.first_loop.Given as goal

abbrev pub invariant-numbers : goal.invariant-numbers
invariant-numbers l = (l.from ≤ 2 ^ 48) × FreeBelow (record { field = l.field; hops = l.hops }) (plains l.tables) l.from

abbrev pub decreases-numbers : goal.decreases-numbers
decreases-numbers l = 2 ^ 48 - l.from
