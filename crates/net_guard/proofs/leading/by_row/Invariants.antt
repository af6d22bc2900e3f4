use Rattle.std.proofs.Common.{drop}
use Rattle.std.specs.List.{list_any}
use Rattle.net_guard.specs.Leading.{goes_over}
use Rattle.net_guard.proofs.Marking.{Leaves}
use Rattle.net_guard.proofs.leading.by_row.Given as goal

abbrev pub invariant-loop-action : goal.invariant-loop-action
invariant-loop-action l = Leaves l.set l.hops (λ h. list_any (goes_over l.place h) (drop l.action-index l.action-items)) (λ h. list_any (goes_over l.place h) l.action-items)
