use Rattle.std.proofs.Common.{subst}
use Rattle.flow_table.specs.View.{plains}
use Rattle.net_guard.specs.declared.scope.Scope.TheVariants.{Every}
use Rattle.net_guard.specs.Links.{Guarded}
use Rattle.net_guard.specs.Loops.{IsLeastLoop}
use Rattle.net_guard.proofs.Searching.{none_by_all}
use Rattle.net_guard.proofs.guard.loop_in.Goals as goal

pub returns-in-None : goal.returns-in-None
returns-in-None c =
    let g : Guarded = record { field = c.args.field; hops = c.args.hops.now } in
    none_by_all g (plains c.args.tables.now) (subst (IsLeastLoop g Every (plains c.args.tables.now)) c.in-None.is c.least_on_loop.ensures)
