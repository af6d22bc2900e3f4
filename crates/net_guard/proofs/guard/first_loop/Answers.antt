use Rattle.std.proofs.Common.{Some, sym, ◌∙◌, subst, arith}
use Rattle.flow_table.specs.View.{plains}
use Rattle.net_guard.specs.Links.{Guarded}
use Rattle.net_guard.specs.Found.{IsFoundFor}
use Rattle.net_guard.proofs.Searching.{FreeBelow-more, number-below, found_at_number, found_at_any, found_nowhere}
use Rattle.net_guard.proofs.guard.first_loop.Goals as goal

pub returns-in-Some-found_for : goal.returns-in-Some-found_for
returns-in-Some-found_for c =
    let g : Guarded = record { field = c.args.field; hops = c.args.hops.now } in
    found_at_number g (plains c.args.tables.now) c.numbers.from c.in-Some.number c.in-Some-found_for.found c.numbers.invariant.1 (sym c.least_from.ensures ∙ c.in-Some.is)
    (subst (IsFoundFor g (plains c.args.tables.now) (Some c.in-Some.number)) c.in-Some-found_for.is c.found_for.ensures)

pub overflow_add-from : goal.overflow_add-from
overflow_add-from c =
    let g : Guarded = record { field = c.args.field; hops = c.args.hops.now } in
    let below = number-below g (plains c.args.tables.now) c.numbers.from c.in-Some.number (sym c.least_from.ensures ∙ c.in-Some.is) in
    omega (arith, below.1)

pub numbers-smaller : goal.numbers-smaller
numbers-smaller c =
    let g : Guarded = record { field = c.args.field; hops = c.args.hops.now } in
    let below = number-below g (plains c.args.tables.now) c.numbers.from c.in-Some.number (sym c.least_from.ensures ∙ c.in-Some.is) in
    omega (arith, below.0, below.1)

pub numbers-preserved : goal.numbers-preserved
numbers-preserved c =
    let g : Guarded = record { field = c.args.field; hops = c.args.hops.now } in
    let least = sym c.least_from.ensures ∙ c.in-Some.is in
    let below = number-below g (plains c.args.tables.now) c.numbers.from c.in-Some.number least in (
      omega (arith, below.1),
      FreeBelow-more g (plains c.args.tables.now) c.numbers.from c.in-Some.number c.numbers.invariant.1 least (subst (IsFoundFor g (plains c.args.tables.now) (Some c.in-Some.number)) c.in_default-found_for.is c.found_for.ensures),
    )

pub returns-in-DlDst : goal.returns-in-DlDst
returns-in-DlDst c =
    found_at_any c.args.field c.args.hops.now (plains c.args.tables.now) c.numbers.from c.found_for-in-DlDst.result c.in-DlDst.is c.numbers.invariant.1 (sym c.least_from.ensures ∙ c.in_default.is) c.found_for-in-DlDst.ensures

pub returns-in-NwDst : goal.returns-in-NwDst
returns-in-NwDst c = found_nowhere c.args.field c.args.hops.now (plains c.args.tables.now) c.numbers.from c.in-NwDst.is c.numbers.invariant.1 (sym c.least_from.ensures ∙ c.in_default.is)
