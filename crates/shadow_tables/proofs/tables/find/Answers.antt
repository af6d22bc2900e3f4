use Rattle.std.proofs.Common.{Some, sym, ap, ◌∙◌}
use Rattle.shadow_tables.specs.InStep.{lent_place}
use Rattle.flow_table.specs.laws.SortedLaws.{at_place-found, at_place-absent}
use Rattle.shadow_tables.proofs.tables.find.Goals as goal

pub returns-in-Ok : goal.returns-in-Ok
returns-in-Ok c = at_place-found lent_place c.args.views.now c.args.dpid 0 c.in-Ok.at c.index-views-at.result c.requires c.in-Ok.ensures ∙ ap Some (sym c.index-views-at.is)

pub returns-in-Err : goal.returns-in-Err
returns-in-Err c = at_place-absent lent_place c.args.views.now c.args.dpid c.in-Err.field-0 c.in-Err.ensures
