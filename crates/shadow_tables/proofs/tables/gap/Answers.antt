use Rattle.std.proofs.Common.{[], sym, ◌∙◌}
use Rattle.flow_table.specs.laws.SortedLaws.{at_place-found}
use Rattle.flow_table.specs.declared.view.TableView.{TableView as Lent}
use Rattle.shadow_tables.specs.InStep.{lent_place}
use Rattle.shadow_tables.proofs.tables.gap.Goals as goal

-- stands for what a read gives past the end
nothing : Lent
nothing = record { dpid = 0; rows = record { rows = []; spare = 0 } }

pub returns-in-Ok : goal.returns-in-Ok
returns-in-Ok c =
    let some = sym (at_place-found lent_place c.args.views.now c.args.dpid 0 c.in-Ok.at nothing c.requires.in_order c.in-Ok.ensures) ∙ c.requires.apart in
    absurd cc
