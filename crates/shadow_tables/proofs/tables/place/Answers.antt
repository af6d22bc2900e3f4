use Rattle.flow_table.specs.laws.SortedLaws.{at_place-absent}
use Rattle.shadow_tables.specs.InStep.{lent_place}
use Rattle.shadow_tables.proofs.tables.place.Goals as goal

pub returns-in-Err : goal.returns-in-Err
returns-in-Err c =
    let none = rw (at_place-absent lent_place c.args.views.now c.args.dpid c.in-Err.at c.in-Err.ensures) at c.requires.joined in
    absurd cc
