use Rattle.std.proofs.Common.{Some, sym, ap, ◌∙◌}
use Rattle.of_match.specs.Key.{key_number}
use Rattle.flow_table.specs.laws.SortedLaws.{at_place-found, at_place-absent}
use Rattle.keyed_rows.specs.Keyed.{place}
use Rattle.keyed_rows.proofs.search.find.Goals as goal

pub returns-in-Ok : goal.returns-in-Ok
returns-in-Ok g c = at_place-found (place g.T.Keyed.key_of) c.args.rows.now (key_number c.args.key.now) 0 c.in-Ok.at c.index-rows-at.result c.requires c.in-Ok.ensures ∙ ap Some (sym c.index-rows-at.is)

pub returns-in-Err : goal.returns-in-Err
returns-in-Err g c = at_place-absent (place g.T.Keyed.key_of) c.args.rows.now (key_number c.args.key.now) c.in-Err.field-0 c.in-Err.ensures
