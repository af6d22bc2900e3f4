use Rattle.std.proofs.Common.{◌∙◌, List, map, ap}
use Rattle.of_match.specs.declared.key.Key.{Key}
use Rattle.flow_table.specs.Table.{TableState}
use Rattle.tuple_index.specs.Groups.{wildcards, different, group_count}
use Rattle.tuple_index.specs.laws.ReachLaws.{groups-of_index}
use Rattle.tuple_index.proofs.table.TupleTable.groups.Goals as goal

pub returns : goal.returns
returns c =
    c.count_groups.ensures
    ∙ ap (λ (ks : List Key). different (map (λ k. wildcards k.matching) ks)) c.deref.ensures.value
    ∙ groups-of_index c.self.inside.index.items c.self.inside.entries.items c.self.invariant
    ∙ ap (λ (t : TableState). group_count t.entries) c.self.view_is
