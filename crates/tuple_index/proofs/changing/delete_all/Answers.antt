use Rattle.std.proofs.Common.{rules, ◌≡◌, ◌∙◌, not, length, vec_len}
use Rattle.flow_table.specs.Change.{deletes}
use Rattle.flow_table.specs.laws.TableLaws.{IsTable-filter}
use Rattle.tuple_index.specs.laws.IndexLaws.{IsIndexed-reindexed}
use Rattle.tuple_index.proofs.changing.delete_all.Goals as goal

pub reindex-requires : goal.reindex-requires
reindex-requires c = rw (c.deref.ensures.value, c.retain_others.ensures) (IsTable-filter (λ e. not (deletes c.args.m.now e)) c.args.entries.now.items c.requires.in_order)

pub returns-clause-indexed : goal.returns-clause-indexed
returns-clause-indexed c =
    let len : vec_len c.args.entries.now ≡ length c.args.entries.now.items = search rules in
    IsIndexed-reindexed c.args.index.now.items c.reindex.new.index.items c.args.entries.now.items c.retain_others.new.entries.items c.deref.result.now c.len-before.result (λ e. not (deletes c.args.m.now e))
    c.requires c.retain_others.ensures c.deref.ensures.value (c.len-before.ensures ∙ len) c.reindex.ensures
