use Rattle.std.proofs.Common.{◌≡◌, List, sym, ◌∙◌}
use Rattle.of_match.specs.declared.key.Key.{Key}
use Rattle.flow_table.specs.declared.entry.Entry.{Entry}
use Rattle.flow_table.specs.Sorted.{with_item}
use Rattle.flow_table.specs.Table.{with_entry}
use Rattle.flow_table.specs.laws.TableLaws.{with_entry-absent}
use Rattle.tuple_index.specs.Groups.{spot, IsIndexed}
use Rattle.tuple_index.specs.laws.IndexLaws.{IsIndexed-with_entry}
use Rattle.tuple_index.proofs.changing.put_new.Goals as goal

filed : (ks mid new : List Key) (es fs : List Entry) (e : Entry) → IsIndexed ks es → mid ≡ ks → new ≡ with_item spot e.key mid → fs ≡ with_entry e es → IsIndexed new fs
filed ks mid new es fs e h same index entries = rw (index, same, entries) (IsIndexed-with_entry ks es e h)

pub returns-clause-ok : goal.returns-clause-ok
returns-clause-ok c = c.in_ok-insert.ensures.items ∙ sym (with_entry-absent c.args.entries.now.items c.args.entry c.args.at c.requires.at.0 c.requires.at.1)

pub returns-clause-indexed : goal.returns-clause-indexed
returns-clause-indexed c =
    filed c.args.index.now.items c.reserve.new.self.items c.put_key.new.index.items c.args.entries.now.items c.insert.new.self.items c.args.entry c.requires.indexed c.reserve.ensures.items c.put_key.ensures
    (c.in_ok-insert.ensures.items ∙ sym (with_entry-absent c.args.entries.now.items c.args.entry c.args.at c.requires.at.0 c.requires.at.1))
