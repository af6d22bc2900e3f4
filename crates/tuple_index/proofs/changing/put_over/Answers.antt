use Rattle.std.proofs.Common.{sym, ◌∙◌}
use Rattle.flow_table.specs.laws.TableLaws.{with_entry-found}
use Rattle.tuple_index.specs.laws.IndexLaws.{IsIndexed-keys}
use Rattle.tuple_index.proofs.changing.put_over.Goals as goal

pub returns-clause-entries : goal.returns-clause-entries
returns-clause-entries c =
    c.replace.ensures.entries ∙ sym (with_entry-found c.args.entries.now.items c.args.entry 0 c.args.at c.requires.indexed.in_order c.requires.at.0 (c.requires.at.1 c.args.entry))

pub returns-clause-indexed : goal.returns-clause-indexed
returns-clause-indexed c = IsIndexed-keys c.args.index.now c.args.entries.now.items _ (sym c.replace.ensures.keys) c.requires.indexed
