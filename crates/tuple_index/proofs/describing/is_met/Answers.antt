use Rattle.std.proofs.Common.{◌≡◌, ◌∙◌, sym, ap, true, false}
use Rattle.std.specs.List.{list_any}
use Rattle.flow_table.specs.Change.{is_strict}
use Rattle.flow_table.specs.Table.{has_key}
use Rattle.flow_table.specs.laws.ChangeLaws.{list_any-strict}
use Rattle.tuple_index.specs.laws.ReachLaws.{met-by_keys}
use Rattle.tuple_index.proofs.describing.is_met.Goals as goal

pub returns-then-is_strict : goal.returns-then-is_strict
returns-then-is_strict c =
    let strict : is_strict c.args.m.now ≡ true = sym c.is_strict.ensures ∙ c.if-is_strict.true in
    c.has_entry.ensures ∙ ap (λ k. list_any (has_key k) c.args.entries.now) c.key_of.ensures ∙ sym (list_any-strict c.args.m.now c.args.entries.now strict)

pub returns-else-is_strict : goal.returns-else-is_strict
returns-else-is_strict c =
    let loose : is_strict c.args.m.now ≡ false = sym c.is_strict.ensures ∙ c.if-is_strict.false in
    c.subsumes_some.ensures ∙ met-by_keys c.args.m.now c.args.index.now c.args.entries.now c.requires loose
