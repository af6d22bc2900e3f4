use Rattle.std.proofs.Common.{◌≡◌, ◌∙◌, false, List, sym, ap}
use Rattle.std.specs.List.{list_any}
use Rattle.flow_table.specs.declared.entry.Entry.{Entry}
use Rattle.flow_table.specs.Change.{means, notice}
use Rattle.tuple_index.specs.laws.ReachLaws.{unmet-stays, unmet-tells}
use Rattle.std.specs.Prelude.{map}
use Rattle.tuple_index.proofs.changing.delete.Goals as goal

pub returns-then-not-is_met-clause-notices : goal.returns-then-not-is_met-clause-notices
returns-then-not-is_met-clause-notices c =
    let unmet : list_any (means c.args.m.now) c.args.entries.now.items ≡ false = ap (λ (es : List Entry). list_any (means c.args.m.now) es) (sym c.deref.ensures.value) ∙ sym c.is_met.ensures ∙ c.if-not-is_met.true in
    c.new.ensures ∙ sym (ap (map (notice 2 c.args.now)) (unmet-tells c.args.m.now c.args.entries.now.items unmet))

pub returns-then-not-is_met-clause-ok : goal.returns-then-not-is_met-clause-ok
returns-then-not-is_met-clause-ok c =
    let unmet : list_any (means c.args.m.now) c.args.entries.now.items ≡ false = ap (λ (es : List Entry). list_any (means c.args.m.now) es) (sym c.deref.ensures.value) ∙ sym c.is_met.ensures ∙ c.if-not-is_met.true in
    sym (unmet-stays c.args.m.now c.args.entries.now.items unmet)
