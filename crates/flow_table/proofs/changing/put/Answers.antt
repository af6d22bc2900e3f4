use Rattle.std.proofs.Common.{◌≡◌, ℕ, List, Ok, Err, set, sym, ◌∙◌, subst}
use Rattle.std.specs.List.{insert}
use Rattle.flow_table.specs.declared.entry.Entry.{Entry}
use Rattle.flow_table.specs.Table.{place_of, IsTable, IsPlaceOf, with_entry}
use Rattle.flow_table.specs.laws.TableLaws.{with_entry-found, with_entry-absent}
use Rattle.flow_table.proofs.changing.put.Goals as goal

found : (es seen : List Entry) (e : Entry) (at : ℕ) → seen ≡ es → IsTable es → IsPlaceOf (place_of e) seen (Ok at) → set es at e ≡ with_entry e es
found es seen e at same is place =
    let here : IsPlaceOf (place_of e) es (Ok at) = subst (λ (xs : List Entry). IsPlaceOf (place_of e) xs (Ok at)) same place in
    sym (with_entry-found es e 0 at is here.0 (here.1 e))

absent : (es seen : List Entry) (e : Entry) (at : ℕ) → seen ≡ es → IsPlaceOf (place_of e) seen (Err at) → insert es at e ≡ with_entry e es
absent es seen e at same place =
    let here : IsPlaceOf (place_of e) es (Err at) = subst (λ (xs : List Entry). IsPlaceOf (place_of e) xs (Err at)) same place in
    sym (with_entry-absent es e at here.0 here.1)

pub returns-in-Ok-clause-ok : goal.returns-in-Ok-clause-ok
returns-in-Ok-clause-ok c = found _ c.deref.result.now c.args.entry c.in-Ok.at c.deref.ensures.value c.requires c.in-Ok.ensures

pub returns-in_ok-insert-in-Err-clause-ok : goal.returns-in_ok-insert-in-Err-clause-ok
returns-in_ok-insert-in-Err-clause-ok c =
    c.in_ok-insert-in-Err.ensures.items ∙ absent _ c.deref.result.now c.args.entry c.in-Err.at c.deref.ensures.value c.in-Err.ensures
