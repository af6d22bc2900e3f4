-- What follows about keys that were added: without them the earlier table stands, which is the one that an undo is to give back.
use Rattle.std.proofs.Common.{◌≡◌, ℕ, List, map, Option, Some, None, refl, ap, ◌∙◌, inl, inr}
use Rattle.std.proofs.lemmas.Bool.{cases_Bool}
use Rattle.std.specs.Option.{option_map}
use Rattle.of_match.specs.declared.key.Key.{Key}
use Rattle.flow_table.specs.declared.entry.Entry.{Entry}
use Rattle.flow_table.specs.Table.{TableState, entry_at, IsTable}
use Rattle.flow_table.specs.laws.TableLaws.{entry_at-map, IsTable-map}
use Rattle.flow_table.specs.Undone.{restored, undone}
use Rattle.undo_laws.specs.laws.LookupLaws.{table_from_lookups}
use Rattle.undo_laws.specs.Removal.{is_key_among, OnlyAdded}
use Rattle.undo_laws.specs.Serials.{IsSerialed}
use Rattle.undo_laws.specs.laws.SerialsLaws.{used_or-stands}

restored-still : (now : ℕ) (k : Key) (after : TableState) (o : Option Entry) → IsSerialed after → ((e : Entry) → o ≡ Some e → entry_at k after.entries ≡ Some e) → option_map (restored now after.entries) o ≡ o
restored-still now k after None h stands = refl
restored-still now k after (Some e) h stands =
    ap (λ (u : ℕ). Some (record e { used = u })) (used_or-stands now after k e h (stands e refl))

still : (ks : List Key) (before after : List Entry) → OnlyAdded ks before after → (k : Key) (e : Entry) → entry_at k before ≡ Some e → entry_at k after ≡ Some e
still ks before after only k e found =
    elim (cases_Bool (is_key_among ks k)) [
      | inl among ↦ let none = only.added k among in absurd cc
      | inr other ↦ only.others k other ∙ found
    ]

-- no entry went, so none begins its idle time anew
pub undone-added : (now : ℕ) (ks : List Key) (before after : TableState) → IsTable before.entries → IsSerialed after → OnlyAdded ks before.entries after.entries → undone before after now ≡ record after { entries = before.entries }
unfolding undone
undone-added now ks before after was h only =
    let g : Entry → Entry = restored now after.entries in
    let same : map g before.entries ≡ before.entries =
    table_from_lookups (map g before.entries) before.entries (IsTable-map g (λ e. refl) before.entries was) was (λ k.
    entry_at-map g (λ e. refl) before.entries k
    ∙ restored-still now k after (entry_at k before.entries) h (still ks before.entries after.entries only k)) in
    ap (λ (es : List Entry). record after { entries = es }) same
