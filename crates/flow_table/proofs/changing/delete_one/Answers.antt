use Rattle.std.proofs.Common.{◌≡◌, ◌<◌, ℕ, true, Ok, Err, List, not, filter, length, get_or, if◌then◌else◌, refl, sym, ◌∙◌, ap, subst, inl, inr}
use Rattle.std.specs.List.{remove}
use Rattle.std.proofs.lemmas.Bool.{cases_Bool, cond-true, cond-false}
use Rattle.std.proofs.lemmas.List.{get_or_default}
use Rattle.of_match.specs.declared.key.Key.{Key}
use Rattle.of_match.specs.Key.{key_number}
use Rattle.of_wire.specs.declared.bodies.FlowMod.{FlowMod}
use Rattle.flow_table.specs.declared.entry.Entry.{Entry}
use Rattle.flow_table.specs.Table.{IsTable, IsPlaceOf}
use Rattle.flow_table.specs.laws.TableLaws.{an_entry, NonePass-absent, NonePass-found, filter_not-found, filter_not-none}
use Rattle.flow_table.specs.Change.{key_in, is_strict, deletes}
use Rattle.flow_table.specs.laws.ChangeLaws.{IsOnlyAt-deletes}
use Rattle.flow_table.proofs.changing.delete_one.Goals as goal

strict_is : (m : FlowMod) → m.command ≡ 4 → is_strict m ≡ true
strict_is m is = rw is refl

absent : (m : FlowMod) (es seen : List Entry) (k : Key) (i : ℕ) → m.command ≡ 4 → seen ≡ es → k ≡ key_in m → IsPlaceOf (key_number k) seen (Err i) → es ≡ filter (λ e. not (deletes m e)) es
absent m es seen k i is same key at =
    let here = subst (λ (xs : List Entry). IsPlaceOf (key_number k) xs (Err i)) same at in
    let there = subst (λ (j : Key). IsPlaceOf (key_number j) es (Err i)) key here in
    sym (filter_not-none (deletes m) es (NonePass-absent (deletes m) es (key_in m) i (IsOnlyAt-deletes m (strict_is m is)) there.1))

at_every : (m : FlowMod) (es : List Entry) (i : ℕ) (x e : Entry) → i < length es → deletes m (get_or es i e) ≡ deletes m (get_or es i x)
at_every m es i x e within = ap (deletes m) (get_or_default es i e x within)

found : (m : FlowMod) (es : List Entry) (i : ℕ) (x : Entry) → is_strict m ≡ true → IsTable es → IsPlaceOf (key_number (key_in m)) es (Ok i) → (if deletes m (get_or es i x) then remove es i else es) ≡ filter (λ e. not (deletes m e)) es
found m es i x strict order at =
    elim (cases_Bool (deletes m (get_or es i x))) [
      | inl passes ↦ cond-true (deletes m (get_or es i x)) (remove es i) es passes
          ∙ sym (filter_not-found (deletes m) (key_number (key_in m)) es 0 i (IsOnlyAt-deletes m strict) order at.0 at.1 (λ e. at_every m es i x e at.0 ∙ passes))
      | inr fails ↦ cond-false (deletes m (get_or es i x)) (remove es i) es fails
          ∙ sym (filter_not-none (deletes m) es (NonePass-found (deletes m) (key_number (key_in m)) es i (IsOnlyAt-deletes m strict) order at.0 at.1 (λ e. at_every m es i x e at.0 ∙ fails)))
    ]

spot : (es seen : List Entry) (k l : Key) (i : ℕ) → seen ≡ es → k ≡ l → IsPlaceOf (key_number k) seen (Ok i) → IsPlaceOf (key_number l) es (Ok i)
spot es seen k l i same key at = subst (λ (j : Key). IsPlaceOf (key_number j) es (Ok i)) key (subst (λ (xs : List Entry). IsPlaceOf (key_number k) xs (Ok i)) same at)

pub returns-in-Ok : goal.returns-in-Ok
returns-in-Ok c =
    let at = spot c.args.entries.now.items c.deref.result.now c.key_of.result (key_in c.args.m.now) c.in-Ok.at c.deref.ensures.value c.key_of.ensures c.in-Ok.ensures in
    let x : Entry = an_entry c.args.entries.now.items c.in-Ok.at at.0 in
    c.remove_at.ensures x ∙ found c.args.m.now c.args.entries.now.items c.in-Ok.at x (strict_is c.args.m.now c.requires.strict) c.requires.in_order at

pub returns-in-Err : goal.returns-in-Err
returns-in-Err c = absent c.args.m.now c.args.entries.now.items c.deref.result.now c.key_of.result c.in-Err.field-0 c.requires.strict c.deref.ensures.value c.key_of.ensures c.in-Err.ensures
