use Rattle.std.proofs.Common.{◌≡◌, ◌<◌, ℕ, true, Some, None, Ok, Err, List, not, filter, length, get_or, if◌then◌else◌, refl, sym, ◌∙◌, ap, subst, inl, inr}
use Rattle.std.specs.List.{remove}
use Rattle.std.proofs.lemmas.Bool.{cases_Bool, cond-true, cond-false, not_from_true, not_from_false}
use Rattle.std.proofs.lemmas.List.{get_or_default}
use Rattle.of_match.specs.declared.key.Key.{Key}
use Rattle.of_match.specs.Key.{key_number}
use Rattle.of_wire.specs.declared.bodies.FlowMod.{FlowMod}
use Rattle.flow_table.specs.declared.entry.Entry.{Entry}
use Rattle.flow_table.specs.Table.{entry_at, IsTable, IsPlaceOf}
use Rattle.flow_table.specs.Sorted.{without_place}
use Rattle.tuple_index.specs.Groups.{spot, IsIndexed}
use Rattle.tuple_index.specs.laws.IndexLaws.{entry_at-place, entry_at-number, IsIndexed-without}
use Rattle.flow_table.specs.laws.TableLaws.{an_entry, NonePass-absent, NonePass-found, filter_not-found, filter_not-none, entry_at-filter, if_passes}
use Rattle.flow_table.specs.Change.{key_in, is_strict, deletes}
use Rattle.flow_table.specs.laws.ChangeLaws.{IsOnlyAt-deletes}
use Rattle.tuple_index.proofs.changing.delete_one.Goals as goal

strict_is : (m : FlowMod) → m.command ≡ 4 → is_strict m ≡ true
strict_is m is = rw is refl

absent : (m : FlowMod) (es seen : List Entry) (k : Key) (i : ℕ) → m.command ≡ 4 → seen ≡ es → k ≡ key_in m → IsPlaceOf (key_number k) seen (Err i) → es ≡ filter (λ e. not (deletes m e)) es
absent m es seen k i is same key at =
    let here = subst (λ (xs : List Entry). IsPlaceOf (key_number k) xs (Err i)) same at in
    let there = subst (λ (j : Key). IsPlaceOf (key_number j) es (Err i)) key here in
    sym (filter_not-none (deletes m) es (NonePass-absent (deletes m) es (key_in m) i (IsOnlyAt-deletes m (strict_is m is)) there.1))

at_every : (m : FlowMod) (es : List Entry) (i : ℕ) (x e : Entry) → i < length es → deletes m (get_or es i e) ≡ deletes m (get_or es i x)
at_every m es i x e within = ap (deletes m) (get_or_default es i e x within)

found : (m : FlowMod) (es : List Entry) (i : ℕ) (x : Entry) → is_strict m ≡ true → IsTable es → IsPlaceOf (key_number (key_in m)) es (Ok i) → (if deletes m (get_or es i x) then remove es i else es) ≡ filter (λ e. not (deletes m e)) es
found m es i x strict order at =
    elim (cases_Bool (deletes m (get_or es i x))) [
      | inl passes ↦ cond-true (deletes m (get_or es i x)) (remove es i) es passes
          ∙ sym (filter_not-found (deletes m) (key_number (key_in m)) es 0 i (IsOnlyAt-deletes m strict) order at.0 at.1 (λ e. at_every m es i x e at.0 ∙ passes))
      | inr fails ↦ cond-false (deletes m (get_or es i x)) (remove es i) es fails
          ∙ sym (filter_not-none (deletes m) es (NonePass-found (deletes m) (key_number (key_in m)) es i (IsOnlyAt-deletes m strict) order at.0 at.1 (λ e. at_every m es i x e at.0 ∙ fails)))
    ]

spot_of : (es seen : List Entry) (k l : Key) (i : ℕ) → seen ≡ es → k ≡ l → IsPlaceOf (key_number k) seen (Ok i) → IsPlaceOf (key_number l) es (Ok i)
spot_of es seen k l i same key at = subst (λ (j : Key). IsPlaceOf (key_number j) es (Ok i)) key (subst (λ (xs : List Entry). IsPlaceOf (key_number k) xs (Ok i)) same at)

there : (es : List Entry) (k : Key) (i : ℕ) (x : Entry) → IsTable es → IsPlaceOf (key_number k) es (Ok i) → entry_at k es ≡ Some (get_or es i x)
there es k i x order at =
    let e : Entry = get_or es i x in
    entry_at-number k e.key es (sym (at.1 x)) ∙ entry_at-place es e i order at.0 (get_or_default es i e x at.0)

gone : (m : FlowMod) (es : List Entry) (i : ℕ) (x : Entry) → IsTable es → IsPlaceOf (key_number (key_in m)) es (Ok i) → deletes m (get_or es i x) ≡ true → entry_at (key_in m) (filter (λ e. not (deletes m e)) es) ≡ None
gone m es i x order at passes =
    let e : Entry = get_or es i x in
    entry_at-filter (λ f. not (deletes m f)) es (key_in m) order ∙ ap (if_passes (λ f. not (deletes m f))) (there es (key_in m) i x order at) ∙ cond-false (not (deletes m e)) (Some e) None (not_from_true (deletes m e) passes)

indexed : (m : FlowMod) (ks : List Key) (es : List Entry) (i : ℕ) (x : Entry) → is_strict m ≡ true → IsIndexed ks es → IsPlaceOf (key_number (key_in m)) es (Ok i)
    → IsIndexed (if deletes m (get_or es i x) then without_place spot (spot (key_in m)) ks else ks) (if deletes m (get_or es i x) then remove es i else es)
indexed m ks es i x strict h at =
    elim (cases_Bool (deletes m (get_or es i x))) [
      | inl passes ↦
          let rest = filter_not-found (deletes m) (key_number (key_in m)) es 0 i (IsOnlyAt-deletes m strict) h.in_order at.0 at.1 (λ e. at_every m es i x e at.0 ∙ passes) in
          rw (passes, sym rest)
          (IsIndexed-without ks es (key_in m) (λ e. not (deletes m e)) h (gone m es i x h.in_order at passes) (λ e other. not_from_false (deletes m e) ((IsOnlyAt-deletes m strict).others e other)))
      | inr fails ↦ rw fails h
    ]

pub returns-in-Ok-clause-entries : goal.returns-in-Ok-clause-entries
returns-in-Ok-clause-entries c =
    let at = spot_of c.args.entries.now.items c.deref.result.now c.key_of.result (key_in c.args.m.now) c.in-Ok.at c.deref.ensures.value c.key_of.ensures c.in-Ok.ensures in
    let x : Entry = an_entry c.args.entries.now.items c.in-Ok.at at.0 in
    c.remove_at.ensures.entries x ∙ found c.args.m.now c.args.entries.now.items c.in-Ok.at x (strict_is c.args.m.now c.requires.strict) c.requires.indexed.in_order at

pub returns-in-Ok-clause-indexed : goal.returns-in-Ok-clause-indexed
returns-in-Ok-clause-indexed c =
    let at = spot_of c.args.entries.now.items c.deref.result.now c.key_of.result (key_in c.args.m.now) c.in-Ok.at c.deref.ensures.value c.key_of.ensures c.in-Ok.ensures in
    let x : Entry = an_entry c.args.entries.now.items c.in-Ok.at at.0 in
    rw (c.remove_at.ensures.index x, c.remove_at.ensures.entries x) (indexed c.args.m.now c.args.index.now.items c.args.entries.now.items c.in-Ok.at x (strict_is c.args.m.now c.requires.strict) c.requires.indexed at)

pub returns-in-Err-clause-entries : goal.returns-in-Err-clause-entries
returns-in-Err-clause-entries c = absent c.args.m.now c.args.entries.now.items c.deref.result.now c.key_of.result c.in-Err.field-0 c.requires.strict c.deref.ensures.value c.key_of.ensures c.in-Err.ensures
