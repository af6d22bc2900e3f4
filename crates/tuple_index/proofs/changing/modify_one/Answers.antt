use Rattle.std.proofs.Common.{◌≡◌, ℕ, true, Ok, Err, List, map, get_or, set, refl, sym, ◌∙◌, ap, subst}
use Rattle.std.proofs.lemmas.Bool.{eq-eqb}
use Rattle.of_match.specs.declared.key.Key.{Key}
use Rattle.of_match.specs.Key.{key_number}
use Rattle.of_wire.specs.declared.bodies.FlowMod.{FlowMod}
use Rattle.flow_table.specs.declared.entry.Entry.{Entry}
use Rattle.flow_table.specs.Table.{place_of, IsTable, IsPlaceOf}
use Rattle.flow_table.specs.laws.TableLaws.{NonePass-absent, map-found, map-none}
use Rattle.flow_table.specs.Change.{key_in, is_strict, modified, means}
use Rattle.flow_table.specs.laws.ChangeLaws.{describes-strict, IsOnlyAt-means}
use Rattle.tuple_index.proofs.changing.modify_one.Goals as goal

strict_is : (m : FlowMod) → m.command ≡ 2 → is_strict m ≡ true
strict_is m is = rw is refl

abbrev acting : FlowMod → Entry → Entry
acting m e = record e { actions = m.actions }

absent : (m : FlowMod) (es seen : List Entry) (k : Key) (i : ℕ) → m.command ≡ 2 → seen ≡ es → k ≡ key_in m → IsPlaceOf (key_number k) seen (Err i) → es ≡ map (modified m) es
absent m es seen k i is same key at =
    let here = subst (λ (xs : List Entry). IsPlaceOf (key_number k) xs (Err i)) same at in
    let there = subst (λ (j : Key). IsPlaceOf (key_number j) es (Err i)) key here in
    sym (map-none (means m) (acting m) es (NonePass-absent (means m) es (key_in m) i (IsOnlyAt-means m (strict_is m is)) there.1))

found : (m : FlowMod) (es seen : List Entry) (k : Key) (i : ℕ) (x : Entry) → m.command ≡ 2 → IsTable es → seen ≡ es → k ≡ key_in m → IsPlaceOf (key_number k) seen (Ok i) → x ≡ get_or es i x → set es i (acting m x) ≡ map (modified m) es
found m es seen k i x is order same key at read =
    let here = subst (λ (xs : List Entry). IsPlaceOf (key_number k) xs (Ok i)) same at in
    let there = subst (λ (j : Key). IsPlaceOf (key_number j) es (Ok i)) key here in
    let stands : place_of x ≡ key_number (key_in m) = ap place_of read ∙ there.1 x in
    let met : means m x ≡ true = describes-strict m x.key (strict_is m is) ∙ eq-eqb (place_of x) (key_number (key_in m)) stands in
    sym (map-found (means m) (acting m) (key_number (key_in m)) es 0 i x (IsOnlyAt-means m (strict_is m is)) order there.0 (sym read) there.1 met)

pub returns-in_ok-entries-clause-ok : goal.returns-in_ok-entries-clause-ok
returns-in_ok-entries-clause-ok c =
    let copied : c.in_ok-entries.field-0 ≡ c.args.m.now.actions = c.in_ok-entries.ensures in
    rw copied
    (found c.args.m.now c.args.entries.now.items c.deref.result.now c.key_of.result c.in-Ok.at c.index_mut.result.now c.requires.strict c.requires.in_order c.deref.ensures.value c.key_of.ensures c.in-Ok.ensures c.index_mut.ensures.value)

pub returns-in_default-clause-ok : goal.returns-in_default-clause-ok
returns-in_default-clause-ok c =
    absent c.args.m.now c.args.entries.now.items c.deref.result.now c.key_of.result c.in_default.field-0 c.requires.strict c.deref.ensures.value c.key_of.ensures c.in_default.ensures
