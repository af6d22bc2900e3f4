-- What follows about a change that was neither stopped by the host nor refused: unless it is a DELETE, its key was in neither table nor
-- view before.
use Rattle.std.proofs.Common.{◌≡◌, ◌==◌, ℕ, ◌+◌, ◌-◌, ◌*◌, ◌/◌, ◌%◌, ◌^◌, ◌≤◌, Bool, true, false, not, ◌&&◌, List, [], ◌∷◌, Option, Some, None, nat_lt, if◌then◌else◌, refl, sym, ap, ◌∙◌, subst, arith, inl, inr, true≢false}
use Rattle.std.proofs.lemmas.Bool.{cases_Bool, eqb-true, le-ltb, or_parts}
use Rattle.std.specs.List.{list_any}
use Rattle.of_types.specs.declared.errors.OfError.{OfError}
use Rattle.of_match.specs.declared.flow_match.Match.{Match}
use Rattle.of_match.specs.declared.key.Key.{Key}
use Rattle.of_match.specs.Key.{key_number, number, IsKey}
use Rattle.of_match.specs.laws.KeyLaws.{key_number-injective}
use Rattle.match_overlap.specs.Relations.{is_subsuming, Subsumes}
use Rattle.match_overlap.specs.laws.RelationsLaws.{is_subsuming-Decides, Subsumes-refl}
use Rattle.of_action.specs.declared.action.Action.{Action}
use Rattle.of_wire.specs.declared.bodies.FlowMod.{FlowMod as Change}
use Rattle.flow_table.specs.declared.entry.Entry.{Entry}
use Rattle.flow_table.specs.declared.view.ViewRow.{ViewRow}
use Rattle.flow_table.specs.Table.{has_key, entry_at}
use Rattle.flow_table.specs.Change.{key_in, is_modify, is_delete, is_strict, describes, adds, clashes, refusal}
use Rattle.lego_model.specs.Answers.{Rows, rows_of_table, rows_of_view, would_clash, would_touch}
use Rattle.net_txn.specs.laws.RowLaws.{known_command, any_of_map, modifies_or_adds}
use Rattle.switch_laws.specs.Shown.{Passes, has_row}

-- ---- Keys of one place have one match

-- the key with a priority that fits its field, at the same place
abbrev fitting : Key → Key
fitting k = record { priority = 65535 - (65535 - k.priority); matching = k.matching }

is_key : (k : Key) → IsKey (fitting k)
is_key k = record { priority = omega arith }

fitting-key_number : (k : Key) → key_number (fitting k) ≡ key_number k
unfolding key_number
fitting-key_number k =
    let same : 65535 - (65535 - (65535 - k.priority)) ≡ 65535 - k.priority = omega arith in
    ap (λ (n : ℕ). n * 256 ^ 40 + number k.matching.bytes) same

one_match : (a b : Key) → key_number a ≡ key_number b → a.matching ≡ b.matching
one_match a b same =
    ap (λ (k : Key). k.matching) (key_number-injective (fitting a) (fitting b) (is_key a) (is_key b) (fitting-key_number a ∙ same ∙ sym (fitting-key_number b)))

-- ---- Tests of lists

-- what implies a test that none passes is passed by none
any-implied : {X : Type 0} (p q : X → Bool) → ((x : X) → p x ≡ true → q x ≡ true) → (xs : List X) → list_any q xs ≡ false → list_any p xs ≡ false
any-implied p q implies [] h = refl
any-implied p q implies (x ∷ xs) h =
    let n = or_parts (q x) (list_any q xs) h in
    elim (cases_Bool (p x)) [
      | inl passes ↦ absurd (true≢false (sym (implies x passes) ∙ n.0))
      | inr fails ↦ rw fails (any-implied p q implies xs n.1)
    ]

pub none_at : (k : Key) (es : List Entry) → list_any (has_key k) es ≡ false → entry_at k es ≡ None
none_at k [] h = refl
none_at k (e ∷ es) h =
    let n = or_parts (has_key k e) (list_any (has_key k) es) h in
    rw n.0 (none_at k es n.1)

-- ---- An ADD

abbrev pub at_key : Key → Key × List Action → Bool
at_key k r = key_number r.0 == key_number k

clash-same : (m : Change) (es : List Entry) → would_clash m (rows_of_table es) ≡ clashes m es
unfolding clashes
clash-same m es = ap (λ (b : Bool). checks b) (any_of_map _ _ es)
  where
    checks : Bool → Bool
    checks b = m.flags / 2 % 2 == 1 && b

refused_if : (high puts clash : Bool) (x y : OfError) (rest : Option OfError) → high ≡ false → puts ≡ true → clash ≡ true → (if high then Some x else if not puts then None else if clash then Some y else rest) ≡ None → ⊥
refused_if true puts clash x y rest low puts_is clash_is h = cc
refused_if false false clash x y rest low puts_is clash_is h = cc
refused_if false true false x y rest low puts_is clash_is h = cc
refused_if false true true x y rest low puts_is clash_is h = cc

puts_in : (m : Change) (es : List Entry) → (m.command == 0) ≡ true → adds m es ≡ true
unfolding adds
puts_in m es add = rw add refl

clash-refused : (cap_of : ℕ) (m : Change) (es : List Entry) → m.command ≤ 4 → (m.command == 0) ≡ true → clashes m es ≡ true → refusal cap_of m es ≡ None → ⊥
unfolding refusal
clash-refused cap_of m es known add clash none =
    refused_if (nat_lt 4 m.command) (adds m es) (clashes m es) _ _ _ (ge-ltb m.command known) (puts_in m es add) clash none
  where
    ge-ltb : (n : ℕ) → n ≤ 4 → nat_lt 4 n ≡ false
    ge-ltb n le = le-ltb 4 n le

both_if : (held clash : Bool) → (held && not clash) ≡ false → held ≡ true → clash ≡ true
both_if true true h is = refl
both_if true false h is = absurd (true≢false h)
both_if false clash h is = absurd (true≢false (sym is))

touch-add : (m : Change) (rows : Rows) → (m.command == 0) ≡ true → would_touch m rows ≡ false → (list_any (at_key (key_in m)) rows && not (would_clash m rows)) ≡ false
unfolding would_touch
touch-add m rows add h = rw add at h

absent-add : (cap_of : ℕ) (m : Change) (es : List Entry) → Passes m (rows_of_table es) → (m.command == 0) ≡ true → refusal cap_of m es ≡ None → list_any (has_key (key_in m)) es ≡ false
absent-add cap_of m es p add none =
    elim (cases_Bool (list_any (has_key (key_in m)) es)) [
      | inr absent ↦ absent
      | inl held ↦
          let held_row : list_any (at_key (key_in m)) (rows_of_table es) ≡ true = any_of_map (at_key (key_in m)) (λ e. (e.key, e.actions)) es ∙ held in
          let clash : would_clash m (rows_of_table es) ≡ true = both_if (list_any (at_key (key_in m)) (rows_of_table es)) (would_clash m (rows_of_table es)) (touch-add m (rows_of_table es) add p.untouched) held_row in
          absurd (clash-refused cap_of m es (known_command m p.unrefused) add (sym (clash-same m es) ∙ clash) none)
    ]

-- ---- A MODIFY

describes-own : (m : Change) (k : Key) → (key_number k == key_number (key_in m)) ≡ true → describes m k ≡ true
unfolding describes
describes-own m k here =
    elim (cases_Bool (is_strict m)) [
      | inl strict ↦ rw strict here
      | inr wide ↦ rw wide (subsumes-own m.matching k.matching (one_match k (key_in m) (eqb-true (key_number k) (key_number (key_in m)) here)))
    ]
  where
    subsumes-own : (a b : Match) → b ≡ a → is_subsuming a b ≡ true
    subsumes-own a b same = (is_subsuming-Decides a b).1 (subst (λ (x : Match). Subsumes a x) (sym same) (Subsumes-refl a))

touch-modify : (m : Change) (rows : Rows) → (m.command == 0) ≡ false → is_modify m ≡ true → would_touch m rows ≡ false → list_any (λ (r : Key × List Action). describes m r.0) rows ≡ false
unfolding would_touch
touch-modify m rows not_add modifies h = rw (not_add, modifies) at h

absent-modify : (m : Change) (es : List Entry) → Passes m (rows_of_table es) → (m.command == 0) ≡ false → is_modify m ≡ true → list_any (has_key (key_in m)) es ≡ false
absent-modify m es p not_add modifies =
    any-implied (has_key (key_in m)) (λ e. describes m e.key) (λ e here. describes-own m e.key here) es
    (sym (any_of_map (λ (r : Key × List Action). describes m r.0) (λ e. (e.key, e.actions)) es) ∙ touch-modify m (rows_of_table es) not_add modifies p.untouched)

-- ---- The whole

pub absent : (cap_of : ℕ) (m : Change) (es : List Entry) → Passes m (rows_of_table es) → is_delete m ≡ false → refusal cap_of m es ≡ None → list_any (has_key (key_in m)) es ≡ false
absent cap_of m es p other none =
    elim (cases_Bool (m.command == 0)) [
      | inl add ↦ absent-add cap_of m es p add none
      | inr not_add ↦ absent-modify m es p not_add (modifies_or_adds m other (known_command m p.unrefused) not_add)
    ]

pub absent-entry : (cap_of : ℕ) (m : Change) (es : List Entry) → Passes m (rows_of_table es) → is_delete m ≡ false → refusal cap_of m es ≡ None → entry_at (key_in m) es ≡ None
absent-entry cap_of m es p other none = none_at (key_in m) es (absent cap_of m es p other none)

pub absent-row : (cap_of : ℕ) (m : Change) (es : List Entry) (rows : List ViewRow) → rows_of_view rows ≡ rows_of_table es → Passes m (rows_of_table es) → is_delete m ≡ false → refusal cap_of m es ≡ None → has_row (key_in m) rows ≡ false
absent-row cap_of m es rows same p other none =
    sym (any_of_map (at_key (key_in m)) (λ (r : ViewRow). (r.key, r.actions)) rows)
    ∙ ap (list_any (at_key (key_in m))) same
    ∙ any_of_map (at_key (key_in m)) (λ e. (e.key, e.actions)) es
    ∙ absent cap_of m es p other none
