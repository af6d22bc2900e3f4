-- The rows that a packet may take, row by row in key order: behind one that it surely takes only those without a wildcard.
use Rattle.std.proofs.Common.{◌≡◌, ℕ, Bool, true, false, not, ◌&&◌, ◌||◌, List, [], ◌∷◌, ◌++◌, ◌+◌, ◌<◌, length, drop, get_or, filter, Option, Some, None, refl, sym, ap, ◌∙◌, arith, inl, inr}
use Rattle.std.specs.List.{list_any}
use Rattle.std.specs.Option.{is_none}
use Rattle.net_guard.proofs.Marking.{regrouped}
use Rattle.std.proofs.lemmas.Bool.{or_right, cases_Bool, eqb-true}
use Rattle.std.proofs.lemmas.List.Elements.{filter-append}
use Rattle.std.proofs.lemmas.List.{at_drop_more}
use Rattle.std.proofs.lemmas.List.Folds.{list_any-append}
use Rattle.of_match.specs.Fields.{is_exact, wildcards_of, any_bit}
use Rattle.of_match.specs.declared.fields.Fields.{Fields}
use Rattle.guard_rule.specs.declared.GuardField.{GuardField}
use Rattle.flow_table.specs.declared.view.ViewRow.{ViewRow}
use Rattle.net_guard.specs.declared.scope.Scope.{Scope}
use Rattle.net_guard.specs.declared.scope.Scope.TheVariants.{Every, Value}
use Rattle.net_guard.specs.Taking.{fields_of_row, is_whole, may_take, surely_takes, has_no_other, up_to, considered}

abbrev may : GuardField → Scope → ℕ → ViewRow → Bool
may field scope port r = may_take field scope port (fields_of_row r)

abbrev sure : GuardField → Scope → ℕ → ViewRow → Bool
sure field scope port r = surely_takes field scope port (fields_of_row r)

abbrev pub kept_with : Bool → ViewRow → List ViewRow → List ViewRow
kept_with true r rest = r ∷ rest
kept_with false r rest = rest

-- the rows that count, where some row before them was surely taken or none was
abbrev pub kept : GuardField → Scope → ℕ → Bool → List ViewRow → List ViewRow
kept field scope port covered [] = []
kept field scope port covered (r ∷ rs) =
    kept_with (may_take field scope port (fields_of_row r) && (not covered || is_whole r)) r (kept field scope port (covered || surely_takes field scope port (fields_of_row r)) rs)

-- ---- a row without a wildcard has other fields

any_bit-none : (A : Type 0) (o : Option A) → any_bit o ≡ 0 → is_none o ≡ false
any_bit-none A None e = absurd (omega arith)
any_bit-none A (Some x) e = refl

has_no_other-whole : (field : GuardField) (f : Fields) → is_exact f ≡ true → has_no_other field f ≡ false
unfolding has_no_other
has_no_other-whole field f whole =
    let word : wildcards_of f ≡ 0 = eqb-true (wildcards_of f) 0 whole in
    let bit : any_bit f.dl_src ≡ 0 = omega (arith, word) in
    rw (any_bit-none (List ℕ) f.dl_src bit) refl

not_sure_whole : (field : GuardField) (scope : Scope) (port : ℕ) (f : Fields) → is_exact f ≡ true → surely_takes field scope port f ≡ false
unfolding surely_takes
not_sure_whole field Every port f whole = refl
not_sure_whole field (Value v) port f whole = rw (has_no_other-whole field f whole) (and_false (may_take field (Value v) port f))
  where
    and_false : (b : Bool) → (b && false) ≡ false
    and_false true = refl
    and_false false = refl

not_taken_not_sure : (field : GuardField) (scope : Scope) (port : ℕ) (f : Fields) → may_take field scope port f ≡ false → surely_takes field scope port f ≡ false
unfolding surely_takes
not_taken_not_sure field Every port f not_taken = refl
not_taken_not_sure field (Value v) port f not_taken = rw not_taken refl

-- ---- the rows that count are those that are considered

up_to-append : (stops : ViewRow → Bool) (xs ys : List ViewRow) → list_any stops xs ≡ false → up_to stops (xs ++ ys) ≡ xs ++ up_to stops ys
up_to-append stops [] ys none = refl
up_to-append stops (x ∷ xs) ys none =
    elim (cases_Bool (stops x)) [
      | inl is ↦ absurd (cc (rw is at none))
      | inr not_is ↦ let rest : list_any stops xs ≡ false = rw not_is at none in rw not_is (ap (λ (zs : List ViewRow). x ∷ zs) (up_to-append stops xs ys rest))
    ]

-- those without a wildcard, and the others
abbrev wholes : GuardField → Scope → ℕ → List ViewRow → List ViewRow
wholes field scope port rows = filter (may field scope port) (filter is_whole rows)

abbrev others : GuardField → Scope → ℕ → List ViewRow → List ViewRow
others field scope port rows = filter (may field scope port) (filter (λ r. not (is_whole r)) rows)

wholes-not_sure : (field : GuardField) (scope : Scope) (port : ℕ) (rows : List ViewRow) → list_any (sure field scope port) (wholes field scope port rows) ≡ false
wholes-not_sure field scope port [] = refl
wholes-not_sure field scope port (r ∷ rs) =
    elim (cases_Bool (is_whole r)) [
      | inl whole ↦ elim (cases_Bool (may field scope port r)) [
        | inl taken ↦ rw (whole, taken, not_sure_whole field scope port (fields_of_row r) whole) (wholes-not_sure field scope port rs)
        | inr not_taken ↦ rw (whole, not_taken) (wholes-not_sure field scope port rs)
      ]
      | inr other ↦ rw other (wholes-not_sure field scope port rs)
    ]

considered-split : (field : GuardField) (scope : Scope) (port : ℕ) (rows : List ViewRow)
    → considered field scope port rows ≡ wholes field scope port rows ++ up_to (sure field scope port) (others field scope port rows)
unfolding considered
considered-split field scope port rows =
    ap (up_to (sure field scope port)) (filter-append (may field scope port) (filter is_whole rows) (filter (λ r. not (is_whole r)) rows))
    ∙ up_to-append (sure field scope port) (wholes field scope port rows) (others field scope port rows) (wholes-not_sure field scope port rows)

moved : (t a u d : Bool) → d ≡ (a || u) → (t || d) ≡ (a || (t || u))
moved true true u d same = refl
moved true false u d same = refl
moved false a u d same = same

kept-any_split : (test : ViewRow → Bool) (field : GuardField) (scope : Scope) (port : ℕ) (covered : Bool) (rows : List ViewRow)
    → list_any test (kept field scope port covered rows) ≡ (list_any test (wholes field scope port rows) || (not covered && list_any test (up_to (sure field scope port) (others field scope port rows))))
kept-any_split test field scope port true [] = refl
kept-any_split test field scope port false [] = refl
kept-any_split test field scope port true (r ∷ rs) =
    let all = kept-any_split test field scope port true rs in
    elim (cases_Bool (is_whole r)) [
      | inl whole ↦ elim (cases_Bool (may field scope port r)) [
        | inl taken ↦ rw (whole, taken) (sym (regrouped (test r) (list_any test (wholes field scope port rs)) false _ (sym all)))
        | inr not_taken ↦ rw (whole, not_taken) all
      ]
      | inr other ↦ elim (cases_Bool (may field scope port r)) [
        | inl taken ↦ rw (other, taken) all
        | inr not_taken ↦ rw (other, not_taken) all
      ]
    ]
kept-any_split test field scope port false (r ∷ rs) =
    let none = kept-any_split test field scope port false rs in
    let all = kept-any_split test field scope port true rs in
    let a = list_any test (wholes field scope port rs) in
    let u = list_any test (up_to (sure field scope port) (others field scope port rs)) in
    elim (cases_Bool (is_whole r)) [
      | inl whole ↦ elim (cases_Bool (may field scope port r)) [
        | inl taken ↦ rw (whole, taken, not_sure_whole field scope port (fields_of_row r) whole) (sym (regrouped (test r) a u _ (sym none)))
        | inr not_taken ↦ rw (whole, not_taken, not_taken_not_sure field scope port (fields_of_row r) not_taken) none
      ]
      | inr other ↦ elim (cases_Bool (may field scope port r)) [
        | inl taken ↦ elim (cases_Bool (sure field scope port r)) [
          | inl surely ↦ rw (other, taken, surely) (moved (test r) a false _ all)
          | inr maybe ↦ rw (other, taken, maybe) (moved (test r) a u _ none)
        ]
        | inr not_taken ↦ rw (other, not_taken, not_taken_not_sure field scope port (fields_of_row r) not_taken) none
      ]
    ]

-- the rows that count say what the considered ones say
pub kept-any : (test : ViewRow → Bool) (field : GuardField) (scope : Scope) (port : ℕ) (rows : List ViewRow) → list_any test (kept field scope port false rows) ≡ list_any test (considered field scope port rows)
kept-any test field scope port rows =
    kept-any_split test field scope port false rows
    ∙ sym (ap (list_any test) (considered-split field scope port rows) ∙ list_any-append test (wholes field scope port rows) (up_to (sure field scope port) (others field scope port rows)))

-- what a row that counts says
pub kept_with-any : (test : ViewRow → Bool) (b : Bool) (r : ViewRow) (rest : List ViewRow) → list_any test (kept_with b r rest) ≡ ((b && test r) || list_any test rest)
kept_with-any test true r rest = refl
kept_with-any test false r rest = refl

-- ---- of all packets each row is considered

pub kept-every : (field : GuardField) (port : ℕ) (rows : List ViewRow) → kept field Every port false rows ≡ rows
unfolding may_take surely_takes
kept-every field port [] = refl
kept-every field port (r ∷ rs) = ap (λ (zs : List ViewRow). r ∷ zs) (kept-every field port rs)

kept_with-among : (test : ViewRow → Bool) (b : Bool) (r : ViewRow) (rest rs : List ViewRow) → (list_any test rest ≡ true → list_any test rs ≡ true) → list_any test (kept_with b r rest) ≡ true → (test r || list_any test rs) ≡ true
kept_with-among test true r rest rs among is = elim (cases_Bool (test r)) [
  | inl passes ↦ rw passes refl
  | inr not_passes ↦ rw not_passes (among (rw not_passes at is))
]
kept_with-among test false r rest rs among is = or_right (test r) (list_any test rs) (among is)

kept-among : (test : ViewRow → Bool) (field : GuardField) (scope : Scope) (port : ℕ) (covered : Bool) (rows : List ViewRow) → list_any test (kept field scope port covered rows) ≡ true → list_any test rows ≡ true
kept-among test field scope port covered [] is = is
kept-among test field scope port covered (r ∷ rs) is =
    kept_with-among test (may field scope port r && (not covered || is_whole r)) r _ rs (kept-among test field scope port (covered || sure field scope port r) rs) is

-- what is considered for some packets is considered for all
pub considered-every : (test : ViewRow → Bool) (field : GuardField) (scope : Scope) (port : ℕ) (rows : List ViewRow) → list_any test (considered field scope port rows) ≡ true → list_any test (considered field Every port rows) ≡ true
considered-every test field scope port rows is =
    sym (kept-any test field Every port rows) ∙ ap (list_any test) (kept-every field port rows) ∙ kept-among test field scope port false rows (kept-any test field scope port rows ∙ is)

-- one row more
pub kept-drop : (test : ViewRow → Bool) (field : GuardField) (scope : Scope) (port : ℕ) (covered counts next : Bool) (rows : List ViewRow) (i : ℕ) (r : ViewRow) → i < length rows → r ≡ get_or rows i r
    → counts ≡ (may_take field scope port (fields_of_row r) && (not covered || is_whole r)) → next ≡ (covered || surely_takes field scope port (fields_of_row r))
    → list_any test (kept field scope port covered (drop i rows)) ≡ ((counts && test r) || list_any test (kept field scope port next (drop (i + 1) rows)))
kept-drop test field scope port covered counts next rows i r within is counts_is next_is =
    ap (list_any test) (at_drop_more (kept field scope port covered) rows i r within ∙ ap (λ (x : ViewRow). kept field scope port covered (x ∷ drop (i + 1) rows)) (sym is))
    ∙ kept_with-any test (may field scope port r && (not covered || is_whole r)) r (kept field scope port (covered || sure field scope port r) (drop (i + 1) rows))
    ∙ rw (counts_is, next_is) refl
