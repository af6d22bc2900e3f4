-- What follows about lookups in a table: two tables with the same entry at each key are one table.
use Rattle.std.proofs.Common.{◌≡◌, ◌==◌, ◌⊎◌, ℕ, zero, suc, ◌+◌, ◌<◌, ◌≤◌, Bool, true, false, ◌&&◌, if◌then◌else◌, List, [], ◌∷◌, length, filter, get_or, Option, Some, None, refl, sym, ap, ap₂, ◌∙◌, arith, inl, inr}
use Rattle.std.proofs.lemmas.Bool.{cases_lt, cases_eq, cases_Bool, eq-eqb, ne_eqb, cond-true, cond-false}
use Rattle.std.specs.List.{Contains}
use Rattle.of_match.specs.declared.key.Key.{Key}
use Rattle.of_match.specs.Key.{key_number}
use Rattle.flow_table.specs.declared.entry.Entry.{Entry}
use Rattle.flow_table.specs.Table.{place_of, has_key, entry_at, AscendsFrom, IsTable}
use Rattle.flow_table.specs.laws.TableLaws.{if_passes, entry_at-same, entry_at-other, entry_at-below, filter-skips, filter-takes}

pub cases_Option : {A : Type 0} (o : Option A) → (o ≡ None) ⊎ ((x : A) × (o ≡ Some x))
cases_Option None = inl refl
cases_Option (Some x) = inr (x, refl)

pub entry_at-same_place : (es : List Entry) (k l : Key) → key_number k ≡ key_number l → entry_at k es ≡ entry_at l es
entry_at-same_place [] k l same = refl
entry_at-same_place (e ∷ es) k l same =
    ap (λ (p : ℕ). if place_of e == p then Some e else entry_at k es) same
    ∙ ap (λ (o : Option Entry). if place_of e == key_number l then Some e else o) (entry_at-same_place es k l same)

-- what is found at a key is of that key
pub entry_at-key_number : (es : List Entry) (k : Key) (e : Entry) → entry_at k es ≡ Some e → place_of e ≡ key_number k
entry_at-key_number [] k e found = absurd cc
entry_at-key_number (f ∷ fs) k e found =
    elim (cases_eq (place_of f) (key_number k)) [
      | inl same ↦ let here = entry_at-same k f fs same in let is : f ≡ e = cc in ap place_of (sym is) ∙ same
      | inr other ↦ entry_at-key_number fs k e (sym (entry_at-other k f fs other) ∙ found)
    ]

-- what is found behind the first entry is found
pub entry_at-behind : (f : Entry) (fs : List Entry) (least : ℕ) (k : Key) (g : Entry) → AscendsFrom least (f ∷ fs) → entry_at k fs ≡ Some g → entry_at k (f ∷ fs) ≡ Some g
entry_at-behind f fs least k g h found =
    elim (cases_eq (place_of f) (key_number k)) [
      | inl same ↦ let none = entry_at-below fs k (place_of f + 1) h.1 (omega arith) in absurd cc
      | inr other ↦ entry_at-other k f fs other ∙ found
    ]

found_at : (es : List Entry) (least i : ℕ) (d e : Entry) → AscendsFrom least es → i < length es → get_or es i d ≡ e → entry_at e.key es ≡ Some e
found_at [] least i d e h within is = absurd (omega arith)
found_at (f ∷ fs) least zero d e h within is =
    entry_at-same e.key f fs (ap place_of is) ∙ ap Some is
found_at (f ∷ fs) least (suc i) d e h within is = entry_at-behind f fs least e.key e h (found_at fs (place_of f + 1) i d e h.1 (omega arith) is)

-- each entry of a table is found at its key
pub entry_at-contains : (es : List Entry) (e : Entry) → IsTable es → Contains es e → entry_at e.key es ≡ Some e
entry_at-contains es e is (i, within, here) = found_at es 0 i e e is within here

-- ---- One table

same_head : (e f : Entry) (es fs : List Entry) (least : ℕ) → AscendsFrom least (e ∷ es) → AscendsFrom least (f ∷ fs) → ((k : Key) → entry_at k (e ∷ es) ≡ entry_at k (f ∷ fs)) → place_of f ≤ place_of e
same_head e f es fs least h i same =
    elim (cases_lt (place_of e) (place_of f)) [
      | inl lt ↦
          let here = entry_at-same e.key e es refl in
          let there = same e.key in
          let none = entry_at-below (f ∷ fs) e.key (place_of f) (omega arith, i.1) lt in
          absurd cc
      | inr le ↦ le
    ]

same_tail : (e f : Entry) (es fs : List Entry) (least : ℕ) → place_of e ≡ place_of f → AscendsFrom least (e ∷ es) → AscendsFrom least (f ∷ fs) → ((k : Key) → entry_at k (e ∷ es) ≡ entry_at k (f ∷ fs)) → (k : Key) → entry_at k es ≡ entry_at k fs
same_tail e f es fs least at h i same k =
    elim (cases_eq (place_of e) (key_number k)) [
      | inl here ↦ entry_at-below es k (place_of e + 1) h.1 (omega arith) ∙ sym (entry_at-below fs k (place_of f + 1) i.1 (omega arith))
      | inr there ↦ sym (entry_at-other k e es there) ∙ same k ∙ entry_at-other k f fs (λ eq. there (at ∙ eq))
    ]

same_from : (es fs : List Entry) (least : ℕ) → AscendsFrom least es → AscendsFrom least fs → ((k : Key) → entry_at k es ≡ entry_at k fs) → es ≡ fs
same_from [] [] least h i same = refl
same_from [] (f ∷ fs) least h i same = let here = same f.key in let there = entry_at-same f.key f fs refl in absurd cc
same_from (e ∷ es) [] least h i same = let here = same e.key in let there = entry_at-same e.key e es refl in absurd cc
same_from (e ∷ es) (f ∷ fs) least h i same =
    let a = same_head e f es fs least h i same in
    let b = same_head f e fs es least i h (λ k. sym (same k)) in
    let at : place_of e ≡ place_of f = omega arith in
    let here = entry_at-same e.key e es refl in
    let there = entry_at-same e.key f fs (sym at) in
    let both = same e.key in
    let is : e ≡ f = cc in
    let low : AscendsFrom (place_of e + 1) fs = rw at i.1 in
    ap₂ (λ x xs. x ∷ xs) is (same_from es fs (place_of e + 1) h.1 low (same_tail e f es fs least at h i same))

pub table_from_lookups : (es fs : List Entry) → IsTable es → IsTable fs → ((k : Key) → entry_at k es ≡ entry_at k fs) → es ≡ fs
table_from_lookups es fs h i same = same_from es fs 0 h i same

-- ---- Filters

pub filter-same : {X : Type 0} (p q : X → Bool) → ((x : X) → p x ≡ q x) → (xs : List X) → filter p xs ≡ filter q xs
filter-same p q same [] = refl
filter-same p q same (x ∷ xs) =
    ap (λ (b : Bool). if b then x ∷ filter p xs else filter p xs) (same x)
    ∙ ap (λ (ys : List _). if q x then x ∷ ys else ys) (filter-same p q same xs)

abbrev pub listed : Option Entry → List Entry
listed None = []
listed (Some e) = e ∷ []

-- of the entry of a key and a further test
abbrev pub at_key : Key → (Entry → Bool) → Entry → Bool
at_key k test e = has_key k e && test e

no_key : (k : Key) (test : Entry → Bool) (es : List Entry) (least : ℕ) → AscendsFrom least es → key_number k < least → filter (at_key k test) es ≡ []
no_key k test [] least h lt = refl
no_key k test (f ∷ fs) least h lt =
    let fails : at_key k test f ≡ false = rw (ne_eqb (place_of f) (key_number k) (omega (arith, h.0))) refl in
    filter-skips (at_key k test) f fs fails ∙ no_key k test fs (place_of f + 1) h.1 (omega (arith, h.0))

filter_at : (k : Key) (test : Entry → Bool) (es : List Entry) (least : ℕ) → AscendsFrom least es → filter (at_key k test) es ≡ listed (if_passes test (entry_at k es))
filter_at k test [] least h = refl
filter_at k test (f ∷ fs) least h =
    elim (cases_eq (place_of f) (key_number k)) [
      | inl same ↦
          let has : has_key k f ≡ true = eq-eqb (place_of f) (key_number k) same in
          let none : filter (at_key k test) fs ≡ [] = no_key k test fs (place_of f + 1) h.1 (omega arith) in
          rw (entry_at-same k f fs same) (elim (cases_Bool (test f)) [
            | inl passes ↦ let both : at_key k test f ≡ true = rw (has, passes) refl in
                filter-takes (at_key k test) f fs both ∙ ap (λ xs. f ∷ xs) none ∙ sym (ap listed (cond-true (test f) (Some f) None passes))
            | inr fails ↦ let not_both : at_key k test f ≡ false = rw (has, fails) refl in
                filter-skips (at_key k test) f fs not_both ∙ none ∙ sym (ap listed (cond-false (test f) (Some f) None fails))
          ])
      | inr other ↦
          let fails : at_key k test f ≡ false = rw (ne_eqb (place_of f) (key_number k) other) refl in
          filter-skips (at_key k test) f fs fails ∙ filter_at k test fs (place_of f + 1) h.1 ∙ sym (ap (λ o. listed (if_passes test o)) (entry_at-other k f fs other))
    ]

-- of the entries that have a key and pass a test there is at most one
pub filter-at_key : (k : Key) (test : Entry → Bool) (es : List Entry) → IsTable es → filter (at_key k test) es ≡ listed (if_passes test (entry_at k es))
filter-at_key k test es is = filter_at k test es 0 is
