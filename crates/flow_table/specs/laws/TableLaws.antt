-- What follows about tables: what an entry that is put in, a filter and a map do to the list.
use Rattle.std.proofs.Common.{◌≡◌, ◌≢◌, ℕ, zero, suc, ◌+◌, ◌<◌, ◌≤◌, Bool, true, false, not, List, [], ◌∷◌, length, map, filter, take, drop, get_or, set, Option, Some, None, if◌then◌else◌, refl, sym, ap, ◌∙◌, arith, inl, inr}
use Rattle.std.proofs.lemmas.Bool.{cases_lt, cases_eq, cond-true, cond-false, or_left, or_right, or_from, not_from_true, not_from_false, ne_eqb, eqb-true, cases_Bool}
use Rattle.std.proofs.lemmas.Bool.Decides.{nat_tests}
use Rattle.std.proofs.lemmas.List.{length-map, length-set, get_or_default}
use Rattle.std.proofs.lemmas.List.Folds.{Any-from_list_any}
use Rattle.std.specs.List.{insert, remove, list_any}
use Rattle.std.specs.Option.{option_map}
use Rattle.of_match.specs.declared.key.Key.{Key}
use Rattle.of_match.specs.Key.{key_number}
use Rattle.flow_table.specs.declared.entry.Entry.{Entry}
use Rattle.flow_table.specs.Table.{place_of, has_key, keys, entry_at, AscendsFrom, IsTable, Parts, with_entry}

-- ---- Places rise along a table.

pub key_number-get : (es : List Entry) (least i : ℕ) (d : Entry) → AscendsFrom least es → i < length es → least ≤ place_of (get_or es i d)
key_number-get [] least i d h within = absurd (omega arith)
key_number-get (e ∷ es) least zero d h within = h.0
key_number-get (e ∷ es) least (suc i) d h within = omega (arith, h.0, key_number-get es (place_of e + 1) i d h.1 (omega arith))

pub key_number-rises : (es : List Entry) (least i j : ℕ) (d : Entry) → AscendsFrom least es → i < j → j < length es → place_of (get_or es i d) < place_of (get_or es j d)
key_number-rises [] least i j d h rise within = absurd (omega arith)
key_number-rises (e ∷ es) least i zero d h rise within = absurd (omega arith)
key_number-rises (e ∷ es) least zero (suc j) d h rise within = omega (arith, key_number-get es (place_of e + 1) j d h.1 (omega arith))
key_number-rises (e ∷ es) least (suc i) (suc j) d h rise within = key_number-rises es (place_of e + 1) i j d h.1 (omega arith) (omega arith)

pub ascends-less : (es : List Entry) (least most : ℕ) → AscendsFrom most es → least ≤ most → AscendsFrom least es
ascends-less [] least most h le = tt
ascends-less (e ∷ es) least most h le = (omega (arith, h.0), h.1)

-- ---- The three cases of an entry that is put in.

pub with_entry-before : (e f : Entry) (fs : List Entry) → place_of e < place_of f → with_entry e (f ∷ fs) ≡ e ∷ f ∷ fs
with_entry-before e f fs lt = grind (arith, nat_tests)

pub with_entry-same : (e f : Entry) (fs : List Entry) → place_of e ≡ place_of f → with_entry e (f ∷ fs) ≡ e ∷ fs
with_entry-same e f fs same = grind (arith, nat_tests)

pub with_entry-after : (e f : Entry) (fs : List Entry) → place_of f < place_of e → with_entry e (f ∷ fs) ≡ f ∷ with_entry e fs
with_entry-after e f fs gt = grind (arith, nat_tests)

-- ---- A table stays one.

pub ascends-with_entry : (es : List Entry) (e : Entry) (least : ℕ) → AscendsFrom least es → least ≤ place_of e → AscendsFrom least (with_entry e es)
ascends-with_entry [] e least h le = (le, tt)
ascends-with_entry (f ∷ fs) e least h le =
    elim (cases_lt (place_of e) (place_of f)) [
      | inl lt ↦ rw (with_entry-before e f fs lt) (le, (omega arith, h.1))
      | inr ge ↦ elim (cases_lt (place_of f) (place_of e)) [
        | inl gt ↦ rw (with_entry-after e f fs gt) (h.0, ascends-with_entry fs e (place_of f + 1) h.1 (omega arith))
        | inr eq ↦ let same : place_of e ≡ place_of f = omega arith in
            rw (with_entry-same e f fs same) (le, ascends-less fs (place_of e + 1) (place_of f + 1) h.1 (omega arith))
      ]
    ]

pub IsTable-with_entry : (es : List Entry) (e : Entry) → IsTable es → IsTable (with_entry e es)
IsTable-with_entry es e h = ascends-with_entry es e 0 h (omega arith)

-- ---- Where a search found the place.

-- an entry takes the place of one with its key
pub with_entry-found : (es : List Entry) (e : Entry) (least i : ℕ) → AscendsFrom least es → i < length es → place_of (get_or es i e) ≡ place_of e → with_entry e es ≡ set es i e
with_entry-found [] e least i h within same = absurd (omega arith)
with_entry-found (f ∷ fs) e least zero h within same = with_entry-same e f fs (sym same)
with_entry-found (f ∷ fs) e least (suc i) h within same =
    let above = key_number-get fs (place_of f + 1) i e h.1 (omega arith) in
    with_entry-after e f fs (omega arith) ∙ ap (λ xs. f ∷ xs) (with_entry-found fs e (place_of f + 1) i h.1 (omega arith) same)

behind : (f : Entry) (fs : List Entry) (p i : ℕ) → Parts p (suc i) (suc i) (f ∷ fs) → Parts p i i fs
behind f fs p i parts = record {
  below = λ k e lt. parts.below (suc k) e (omega arith);
  above = λ k e le lt. parts.above (suc k) e (omega arith) (omega arith);
}

-- an entry goes between those before and those after it
pub with_entry-absent : (es : List Entry) (e : Entry) (i : ℕ) → i ≤ length es → Parts (place_of e) i i es → with_entry e es ≡ insert es i e
with_entry-absent [] e zero within parts = refl
with_entry-absent [] e (suc i) within parts = absurd (omega arith)
with_entry-absent (f ∷ fs) e zero within parts = with_entry-before e f fs (parts.above 0 e (omega arith) (omega arith))
with_entry-absent (f ∷ fs) e (suc i) within parts =
    with_entry-after e f fs (parts.below 0 e (omega arith)) ∙ ap (λ xs. f ∷ xs) (with_entry-absent fs e i (omega arith) (behind f fs (place_of e) i parts))

-- no entry stands at a place between two neighbours
other_places : (es : List Entry) (k : Key) (i : ℕ) → Parts (key_number k) i i es → (j : ℕ) (e : Entry) → j < length es → place_of (get_or es j e) ≢ key_number k
other_places es k i parts j e lt =
    elim (cases_lt j i) [
      | inl before ↦ let b = parts.below j e before in omega arith
      | inr after ↦ let a = parts.above j e after lt in omega arith
    ]

-- ---- How long a table is.

pub length-with_entry-le : (es : List Entry) (e : Entry) → length (with_entry e es) ≤ length es + 1
length-with_entry-le [] e = omega arith
length-with_entry-le (f ∷ fs) e =
    elim (cases_lt (place_of e) (place_of f)) [
      | inl lt ↦ rw (with_entry-before e f fs lt) (omega arith)
      | inr ge ↦ elim (cases_lt (place_of f) (place_of e)) [
        | inl gt ↦ rw (with_entry-after e f fs gt) (omega (arith, length-with_entry-le fs e))
        | inr le ↦ let same : place_of e ≡ place_of f = omega arith in rw (with_entry-same e f fs same) (omega arith)
      ]
    ]

pub entry_at-same : (k : Key) (f : Entry) (fs : List Entry) → place_of f ≡ key_number k → entry_at k (f ∷ fs) ≡ Some f
entry_at-same k f fs same = grind (arith, nat_tests)

pub entry_at-other : (k : Key) (f : Entry) (fs : List Entry) → place_of f ≢ key_number k → entry_at k (f ∷ fs) ≡ entry_at k fs
entry_at-other k f fs other = grind (arith, nat_tests)

pub length-with_entry-new : (es : List Entry) (e : Entry) → entry_at e.key es ≡ None → length (with_entry e es) ≡ length es + 1
length-with_entry-new [] e none = refl
length-with_entry-new (f ∷ fs) e none =
    elim (cases_lt (place_of e) (place_of f)) [
      | inl lt ↦ rw (with_entry-before e f fs lt) (omega arith)
      | inr ge ↦ elim (cases_lt (place_of f) (place_of e)) [
        | inl gt ↦
            let rest = length-with_entry-new fs e (sym (entry_at-other e.key f fs (omega arith)) ∙ none) in
            rw (with_entry-after e f fs gt) (omega arith)
        | inr le ↦ let same = entry_at-same e.key f fs (omega arith) in absurd cc
      ]
    ]

-- an entry that takes the place of another one does not lengthen the table
pub length-with_entry-there : (e : Entry) (es : List Entry) → IsTable es → list_any (has_key e.key) es ≡ true → length (with_entry e es) ≡ length es
length-with_entry-there e es is there =
    let (k, x, within, here, has) = Any-from_list_any (has_key e.key) es there in
    let same : place_of x ≡ place_of e = eqb-true (place_of x) (place_of e) has in
    let at : place_of (get_or es k e) ≡ place_of e = ap place_of (get_or_default es k e x within ∙ here) ∙ same in
    ap length (with_entry-found es e 0 k is within at) ∙ length-set es k e

-- tables of the same keys are equally long
pub length-keys : (es fs : List Entry) → keys es ≡ keys fs → length es ≡ length fs
length-keys es fs same = sym (length-map es (λ e. e.key)) ∙ ap length same ∙ length-map fs (λ e. e.key)

-- ---- What is found at a key.

pub entry_at-with_entry-same : (es : List Entry) (e : Entry) → entry_at e.key (with_entry e es) ≡ Some e
entry_at-with_entry-same [] e = entry_at-same e.key e [] refl
entry_at-with_entry-same (f ∷ fs) e =
    elim (cases_lt (place_of e) (place_of f)) [
      | inl lt ↦ rw (with_entry-before e f fs lt) (entry_at-same e.key e (f ∷ fs) refl)
      | inr ge ↦ elim (cases_lt (place_of f) (place_of e)) [
        | inl gt ↦ rw (with_entry-after e f fs gt) (entry_at-other e.key f (with_entry e fs) (omega arith) ∙ entry_at-with_entry-same fs e)
        | inr le ↦ let same : place_of e ≡ place_of f = omega arith in rw (with_entry-same e f fs same) (entry_at-same e.key e fs refl)
      ]
    ]

pub entry_at-with_entry-other : (es : List Entry) (e : Entry) (k : Key) → place_of e ≢ key_number k → entry_at k (with_entry e es) ≡ entry_at k es
entry_at-with_entry-other [] e k other = entry_at-other k e [] other
entry_at-with_entry-other (f ∷ fs) e k other =
    elim (cases_lt (place_of e) (place_of f)) [
      | inl lt ↦ rw (with_entry-before e f fs lt) (entry_at-other k e (f ∷ fs) other)
      | inr ge ↦ elim (cases_lt (place_of f) (place_of e)) [
        | inl gt ↦ rw (with_entry-after e f fs gt)
            (elim (cases_eq (place_of f) (key_number k)) [
              | inl here ↦ entry_at-same k f (with_entry e fs) here ∙ sym (entry_at-same k f fs here)
              | inr there ↦ entry_at-other k f (with_entry e fs) there ∙ entry_at-with_entry-other fs e k other ∙ sym (entry_at-other k f fs there)
            ])
        | inr le ↦ let same : place_of e ≡ place_of f = omega arith in
            rw (with_entry-same e f fs same) (entry_at-other k e fs other ∙ sym (entry_at-other k f fs (omega arith)))
      ]
    ]

-- ---- A table from which entries go, or whose entries change under their keys.

filtered : (pass : Bool) (f : Entry) (rest : List Entry) (least : ℕ) → least ≤ place_of f → AscendsFrom (place_of f + 1) rest → AscendsFrom least (if pass then f ∷ rest else rest)
filtered true f rest least le h = (le, h)
filtered false f rest least le h = ascends-less rest least (place_of f + 1) h (omega arith)

pub ascends-filter : (test : Entry → Bool) (es : List Entry) (least : ℕ) → AscendsFrom least es → AscendsFrom least (filter test es)
ascends-filter test [] least h = tt
ascends-filter test (f ∷ fs) least h = filtered (test f) f (filter test fs) least h.0 (ascends-filter test fs (place_of f + 1) h.1)

pub IsTable-filter : (test : Entry → Bool) (es : List Entry) → IsTable es → IsTable (filter test es)
IsTable-filter test es h = ascends-filter test es 0 h

pub ascends-map : (g : Entry → Entry) → ((e : Entry) → place_of (g e) ≡ place_of e) → (es : List Entry) (least : ℕ) → AscendsFrom least es → AscendsFrom least (map g es)
ascends-map g keeps [] least h = tt
ascends-map g keeps (f ∷ fs) least h = rw (keeps f) (h.0, ascends-map g keeps fs (place_of f + 1) h.1)

pub IsTable-map : (g : Entry → Entry) → ((e : Entry) → place_of (g e) ≡ place_of e) → (es : List Entry) → IsTable es → IsTable (map g es)
IsTable-map g keeps es h = ascends-map g keeps es 0 h

pub filter-skips : (test : Entry → Bool) (f : Entry) (fs : List Entry) → test f ≡ false → filter test (f ∷ fs) ≡ filter test fs
filter-skips test f fs fails = cond-false (test f) (f ∷ filter test fs) (filter test fs) fails

pub filter-takes : (test : Entry → Bool) (f : Entry) (fs : List Entry) → test f ≡ true → filter test (f ∷ fs) ≡ f ∷ filter test fs
filter-takes test f fs passes = cond-true (test f) (f ∷ filter test fs) (filter test fs) passes

-- the entry of a key if it passes a test
abbrev pub if_passes : (Entry → Bool) → Option Entry → Option Entry
if_passes test None = None
if_passes test (Some e) = if test e then Some e else None

-- above its places a table has no entry
pub entry_at-below : (es : List Entry) (k : Key) (least : ℕ) → AscendsFrom least es → key_number k < least → entry_at k es ≡ None
entry_at-below [] k least h lt = refl
entry_at-below (f ∷ fs) k least h lt = entry_at-other k f fs (omega (arith, h.0)) ∙ entry_at-below fs k (place_of f + 1) h.1 (omega (arith, h.0))

entry_at-filter_from : (test : Entry → Bool) (es : List Entry) (k : Key) (least : ℕ) → AscendsFrom least es → entry_at k (filter test es) ≡ if_passes test (entry_at k es)
entry_at-filter_from test [] k least h = refl
entry_at-filter_from test (f ∷ fs) k least h =
    elim (cases_eq (place_of f) (key_number k)) [
      | inl same ↦ rw (entry_at-same k f fs same) (elim (cases_Bool (test f)) [
        | inl passes ↦ rw (filter-takes test f fs passes) (entry_at-same k f (filter test fs) same ∙ sym (cond-true (test f) (Some f) None passes))
        | inr fails ↦ rw (filter-skips test f fs fails)
            (entry_at-below (filter test fs) k (place_of f + 1) (ascends-filter test fs (place_of f + 1) h.1) (omega arith) ∙ sym (cond-false (test f) (Some f) None fails))
      ])
      | inr other ↦ rw (entry_at-other k f fs other) (elim (cases_Bool (test f)) [
        | inl passes ↦ rw (filter-takes test f fs passes) (entry_at-other k f (filter test fs) other ∙ entry_at-filter_from test fs k (place_of f + 1) h.1)
        | inr fails ↦ rw (filter-skips test f fs fails) (entry_at-filter_from test fs k (place_of f + 1) h.1)
      ])
    ]

pub entry_at-filter : (test : Entry → Bool) (es : List Entry) (k : Key) → IsTable es → entry_at k (filter test es) ≡ if_passes test (entry_at k es)
entry_at-filter test es k h = entry_at-filter_from test es k 0 h

pub entry_at-map : (g : Entry → Entry) → ((e : Entry) → place_of (g e) ≡ place_of e) → (es : List Entry) (k : Key) → entry_at k (map g es) ≡ option_map g (entry_at k es)
entry_at-map g keeps [] k = refl
entry_at-map g keeps (f ∷ fs) k =
    elim (cases_eq (place_of f) (key_number k)) [
      | inl same ↦ rw (entry_at-same k f fs same) (entry_at-same k (g f) (map g fs) (keeps f ∙ same))
      | inr other ↦ rw (entry_at-other k f fs other)
          (entry_at-other k (g f) (map g fs) (λ same. other (sym (keeps f) ∙ same)) ∙ entry_at-map g keeps fs k)
    ]

pub length-filter-le : (test : Entry → Bool) (es : List Entry) → length (filter test es) ≤ length es
length-filter-le test [] = omega arith
length-filter-le test (f ∷ fs) =
    elim (cases_Bool (test f)) [
      | inl passes ↦ rw (filter-takes test f fs passes) (omega (arith, length-filter-le test fs))
      | inr fails ↦ rw (filter-skips test f fs fails) (omega (arith, length-filter-le test fs))
    ]

-- ---- A test that no entry passes.

abbrev pub NonePass : (Entry → Bool) → List Entry → Type 0
NonePass test es = (i : ℕ) (e : Entry) → i < length es → test (get_or es i e) ≡ false

rest-pass : (test : Entry → Bool) (f : Entry) (fs : List Entry) → NonePass test (f ∷ fs) → NonePass test fs
rest-pass test f fs none i e lt = none (suc i) e (omega arith)

pub list_any-none : (test : Entry → Bool) (es : List Entry) → NonePass test es → list_any test es ≡ false
list_any-none test [] none = refl
list_any-none test (f ∷ fs) none = or_from (test f) (list_any test fs) (none 0 f (omega arith)) (list_any-none test fs (rest-pass test f fs none))

pub filter-none : (test : Entry → Bool) (es : List Entry) → NonePass test es → filter test es ≡ []
filter-none test [] none = refl
filter-none test (f ∷ fs) none = filter-skips test f fs (none 0 f (omega arith)) ∙ filter-none test fs (rest-pass test f fs none)

pub filter_not-none : (test : Entry → Bool) (es : List Entry) → NonePass test es → filter (λ e. not (test e)) es ≡ es
filter_not-none test [] none = refl
filter_not-none test (f ∷ fs) none =
    filter-takes (λ e. not (test e)) f fs (not_from_false (test f) (none 0 f (omega arith))) ∙ ap (λ xs. f ∷ xs) (filter_not-none test fs (rest-pass test f fs none))

pub map-none : (test : Entry → Bool) (g : Entry → Entry) (es : List Entry) → NonePass test es → map (λ e. if test e then g e else e) es ≡ es
map-none test g [] none = refl
map-none test g (f ∷ fs) none =
    let here : (if test f then g f else f) ≡ f = cond-false (test f) (g f) f (none 0 f (omega arith)) in
    let rest : map (λ e. if test e then g e else e) fs ≡ fs = map-none test g fs (rest-pass test f fs none) in
    rw here (ap (λ xs. f ∷ xs) rest)

-- ---- A test that the entry of one place alone passes.

pub record IsOnlyAt (p : ℕ) (test : Entry → Bool) : Type 0 where
  pub others : (e : Entry) → place_of e ≢ p → test e ≡ false

pub IsOnlyAt-has_key : (k : Key) → IsOnlyAt (key_number k) (has_key k)
IsOnlyAt-has_key k = record { others = λ e other. ne_eqb (place_of e) (key_number k) other }

pub NonePass-absent : (test : Entry → Bool) (es : List Entry) (k : Key) (i : ℕ) → IsOnlyAt (key_number k) test → Parts (key_number k) i i es → NonePass test es
NonePass-absent test es k i only parts j e lt = only.others (get_or es j e) (other_places es k i parts j e lt)

behind-pass : (test : Entry → Bool) (p : ℕ) (f : Entry) (fs : List Entry) (least : ℕ) → IsOnlyAt p test → AscendsFrom least (f ∷ fs) → place_of f ≡ p → NonePass test fs
behind-pass test p f fs least only h same i e lt = only.others (get_or fs i e) (let above = key_number-get fs (place_of f + 1) i e h.1 lt in omega arith)

before-fails : (test : Entry → Bool) (p : ℕ) (f : Entry) (fs : List Entry) (least i : ℕ) → IsOnlyAt p test → AscendsFrom least (f ∷ fs) → i < length fs → ((e : Entry) → place_of (get_or fs i e) ≡ p) → test f ≡ false
before-fails test p f fs least i only h within same =
    only.others f (let above = key_number-get fs (place_of f + 1) i f h.1 within in let there : place_of (get_or fs i f) ≡ p = same f in omega arith)

pub list_any-found : (test : Entry → Bool) (es : List Entry) (i : ℕ) → i < length es → ((e : Entry) → test (get_or es i e) ≡ true) → list_any test es ≡ true
list_any-found test [] i within passes = absurd (omega arith)
list_any-found test (f ∷ fs) zero within passes = or_left (test f) (list_any test fs) (passes f)
list_any-found test (f ∷ fs) (suc i) within passes = or_right (test f) (list_any test fs) (list_any-found test fs i (omega arith) passes)

-- what passes is the entry there, or nothing
pub filter-found : (test : Entry → Bool) (p : ℕ) (es : List Entry) (least i : ℕ) → IsOnlyAt p test → AscendsFrom least es → i < length es → ((e : Entry) → place_of (get_or es i e) ≡ p) → filter test (take 1 (drop i es)) ≡ filter test es
filter-found test p [] least i only h within same = absurd (omega arith)
filter-found test p (f ∷ fs) least zero only h within same =
    sym (ap (λ (xs : List Entry). if test f then f ∷ xs else xs) (filter-none test fs (behind-pass test p f fs least only h (same f))))
filter-found test p (f ∷ fs) least (suc i) only h within same =
    filter-found test p fs (place_of f + 1) i only h.1 (omega arith) same ∙ sym (filter-skips test f fs (before-fails test p f fs least i only h (omega arith) same))

-- where the entry there passes, it alone goes
pub filter_not-found : (test : Entry → Bool) (p : ℕ) (es : List Entry) (least i : ℕ) → IsOnlyAt p test → AscendsFrom least es → i < length es → ((e : Entry) → place_of (get_or es i e) ≡ p) → ((e : Entry) → test (get_or es i e) ≡ true) → filter (λ e. not (test e)) es ≡ remove es i
filter_not-found test p [] least i only h within same passes = absurd (omega arith)
filter_not-found test p (f ∷ fs) least zero only h within same passes =
    filter-skips (λ e. not (test e)) f fs (not_from_true (test f) (passes f)) ∙ filter_not-none test fs (behind-pass test p f fs least only h (same f))
filter_not-found test p (f ∷ fs) least (suc i) only h within same passes =
    filter-takes (λ e. not (test e)) f fs (not_from_false (test f) (before-fails test p f fs least i only h (omega arith) same))
    ∙ ap (λ xs. f ∷ xs) (filter_not-found test p fs (place_of f + 1) i only h.1 (omega arith) same passes)

-- where the entry there fails, all fail
pub NonePass-found : (test : Entry → Bool) (p : ℕ) (es : List Entry) (i : ℕ) → IsOnlyAt p test → IsTable es → i < length es → ((e : Entry) → place_of (get_or es i e) ≡ p) → ((e : Entry) → test (get_or es i e) ≡ false) → NonePass test es
NonePass-found test p es i only is within same fails j e lt =
    elim (cases_lt j i) [
      | inl before ↦ only.others (get_or es j e) (let rises = key_number-rises es 0 j i e is before within in let there = same e in omega arith)
      | inr le ↦ elim (cases_lt i j) [
        | inl after ↦ only.others (get_or es j e) (let rises = key_number-rises es 0 i j e is after lt in let there = same e in omega arith)
        | inr ge ↦ let here : j ≡ i = omega arith in ap (λ k. test (get_or es k e)) here ∙ fails e
      ]
    ]

-- where the entry there passes, it alone changes
pub map-found : (test : Entry → Bool) (g : Entry → Entry) (p : ℕ) (es : List Entry) (least i : ℕ) (x : Entry) → IsOnlyAt p test → AscendsFrom least es → i < length es → get_or es i x ≡ x → ((e : Entry) → place_of (get_or es i e) ≡ p) → test x ≡ true → map (λ e. if test e then g e else e) es ≡ set es i (g x)
map-found test g p [] least i x only h within read same passes = absurd (omega arith)
map-found test g p (f ∷ fs) least zero x only h within read same passes =
    let here : (if test x then g x else x) ≡ g x = cond-true (test x) (g x) x passes in
    let there : (if test f then g f else f) ≡ g x = ap (λ (e : Entry). if test e then g e else e) read ∙ here in
    let rest : map (λ e. if test e then g e else e) fs ≡ fs = map-none test g fs (behind-pass test p f fs least only h (same f)) in
    rw there (ap (λ xs. g x ∷ xs) rest)
map-found test g p (f ∷ fs) least (suc i) x only h within read same passes =
    let here : (if test f then g f else f) ≡ f = cond-false (test f) (g f) f (before-fails test p f fs least i only h (omega arith) same) in
    rw here (ap (λ xs. f ∷ xs) (map-found test g p fs (place_of f + 1) i x only h.1 (omega arith) read same passes))

-- what passes is kept
pub filter-some : (test : Entry → Bool) (es : List Entry) (i : ℕ) (x : Entry) → i < length es → x ≡ get_or es i x → test x ≡ true → filter test es ≢ []
filter-some test [] i x within read passes = absurd (omega arith)
filter-some test (f ∷ fs) zero x within read passes =
    let here : test f ≡ true = ap test (sym read) ∙ passes in
    let kept = filter-takes test f fs here in
    λ none. absurd cc
filter-some test (f ∷ fs) (suc i) x within read passes =
    let more : filter test fs ≢ [] = filter-some test fs i x (omega arith) read passes in
    elim (cases_Bool (test f)) [
      | inl here ↦ let kept = filter-takes test f fs here in λ none. absurd cc
      | inr fails ↦ let left = filter-skips test f fs fails in λ none. more (sym left ∙ none)
    ]

-- a list with a place has an entry, which stands for what a read gives past the end
pub an_entry : (es : List Entry) (i : ℕ) → i < length es → Entry
an_entry [] i within = absurd (omega arith)
an_entry (f ∷ fs) i within = f
