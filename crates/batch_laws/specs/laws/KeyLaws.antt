-- Keys of entries, of notices and of rows: where the entries that go are taken out of a view, and which of them their owners asked for.
use Rattle.std.proofs.Common.{◌≡◌, ◌==◌, ℕ, ◌+◌, ◌<◌, ◌≤◌, Bool, true, false, not, ◌&&◌, ◌||◌, List, [], ◌∷◌, map, filter, nat_le, Some, refl, sym, ap, ◌∙◌, subst, inl, inr, arith}
use Rattle.std.proofs.lemmas.Bool.{cases_Bool, eqb-true, eqb-false, eq-eqb, ne_eqb, or_parts}
use Rattle.std.specs.List.{AllByRecursion, list_any}
use Rattle.std.proofs.Math.Bool.{or-false}
use Rattle.of_match.specs.declared.key.Key.{Key}
use Rattle.of_match.specs.Key.{key_number}
use Rattle.flow_table.specs.declared.entry.Entry.{Entry}
use Rattle.flow_table.specs.declared.view.ViewRow.{ViewRow}
use Rattle.flow_table.specs.Table.{place_of, AscendsFrom, keys}
use Rattle.flow_table.specs.Change.{asks_notice}
use Rattle.flow_table.specs.Expiry.{end_of, among, by_deadline}
use Rattle.lego_model.specs.Answers.{rows_of_table, rows_of_view}
use Rattle.switch_laws.specs.Shown.{flags_in}
use Rattle.batch_laws.specs.Keys.{Distinct}
use Rattle.flow_table.specs.RowKeys.{RowsAscend}
use Rattle.net_txn.specs.laws.LoseAllLaws.{keep_all, turned}
use Rattle.lego_model.specs.ViewRows.{rows_without, is_asked}
use Rattle.flow_table.specs.Sorted.{without_key}
use Rattle.undo_laws.specs.Removal.{is_key_among}

-- ---- Lists

pub all-both : {X : Type 0} (P Q R : X → Type 0) → ((x : X) → P x → Q x → R x) → (xs : List X) → AllByRecursion P xs → AllByRecursion Q xs → AllByRecursion R xs
all-both P Q R both [] h g = tt
all-both P Q R both (x ∷ xs) h g = (both x h.0 g.0, all-both P Q R both xs h.1 g.1)

pub all-filter : {X : Type 0} (P R : X → Type 0) (test : X → Bool) → ((x : X) → P x → test x ≡ true → R x) → (xs : List X) → AllByRecursion P xs → AllByRecursion R (filter test xs)
all-filter P R test both [] h = tt
all-filter P R test both (x ∷ xs) h =
    elim (cases_Bool (test x)) [
      | inl passes ↦ rw passes (both x h.0 passes, all-filter P R test both xs h.1)
      | inr fails ↦ rw fails (all-filter P R test both xs h.1)
    ]

pub all-map : {X Y : Type 0} (P : X → Type 0) (R : Y → Type 0) (f : X → Y) → ((x : X) → P x → R (f x)) → (xs : List X) → AllByRecursion P xs → AllByRecursion R (map f xs)
all-map P R f each [] h = tt
all-map P R f each (x ∷ xs) h = (each x h.0, all-map P R f each xs h.1)

all-among : (P : Entry → Type 0) (e : Entry) → P e → (es : List Entry) → AllByRecursion P es → AllByRecursion P (among e es)
all-among P e here [] h = (here, tt)
all-among P e here (f ∷ fs) h =
    elim (cases_Bool (nat_le (end_of e) (end_of f))) [
      | inl first ↦ rw first (here, h)
      | inr later ↦ rw later (h.0, all-among P e here fs h.1)
    ]

pub all-by_deadline : (P : Entry → Type 0) (es : List Entry) → AllByRecursion P es → AllByRecursion P (by_deadline es)
unfolding by_deadline
all-by_deadline P [] h = tt
all-by_deadline P (e ∷ es) h = all-among P e h.0 (by_deadline es) (all-by_deadline P es h.1)

pub filter-alike : {X : Type 0} (p q : X → Bool) (xs : List X) → AllByRecursion (λ x. p x ≡ q x) xs → filter p xs ≡ filter q xs
filter-alike p q [] h = refl
filter-alike p q (x ∷ xs) h =
    elim (cases_Bool (q x)) [
      | inl passes ↦ rw (h.0 ∙ passes, passes) (ap (λ ys. x ∷ ys) (filter-alike p q xs h.1))
      | inr fails ↦ rw (h.0 ∙ fails, fails) (filter-alike p q xs h.1)
    ]

-- ---- Keys

or-swap : (a b c : Bool) → (a || (b || c)) ≡ (b || (a || c))
or-swap true true c = refl
or-swap true false c = refl
or-swap false b c = refl

has-among : (k : Key) (e : Entry) (es : List Entry) → is_key_among (keys (among e es)) k ≡ is_key_among (keys (e ∷ es)) k
has-among k e [] = refl
has-among k e (f ∷ fs) =
    elim (cases_Bool (nat_le (end_of e) (end_of f))) [
      | inl first ↦ rw first refl
      | inr later ↦
          rw later
          (ap (λ (b : Bool). (key_number f.key == key_number k) || b) (has-among k e fs)
          ∙ or-swap (key_number f.key == key_number k) (key_number e.key == key_number k) (is_key_among (keys fs) k))
    ]

pub has-by_deadline : (k : Key) (es : List Entry) → is_key_among (keys (by_deadline es)) k ≡ is_key_among (keys es) k
unfolding by_deadline
has-by_deadline k [] = refl
has-by_deadline k (e ∷ es) = has-among k e (by_deadline es) ∙ ap (λ (b : Bool). (key_number e.key == key_number k) || b) (has-by_deadline k es)

distinct-among : (e : Entry) (es : List Entry) → is_key_among (keys es) e.key ≡ false → Distinct (keys es) → Distinct (keys (among e es))
distinct-among e [] new h = (refl, tt)
distinct-among e (f ∷ fs) new h =
    elim (cases_Bool (nat_le (end_of e) (end_of f))) [
      | inl first ↦ rw first (new, h)
      | inr later ↦
          let n = or_parts (key_number f.key == key_number e.key) (is_key_among (keys fs) e.key) new in
          let apart : (key_number e.key == key_number f.key) ≡ false = ne_eqb (key_number e.key) (key_number f.key) (λ same. eqb-false (key_number f.key) (key_number e.key) n.0 (sym same)) in
          rw later (has-among f.key e fs ∙ ap (λ (b : Bool). b || is_key_among (keys fs) f.key) apart ∙ h.0, distinct-among e fs n.1 h.1)
    ]

pub distinct-by_deadline : (es : List Entry) → Distinct (keys es) → Distinct (keys (by_deadline es))
unfolding by_deadline
distinct-by_deadline [] h = tt
distinct-by_deadline (e ∷ es) h = distinct-among e (by_deadline es) (has-by_deadline e.key es ∙ h.0) (distinct-by_deadline es h.1)

-- ---- Keys of entries in key order

has-below : (test : Entry → Bool) (k : Key) (least : ℕ) (es : List Entry) → AscendsFrom least es → key_number k < least → is_key_among (keys (filter test es)) k ≡ false
has-below test k least [] h lt = refl
has-below test k least (e ∷ es) h lt =
    let apart : (key_number e.key == key_number k) ≡ false = ne_eqb (key_number e.key) (key_number k) (λ same. omega (arith, same, h.0, lt)) in
    let rest = has-below test k (place_of e + 1) es h.1 (omega (arith, h.0, lt)) in
    elim (cases_Bool (test e)) [
      | inl passes ↦ rw passes (rw apart rest)
      | inr fails ↦ rw fails rest
    ]

pub distinct-filter : (test : Entry → Bool) (least : ℕ) (es : List Entry) → AscendsFrom least es → Distinct (keys (filter test es))
distinct-filter test least [] h = tt
distinct-filter test least (e ∷ es) h =
    elim (cases_Bool (test e)) [
      | inl passes ↦ rw passes (has-below test e.key (place_of e + 1) es h.1 (omega arith), distinct-filter test (place_of e + 1) es h.1)
      | inr fails ↦ rw fails (distinct-filter test (place_of e + 1) es h.1)
    ]

all-above : (least : ℕ) (es : List Entry) → AscendsFrom least es → AllByRecursion (λ e. least ≤ place_of e) es
all-above least [] h = tt
all-above least (e ∷ es) h =
    (h.0, all-both (λ x. place_of e + 1 ≤ place_of x) (λ x. place_of e + 1 ≤ place_of x) (λ x. least ≤ place_of x) (λ x low low2. omega (arith, low, h.0)) es (all-above (place_of e + 1) es h.1) (all-above (place_of e + 1) es h.1))

-- the key of an entry is among those that pass exactly where the entry passes
pub has-filter : (test : Entry → Bool) (least : ℕ) (es : List Entry) → AscendsFrom least es → AllByRecursion (λ e. is_key_among (keys (filter test es)) e.key ≡ test e) es
has-filter test least [] h = tt
has-filter test least (e ∷ es) h =
    let rest = has-filter test (place_of e + 1) es h.1 in
    let above = all-above (place_of e + 1) es h.1 in
    elim (cases_Bool (test e)) [
      | inl passes ↦
          let same : filter test (e ∷ es) ≡ e ∷ filter test es = rw passes refl in
          subst (λ (xs : List Entry). AllByRecursion (λ x. is_key_among (keys xs) x.key ≡ test x) (e ∷ es)) (sym same) (
            ap (λ (b : Bool). b || is_key_among (keys (filter test es)) e.key) (eq-eqb (key_number e.key) (key_number e.key) refl) ∙ sym passes,
            all-both (λ x. is_key_among (keys (filter test es)) x.key ≡ test x) (λ x. place_of e + 1 ≤ place_of x)
                (λ x. is_key_among (keys (e ∷ filter test es)) x.key ≡ test x)
                (λ x has low. ap (λ (b : Bool). b || is_key_among (keys (filter test es)) x.key) (apart x low) ∙ has) es rest above,
          )
      | inr fails ↦
          let same : filter test (e ∷ es) ≡ filter test es = rw fails refl in
          subst (λ (xs : List Entry). AllByRecursion (λ x. is_key_among (keys xs) x.key ≡ test x) (e ∷ es)) (sym same)
          (has-below test e.key (place_of e + 1) es h.1 (omega arith) ∙ sym fails, rest)
    ]
  where
    apart : (x : Entry) → place_of e + 1 ≤ place_of x → (key_number e.key == key_number x.key) ≡ false
    apart x low = ne_eqb (key_number e.key) (key_number x.key) (λ same. omega (arith, same, low))

-- ---- Rows

filter_twice : (k : Key) (ks : List Key) (rows : List ViewRow) → filter (λ r. not (is_key_among ks r.key)) (without_key k rows) ≡ filter (λ r. not (is_key_among (k ∷ ks) r.key)) rows
filter_twice k ks [] = refl
filter_twice k ks (r ∷ rs) =
    elim (cases_Bool (key_number r.key == key_number k)) [
      | inl gone ↦ rw (gone, turned (key_number k) (key_number r.key) ∙ gone) (filter_twice k ks rs)
      | inr stays ↦ rw (stays, turned (key_number k) (key_number r.key) ∙ stays) (elim (cases_Bool (is_key_among ks r.key)) [
        | inl has ↦ rw has (filter_twice k ks rs)
        | inr new ↦ rw new (ap (λ (xs : List ViewRow). r ∷ xs) (filter_twice k ks rs))
      ])
    ]

pub rows_without-filter : (ks : List Key) (rows : List ViewRow) → rows_without ks rows ≡ filter (λ r. not (is_key_among ks r.key)) rows
rows_without-filter [] rows = sym (keep_all rows)
rows_without-filter (k ∷ ks) rows = rows_without-filter ks (without_key k rows) ∙ filter_twice k ks rows

pub view-filter : (q : Key → Bool) (rows : List ViewRow) → rows_of_view (filter (λ r. q r.key) rows) ≡ filter (λ p. q p.0) (rows_of_view rows)
view-filter q [] = refl
view-filter q (r ∷ rs) =
    elim (cases_Bool (q r.key)) [
      | inl passes ↦ rw passes (ap (λ xs. (r.key, r.actions) ∷ xs) (view-filter q rs))
      | inr fails ↦ rw fails (view-filter q rs)
    ]

pub table-filter : (q : Key → Bool) (es : List Entry) → rows_of_table (filter (λ e. q e.key) es) ≡ filter (λ p. q p.0) (rows_of_table es)
table-filter q [] = refl
table-filter q (e ∷ es) =
    elim (cases_Bool (q e.key)) [
      | inl passes ↦ rw passes (ap (λ xs. (e.key, e.actions) ∷ xs) (table-filter q es))
      | inr fails ↦ rw fails (table-filter q es)
    ]

pub flags-kept : (ks : List Key) (k : Key) (rows : List ViewRow) → is_key_among ks k ≡ false → flags_in (filter (λ r. not (is_key_among ks r.key)) rows) k ≡ flags_in rows k
flags-kept ks k [] new = refl
flags-kept ks k (r ∷ rs) new =
    elim (cases_Bool (key_number r.key == key_number k)) [
      | inl here ↦
          let kept : is_key_among ks r.key ≡ false = ap (λ (n : ℕ). list_any (λ j. key_number j == n) ks) (eqb-true (key_number r.key) (key_number k) here) ∙ new in
          rw kept (rw here refl)
      | inr other ↦ elim (cases_Bool (is_key_among ks r.key)) [
        | inl gone ↦ rw gone (rw other (flags-kept ks k rs new))
        | inr stays ↦ rw stays (rw other (flags-kept ks k rs new))
      ]
    ]

pub rows-ascend : (least : ℕ) (es : List Entry) → AscendsFrom least es → RowsAscend least (rows_of_table es)
rows-ascend least [] h = tt
rows-ascend least (e ∷ es) h = (h.0, rows-ascend (place_of e + 1) es h.1)

asked-below : (k : Key) (least : ℕ) (rows : List ViewRow) → RowsAscend least (rows_of_view rows) → key_number k < least → is_asked k (Some rows) ≡ false
asked-below k least [] h lt = refl
asked-below k least (r ∷ rs) h lt =
    let apart : (key_number r.key == key_number k) ≡ false = ne_eqb (key_number r.key) (key_number k) (λ same. omega (arith, same, h.0, lt)) in
    rw apart (asked-below k (key_number r.key + 1) rs h.1 (omega (arith, h.0, lt)))

-- the owner of a key asked where the flags say so
pub asked-flags : (k : Key) (least : ℕ) (rows : List ViewRow) → RowsAscend least (rows_of_view rows) → is_asked k (Some rows) ≡ asks_notice (flags_in rows k)
asked-flags k least [] h = refl
asked-flags k least (r ∷ rs) h =
    elim (cases_Bool (key_number r.key == key_number k)) [
      | inl here ↦
          let none = asked-below k (key_number r.key + 1) rs h.1 (omega (arith, eqb-true (key_number r.key) (key_number k) here)) in
          rw here (ap (λ (b : Bool). asks_notice r.flags || b) none ∙ or-false (asks_notice r.flags))
      | inr other ↦ rw other (asked-flags k (key_number r.key + 1) rs h.1)
    ]

-- the removal of one key does not disturb another
pub asked-without : (k j : Key) (rows : List ViewRow) → (key_number j == key_number k) ≡ false → is_asked k (Some (without_key j rows)) ≡ is_asked k (Some rows)
asked-without k j [] apart = refl
asked-without k j (r ∷ rs) apart =
    elim (cases_Bool (key_number r.key == key_number j)) [
      | inl gone ↦
          let other : (key_number r.key == key_number k) ≡ false = ap (λ (n : ℕ). n == key_number k) (eqb-true (key_number r.key) (key_number j) gone) ∙ apart in
          rw gone (asked-without k j rs apart ∙ ap (λ (b : Bool). (b && asks_notice r.flags) || is_asked k (Some rs)) (sym other))
      | inr stays ↦ rw stays (ap (λ (b : Bool). (key_number r.key == key_number k && asks_notice r.flags) || b) (asked-without k j rs apart))
    ]
