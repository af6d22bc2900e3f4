-- What follows about the index of a table: it has the keys of the entries, and what an addition or a removal does to both keeps it one.
use Rattle.std.proofs.Common.{◌≡◌, ◌≢◌, ℕ, zero, suc, ◌+◌, ◌<◌, ◌≤◌, Bool, true, false, ◌||◌, nat_lt, List, [], ◌∷◌, length, map, filter, get_or, Option, Some, None, if◌then◌else◌, refl, sym, ap, ◌∙◌, arith, inl, inr}
use Rattle.std.proofs.lemmas.Bool.{cases_lt, lt-ltb, le-ltb, cases_eq, cases_Bool, cond-true, cond-false, or_left, eq-eqb, ne_eqb}
use Rattle.std.proofs.lemmas.List.{get_or_default}
use Rattle.std.proofs.lemmas.List.Elements.{Contains-append_right}
use Rattle.std.proofs.lemmas.Option.{same_Some}
use Rattle.std.specs.List.{Contains, list_any}
use Rattle.std.specs.Option.{option_map, is_some}
use Rattle.of_match.specs.declared.key.Key.{Key}
use Rattle.of_match.specs.Key.{key_number}
use Rattle.of_wire.specs.declared.bodies.FlowMod.{FlowMod}
use Rattle.flow_table.specs.Change.{modified, means}
use Rattle.flow_table.specs.declared.entry.Entry.{Entry}
use Rattle.flow_table.specs.Table.{place_of, has_key, keys, entry_at, AscendsFrom, IsTable, with_entry}
use Rattle.flow_table.specs.Sorted.{Ascends, at_place, with_item, without_place}
use Rattle.flow_table.specs.laws.TableLaws.{key_number-get, entry_at-same, entry_at-other, entry_at-with_entry-same, entry_at-with_entry-other, entry_at-filter, if_passes, IsTable-with_entry, IsTable-filter, filter-takes, filter-skips, length-filter-le}
use Rattle.flow_table.specs.laws.HitLaws.{IsTable-keys}
use Rattle.flow_table.specs.laws.SortedLaws.{Ascends-with_item, Ascends-without_place, at_place-same, at_place-other, at_place-below, at_place-found, at_place-with_item-same, at_place-with_item-other, at_place-without-same, at_place-without-other}
use Rattle.tuple_index.specs.Groups.{spot, IsIndex, IsIndexed}
use Rattle.tuple_index.specs.laws.OrderLaws.{key_number-from_spot, spot-from_key_number}

abbrev key_in_entry : Entry → Key
key_in_entry e = e.key

-- ---- What is found in a list in order.

pub Contains-at_place : {X : Type 0} (place : X → ℕ) (n : ℕ) (xs : List X) (x : X) → at_place place n xs ≡ Some x → Contains xs x
Contains-at_place place n [] x some = absurd cc
Contains-at_place place n (y ∷ ys) x some =
    elim (cases_eq (place y) n) [
      | inl here ↦ (0, omega arith, same_Some y x (sym (at_place-same place n y ys here) ∙ some))
      | inr there ↦ Contains-append_right (y ∷ []) ys x (Contains-at_place place n ys x (sym (at_place-other place n y ys there) ∙ some))
    ]

pub at_place-Contains : {X : Type 0} (place : X → ℕ) (xs : List X) (x : X) → Ascends place 0 xs → Contains xs x → at_place place (place x) xs ≡ Some x
at_place-Contains place xs x h (i, within, is) =
    at_place-found place xs (place x) 0 i x h (within, λ d. ap place (get_or_default xs i d x within ∙ is)) ∙ ap Some is

pub Contains-entry_at : (k : Key) (es : List Entry) (e : Entry) → entry_at k es ≡ Some e → Contains es e
Contains-entry_at k [] e some = absurd cc
Contains-entry_at k (f ∷ fs) e some =
    elim (cases_eq (place_of f) (key_number k)) [
      | inl here ↦ (0, omega arith, same_Some f e (sym (entry_at-same k f fs here) ∙ some))
      | inr there ↦ Contains-append_right (f ∷ []) fs e (Contains-entry_at k fs e (sym (entry_at-other k f fs there) ∙ some))
    ]

pub place-entry_at : (k : Key) (es : List Entry) (e : Entry) → entry_at k es ≡ Some e → place_of e ≡ key_number k
place-entry_at k [] e some = absurd cc
place-entry_at k (f ∷ fs) e some =
    elim (cases_eq (place_of f) (key_number k)) [
      | inl here ↦ ap place_of (sym (same_Some f e (sym (entry_at-same k f fs here) ∙ some))) ∙ here
      | inr there ↦ place-entry_at k fs e (sym (entry_at-other k f fs there) ∙ some)
    ]

entry_at-get : (es : List Entry) (least i : ℕ) (d : Entry) → AscendsFrom least es → i < length es → entry_at (get_or es i d).key es ≡ Some (get_or es i d)
entry_at-get [] least i d h within = absurd (omega arith)
entry_at-get (f ∷ fs) least zero d h within = entry_at-same f.key f fs refl
entry_at-get (f ∷ fs) least (suc i) d h within =
    let above = key_number-get fs (place_of f + 1) i d h.1 (omega arith) in
    entry_at-other (get_or fs i d).key f fs (omega arith) ∙ entry_at-get fs (place_of f + 1) i d h.1 (omega arith)

pub entry_at-place : (es : List Entry) (e : Entry) (i : ℕ) → IsTable es → i < length es → get_or es i e ≡ e → entry_at e.key es ≡ Some e
entry_at-place es e i h within is = ap (λ (f : Entry). entry_at f.key es) (sym is) ∙ entry_at-get es 0 i e h within ∙ ap Some is

pub entry_at-number : (k l : Key) (es : List Entry) → key_number k ≡ key_number l → entry_at k es ≡ entry_at l es
entry_at-number k l [] same = refl
entry_at-number k l (f ∷ fs) same =
    elim (cases_eq (place_of f) (key_number k)) [
      | inl here ↦ entry_at-same k f fs here ∙ sym (entry_at-same l f fs (here ∙ same))
      | inr there ↦ entry_at-other k f fs there ∙ entry_at-number k l fs same ∙ sym (entry_at-other l f fs (λ is. there (is ∙ sym same)))
    ]

-- ---- An index and its entries

pub Contains-key : (ks : List Key) (es : List Entry) (e : Entry) → IsIndex ks es → IsTable es → Contains es e → Contains ks e.key
Contains-key ks es e index table (i, within, is) =
    Contains-at_place spot (spot e.key) ks e.key (index.each e.key ∙ ap (option_map key_in_entry) (entry_at-place es e i table within is))

of_map : (o : Option Entry) (k : Key) → option_map key_in_entry o ≡ Some k → (e : Entry) × (o ≡ Some e) × (e.key ≡ k)
of_map None k some = absurd cc
of_map (Some e) k some = (e, refl, same_Some e.key k some)

pub entry-of_key : (ks : List Key) (es : List Entry) (k : Key) → IsIndex ks es → Contains ks k → (e : Entry) × (entry_at k es ≡ Some e) × (e.key ≡ k)
entry-of_key ks es k index among = of_map (entry_at k es) k (sym (index.each k) ∙ at_place-Contains spot ks k index.in_order among)

-- ---- An index stays one.

found_key : (k : Key) (es fs : List Entry) → keys es ≡ keys fs → option_map key_in_entry (entry_at k es) ≡ option_map key_in_entry (entry_at k fs)
found_key k [] [] same = refl
found_key k [] (f ∷ fs) same = absurd cc
found_key k (e ∷ es) [] same = absurd cc
found_key k (e ∷ es) (f ∷ fs) same =
    let here : e.key ≡ f.key = cc in
    let rest : keys es ≡ keys fs = cc in
    elim (cases_eq (place_of e) (key_number k)) [
      | inl is ↦ ap (option_map key_in_entry) (entry_at-same k e es is) ∙ ap Some here
          ∙ sym (ap (option_map key_in_entry) (entry_at-same k f fs (sym (ap key_number here) ∙ is)))
      | inr other ↦ ap (option_map key_in_entry) (entry_at-other k e es other) ∙ found_key k es fs rest
          ∙ sym (ap (option_map key_in_entry) (entry_at-other k f fs (λ is. other (ap key_number here ∙ is))))
    ]

-- with other entries of the same keys
pub IsIndex-keys : (ks : List Key) (es fs : List Entry) → keys es ≡ keys fs → IsIndex ks es → IsIndex ks fs
IsIndex-keys ks es fs same index = record {
  in_order = index.in_order;
  each = λ k. index.each k ∙ found_key k es fs same;
}

-- with one more
pub IsIndex-with_entry : (ks : List Key) (es : List Entry) (e : Entry) → IsIndex ks es → IsIndex (with_item spot e.key ks) (with_entry e es)
IsIndex-with_entry ks es e index = record {
  in_order = Ascends-with_item spot ks e.key index.in_order;
  each = λ k. elim (cases_eq (place_of e) (key_number k)) [
    | inl here ↦
        ap (λ n. at_place spot n (with_item spot e.key ks)) (spot-from_key_number k e.key (sym here))
        ∙ at_place-with_item-same spot ks e.key
        ∙ ap (option_map key_in_entry) (sym (entry_at-with_entry-same es e) ∙ entry_at-number e.key k (with_entry e es) here)
    | inr there ↦
        at_place-with_item-other spot ks e.key (spot k) (λ is. there (key_number-from_spot e.key k is))
        ∙ index.each k ∙ ap (option_map key_in_entry) (sym (entry_at-with_entry-other es e k there))
  ];
}

-- without one
pub IsIndex-without : (ks : List Key) (es : List Entry) (l : Key) (test : Entry → Bool) → IsIndex ks es → IsTable es → entry_at l (filter test es) ≡ None
    → ((e : Entry) → place_of e ≢ key_number l → test e ≡ true) → IsIndex (without_place spot (spot l) ks) (filter test es)
IsIndex-without ks es l test index table gone others = record {
  in_order = Ascends-without_place spot (spot l) ks index.in_order;
  each = λ k. elim (cases_eq (key_number l) (key_number k)) [
    | inl here ↦
        ap (λ n. at_place spot n (without_place spot (spot l) ks)) (spot-from_key_number k l (sym here))
        ∙ at_place-without-same spot (spot l) ks
        ∙ ap (option_map key_in_entry) (sym gone ∙ entry_at-number l k (filter test es) here)
    | inr there ↦
        at_place-without-other spot (spot l) (spot k) ks (λ is. there (key_number-from_spot l k is))
        ∙ index.each k ∙ ap (option_map key_in_entry) (sym (entry_at-filter test es k table ∙ passes_all (entry_at k es) (λ e is. others e (λ same. there (sym same ∙ place-entry_at k es e is)))))
  ];
} where
  passes_all : (o : Option Entry) → ((e : Entry) → o ≡ Some e → test e ≡ true) → if_passes test o ≡ o
  passes_all None all = refl
  passes_all (Some e) all = cond-true (test e) (Some e) None (all e refl)

-- ---- Where entries go, the keys go that goes entry has.

-- an item if it is kept
abbrev pub if_kept : {X : Type 0} → (X → Bool) → Option X → Option X
if_kept keep None = None
if_kept keep (Some x) = if keep x then Some x else None

ascends-kept : {X : Type 0} (place : X → ℕ) (keep : X → Bool) (xs : List X) (low least : ℕ) → low ≤ least → Ascends place least xs → Ascends place low (filter keep xs)
ascends-kept place keep [] low least le h = tt
ascends-kept place keep (x ∷ xs) low least le h =
    elim (cases_Bool (keep x)) [
      | inl stays ↦ rw (cond-true (keep x) (x ∷ filter keep xs) (filter keep xs) stays) (omega (arith, h.0), ascends-kept place keep xs (place x + 1) (place x + 1) (omega arith) h.1)
      | inr goes ↦ rw (cond-false (keep x) (x ∷ filter keep xs) (filter keep xs) goes) (ascends-kept place keep xs low (place x + 1) (omega (arith, h.0)) h.1)
    ]

at_place-kept : {X : Type 0} (place : X → ℕ) (keep : X → Bool) (n : ℕ) (xs : List X) (least : ℕ) → Ascends place least xs → at_place place n (filter keep xs) ≡ if_kept keep (at_place place n xs)
at_place-kept place keep n [] least h = refl
at_place-kept place keep n (x ∷ xs) least h =
    let rest = at_place-kept place keep n xs (place x + 1) h.1 in
    elim (cases_eq (place x) n) [
      | inl here ↦ rw (at_place-same place n x xs here) (elim (cases_Bool (keep x)) [
        | inl stays ↦ rw (cond-true (keep x) (x ∷ filter keep xs) (filter keep xs) stays) (at_place-same place n x (filter keep xs) here ∙ sym (cond-true (keep x) (Some x) None stays))
        | inr goes ↦ rw (cond-false (keep x) (x ∷ filter keep xs) (filter keep xs) goes)
            (at_place-below place (filter keep xs) n (place x + 1) (ascends-kept place keep xs (place x + 1) (place x + 1) (omega arith) h.1) (omega arith) ∙ sym (cond-false (keep x) (Some x) None goes))
      ])
      | inr there ↦ rw (at_place-other place n x xs there) (elim (cases_Bool (keep x)) [
        | inl stays ↦ rw (cond-true (keep x) (x ∷ filter keep xs) (filter keep xs) stays) (at_place-other place n x (filter keep xs) there ∙ rest)
        | inr goes ↦ rw (cond-false (keep x) (x ∷ filter keep xs) (filter keep xs) goes) rest
      ])
    ]

-- a key stays exactly where its entry passes
kept_key : (keep : Key → Bool) (test : Entry → Bool) (o : Option Entry) → ((e : Entry) → o ≡ Some e → keep e.key ≡ test e) → if_kept keep (option_map key_in_entry o) ≡ option_map key_in_entry (if_passes test o)
kept_key keep test None alike = refl
kept_key keep test (Some e) alike =
    elim (cases_Bool (test e)) [
      | inl stays ↦ cond-true (keep e.key) (Some e.key) None (alike e refl ∙ stays) ∙ ap (option_map key_in_entry) (sym (cond-true (test e) (Some e) None stays))
      | inr goes ↦ cond-false (keep e.key) (Some e.key) None (alike e refl ∙ goes) ∙ ap (option_map key_in_entry) (sym (cond-false (test e) (Some e) None goes))
    ]

passes-test : (test : Entry → Bool) (e : Entry) → is_some (if_passes test (Some e)) ≡ test e
passes-test test e =
    elim (cases_Bool (test e)) [
      | inl stays ↦ ap is_some (cond-true (test e) (Some e) None stays) ∙ sym stays
      | inr goes ↦ ap is_some (cond-false (test e) (Some e) None goes) ∙ sym goes
    ]

pub IsIndex-filter : (ks : List Key) (es : List Entry) (test : Entry → Bool) (keep : Key → Bool) → IsIndex ks es → IsTable es
    → ((k : Key) → keep k ≡ is_some (entry_at k (filter test es))) → IsIndex (filter keep ks) (filter test es)
IsIndex-filter ks es test keep index table keeps = record {
  in_order = ascends-kept spot keep ks 0 0 (omega arith) index.in_order;
  each = λ k.
      at_place-kept spot keep (spot k) ks 0 index.in_order
      ∙ ap (if_kept keep) (index.each k)
      ∙ kept_key keep test (entry_at k es) (λ e is.
      keeps e.key
      ∙ ap is_some (entry_at-number e.key k (filter test es) (place-entry_at k es e is) ∙ entry_at-filter test es k table ∙ ap (if_passes test) is)
      ∙ passes-test test e)
      ∙ ap (option_map key_in_entry) (sym (entry_at-filter test es k table));
}

-- ---- A table and its index

pub IsIndexed-keys : (ks : List Key) (es fs : List Entry) → keys es ≡ keys fs → IsIndexed ks es → IsIndexed ks fs
IsIndexed-keys ks es fs same h = record {
  in_order = IsTable-keys es fs same h.in_order;
  index = IsIndex-keys ks es fs same h.index;
}

pub IsIndexed-with_entry : (ks : List Key) (es : List Entry) (e : Entry) → IsIndexed ks es → IsIndexed (with_item spot e.key ks) (with_entry e es)
IsIndexed-with_entry ks es e h = record {
  in_order = IsTable-with_entry es e h.in_order;
  index = IsIndex-with_entry ks es e h.index;
}

pub IsIndexed-without : (ks : List Key) (es : List Entry) (l : Key) (test : Entry → Bool) → IsIndexed ks es → entry_at l (filter test es) ≡ None
    → ((e : Entry) → place_of e ≢ key_number l → test e ≡ true) → IsIndexed (without_place spot (spot l) ks) (filter test es)
IsIndexed-without ks es l test h gone others = record {
  in_order = IsTable-filter test es h.in_order;
  index = IsIndex-without ks es l test h.index h.in_order gone others;
}

any-entry_at : (k : Key) (es : List Entry) (o : Option Entry) → entry_at k es ≡ o → list_any (has_key k) es ≡ is_some o
any-entry_at k [] o is = ap is_some is
any-entry_at k (f ∷ fs) o is =
    elim (cases_eq (place_of f) (key_number k)) [
      | inl here ↦ or_left (has_key k f) (list_any (has_key k) fs) (eq-eqb (place_of f) (key_number k) here) ∙ ap is_some (sym (entry_at-same k f fs here) ∙ is)
      | inr there ↦ ap (λ b. b || list_any (has_key k) fs) (ne_eqb (place_of f) (key_number k) there) ∙ any-entry_at k fs o (sym (entry_at-other k f fs there) ∙ is)
    ]

-- without the keys that no entry has
pub IsIndexed-filter : (ks : List Key) (es : List Entry) (test : Entry → Bool) → IsIndexed ks es → IsIndexed (filter (λ k. list_any (has_key k) (filter test es)) ks) (filter test es)
IsIndexed-filter ks es test h = record {
  in_order = IsTable-filter test es h.in_order;
  index = IsIndex-filter ks es test (λ k. list_any (has_key k) (filter test es)) h.index h.in_order (λ k. any-entry_at k (filter test es) (entry_at k (filter test es)) refl);
}

filter-whole : (test : Entry → Bool) (es : List Entry) → length es ≤ length (filter test es) → filter test es ≡ es
filter-whole test [] whole = refl
filter-whole test (f ∷ fs) whole =
    elim (cases_Bool (test f)) [
      | inl stays ↦
          let is = filter-takes test f fs stays in
          let many = ap length is in
          is ∙ ap (λ xs. f ∷ xs) (filter-whole test fs (omega arith))
      | inr goes ↦
          let is = filter-skips test f fs goes in
          let many = ap length is in
          let few = length-filter-le test fs in
          absurd (omega arith)
    ]

-- where none goes, the index stays
pub IsIndexed-whole : (ks : List Key) (es : List Entry) (test : Entry → Bool) → IsIndexed ks es → length es ≤ length (filter test es) → IsIndexed ks (filter test es)
IsIndexed-whole ks es test h whole = rw (filter-whole test es whole) h

-- what stays of a table, and of its index where some entry went
pub IsIndexed-removed : (ks : List Key) (es : List Entry) (test : Entry → Bool) → IsIndexed ks es
    → IsIndexed (if nat_lt (length (filter test es)) (length es) then filter (λ k. list_any (has_key k) (filter test es)) ks else ks) (filter test es)
IsIndexed-removed ks es test h =
    elim (cases_lt (length (filter test es)) (length es)) [
      | inl less ↦ rw (lt-ltb (length (filter test es)) (length es) less) (IsIndexed-filter ks es test h)
      | inr whole ↦ rw (le-ltb (length (filter test es)) (length es) whole) (IsIndexed-whole ks es test h whole)
    ]

key_of-modified : (pass : Bool) (m : FlowMod) (e : Entry) → (if pass then record e { actions = m.actions } else e).key ≡ e.key
key_of-modified true m e = refl
key_of-modified false m e = refl

keys-modified : (m : FlowMod) (es : List Entry) → keys (map (modified m) es) ≡ keys es
keys-modified m [] = refl
keys-modified m (e ∷ es) = rw (key_of-modified (means m e) m e) (ap (λ ks. e.key ∷ ks) (keys-modified m es))

pub IsIndexed-modified : (ks : List Key) (m : FlowMod) (es : List Entry) → IsIndexed ks es → IsIndexed ks (map (modified m) es)
IsIndexed-modified ks m es h = IsIndexed-keys ks es (map (modified m) es) (sym (keys-modified m es)) h

pub IsIndexed-reindexed : (ks new : List Key) (es now seen : List Entry) (before : ℕ) (test : Entry → Bool) → IsIndexed ks es → now ≡ filter test es → seen ≡ now → before ≡ length es
    → new ≡ (if nat_lt (length seen) before then filter (λ k. list_any (has_key k) seen) ks else ks) → IsIndexed new now
IsIndexed-reindexed ks new es now seen before test h is same many index = rw (index, same, is, many) (IsIndexed-removed ks es test h)
