-- What follows about removals: a removal takes exactly its key away, is never refused, and removals of all keys that were added
-- give back the earlier table.
use Rattle.std.proofs.Common.{◌≡◌, ◌≢◌, ◌==◌, ℕ, Bool, true, false, not, ◌&&◌, ◌||◌, List, [], ◌∷◌, ◌++◌, reverse, map, Option, Some, None, refl, sym, ap, ap₂, ◌∙◌, inl, inr}
use Rattle.std.proofs.lemmas.Bool.{cases_eq, cases_Bool, eq-eqb, ne_eqb, eqb-true, eqb-false, or_cases, or_parts, or_left, or_right, or_from}
use Rattle.std.proofs.lemmas.List.{reverse-append}
use Rattle.of_match.specs.declared.key.Key.{Key}
use Rattle.of_match.specs.Key.{key_number}
use Rattle.of_wire.specs.declared.bodies.FlowMod.{FlowMod}
use Rattle.flow_table.specs.declared.entry.Entry.{Entry}
use Rattle.flow_table.specs.Table.{TableState, place_of, has_key, entry_at, IsTable}
use Rattle.flow_table.specs.laws.TableLaws.{if_passes, IsTable-filter, entry_at-filter, entry_at-with_entry-other}
use Rattle.flow_table.specs.Change.{key_in, is_strict, is_modify, is_delete, describes, sends_to, deletes, adds, asks_notice, new_entry, refusal, notice, notices_of, entries_after, changed, change, tells}
use Rattle.flow_table.specs.laws.ChangeLaws.{describes-strict, notices_of-delete, entries_after-adds, entries_after-delete, refusal-delete}
use Rattle.undo_laws.specs.laws.LookupLaws.{at_key, listed, entry_at-same_place, entry_at-key_number, table_from_lookups, filter-same, filter-at_key}
use Rattle.undo_laws.specs.Removal.{without, without_all, IsRemoval, AreRemovals, removal_notices, after_all, is_key_among, OnlyAdded}
use Rattle.std.proofs.Math.Bool.{or-false}

-- ---- A table without a key

pub IsTable-without : (k : Key) (es : List Entry) → IsTable es → IsTable (without k es)
IsTable-without k es is = IsTable-filter (λ e. not (has_key k e)) es is

not_passes : (k l : Key) (o : Option Entry) → ((e : Entry) → o ≡ Some e → place_of e ≡ key_number l) → key_number k ≡ key_number l → if_passes (λ e. not (has_key k e)) o ≡ None
not_passes k l None at same = refl
not_passes k l (Some e) at same = rw (eq-eqb (place_of e) (key_number k) (at e refl ∙ sym same)) refl

passes_other : (k l : Key) (o : Option Entry) → ((e : Entry) → o ≡ Some e → place_of e ≡ key_number l) → key_number k ≢ key_number l → if_passes (λ e. not (has_key k e)) o ≡ o
passes_other k l None at other = refl
passes_other k l (Some e) at other = rw (ne_eqb (place_of e) (key_number k) (λ same. other (sym same ∙ at e refl))) refl

pub entry_at-without-same : (k l : Key) (es : List Entry) → IsTable es → key_number k ≡ key_number l → entry_at l (without k es) ≡ None
entry_at-without-same k l es is same =
    entry_at-filter (λ e. not (has_key k e)) es l is ∙ not_passes k l (entry_at l es) (entry_at-key_number es l) same

pub entry_at-without-other : (k l : Key) (es : List Entry) → IsTable es → key_number k ≢ key_number l → entry_at l (without k es) ≡ entry_at l es
entry_at-without-other k l es is other =
    entry_at-filter (λ e. not (has_key k e)) es l is ∙ passes_other k l (entry_at l es) (entry_at-key_number es l) other

-- ---- One removal

removal-strict : (k : Key) (m : FlowMod) → IsRemoval k m → is_strict m ≡ true
removal-strict k m r = rw r.command refl

removal-is_delete : (k : Key) (m : FlowMod) → IsRemoval k m → is_delete m ≡ true
removal-is_delete k m r = rw r.command refl

removal-is_modify : (k : Key) (m : FlowMod) → IsRemoval k m → is_modify m ≡ false
removal-is_modify k m r = rw r.command refl

removal-adds : (k : Key) (m : FlowMod) (es : List Entry) → IsRemoval k m → adds m es ≡ false
unfolding adds
removal-adds k m es r = rw r.command refl

sends_anywhere : (m : FlowMod) (e : Entry) → m.out_port ≡ 0xffff → sends_to m.out_port e.actions ≡ true
unfolding sends_to
sends_anywhere m e none = rw none refl

removal-deletes : (k : Key) (m : FlowMod) → IsRemoval k m → (e : Entry) → deletes m e ≡ has_key k e
removal-deletes k m r e =
    let at : describes m e.key ≡ has_key k e = describes-strict m e.key (removal-strict k m r) ∙ ap (λ l. place_of e == key_number l) r.key in
    rw (at, sends_anywhere m e r.out_port) (and_true (has_key k e))
  where
    and_true : (b : Bool) → (b && true) ≡ b
    and_true true = refl
    and_true false = refl

pub removal-entries : (now serial : ℕ) (k : Key) (m : FlowMod) (es : List Entry) → IsRemoval k m → entries_after now serial m es ≡ without k es
removal-entries now serial k m es r =
    entries_after-delete now serial m es (removal-adds k m es r) (removal-is_modify k m r)
    ∙ filter-same (λ e. not (deletes m e)) (λ e. not (has_key k e)) (λ e. ap not (removal-deletes k m r e)) es

-- it takes the entry of its key away, and nothing else
pub removal-changed : (now : ℕ) (k : Key) (m : FlowMod) (t : TableState) → IsRemoval k m → changed now m t ≡ record t { entries = without k t.entries }
unfolding changed
removal-changed now k m t r = rw (removal-entries now t.next k m t.entries r, removal-adds k m t.entries r) refl

pub removal-refusal : (cap : ℕ) (k : Key) (m : FlowMod) (es : List Entry) → IsRemoval k m → refusal cap m es ≡ None
removal-refusal cap k m es r = refusal-delete cap m es (removal-is_delete k m r)

pub removal-change : (cap now : ℕ) (k : Key) (m : FlowMod) (t : TableState) → IsRemoval k m → change cap now m t ≡ record t { entries = without k t.entries }
unfolding change
removal-change cap now k m t r = rw (removal-refusal cap k m t.entries r) (removal-changed now k m t r)

told : (now : ℕ) (o : Option Entry) → map (notice 2 now) (listed (if_passes (λ e. asks_notice e.flags) o)) ≡ removal_notices now o
told now None = refl
told now (Some e) = elim (cases_Bool (asks_notice e.flags)) [
  | inl asks ↦ rw asks refl
  | inr silent ↦ rw silent refl
]

-- its notice is that of the entry, if that is there and asks for one
pub removal-notices : (now : ℕ) (k : Key) (m : FlowMod) (es : List Entry) → IsTable es → IsRemoval k m → notices_of now m es ≡ removal_notices now (entry_at k es)
removal-notices now k m es is r =
    notices_of-delete now m es (removal-is_delete k m r)
    ∙ ap (map (notice 2 now)) (filter-same (tells m) (at_key k (λ e. asks_notice e.flags)) (λ e. ap (λ b. b && asks_notice e.flags) (removal-deletes k m r e)) es
    ∙ filter-at_key k (λ e. asks_notice e.flags) es is)
    ∙ told now (entry_at k es)

-- ---- Removals one after another

after-removals : (now : ℕ) (ks : List Key) (ms : List FlowMod) (t : TableState) → AreRemovals ks ms → after_all now ms t ≡ record t { entries = without_all ks t.entries }
unfolding after_all
after-removals now [] [] t are = refl
after-removals now [] (m ∷ ms) t are = absurd are
after-removals now (k ∷ ks) [] t are = absurd are
after-removals now (k ∷ ks) (m ∷ ms) t are =
    ap (after_all now ms) (removal-changed now k m t are.0) ∙ after-removals now ks ms (record t { entries = without k t.entries }) are.1

IsTable-without_all : (ks : List Key) (es : List Entry) → IsTable es → IsTable (without_all ks es)
IsTable-without_all [] es is = is
IsTable-without_all (k ∷ ks) es is = IsTable-without_all ks (without k es) (IsTable-without k es is)

without_all-none : (ks : List Key) (l : Key) (es : List Entry) → IsTable es → entry_at l es ≡ None → entry_at l (without_all ks es) ≡ None
without_all-none [] l es is none = none
without_all-none (k ∷ ks) l es is none =
    without_all-none ks l (without k es) (IsTable-without k es is) (elim (cases_eq (key_number k) (key_number l)) [
      | inl same ↦ entry_at-without-same k l es is same
      | inr other ↦ entry_at-without-other k l es is other ∙ none
    ])

pub without_all-among : (ks : List Key) (l : Key) (es : List Entry) → IsTable es → is_key_among ks l ≡ true → entry_at l (without_all ks es) ≡ None
without_all-among [] l es is among = absurd cc
without_all-among (k ∷ ks) l es is among =
    elim (cases_eq (key_number k) (key_number l)) [
      | inl same ↦ without_all-none ks l (without k es) (IsTable-without k es is) (entry_at-without-same k l es is same)
      | inr other ↦ without_all-among ks l (without k es) (IsTable-without k es is)
          (sym (ap (λ b. b || is_key_among ks l) (ne_eqb (key_number k) (key_number l) other)) ∙ among)
    ]

pub without_all-others : (ks : List Key) (l : Key) (es : List Entry) → IsTable es → is_key_among ks l ≡ false → entry_at l (without_all ks es) ≡ entry_at l es
without_all-others [] l es is among = refl
without_all-others (k ∷ ks) l es is among =
    let parts = or_parts (key_number k == key_number l) (is_key_among ks l) among in
    without_all-others ks l (without k es) (IsTable-without k es is) parts.1
    ∙ entry_at-without-other k l es is (eqb-false (key_number k) (key_number l) parts.0)

-- the keys that were added, taken away in any order, leave the earlier table
pub without_added : (ks ls : List Key) (before after : List Entry) → IsTable before → IsTable after → OnlyAdded ks before after → ((k : Key) → is_key_among ls k ≡ is_key_among ks k) → without_all ls after ≡ before
without_added ks ls before after was is only same =
    table_from_lookups (without_all ls after) before (IsTable-without_all ls after is) was (λ k. elim (cases_Bool (is_key_among ks k)) [
      | inl among ↦ without_all-among ls k after is (same k ∙ among) ∙ sym (only.added k among)
      | inr other ↦ without_all-others ls k after is (same k ∙ other) ∙ only.others k other
    ])

pub removals-restore : (now : ℕ) (ks ls : List Key) (ms : List FlowMod) (before : List Entry) (t : TableState) → IsTable before → IsTable t.entries → OnlyAdded ks before t.entries → ((k : Key) → is_key_among ls k ≡ is_key_among ks k) → AreRemovals ls ms → after_all now ms t ≡ record t { entries = before }
removals-restore now ks ls ms before t was is only same are =
    after-removals now ls ms t are ∙ ap (λ (es : List Entry). record t { entries = es }) (without_added ks ls before t.entries was is only same)

or_swap : (a b : Bool) → (a || b) ≡ (b || a)
or_swap true true = refl
or_swap true false = refl
or_swap false true = refl
or_swap false false = refl

or_assoc : (a b c : Bool) → ((a || b) || c) ≡ (a || (b || c))
or_assoc true b c = refl
or_assoc false b c = refl

pub is_key_among-append : (ks ls : List Key) (k : Key) → is_key_among (ks ++ ls) k ≡ (is_key_among ks k || is_key_among ls k)
is_key_among-append [] ls k = refl
is_key_among-append (l ∷ ks) ls k =
    ap (λ b. (key_number l == key_number k) || b) (is_key_among-append ks ls k) ∙ sym (or_assoc (key_number l == key_number k) (is_key_among ks k) (is_key_among ls k))

-- newest first are the same keys
pub is_key_among-reverse : (ks : List Key) (k : Key) → is_key_among (reverse ks) k ≡ is_key_among ks k
is_key_among-reverse [] k = refl
is_key_among-reverse (l ∷ ks) k =
    let here : Bool = key_number l == key_number k in
    ap (λ xs. is_key_among xs k) (reverse-append (l ∷ []) ks)
    ∙ is_key_among-append (reverse ks) (l ∷ []) k
    ∙ ap₂ (λ a b. a || b) (is_key_among-reverse ks k) (or-false here)
    ∙ or_swap (is_key_among ks k) here

-- ---- What keeps it

pub OnlyAdded-nothing : (es : List Entry) → OnlyAdded [] es es
OnlyAdded-nothing es = record { added = λ k among. absurd cc; others = λ k other. refl }

-- one key more
pub OnlyAdded-more : (now : ℕ) (ks : List Key) (m : FlowMod) (before : List Entry) (t : TableState) → OnlyAdded ks before t.entries → adds m t.entries ≡ true → entry_at (key_in m) t.entries ≡ None → OnlyAdded (ks ++ key_in m ∷ []) before (changed now m t).entries
unfolding changed new_entry
OnlyAdded-more now ks m before t only puts absent = rw (entries_after-adds now t.next m t.entries puts) (record {
  added = λ k among. elim (or_cases (is_key_among ks k) (key_number (key_in m) == key_number k) (sym (split k) ∙ among)) [
    | inl old ↦ only.added k old
    | inr fresh ↦ was k (eqb-true (key_number (key_in m)) (key_number k) fresh)
  ];
  others = λ k other.
      let parts = or_parts (is_key_among ks k) (key_number (key_in m) == key_number k) (sym (split k) ∙ other) in
      entry_at-with_entry-other t.entries (new_entry now t.next m) k (eqb-false (key_number (key_in m)) (key_number k) parts.1) ∙ only.others k parts.0;
})
  where
    split : (k : Key) → is_key_among (ks ++ key_in m ∷ []) k ≡ (is_key_among ks k || (key_number (key_in m) == key_number k))
    split k = is_key_among-append ks (key_in m ∷ []) k ∙ ap (λ b. is_key_among ks k || b) (or-false (key_number (key_in m) == key_number k))

    was : (k : Key) → key_number (key_in m) ≡ key_number k → entry_at k before ≡ None
    was k same = elim (cases_Bool (is_key_among ks k)) [
      | inl old ↦ only.added k old
      | inr other ↦ sym (only.others k other) ∙ sym (entry_at-same_place t.entries (key_in m) k same) ∙ absent
    ]

-- the newest keys taken away again
pub OnlyAdded-fewer : (ks ls : List Key) (before after : List Entry) → IsTable after → OnlyAdded (ks ++ ls) before after → OnlyAdded ks before (without_all ls after)
OnlyAdded-fewer ks ls before after is only = record {
  added = λ k among. only.added k (is_key_among-append ks ls k ∙ or_left (is_key_among ks k) (is_key_among ls k) among);
  others = λ k other. elim (cases_Bool (is_key_among ls k)) [
    | inl fresh ↦ without_all-among ls k after is fresh ∙ sym (only.added k (is_key_among-append ks ls k ∙ or_right (is_key_among ks k) (is_key_among ls k) fresh))
    | inr neither ↦ without_all-others ls k after is neither ∙ only.others k (is_key_among-append ks ls k ∙ or_from (is_key_among ks k) (is_key_among ls k) other neither)
  ];
}
