-- What follows about all keys of which messages of the three kinds are sought: in order they are what the table of images wants of each key.
use Rattle.std.proofs.Common.{◌≡◌, ◌≢◌, ◌==◌, if◌then◌else◌, ℕ, ◌+◌, ◌<◌, ◌≤◌, Bool, true, false, not, List, [], ◌∷◌, ◌++◌, map, drop, Option, Some, None, refl, sym, ap, ap₂, ◌∙◌, arith, ◌⊎◌, inl, inr}
use Rattle.std.proofs.lemmas.Bool.{cases_lt, cases_eq, cases_Bool, eq-eqb, ne_eqb}
use Rattle.std.specs.Prelude.{option_to_list}
use Rattle.std.specs.Option.{is_some, option_map}
use Rattle.std.specs.List.{AllByRecursion}
use Rattle.of_match.specs.declared.key.Key.{Key}
use Rattle.of_match.specs.Key.{key_number}
use Rattle.of_action.specs.declared.action.Action.{Action}
use Rattle.flow_table.specs.declared.entry.Entry.{Entry}
use Rattle.flow_table.specs.declared.lost.Lost.{Lost}
use Rattle.flow_table.specs.declared.view.ViewRow.{ViewRow}
use Rattle.flow_table.specs.Corrected.{row_at}
use Rattle.flow_table.specs.RowKeys.{RowsAscend}
use Rattle.flow_table.specs.Table.{TableState, AscendsFrom, IsTable, place_of, entry_at}
use Rattle.undo_laws.specs.Log.{Image as Said, Untouched, Absent, Gone, Acted}
use Rattle.undo_laws.specs.Removal.{is_key_among}
use Rattle.undo_laws.specs.Table.{sent_for}
use Rattle.netlog_inverse.specs.declared.image.Image.{Image}
use Rattle.netlog_inverse.specs.declared.image.Logged.{Logged}
use Rattle.netlog_inverse.specs.declared.image.PutBack.{PutBack}
use Rattle.netlog_inverse.specs.declared.image.PutBack.TheVariants.{Row, Config, Settings}
use Rattle.netlog_inverse.specs.declared.sending.InverseKind.TheVariants.{Delete, Modify, Add}
use Rattle.netlog_inverse.specs.declared.sending.Wanted.{Wanted}
use Rattle.netlog_inverse.specs.Actions.{same_actions}
use Rattle.netlog_inverse.specs.Index.{key_in_put}
use Rattle.netlog_inverse.specs.Meaning.{entry_of, said, said_by, is_image_of, first_at, row_of}
use Rattle.netlog_inverse.specs.Next.{wants, wants_put, Sought, image_for, is_sought, NoneFrom, IsNextFrom, AreAll, given_to, actions_for, entries_for, keys_for, IsMadePut, IsMade, AreMade}
use Rattle.netlog_inverse.specs.Sending.{KeysAscend, actions_at, wants_removal, wanted_actions, wanted_entry, AreWanted, wanted}
use Rattle.netlog_inverse.specs.laws.FirstLaws.{first_at-takes, first_at-skips}
use Rattle.netlog_inverse.specs.laws.MarkLaws.{first-number}
use Rattle.netlog_inverse.specs.laws.MeaningLaws.{row_at-rows}
use Rattle.netlog_inverse.specs.laws.NextLaws.{sought-number}

-- ---- One key: what is sought is what the table wants

delete-wanted : (now : ℕ) (stands : Bool) (put : PutBack) (o : Option Entry) → wants_put Delete stands put (option_map row_of o) ≡ wants_removal (sent_for same_actions (said_by now stands put) o)
delete-wanted now true (Row m None lost) None = refl
delete-wanted now true (Row m None lost) (Some e) = refl
delete-wanted now false (Row m None lost) None = refl
delete-wanted now false (Row m None lost) (Some e) = refl
delete-wanted now true (Row m (Some r) lost) None = refl
delete-wanted now true (Row m (Some r) lost) (Some e) = if_cases (same_actions r.actions e.actions)
  where
    if_cases : (b : Bool) → false ≡ wants_removal (if b then Untouched else Acted r.actions)
    if_cases true = refl
    if_cases false = refl
delete-wanted now false (Row m (Some r) None) o = refl
delete-wanted now false (Row m (Some r) (Some lost)) o = refl
delete-wanted now true (Config port config) o = refl
delete-wanted now false (Config port config) o = refl
delete-wanted now true (Settings flags len) o = refl
delete-wanted now false (Settings flags len) o = refl

-- the actions that a key is given, where they are sought
modify-wanted : (now : ℕ) (stands : Bool) (put : PutBack) (o : Option Entry) → (if wants_put Modify stands put (option_map row_of o) then wanted_actions (said_by now stands put) else None) ≡ wanted_actions (sent_for same_actions (said_by now stands put) o)
modify-wanted now true (Row m None lost) None = refl
modify-wanted now true (Row m None lost) (Some e) = refl
modify-wanted now false (Row m None lost) None = refl
modify-wanted now false (Row m None lost) (Some e) = refl
modify-wanted now true (Row m (Some r) lost) None = refl
modify-wanted now true (Row m (Some r) lost) (Some e) = if_cases (same_actions r.actions e.actions)
  where
    if_cases : (b : Bool) → (if not b then Some r.actions else None) ≡ wanted_actions (if b then Untouched else Acted r.actions)
    if_cases true = refl
    if_cases false = refl
modify-wanted now false (Row m (Some r) None) o = refl
modify-wanted now false (Row m (Some r) (Some lost)) o = refl
modify-wanted now true (Config port config) o = refl
modify-wanted now false (Config port config) o = refl
modify-wanted now true (Settings flags len) o = refl
modify-wanted now false (Settings flags len) o = refl

-- the entry that comes back, where it is sought
add-wanted : (now : ℕ) (stands : Bool) (put : PutBack) (o : Option Entry) → (if wants_put Add stands put (option_map row_of o) then wanted_entry (said_by now stands put) else None) ≡ wanted_entry (sent_for same_actions (said_by now stands put) o)
add-wanted now true (Row m None lost) None = refl
add-wanted now true (Row m None lost) (Some e) = refl
add-wanted now false (Row m None lost) None = refl
add-wanted now false (Row m None lost) (Some e) = refl
add-wanted now true (Row m (Some r) lost) None = refl
add-wanted now true (Row m (Some r) lost) (Some e) = if_cases (same_actions r.actions e.actions)
  where
    if_cases : (b : Bool) → None ≡ wanted_entry (if b then Untouched else Acted r.actions)
    if_cases true = refl
    if_cases false = refl
add-wanted now false (Row m (Some r) None) o = refl
add-wanted now false (Row m (Some r) (Some lost)) o = refl
add-wanted now true (Config port config) o = refl
add-wanted now false (Config port config) o = refl
add-wanted now true (Settings flags len) o = refl
add-wanted now false (Settings flags len) o = refl

-- ---- What is found says something of its kind

modify-says : (now : ℕ) (stands : Bool) (put : PutBack) (p : Option ViewRow) → wants_put Modify stands put p ≡ true → (actions : List Action) × (wanted_actions (said_by now stands put) ≡ Some actions)
modify-says now true (Row m (Some r) lost) p is = (r.actions, refl)
modify-says now false (Row m (Some r) lost) p is = absurd cc
modify-says now true (Row m None lost) p is = absurd cc
modify-says now false (Row m None lost) p is = absurd cc
modify-says now true (Config port config) p is = absurd cc
modify-says now false (Config port config) p is = absurd cc
modify-says now true (Settings flags len) p is = absurd cc
modify-says now false (Settings flags len) p is = absurd cc

add-says : (now : ℕ) (i : Image) (stands : Bool) (put : PutBack) (k : Key) (p : Option ViewRow) → wants_put Add stands put p ≡ true → IsMadePut i put → key_in_put put ≡ Some k → (e : Entry) × (wanted_entry (said_by now stands put) ≡ Some e) × (place_of e ≡ key_number k)
add-says now i false (Row m (Some r) (Some lost)) k p is made key = (entry_of now r lost, refl, ap key_number (made.0 ∙ some_key m k key))
  where
    some_key : (a b : Key) → Some a ≡ Some b → a ≡ b
    some_key a b same = cc
add-says now i false (Row m (Some r) None) k p is made key = absurd cc
add-says now i true (Row m (Some r) lost) k p is made key = absurd cc
add-says now i true (Row m None lost) k p is made key = absurd cc
add-says now i false (Row m None lost) k p is made key = absurd cc
add-says now i true (Config port config) k p is made key = absurd cc
add-says now i false (Config port config) k p is made key = absurd cc
add-says now i true (Settings flags len) k p is made key = absurd cc
add-says now i false (Settings flags len) k p is made key = absurd cc

-- ---- Removals

keys-up : (s : Sought) (from : ℕ) (ws : List Wanted) → AreAll s from ws → KeysAscend from (keys_for ws)
keys-up s from [] all = tt
keys-up s from (w ∷ ws) all = (all.0.behind, keys-up s (key_number w.key + 1) ws all.1)

none-below : (k : Key) (least : ℕ) (ks : List Key) → KeysAscend least ks → key_number k < least → is_key_among ks k ≡ false
none-below k least [] up lt = refl
none-below k least (l ∷ ks) up lt = rw (ne_eqb (key_number l) (key_number k) (omega arith)) (none-below k (key_number l + 1) ks up.1 (omega arith))

among-sought : (s : Sought) (from : ℕ) (ws : List Wanted) (k : Key) → AreAll s from ws → from ≤ key_number k → is_key_among (keys_for ws) k ≡ is_sought s k
among-sought s from [] k all least = sym (all k least)
among-sought s from (w ∷ ws) k all least =
    elim (cases_eq (key_number w.key) (key_number k)) [
      | inl same ↦ rw (eq-eqb (key_number w.key) (key_number k) same) (sym (sought-number s w.key k same ∙ all.0.sought))
      | inr other ↦ rw (ne_eqb (key_number w.key) (key_number k) other) (elim (cases_lt (key_number k) (key_number w.key)) [
        | inl lt ↦ none-below k (key_number w.key + 1) (keys_for ws) (keys-up s (key_number w.key + 1) ws all.1) (omega arith) ∙ sym (all.0.passed k least lt)
        | inr ge ↦ among-sought s (key_number w.key + 1) ws k all.1 (omega arith)
      ])
    ]

-- ---- Changes of actions

one-given : (now : ℕ) (s : Sought) (from : ℕ) (w : Wanted) (ws : List Wanted) → s.kind ≡ Modify → IsNextFrom s from w → (actions : List Action) × (wanted_actions (said now (image_for s w.key)) ≡ Some actions) × (actions_for now s (w ∷ ws) ≡ (w.key, actions) ∷ actions_for now s ws)
one-given now s from w ws kind next =
    let (i, is_one) = next.found in
    let image = is_one.0 in
    let sought : wants_put Modify i.stands i.put (row_at w.key s.rows) ≡ true = rw (kind, image) at next.sought in
    let (actions, says) = modify-says now i.stands i.put (row_at w.key s.rows) sought in
    let is : wanted_actions (said now (image_for s w.key)) ≡ Some actions = ap (λ (o : Option Image). wanted_actions (said now o)) image ∙ says in
    (actions, is, ap (λ (o : Option (List Action)). given_to w.key o ++ actions_for now s ws) is)

actions-up : (now : ℕ) (s : Sought) (from : ℕ) (ws : List Wanted) → s.kind ≡ Modify → AreAll s from ws → RowsAscend from (actions_for now s ws)
actions-up now s from [] kind all = tt
actions-up now s from (w ∷ ws) kind all =
    let (actions, says, is) = one-given now s from w ws kind all.0 in
    rw is (all.0.behind, actions-up now s (key_number w.key + 1) ws kind all.1)

pub none-given : (k : Key) (least : ℕ) (acted : List (Key × List Action)) → RowsAscend least acted → key_number k < least → actions_at k acted ≡ None
none-given k least [] up lt = refl
none-given k least (a ∷ acted) up lt = rw (ne_eqb (key_number a.0) (key_number k) (omega arith)) (none-given k (key_number a.0 + 1) acted up.1 (omega arith))

abbrev given_if : ℕ → Sought → Key → Option (List Action)
given_if now s k = if is_sought s k then wanted_actions (said now (image_for s k)) else None

given-sought : (now : ℕ) (s : Sought) (from : ℕ) (ws : List Wanted) (k : Key) → s.kind ≡ Modify → AreAll s from ws → from ≤ key_number k → actions_at k (actions_for now s ws) ≡ given_if now s k
given-sought now s from [] k kind all least = rw (all k least) refl
given-sought now s from (w ∷ ws) k kind all least =
    let (actions, says, is) = one-given now s from w ws kind all.0 in
    ap (actions_at k) is ∙ elim (cases_eq (key_number w.key) (key_number k)) [
      | inl same ↦ rw (eq-eqb (key_number w.key) (key_number k) same, sought-number s w.key k same ∙ all.0.sought)
          (sym (ap (λ (o : Option Image). wanted_actions (said now o)) (first-number s.dpid w.key k (drop s.mark s.log) same) ∙ says))
      | inr other ↦ rw (ne_eqb (key_number w.key) (key_number k) other) (elim (cases_lt (key_number k) (key_number w.key)) [
        | inl lt ↦ none-given k (key_number w.key + 1) (actions_for now s ws) (actions-up now s (key_number w.key + 1) ws kind all.1) (omega arith) ∙ rw (all.0.passed k least lt) refl
        | inr ge ↦ given-sought now s (key_number w.key + 1) ws k kind all.1 (omega arith)
      ])
    ]

-- ---- Additions

pub made-first : (d : ℕ) (k : Key) (log : List Logged) (i : Image) → AreMade log → first_at d k log ≡ Some i → IsMadePut i i.put
made-first d k [] i made found = absurd cc
made-first d k (l ∷ log) i made found =
    elim (cases_Bool (is_image_of d k l)) [
      | inl is ↦ let same : l.image ≡ i = some_image l.image i (sym (first_at-takes d k l log is) ∙ found) in rw same at made.0
      | inr other ↦ made-first d k log i made.1 (sym (first_at-skips d k l log other) ∙ found)
    ]
  where
    some_image : (a b : Image) → Some a ≡ Some b → a ≡ b
    some_image a b is = cc

one-added : (now : ℕ) (s : Sought) (from : ℕ) (w : Wanted) (ws : List Wanted) → s.kind ≡ Add → AreMade (drop s.mark s.log) → IsNextFrom s from w → (e : Entry) × (wanted_entry (said now (image_for s w.key)) ≡ Some e) × (place_of e ≡ key_number w.key) × (entries_for now s (w ∷ ws) ≡ e ∷ entries_for now s ws)
one-added now s from w ws kind made next =
    let (i, is_one) = next.found in
    let image = is_one.0 in
    let key = is_one.1 in
    let sought : wants_put Add i.stands i.put (row_at w.key s.rows) ≡ true = rw (kind, image) at next.sought in
    let (e, says, place) = add-says now i i.stands i.put w.key (row_at w.key s.rows) sought (made-first s.dpid w.key (drop s.mark s.log) i made image) key in
    let is : wanted_entry (said now (image_for s w.key)) ≡ Some e = ap (λ (o : Option Image). wanted_entry (said now o)) image ∙ says in
    (e, is, place, ap (λ (o : Option Entry). option_to_list o ++ entries_for now s ws) is)

entries-up : (now : ℕ) (s : Sought) (from : ℕ) (ws : List Wanted) → s.kind ≡ Add → AreMade (drop s.mark s.log) → AreAll s from ws → AscendsFrom from (entries_for now s ws)
entries-up now s from [] kind made all = tt
entries-up now s from (w ∷ ws) kind made all =
    let (e, says, place, is) = one-added now s from w ws kind made all.0 in
    rw (is, place) (all.0.behind, entries-up now s (key_number w.key + 1) ws kind made all.1)

pub none-added : (k : Key) (least : ℕ) (es : List Entry) → AscendsFrom least es → key_number k < least → entry_at k es ≡ None
none-added k least [] up lt = refl
none-added k least (e ∷ es) up lt = rw (ne_eqb (place_of e) (key_number k) (omega arith)) (none-added k (place_of e + 1) es up.1 (omega arith))

abbrev added_if : ℕ → Sought → Key → Option Entry
added_if now s k = if is_sought s k then wanted_entry (said now (image_for s k)) else None

added-sought : (now : ℕ) (s : Sought) (from : ℕ) (ws : List Wanted) (k : Key) → s.kind ≡ Add → AreMade (drop s.mark s.log) → AreAll s from ws → from ≤ key_number k → entry_at k (entries_for now s ws) ≡ added_if now s k
added-sought now s from [] k kind made all least = rw (all k least) refl
added-sought now s from (w ∷ ws) k kind made all least =
    let (e, says, place, is) = one-added now s from w ws kind made all.0 in
    ap (entry_at k) is ∙ elim (cases_eq (key_number w.key) (key_number k)) [
      | inl same ↦ rw (eq-eqb (place_of e) (key_number k) (place ∙ same), sought-number s w.key k same ∙ all.0.sought)
          (sym (ap (λ (o : Option Image). wanted_entry (said now o)) (first-number s.dpid w.key k (drop s.mark s.log) same) ∙ says))
      | inr other ↦ rw (ne_eqb (place_of e) (key_number k) (λ same. other (sym place ∙ same))) (elim (cases_lt (key_number k) (key_number w.key)) [
        | inl lt ↦ none-added k (key_number w.key + 1) (entries_for now s ws) (entries-up now s (key_number w.key + 1) ws kind made all.1) (omega arith) ∙ rw (all.0.passed k least lt) refl
        | inr ge ↦ added-sought now s (key_number w.key + 1) ws k kind made all.1 (omega arith)
      ])
    ]

-- ---- All three kinds

-- All that is sought of each kind is what is wanted: one message a key at most, each kind in key order.
pub all-wanted : (now d mark : ℕ) (log : List Logged) (t : TableState) (deleted modified added : List Wanted) → AreMade (drop mark log)
    → AreAll (record { kind = Delete; dpid = d; mark = mark; log = log; rows = map row_of t.entries }) 0 deleted
    → AreAll (record { kind = Modify; dpid = d; mark = mark; log = log; rows = map row_of t.entries }) 0 modified
    → AreAll (record { kind = Add; dpid = d; mark = mark; log = log; rows = map row_of t.entries }) 0 added
    → AreWanted (wanted now d same_actions (drop mark log) t) (keys_for deleted)
    (actions_for now (record { kind = Modify; dpid = d; mark = mark; log = log; rows = map row_of t.entries }) modified)
    (entries_for now (record { kind = Add; dpid = d; mark = mark; log = log; rows = map row_of t.entries }) added)
all-wanted now d mark log t deleted modified added made one two three =
    let s : Sought = record { kind = Delete; dpid = d; mark = mark; log = log; rows = map row_of t.entries } in
    record {
      removed_up = keys-up s 0 deleted one;
      acted_up = actions-up now (record s { kind = Modify }) 0 modified refl two;
      added_up = entries-up now (record s { kind = Add }) 0 added refl made three;
      removals = λ k. among-sought s 0 deleted k one (omega arith) ∙ removal k (first_at d k (drop mark log));
      actions = λ k. given-sought now (record s { kind = Modify }) 0 modified k refl two (omega arith) ∙ change k (first_at d k (drop mark log));
      additions = λ k. added-sought now (record s { kind = Add }) 0 added k refl made three (omega arith) ∙ addition k (first_at d k (drop mark log));
    }
  where
    removal : (k : Key) (o : Option Image) → wants Delete o (row_at k (map row_of t.entries)) ≡ wants_removal (sent_for same_actions (said now o) (entry_at k t.entries))
    removal k None = refl
    removal k (Some i) = ap (wants_put Delete i.stands i.put) (row_at-rows k t.entries) ∙ delete-wanted now i.stands i.put (entry_at k t.entries)

    change : (k : Key) (o : Option Image) → (if wants Modify o (row_at k (map row_of t.entries)) then wanted_actions (said now o) else None) ≡ wanted_actions (sent_for same_actions (said now o) (entry_at k t.entries))
    change k None = refl
    change k (Some i) = ap (λ (p : Option ViewRow). if wants_put Modify i.stands i.put p then wanted_actions (said_by now i.stands i.put) else None) (row_at-rows k t.entries) ∙ modify-wanted now i.stands i.put (entry_at k t.entries)

    addition : (k : Key) (o : Option Image) → (if wants Add o (row_at k (map row_of t.entries)) then wanted_entry (said now o) else None) ≡ wanted_entry (sent_for same_actions (said now o) (entry_at k t.entries))
    addition k None = refl
    addition k (Some i) = ap (λ (p : Option ViewRow). if wants_put Add i.stands i.put p then wanted_entry (said_by now i.stands i.put) else None) (row_at-rows k t.entries) ∙ add-wanted now i.stands i.put (entry_at k t.entries)
