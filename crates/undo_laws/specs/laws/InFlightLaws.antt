-- What follows about a change that was logged and did not happen, as one that was refused while its answer was lost: undo gives back
-- the same table, save that entries which the change would have removed begin their idle time anew.
use Rattle.std.proofs.Common.{◌≡◌, ◌≢◌, ◌⊎◌, ℕ, ◌+◌, ◌<◌, ◌≤◌, true, List, [], ◌∷◌, ◌++◌, length, map, filter, All, Option, Some, None, refl, sym, ap, ◌∙◌, arith, inl, inr}
use Rattle.std.proofs.lemmas.Bool.{cases_eq, cases_Bool, ne_eqb}
use Rattle.std.specs.Option.{option_map, is_some}
use Rattle.of_match.specs.declared.key.Key.{Key}
use Rattle.of_match.specs.Key.{key_number}
use Rattle.of_action.specs.declared.action.Action.{Action}
use Rattle.of_wire.specs.declared.bodies.FlowMod.{FlowMod}
use Rattle.flow_table.specs.declared.entry.Entry.{Entry}
use Rattle.flow_table.specs.Table.{TableState, place_of, entry_at, AscendsFrom}
use Rattle.flow_table.specs.laws.TableLaws.{ascends-filter}
use Rattle.flow_table.specs.Change.{key_in, is_modify, deletes, adds, means}
use Rattle.undo_laws.specs.Serials.{IsSerialed}
use Rattle.undo_laws.specs.Log.{Inverse, Remove, Image, Untouched, Absent, Gone, Acted, old_entry, old_actions, logged_addition, logged, with_actions, back, undo_one, undo, image_at, image_of, seen}
use Rattle.undo_laws.specs.laws.LogLaws.{merge-untouched, image_of-one, undo-append, Undoes, leaves, removes, puts, gives, Undoes-one, IsSerialed-undo, next-undo_one}
use Rattle.undo_laws.specs.Stands.{used_at, Standing, Stands, is_gone}
use Rattle.undo_laws.specs.laws.StandingLaws.{IsBelow, Changes, stays, comes, gives_way, goes, acts, after_goes, before_puts}
use Rattle.undo_laws.specs.laws.StandsLaws.{Changes-changed, used_by_key, undo-restores}
use Rattle.undo_laws.specs.Same.{SameButSerials}
use Rattle.undo_laws.specs.Reverting.{CanRevert, SameKeys}
use Rattle.undo_laws.specs.laws.RevertingLaws.{StandsIn, stand-itself, length-same_keys, can-gives, can-addition, keys-replaced, CanRevert-fits, CanRevert-append, CanRevert-same_keys}
use Rattle.std.proofs.lemmas.List.Elements.{All-head, All-tail, All-filter}
use Rattle.flow_table.specs.Undone.{used_or, undone}

-- ---- A log that names each key at most once

pub next-undo : (now : ℕ) (log : List Inverse) (t : TableState) → t.next ≤ (undo now log t).next
unfolding undo
next-undo now [] t = omega arith
next-undo now (x ∷ log) t = omega (arith, next-undo now log t, next-undo_one now x (undo now log t))

-- one inverse at a key, a new entry taking some serial from this one on
abbrev UndoesOnce : ℕ → ℕ → Image → Option Entry → Option Entry → Type 0
UndoesOnce now least i o p = (serial : ℕ) × (least ≤ serial) × Undoes now serial i o p

undoes-untouched : {now serial : ℕ} {i : Image} {o p : Option Entry} → Undoes now serial i o p → i ≡ Untouched → p ≡ o
undoes-untouched (leaves o p is) same = is
undoes-untouched (removes o p is) same = absurd cc
undoes-untouched (puts e o p is) same = absurd cc
undoes-untouched (gives actions o p is) same = absurd cc

-- inverses that touch the key of their entry alone
abbrev Own : (Entry → Inverse) → Type 0
Own g = (k : Key) (e : Entry) → place_of e ≢ key_number k → image_at k (g e) ≡ Untouched

each-untouched : (g : Entry → Inverse) → Own g → (k : Key) (ds : List Entry) (least : ℕ) → AscendsFrom least ds → key_number k < least → image_of k (map g ds) ≡ Untouched
unfolding image_of
each-untouched g own k [] least up lt = refl
each-untouched g own k (d ∷ ds) least up lt =
    rw (own k d (omega (arith, up.0))) (each-untouched g own k ds (place_of d + 1) up.1 (omega (arith, up.0)))

each-once : (now : ℕ) (g : Entry → Inverse) → Own g → (k : Key) (ds : List Entry) (least : ℕ) (t : TableState) → AscendsFrom least ds → IsSerialed t → UndoesOnce now t.next (image_of k (map g ds)) (entry_at k t.entries) (entry_at k (undo now (map g ds) t).entries)
unfolding image_of undo
each-once now g own k [] least t up h = (t.next, omega arith, leaves (entry_at k t.entries) (entry_at k t.entries) refl)
each-once now g own k (d ∷ ds) least t up h =
    let u : TableState = undo now (map g ds) t in
    let (serial, le, rest) = each-once now g own k ds (place_of d + 1) t up.1 h in
    let one = Undoes-one now k (g d) u (IsSerialed-undo now (map g ds) t h).table in
    elim (cases_eq (place_of d) (key_number k)) [
      | inl same ↦
          let none = each-untouched g own k ds (place_of d + 1) up.1 (omega arith) in
          let still = undoes-untouched rest none in
          (u.next, next-undo now (map g ds) t, rw (none, merge-untouched (image_at k (g d))) (rw still at one))
      | inr other ↦
          let none = own k d other in
          let still = undoes-untouched one none in
          (serial, le, rw (none, still) rest)
    ]

own-old_entry : Own old_entry
unfolding image_at
own-old_entry k e other = rw (ne_eqb (place_of e) (key_number k) other) refl

own-old_actions : Own old_actions
unfolding image_at
own-old_actions k e other = rw (ne_eqb (place_of e) (key_number k) other) refl

single-once : (now : ℕ) (k : Key) (x : Inverse) (t : TableState) → IsSerialed t → UndoesOnce now t.next (image_of k (x ∷ [])) (entry_at k t.entries) (entry_at k (undo now (x ∷ []) t).entries)
unfolding undo
single-once now k x t h = (t.next, omega arith, rw (image_of-one k x) (Undoes-one now k x t h.table))

addition-once : (now : ℕ) (k l : Key) (o : Option Entry) (t : TableState) → IsSerialed t → UndoesOnce now t.next (image_of k (logged_addition l o)) (entry_at k t.entries) (entry_at k (undo now (logged_addition l o) t).entries)
addition-once now k l None t h = single-once now k (Remove l) t h
addition-once now k l (Some e) t h = single-once now k (old_entry e) t h

-- what a change logs names each key at most once
logged-once : (now : ℕ) (k : Key) (m : FlowMod) (t : TableState) → IsSerialed t → UndoesOnce now t.next (image_of k (logged m t.entries)) (entry_at k t.entries) (entry_at k (undo now (logged m t.entries) t).entries)
unfolding logged
logged-once now k m t h =
    elim (cases_Bool (adds m t.entries)) [
      | inl adding ↦ rw adding (addition-once now k (key_in m) (entry_at (key_in m) t.entries) t h)
      | inr keeps ↦ elim (cases_Bool (is_modify m)) [
        | inl modifies ↦ rw (keeps, modifies) (each-once now old_actions own-old_actions k (filter (means m) t.entries) 0 t (ascends-filter (means m) t.entries 0 h.table) h)
        | inr deleting ↦ rw (keeps, deleting) (each-once now old_entry own-old_entry k (filter (deletes m) t.entries) 0 t (ascends-filter (deletes m) t.entries 0 h.table) h)
      ]
    ]

-- ---- What was logged did not happen

undoes-absent : {now serial : ℕ} {i : Image} {o p : Option Entry} → Undoes now serial i o p → i ≡ Absent → p ≡ None
undoes-absent (leaves o p is) same = absurd cc
undoes-absent (removes o p is) same = is
undoes-absent (puts e o p is) same = absurd cc
undoes-absent (gives actions o p is) same = absurd cc

undoes-gone : (now serial : ℕ) {i : Image} {o p : Option Entry} (e : Entry) → Undoes now serial i o p → i ≡ Gone e → p ≡ Some (back now serial e)
undoes-gone now serial e (leaves o p is) same = absurd cc
undoes-gone now serial e (removes o p is) same = absurd cc
undoes-gone now serial e (puts f o p is) same = let one : f ≡ e = cc in is ∙ ap (λ x. Some (back now serial x)) one
undoes-gone now serial e (gives actions o p is) same = absurd cc

undoes-acted : {now serial : ℕ} {i : Image} {o p : Option Entry} (actions : List Action) → Undoes now serial i o p → i ≡ Acted actions → p ≡ option_map (with_actions actions) o
undoes-acted actions (leaves o p is) same = absurd cc
undoes-acted actions (removes o p is) same = absurd cc
undoes-acted actions (puts f o p is) same = absurd cc
undoes-acted actions (gives others o p is) same = let one : others ≡ actions = cc in is ∙ ap (λ x. option_map (with_actions x) o) one

-- the entry of a key is put in again
abbrev PutAgain : ℕ → ℕ → Option Entry → Option Entry → Type 0
PutAgain now least o p = (e : Entry) × (serial : ℕ) × (least ≤ serial) × (o ≡ Some e) × (p ≡ Some (back now serial e))

-- nothing happens at a key, or its entry is put in again where the image says that it went
abbrev Redone : ℕ → ℕ → Image → Option Entry → Option Entry → Type 0
Redone now least j o p = (p ≡ o) ⊎ ((is_gone j ≡ true) × PutAgain now least o p)

redone : (now least serial fresh : ℕ) {j : Image} {o q p : Option Entry} → least ≤ serial → Changes fresh j o q → Undoes now serial j o p → Redone now least j o p
redone now least serial fresh le (stays o q is) u = inl (undoes-untouched u refl)
redone now least serial fresh le (comes e o q none is new) u = inl (undoes-absent u refl ∙ sym none)
redone now least serial fresh le (gives_way e f o q was is new) u = inr (refl, (e, serial, le, was, undoes-gone now serial (seen e) u refl))
redone now least serial fresh le (goes e o q was is) u = inr (refl, (e, serial, le, was, undoes-gone now serial (seen e) u refl))
redone now least serial fresh le (acts e actions o q was is) u =
    inl (undoes-acted e.actions u refl ∙ ap (option_map (with_actions e.actions)) was ∙ sym was)

standing-redone : (now next least : ℕ) (earlier : Option Entry) (i j : Image) (o p : Option Entry) → next ≤ least → IsBelow next earlier → Redone now least j o p → Standing now next earlier i o → Standing now next earlier i p
standing-redone now next least earlier i j o p later below (inl same) h = rw same h
standing-redone now next least earlier i j o p later below (inr (gone, (e, serial, le, was, is))) h =
    let past : next ≤ serial = omega arith in
    let went = after_goes now next serial earlier i past below e None (λ f none. absurd cc) (rw was at h) in
    rw is (before_puts now next serial earlier i past below (seen e) None went)

redone-logged : (now : ℕ) (k : Key) (m : FlowMod) (t : TableState) → IsSerialed t → Redone now t.next (image_of k (logged m t.entries)) (entry_at k t.entries) (entry_at k (undo now (logged m t.entries) t).entries)
redone-logged now k m t h =
    let (serial, le, u) = logged-once now k m t h in
    redone now t.next serial t.next le (Changes-changed now k m t h.table) u

-- undone all the same, it leaves what was logged before
pub Stands-in_flight : (now : ℕ) (earlier : TableState) (log : List Inverse) (m : FlowMod) (t : TableState) → Stands now earlier log t → Stands now earlier log (undo now (logged m t.entries) t)
Stands-in_flight now earlier log m t h = record {
  was = h.was;
  serialed = IsSerialed-undo now (logged m t.entries) t h.serialed;
  later = omega (arith, h.later, next-undo now (logged m t.entries) t);
  keys = λ k.
      standing-redone now earlier.next t.next (entry_at k earlier.entries) (image_of k log) (image_of k (logged m t.entries))
      (entry_at k t.entries) (entry_at k (undo now (logged m t.entries) t).entries) h.later (h.was.below k) (redone-logged now k m t h.serialed) (h.keys k);
}

used-redone : (now least serial : ℕ) (j : Image) (o p : Option Entry) → serial < least → Redone now least j o p → (used_at now serial p ≡ used_at now serial o) ⊎ ((is_gone j ≡ true) × (used_at now serial p ≡ now))
used-redone now least serial j o p lt (inl same) = inl (ap (used_at now serial) same)
used-redone now least serial j o p lt (inr (gone, (e, fresh, le, was, is))) =
    inr (gone, rw (is, ne_eqb fresh serial (omega arith)) refl)

-- when an earlier entry was used: as without it, or now where the change would have removed the entry
pub used-in_flight : (now : ℕ) (earlier : TableState) (log : List Inverse) (m : FlowMod) (t : TableState) (k : Key) (e : Entry) → Stands now earlier log t → entry_at k earlier.entries ≡ Some e → (used_or now e.serial (undo now (logged m t.entries) t).entries ≡ used_or now e.serial t.entries) ⊎ ((is_gone (image_of k (logged m t.entries)) ≡ true) × (used_or now e.serial (undo now (logged m t.entries) t).entries ≡ now))
used-in_flight now earlier log m t k e h was =
    let u : TableState = undo now (logged m t.entries) t in
    let lt : e.serial < t.next = omega (arith, h.was.below k e was, h.later) in
    let before = used_by_key now earlier log t k e h was in
    let after = used_by_key now earlier log u k e (Stands-in_flight now earlier log m t h) was in
    elim (used-redone now t.next e.serial (image_of k (logged m t.entries)) (entry_at k t.entries) (entry_at k u.entries) lt (redone-logged now k m t h.serialed)) [
      | inl same ↦ inl (after ∙ same ∙ sym before)
      | inr (gone, anew) ↦ inr (gone, after ∙ anew)
    ]

-- the log with it, reverted backwards, gives the table that is restored from there
pub undo-in_flight : (now : ℕ) (earlier : TableState) (log : List Inverse) (m : FlowMod) (t : TableState) → Stands now earlier log t → SameButSerials (undo now (log ++ logged m t.entries) t).entries (undone earlier (undo now (logged m t.entries) t) now).entries
undo-in_flight now earlier log m t h =
    ap (λ (u : TableState). map seen u.entries) (undo-append now log (logged m t.entries) t)
    ∙ undo-restores now earlier log (undo now (logged m t.entries) t) (Stands-in_flight now earlier log m t h)

-- ---- It can be reverted all the same.

some-redone : (now least : ℕ) (j : Image) (o p : Option Entry) → Redone now least j o p → is_some p ≡ is_some o
some-redone now least j o p (inl same) = ap is_some same
some-redone now least j o p (inr (gone, (e, serial, le, was, is))) = rw (is, was) refl

SameKeys-redone : (now : ℕ) (m : FlowMod) (t : TableState) → IsSerialed t → SameKeys (undo now (logged m t.entries) t).entries t.entries
SameKeys-redone now m t h k =
    some-redone now t.next (image_of k (logged m t.entries)) (entry_at k t.entries) (entry_at k (undo now (logged m t.entries) t).entries) (redone-logged now k m t h)

same_one : (now : ℕ) (d : Entry) (u : TableState) → is_some (entry_at d.key u.entries) ≡ true → SameKeys (undo_one now (old_entry d) u).entries u.entries
unfolding undo_one
same_one now d u stands = keys-replaced u.entries (back now u.next (seen d)) stands

same_again : (now : ℕ) (ds : List Entry) (t : TableState) → All (StandsIn t) ds → SameKeys (undo now (map old_entry ds) t).entries t.entries
unfolding undo
same_again now [] t stand k = refl
same_again now (d ∷ ds) t stand k =
    let u : TableState = undo now (map old_entry ds) t in
    let rest = same_again now ds t (All-tail (StandsIn t) d ds stand) in
    same_one now d u (rest d.key ∙ All-head (StandsIn t) d ds stand) k ∙ rest k

can-again : (cap now : ℕ) (ds : List Entry) (t : TableState) → IsSerialed t → length t.entries ≤ cap → All (StandsIn t) ds → CanRevert cap now (map old_entry ds) t
can-again cap now [] t h fits stand = fits
can-again cap now (d ∷ ds) t h fits stand =
    let log : List Inverse = map old_entry (d ∷ ds) in
    let long = length-same_keys (undo now log t).entries t.entries (IsSerialed-undo now log t h).table h.table (same_again now (d ∷ ds) t stand) in
    (can-again cap now ds t h fits (All-tail (StandsIn t) d ds stand), tt, omega arith)

can-logged_still : (cap now : ℕ) (m : FlowMod) (t : TableState) → IsSerialed t → length t.entries ≤ cap → length (undo now (logged m t.entries) t).entries ≤ cap → CanRevert cap now (logged m t.entries) t
unfolding logged
can-logged_still cap now m t h fits after =
    elim (cases_Bool (adds m t.entries)) [
      | inl adding ↦ rw adding (can-addition cap now (key_in m) (entry_at (key_in m) t.entries) t fits (rw adding at after))
      | inr keeps ↦ elim (cases_Bool (is_modify m)) [
        | inl modifies ↦ rw (keeps, modifies) (can-gives cap now (filter (means m) t.entries) t fits
            (All-filter (means m) (StandsIn t) t.entries (stand-itself t h.table)))
        | inr deleting ↦ rw (keeps, deleting) (can-again cap now (filter (deletes m) t.entries) t h fits
            (All-filter (deletes m) (StandsIn t) t.entries (stand-itself t h.table)))
      ]
    ]

pub CanRevert-in_flight : (cap now : ℕ) (log : List Inverse) (m : FlowMod) (t : TableState) → IsSerialed t → CanRevert cap now log t → CanRevert cap now (log ++ logged m t.entries) t
CanRevert-in_flight cap now log m t h can =
    let l : List Inverse = logged m t.entries in
    let i = IsSerialed-undo now l t h in
    let fits = CanRevert-fits cap now log t can in
    let long = length-same_keys (undo now l t).entries t.entries i.table h.table (SameKeys-redone now m t h) in
    CanRevert-append cap now log l t (can-logged_still cap now m t h fits (omega arith))
    (CanRevert-same_keys cap now log t (undo now l t) h i (λ k. sym (SameKeys-redone now m t h k)) can)
