-- What follows about logs: images of longer logs, what a change logs about a key, and what undo gives back there.
use Rattle.std.proofs.Common.{◌≡◌, ◌≢◌, ℕ, ◌≤◌, not, List, [], ◌∷◌, ◌++◌, map, Option, Some, None, refl, sym, ap, ◌∙◌, arith, inl, inr}
use Rattle.std.proofs.lemmas.Bool.{cases_eq, cases_Bool, eq-eqb, ne_eqb}
use Rattle.std.specs.Option.{option_map}
use Rattle.of_match.specs.declared.key.Key.{Key}
use Rattle.of_match.specs.Key.{key_number}
use Rattle.of_action.specs.declared.action.Action.{Action}
use Rattle.flow_table.specs.declared.entry.Entry.{Entry}
use Rattle.flow_table.specs.Table.{TableState, place_of, has_key, entry_at, IsTable, with_entry}
use Rattle.flow_table.specs.laws.TableLaws.{IsTable-map, entry_at-map, entry_at-with_entry-same, entry_at-with_entry-other}
use Rattle.undo_laws.specs.laws.LookupLaws.{entry_at-same_place, entry_at-key_number}
use Rattle.undo_laws.specs.Removal.{without}
use Rattle.undo_laws.specs.laws.RemovalLaws.{IsTable-without, entry_at-without-same, entry_at-without-other}
use Rattle.undo_laws.specs.Serials.{IsSerialed}
use Rattle.undo_laws.specs.laws.SerialsLaws.{IsSerialed-from, IsSerialed-with_entry, ComeFrom-map, ComeFrom-filter}
use Rattle.undo_laws.specs.Log.{Inverse, Remove, PutBack, GiveActions, Image, Untouched, Absent, Gone, Acted, with_actions, give_actions, back, undo_one, undo, image_at, merge, image_of, given_back, seen}

-- ---- Images

pub merge-untouched : (i : Image) → merge i Untouched ≡ i
merge-untouched Untouched = refl
merge-untouched Absent = refl
merge-untouched (Gone e) = refl
merge-untouched (Acted actions) = refl

pub merge-assoc : (a b c : Image) → merge (merge a b) c ≡ merge a (merge b c)
merge-assoc Untouched b c = refl
merge-assoc Absent b c = refl
merge-assoc (Gone e) b c = refl
merge-assoc (Acted actions) Untouched c = refl
merge-assoc (Acted actions) Absent c = refl
merge-assoc (Acted actions) (Gone e) c = refl
merge-assoc (Acted actions) (Acted later) Untouched = refl
merge-assoc (Acted actions) (Acted later) Absent = refl
merge-assoc (Acted actions) (Acted later) (Gone e) = refl
merge-assoc (Acted actions) (Acted later) (Acted last) = refl

pub image_of-one : (k : Key) (x : Inverse) → image_of k (x ∷ []) ≡ image_at k x
unfolding image_of
image_of-one k x = merge-untouched (image_at k x)

pub image_of-append : (k : Key) (older newer : List Inverse) → image_of k (older ++ newer) ≡ merge (image_of k older) (image_of k newer)
unfolding image_of
image_of-append k [] newer = refl
image_of-append k (x ∷ older) newer =
    ap (merge (image_at k x)) (image_of-append k older newer) ∙ sym (merge-assoc (image_at k x) (image_of k older) (image_of k newer))

-- one image after another gives what both as one give
pub given_back-merge : (now : ℕ) (older newer : Image) (o : Option Entry) → given_back now (merge older newer) o ≡ given_back now older (given_back now newer o)
given_back-merge now Untouched newer o = refl
given_back-merge now Absent newer o = refl
given_back-merge now (Gone e) newer o = refl
given_back-merge now (Acted actions) Untouched o = refl
given_back-merge now (Acted actions) Absent o = refl
given_back-merge now (Acted actions) (Gone e) o = refl
given_back-merge now (Acted actions) (Acted later) None = refl
given_back-merge now (Acted actions) (Acted later) (Some e) = refl

-- but for serials, what is given back is a function of what stands
pub given_back-seen : (now : ℕ) (i : Image) (o p : Option Entry) → option_map seen o ≡ option_map seen p → option_map seen (given_back now i o) ≡ option_map seen (given_back now i p)
given_back-seen now Untouched o p same = same
given_back-seen now Absent o p same = refl
given_back-seen now (Gone e) o p same = refl
given_back-seen now (Acted actions) None None same = refl
given_back-seen now (Acted actions) None (Some f) same = absurd cc
given_back-seen now (Acted actions) (Some e) None same = absurd cc
given_back-seen now (Acted actions) (Some e) (Some f) same = ap (option_map (with_actions actions)) same

-- ---- Undo, one inverse

pub undo-append : (now : ℕ) (older newer : List Inverse) (t : TableState) → undo now (older ++ newer) t ≡ undo now older (undo now newer t)
unfolding undo
undo-append now [] newer t = refl
undo-append now (x ∷ older) newer t = ap (undo_one now x) (undo-append now older newer t)

pub key_number-give_actions : (k : Key) (actions : List Action) (e : Entry) → place_of (give_actions k actions e) ≡ place_of e
key_number-give_actions k actions e = elim (cases_Bool (has_key k e)) [ inl has ↦ rw has refl | inr other ↦ rw other refl ]

pub serial-give_actions : (k : Key) (actions : List Action) (e : Entry) → (give_actions k actions e).serial ≡ e.serial
serial-give_actions k actions e = elim (cases_Bool (has_key k e)) [ inl has ↦ rw has refl | inr other ↦ rw other refl ]

pub IsSerialed-undo_one : (now : ℕ) (x : Inverse) (t : TableState) → IsSerialed t → IsSerialed (undo_one now x t)
unfolding undo_one
IsSerialed-undo_one now (Remove k) t h =
    IsSerialed-from t (without k t.entries) (IsTable-without k t.entries h.table) (ComeFrom-filter (λ e. not (has_key k e)) t.entries h.table) h
IsSerialed-undo_one now (PutBack e) t h = IsSerialed-with_entry t (back now t.next e) refl h
IsSerialed-undo_one now (GiveActions k actions) t h =
    IsSerialed-from t (map (give_actions k actions) t.entries) (IsTable-map (give_actions k actions) (key_number-give_actions k actions) t.entries h.table)
    (ComeFrom-map (give_actions k actions) (key_number-give_actions k actions) (serial-give_actions k actions) t.entries) h

pub IsSerialed-undo : (now : ℕ) (log : List Inverse) (t : TableState) → IsSerialed t → IsSerialed (undo now log t)
unfolding undo
IsSerialed-undo now [] t h = h
IsSerialed-undo now (x ∷ log) t h = IsSerialed-undo_one now x (undo now log t) (IsSerialed-undo now log t h)

pub next-undo_one : (now : ℕ) (x : Inverse) (t : TableState) → t.next ≤ (undo_one now x t).next
unfolding undo_one
next-undo_one now (Remove k) t = omega arith
next-undo_one now (PutBack e) t = omega arith
next-undo_one now (GiveActions k actions) t = omega arith

-- What one inverse does at a key, serials and all: its image there, what stood, what stands, and the number of a new entry.
pub data Undoes (now next : ℕ) : Image → Option Entry → Option Entry → Type 0 where
  leaves : (o p : Option Entry) → p ≡ o → Undoes now next Untouched o p
  removes : (o p : Option Entry) → p ≡ None → Undoes now next Absent o p
  puts : (e : Entry) (o p : Option Entry) → p ≡ Some (back now next e) → Undoes now next (Gone e) o p
  gives : (actions : List Action) (o p : Option Entry) → p ≡ option_map (with_actions actions) o → Undoes now next (Acted actions) o p

given_same : (k : Key) (actions : List Action) (o : Option Entry) → ((e : Entry) → o ≡ Some e → place_of e ≡ key_number k) → option_map (give_actions k actions) o ≡ option_map (with_actions actions) o
given_same k actions None at = refl
given_same k actions (Some e) at = rw (eq-eqb (place_of e) (key_number k) (at e refl)) refl

given_other : (k : Key) (actions : List Action) (o : Option Entry) → ((e : Entry) → o ≡ Some e → place_of e ≢ key_number k) → option_map (give_actions k actions) o ≡ o
given_other k actions None at = refl
given_other k actions (Some e) at = rw (ne_eqb (place_of e) (key_number k) (at e refl)) refl

pub Undoes-one : (now : ℕ) (k : Key) (x : Inverse) (t : TableState) → IsTable t.entries → Undoes now t.next (image_at k x) (entry_at k t.entries) (entry_at k (undo_one now x t).entries)
unfolding undo_one image_at
Undoes-one now k (Remove l) t is =
    elim (cases_eq (key_number l) (key_number k)) [
      | inl same ↦ rw (eq-eqb (key_number l) (key_number k) same) (removes (entry_at k t.entries) (entry_at k (without l t.entries)) (entry_at-without-same l k t.entries is same))
      | inr other ↦ rw (ne_eqb (key_number l) (key_number k) other) (leaves (entry_at k t.entries) (entry_at k (without l t.entries)) (entry_at-without-other l k t.entries is other))
    ]
Undoes-one now k (PutBack e) t is =
    let b : Entry = back now t.next e in
    elim (cases_eq (place_of e) (key_number k)) [
      | inl same ↦ rw (eq-eqb (place_of e) (key_number k) same) (puts e (entry_at k t.entries) (entry_at k (with_entry b t.entries))
          (sym (entry_at-same_place (with_entry b t.entries) e.key k same) ∙ entry_at-with_entry-same t.entries b))
      | inr other ↦ rw (ne_eqb (place_of e) (key_number k) other) (leaves (entry_at k t.entries) (entry_at k (with_entry b t.entries)) (entry_at-with_entry-other t.entries b k other))
    ]
Undoes-one now k (GiveActions l actions) t is =
    let g : Entry → Entry = give_actions l actions in
    let at = entry_at-map g (key_number-give_actions l actions) t.entries k in
    elim (cases_eq (key_number l) (key_number k)) [
      | inl same ↦ rw (eq-eqb (key_number l) (key_number k) same) (gives actions (entry_at k t.entries) (entry_at k (map g t.entries))
          (at ∙ given_same l actions (entry_at k t.entries) (λ e found. entry_at-key_number t.entries k e found ∙ sym same)))
      | inr other ↦ rw (ne_eqb (key_number l) (key_number k) other) (leaves (entry_at k t.entries) (entry_at k (map g t.entries))
          (at ∙ given_other l actions (entry_at k t.entries) (λ e found eq. other (sym eq ∙ entry_at-key_number t.entries k e found))))
    ]

-- but for its serial, what stands then is what the image gives back
pub Undoes-seen : {now next : ℕ} {i : Image} {o p : Option Entry} → Undoes now next i o p → option_map seen p ≡ option_map seen (given_back now i o)
Undoes-seen (leaves o p is) = ap (option_map seen) is
Undoes-seen (removes o p is) = ap (option_map seen) is
Undoes-seen (puts e o p is) = ap (option_map seen) is
Undoes-seen (gives actions o p is) = ap (option_map seen) is

-- but for serials, a log reverted backwards gives at each key what its image there gives back
pub undo-image : (now : ℕ) (k : Key) (log : List Inverse) (t : TableState) → IsSerialed t → option_map seen (entry_at k (undo now log t).entries) ≡ option_map seen (given_back now (image_of k log) (entry_at k t.entries))
unfolding undo image_of
undo-image now k [] t h = refl
undo-image now k (x ∷ log) t h =
    let u : TableState = undo now log t in
    Undoes-seen (Undoes-one now k x u (IsSerialed-undo now log t h).table)
    ∙ given_back-seen now (image_at k x) (entry_at k u.entries) (given_back now (image_of k log) (entry_at k t.entries)) (undo-image now k log t h)
    ∙ ap (option_map seen) (sym (given_back-merge now (image_at k x) (image_of k log) (entry_at k t.entries)))
