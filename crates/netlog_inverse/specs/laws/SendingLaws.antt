-- What follows about the messages to a switch: they say of each key what is wanted, at most one for each key, and none is refused.
use Rattle.std.proofs.Common.{◌≡◌, ◌==◌, ℕ, zero, suc, get_or, ◌+◌, ◌<◌, ◌≤◌, Bool, true, false, List, [], ◌∷◌, ◌++◌, length, map, filter, Option, Some, None, refl, sym, ap, ap₂, ◌∙◌, arith, inl, inr}
use Rattle.std.proofs.lemmas.Bool.{cases_eq, cases_Bool, eq-eqb, ne_eqb}
use Rattle.std.proofs.lemmas.List.Elements.{All-weaker, All-contains_itself}
use Rattle.std.specs.List.{Contains}
use Rattle.std.specs.Option.{is_some}
use Rattle.of_match.specs.declared.key.Key.{Key}
use Rattle.of_match.specs.Key.{key_number}
use Rattle.of_action.specs.declared.action.Action.{Action}
use Rattle.flow_table.specs.declared.entry.Entry.{Entry}
use Rattle.flow_table.specs.Table.{TableState, AscendsFrom, place_of, entry_at}
use Rattle.flow_table.specs.Undone.{undone}
use Rattle.undo_laws.specs.Removal.{is_key_among}
use Rattle.undo_laws.specs.Log.{Inverse, PutBack, Image as Said, Untouched, Absent, Gone, Acted, undo, image_at, merge, image_of}
use Rattle.undo_laws.specs.laws.LogLaws.{image_of-append}
use Rattle.undo_laws.specs.Stands.{Stands}
use Rattle.undo_laws.specs.Reverting.{CanRevert}
use Rattle.undo_laws.specs.Same.{SameButSerials}
use Rattle.undo_laws.specs.Table.{IsTest, Stays, AllStay, sent_for, remove_all, gives, in_order}
use Rattle.undo_laws.specs.laws.TableLaws.{CanRevert-sent}
use Rattle.netlog_inverse.specs.declared.image.Logged.{Logged}
use Rattle.netlog_inverse.specs.Meaning.{said, first_at}
use Rattle.netlog_inverse.specs.Restoring.{Says}
use Rattle.netlog_inverse.specs.laws.RestoringLaws.{Stands-images_sent, images-restore}
use Rattle.netlog_inverse.specs.Sending.{KeysAscend, actions_at, wants_removal, wanted_actions, wanted_entry, AreWanted, wanted, is_inverse_of, messages_of}
use Rattle.flow_table.specs.RowKeys.{RowsAscend}

-- ---- What the messages say of a key

abbrev pub gone_if : Option Entry → Said
gone_if None = Untouched
gone_if (Some e) = Gone e

abbrev pub acted_if : Option (List Action) → Said
acted_if None = Untouched
acted_if (Some actions) = Acted actions

abbrev pub absent_if : Bool → Said
absent_if false = Untouched
absent_if true = Absent

pub image-added : (k : Key) (es : List Entry) → image_of k (map PutBack es) ≡ gone_if (entry_at k es)
unfolding image_of image_at
image-added k [] = refl
image-added k (e ∷ es) =
    elim (cases_Bool (place_of e == key_number k)) [
      | inl here ↦ rw here refl
      | inr there ↦ rw there (image-added k es)
    ]

gives-keeps : (k : Key) (actions : List Action) (acted : List (Key × List Action)) → merge (Acted actions) (image_of k (map gives acted)) ≡ Acted actions
unfolding image_of image_at
gives-keeps k actions [] = refl
gives-keeps k actions (a ∷ acted) =
    elim (cases_Bool (key_number a.0 == key_number k)) [
      | inl here ↦ rw here (ap (merge (Acted actions)) (gives-keeps k a.1 acted))
      | inr there ↦ rw there (gives-keeps k actions acted)
    ]

pub image-acted : (k : Key) (acted : List (Key × List Action)) → image_of k (map gives acted) ≡ acted_if (actions_at k acted)
unfolding image_of image_at
image-acted k [] = refl
image-acted k (a ∷ acted) =
    elim (cases_Bool (key_number a.0 == key_number k)) [
      | inl here ↦ rw here (gives-keeps k a.1 acted)
      | inr there ↦ rw there (image-acted k acted)
    ]

pub image-removed : (k : Key) (ks : List Key) → image_of k (remove_all ks) ≡ absent_if (is_key_among ks k)
unfolding image_of image_at
image-removed k [] = refl
image-removed k (l ∷ ks) =
    elim (cases_Bool (key_number l == key_number k)) [
      | inl here ↦ rw here refl
      | inr there ↦ rw there (image-removed k ks)
    ]

pub in_one : (want : Said) → merge (gone_if (wanted_entry want)) (merge (acted_if (wanted_actions want)) (absent_if (wants_removal want))) ≡ want
in_one Untouched = refl
in_one Absent = refl
in_one (Gone e) = refl
in_one (Acted actions) = refl

pub image-in_order : (want : Key → Said) (removed : List Key) (acted : List (Key × List Action)) (added : List Entry) → AreWanted want removed acted added → (k : Key) → image_of k (in_order removed acted added) ≡ want k
image-in_order want removed acted added are k =
    image_of-append k (map PutBack added) (map gives acted ++ remove_all removed)
    ∙ ap₂ merge (image-added k added ∙ ap gone_if (are.additions k))
    (image_of-append k (map gives acted) (remove_all removed)
    ∙ ap₂ merge (image-acted k acted ∙ ap acted_if (are.actions k)) (image-removed k removed ∙ ap absent_if (are.removals k)))
    ∙ in_one (want k)

-- ---- One message a key

abbrev one_if : {A : Type 0} → Option A → ℕ
one_if None = 0
one_if (Some x) = 1

abbrev one_if_true : Bool → ℕ
one_if_true false = 0
one_if_true true = 1

no-added : (k : Key) (es : List Entry) (least : ℕ) → AscendsFrom least es → key_number k < least → messages_of k (map PutBack es) ≡ 0
no-added k [] least up lt = refl
no-added k (e ∷ es) least up lt =
    rw (ne_eqb (place_of e) (key_number k) (omega arith)) (no-added k es (place_of e + 1) up.1 (omega arith))

count-added : (k : Key) (es : List Entry) (least : ℕ) → AscendsFrom least es → messages_of k (map PutBack es) ≡ one_if (entry_at k es)
count-added k [] least up = refl
count-added k (e ∷ es) least up =
    elim (cases_eq (place_of e) (key_number k)) [
      | inl here ↦ let none = no-added k es (place_of e + 1) up.1 (omega arith) in rw (eq-eqb (place_of e) (key_number k) here) (omega arith)
      | inr there ↦ rw (ne_eqb (place_of e) (key_number k) there) (count-added k es (place_of e + 1) up.1)
    ]

no-acted : (k : Key) (acted : List (Key × List Action)) (least : ℕ) → RowsAscend least acted → key_number k < least → messages_of k (map gives acted) ≡ 0
no-acted k [] least up lt = refl
no-acted k (a ∷ acted) least up lt =
    rw (ne_eqb (key_number a.0) (key_number k) (omega arith)) (no-acted k acted (key_number a.0 + 1) up.1 (omega arith))

count-acted : (k : Key) (acted : List (Key × List Action)) (least : ℕ) → RowsAscend least acted → messages_of k (map gives acted) ≡ one_if (actions_at k acted)
count-acted k [] least up = refl
count-acted k (a ∷ acted) least up =
    elim (cases_eq (key_number a.0) (key_number k)) [
      | inl here ↦ let none = no-acted k acted (key_number a.0 + 1) up.1 (omega arith) in rw (eq-eqb (key_number a.0) (key_number k) here) (omega arith)
      | inr there ↦ rw (ne_eqb (key_number a.0) (key_number k) there) (count-acted k acted (key_number a.0 + 1) up.1)
    ]

no-removed : (k : Key) (ks : List Key) (least : ℕ) → KeysAscend least ks → key_number k < least → messages_of k (remove_all ks) ≡ 0
no-removed k [] least up lt = refl
no-removed k (l ∷ ks) least up lt =
    rw (ne_eqb (key_number l) (key_number k) (omega arith)) (no-removed k ks (key_number l + 1) up.1 (omega arith))

count-removed : (k : Key) (ks : List Key) (least : ℕ) → KeysAscend least ks → messages_of k (remove_all ks) ≡ one_if_true (is_key_among ks k)
count-removed k [] least up = refl
count-removed k (l ∷ ks) least up =
    elim (cases_eq (key_number l) (key_number k)) [
      | inl here ↦ let none = no-removed k ks (key_number l + 1) up.1 (omega arith) in rw (eq-eqb (key_number l) (key_number k) here) (omega arith)
      | inr there ↦ rw (ne_eqb (key_number l) (key_number k) there) (count-removed k ks (key_number l + 1) up.1)
    ]

count-append : (test : Inverse → Bool) (xs ys : List Inverse) → length (filter test (xs ++ ys)) ≡ length (filter test xs) + length (filter test ys)
count-append test [] ys = omega arith
count-append test (x ∷ xs) ys =
    elim (cases_Bool (test x)) [
      | inl passes ↦ rw passes (omega (arith, count-append test xs ys))
      | inr fails ↦ rw fails (count-append test xs ys)
    ]

at_most_one : (want : Said) → one_if (wanted_entry want) + (one_if (wanted_actions want) + one_if_true (wants_removal want)) ≤ 1
at_most_one Untouched = omega arith
at_most_one Absent = omega arith
at_most_one (Gone e) = omega arith
at_most_one (Acted actions) = omega arith

pub one-message : (want : Key → Said) (removed : List Key) (acted : List (Key × List Action)) (added : List Entry) → AreWanted want removed acted added → (k : Key) → messages_of k (in_order removed acted added) ≤ 1
one-message want removed acted added are k =
    let whole = count-append (is_inverse_of k) (map PutBack added) (map gives acted ++ remove_all removed) in
    let rest = count-append (is_inverse_of k) (map gives acted) (remove_all removed) in
    let first = count-added k added 0 are.added_up ∙ ap one_if (are.additions k) in
    let second = count-acted k acted 0 are.acted_up ∙ ap one_if (are.actions k) in
    let third = count-removed k removed 0 are.removed_up ∙ ap one_if_true (are.removals k) in
    omega (arith, at_most_one (want k))

-- ---- None is refused, and they give the earlier table back

-- an entry that is to get other actions stands, and is not removed
pub found-actions : (acted : List (Key × List Action)) (a : Key × List Action) → Contains acted a → is_some (actions_at a.0 acted) ≡ true
found-actions acted a (i, within, at) = at_position acted i a within at
  where
    at_position : (acted : List (Key × List Action)) (i : ℕ) (a : Key × List Action) → i < length acted → get_or acted i a ≡ a → is_some (actions_at a.0 acted) ≡ true
    at_position [] i a within at = absurd (omega arith)
    at_position (b ∷ acted) zero a within at = rw (eq-eqb (key_number b.0) (key_number a.0) (ap (λ (x : Key × List Action). key_number x.0) at)) refl
    at_position (b ∷ acted) (suc i) a within at =
        elim (cases_Bool (key_number b.0 == key_number a.0)) [
          | inl here ↦ rw here refl
          | inr there ↦ rw there (at_position acted i a (omega arith) at)
        ]

pub stays : (same : List Action → List Action → Bool) (i : Said) (o : Option Entry) → is_some (wanted_actions (sent_for same i o)) ≡ true → (is_some o ≡ true) × (wants_removal (sent_for same i o) ≡ false)
stays same Untouched o some = absurd cc
stays same Absent None some = absurd cc
stays same Absent (Some e) some = absurd cc
stays same (Acted actions) None some = absurd cc
stays same (Acted actions) (Some e) some =
    elim (cases_Bool (same actions e.actions)) [
      | inl equal ↦ let bad : false ≡ true = rw equal at some in absurd cc
      | inr other ↦ (refl, rw other refl)
    ]
stays same (Gone e) o some = absurd cc

all-stay : (now d : ℕ) (same : List Action → List Action → Bool) (since : List Logged) (t : TableState) (removed : List Key) (acted : List (Key × List Action)) (added : List Entry) → AreWanted (wanted now d same since t) removed acted added → AllStay removed acted t.entries
all-stay now d same since t removed acted added are =
    All-weaker (Contains acted) (Stays removed t.entries)
    (λ a among.
    let some : is_some (wanted_actions (wanted now d same since t a.0)) ≡ true = ap is_some (sym (are.actions a.0)) ∙ found-actions acted a among in
    let both = stays same (said now (first_at d a.0 since)) (entry_at a.0 t.entries) some in
    (both.0, are.removals a.0 ∙ both.1))
    acted (All-contains_itself acted)

pub sent-restores : (now d : ℕ) (same : List Action → List Action → Bool) (since : List Logged) (earlier : TableState) (log : List Inverse) (removed : List Key) (acted : List (Key × List Action)) (added : List Entry) (t : TableState) → IsTest same → Says now d since log → AreWanted (wanted now d same since t) removed acted added → Stands now earlier log t → SameButSerials (undo now (in_order removed acted added) t).entries (undone earlier t now).entries
sent-restores now d same since earlier log removed acted added t test says are h =
    images-restore now d same since earlier log (in_order removed acted added) t test says (image-in_order (wanted now d same since t) removed acted added are) h

pub sent-fits : (cap now d : ℕ) (same : List Action → List Action → Bool) (since : List Logged) (earlier : TableState) (log : List Inverse) (removed : List Key) (acted : List (Key × List Action)) (added : List Entry) (t : TableState) → IsTest same → Says now d since log → AreWanted (wanted now d same since t) removed acted added → Stands now earlier log t → length t.entries ≤ cap → length earlier.entries ≤ cap → CanRevert cap now (in_order removed acted added) t
sent-fits cap now d same since earlier log removed acted added t test says are h fits fitted =
    CanRevert-sent cap now earlier removed acted added t fits fitted (all-stay now d same since t removed acted added are)
    (Stands-images_sent now d same since earlier log (in_order removed acted added) t test says (image-in_order (wanted now d same since t) removed acted added are) h)
