-- What follows about messages that are sent in key order, each kind from the lowest place on: they say of each key what is wanted, the table of
-- the mark comes back, and none is refused.
use Rattle.std.proofs.Common.{◌≡◌, ◌≢◌, ◌==◌, if◌then◌else◌, ℕ, ◌+◌, ◌<◌, ◌≤◌, Bool, true, false, List, [], ◌∷◌, ◌++◌, length, map, Option, Some, None, refl, sym, ap, ap₂, ◌∙◌, arith, inl, inr}
use Rattle.std.proofs.lemmas.Bool.{cases_eq, cases_Bool, eq-eqb, ne_eqb}
use Rattle.std.proofs.lemmas.List.{reverse-append}
use Rattle.std.proofs.lemmas.List.Elements.{All-weaker, All-contains_itself}
use Rattle.std.specs.Prelude.{reverse}
use Rattle.std.specs.List.{Contains}
use Rattle.std.specs.Option.{is_some}
use Rattle.of_match.specs.declared.key.Key.{Key}
use Rattle.of_match.specs.Key.{key_number}
use Rattle.of_action.specs.declared.action.Action.{Action}
use Rattle.flow_table.specs.declared.entry.Entry.{Entry}
use Rattle.flow_table.specs.RowKeys.{RowsAscend}
use Rattle.flow_table.specs.Table.{TableState, AscendsFrom, place_of, has_key, entry_at}
use Rattle.flow_table.specs.Undone.{undone}
use Rattle.undo_laws.specs.Log.{PutBack, Image as Said, undo, merge, image_of}
use Rattle.undo_laws.specs.Removal.{is_key_among}
use Rattle.undo_laws.specs.Reverting.{CanRevert}
use Rattle.undo_laws.specs.Same.{SameButSerials}
use Rattle.undo_laws.specs.Table.{IsTest, Stays, AllStay, remove_all, gives}
use Rattle.undo_laws.specs.laws.LogLaws.{image_of-append}
use Rattle.undo_laws.specs.laws.RemovalLaws.{is_key_among-reverse}
use Rattle.undo_laws.specs.laws.TableLaws.{CanRevert-sent}
use Rattle.netlog_inverse.specs.declared.image.Logged.{Logged}
use Rattle.netlog_inverse.specs.Marks.{ImagesStand}
use Rattle.netlog_inverse.specs.Meaning.{said, first_at}
use Rattle.netlog_inverse.specs.Sending.{actions_at, wants_removal, wanted_actions, AreWanted, wanted, in_key_order}
use Rattle.netlog_inverse.specs.laws.MarkLaws.{sent-stand, stand-restores}
use Rattle.netlog_inverse.specs.laws.SendingLaws.{gone_if, acted_if, absent_if, image-added, image-acted, image-removed, in_one, found-actions, stays}
use Rattle.netlog_inverse.specs.laws.WantedLaws.{none-given, none-added}

-- ---- Lists the other way round

behind-entry : (k : Key) (es : List Entry) (e : Entry) → (place_of e ≡ key_number k → entry_at k es ≡ None) → entry_at k (es ++ e ∷ []) ≡ entry_at k (e ∷ es)
behind-entry k [] e alone = refl
behind-entry k (f ∷ es) e alone =
    elim (cases_eq (place_of e) (key_number k)) [
      | inr other ↦ rw (ne_eqb (place_of e) (key_number k) other) (ap (λ (o : Option Entry). if has_key k f then Some f else o) (behind-entry k es e (λ same. absurd (other same)) ∙ rw (ne_eqb (place_of e) (key_number k) other) refl))
      | inl same ↦ elim (cases_Bool (has_key k f)) [
        | inl is ↦ let bad : Some f ≡ None = rw is at (alone same) in absurd cc
        | inr not_one ↦ rw (not_one, eq-eqb (place_of e) (key_number k) same)
            (behind-entry k es e (λ here. rw not_one at (alone here)) ∙ rw (eq-eqb (place_of e) (key_number k) same) refl)
      ]
    ]

entry-reverse : (k : Key) (least : ℕ) (es : List Entry) → AscendsFrom least es → entry_at k (reverse es) ≡ entry_at k es
entry-reverse k least [] up = refl
entry-reverse k least (e ∷ es) up =
    let rest = entry-reverse k (place_of e + 1) es up.1 in
    ap (entry_at k) (reverse-append (e ∷ []) es)
    ∙ behind-entry k (reverse es) e (λ same. rest ∙ none-added k (place_of e + 1) es up.1 (omega arith))
    ∙ ap (λ (o : Option Entry). if has_key k e then Some e else o) rest

behind-action : (k : Key) (xs : List (Key × List Action)) (a : Key × List Action) → (key_number a.0 ≡ key_number k → actions_at k xs ≡ None) → actions_at k (xs ++ a ∷ []) ≡ actions_at k (a ∷ xs)
behind-action k [] a alone = refl
behind-action k (b ∷ xs) a alone =
    elim (cases_eq (key_number a.0) (key_number k)) [
      | inr other ↦ rw (ne_eqb (key_number a.0) (key_number k) other) (ap (λ (o : Option (List Action)). if key_number b.0 == key_number k then Some b.1 else o) (behind-action k xs a (λ same. absurd (other same)) ∙ rw (ne_eqb (key_number a.0) (key_number k) other) refl))
      | inl same ↦ elim (cases_Bool (key_number b.0 == key_number k)) [
        | inl is ↦ let bad : Some b.1 ≡ None = rw is at (alone same) in absurd cc
        | inr not_one ↦ rw (not_one, eq-eqb (key_number a.0) (key_number k) same)
            (behind-action k xs a (λ here. rw not_one at (alone here)) ∙ rw (eq-eqb (key_number a.0) (key_number k) same) refl)
      ]
    ]

action-reverse : (k : Key) (least : ℕ) (xs : List (Key × List Action)) → RowsAscend least xs → actions_at k (reverse xs) ≡ actions_at k xs
action-reverse k least [] up = refl
action-reverse k least (a ∷ xs) up =
    let rest = action-reverse k (key_number a.0 + 1) xs up.1 in
    ap (actions_at k) (reverse-append (a ∷ []) xs)
    ∙ behind-action k (reverse xs) a (λ same. rest ∙ none-given k (key_number a.0 + 1) xs up.1 (omega arith))
    ∙ ap (λ (o : Option (List Action)). if key_number a.0 == key_number k then Some a.1 else o) rest

-- ---- What they say, and what they do

pub image-in_key_order : (want : Key → Said) (removed : List Key) (acted : List (Key × List Action)) (added : List Entry) → AreWanted want removed acted added → (k : Key) → image_of k (in_key_order removed acted added) ≡ want k
image-in_key_order want removed acted added are k =
    image_of-append k (map PutBack (reverse added)) (map gives (reverse acted) ++ remove_all (reverse removed))
    ∙ ap₂ merge (image-added k (reverse added) ∙ ap gone_if (entry-reverse k 0 added are.added_up ∙ are.additions k))
    (image_of-append k (map gives (reverse acted)) (remove_all (reverse removed))
    ∙ ap₂ merge (image-acted k (reverse acted) ∙ ap acted_if (action-reverse k 0 acted are.acted_up ∙ are.actions k)) (image-removed k (reverse removed) ∙ ap absent_if (is_key_among-reverse removed k ∙ are.removals k)))
    ∙ in_one (want k)

stay-in_key_order : (now d : ℕ) (same : List Action → List Action → Bool) (since : List Logged) (t : TableState) (removed : List Key) (acted : List (Key × List Action)) (added : List Entry) → AreWanted (wanted now d same since t) removed acted added → AllStay (reverse removed) (reverse acted) t.entries
stay-in_key_order now d same since t removed acted added are =
    All-weaker (Contains (reverse acted)) (Stays (reverse removed) t.entries)
    (λ a among.
    let some : is_some (wanted_actions (wanted now d same since t a.0)) ≡ true = ap is_some (sym (action-reverse a.0 0 acted are.acted_up ∙ are.actions a.0)) ∙ found-actions (reverse acted) a among in
    let both = stays same (said now (first_at d a.0 since)) (entry_at a.0 t.entries) some in
    (both.0, is_key_among-reverse removed a.0 ∙ are.removals a.0 ∙ both.1))
    (reverse acted) (All-contains_itself (reverse acted))

pub key_order-restores : (now d : ℕ) (same : List Action → List Action → Bool) (since : List Logged) (earlier : TableState) (removed : List Key) (acted : List (Key × List Action)) (added : List Entry) (t : TableState) → IsTest same → AreWanted (wanted now d same since t) removed acted added → ImagesStand now d earlier since t
    → SameButSerials (undo now (in_key_order removed acted added) t).entries (undone earlier t now).entries
key_order-restores now d same since earlier removed acted added t test are h =
    stand-restores now d same since earlier (in_key_order removed acted added) t test (image-in_key_order (wanted now d same since t) removed acted added are) h

pub key_order-room : (cap now d : ℕ) (same : List Action → List Action → Bool) (since : List Logged) (earlier : TableState) (removed : List Key) (acted : List (Key × List Action)) (added : List Entry) (t : TableState) → IsTest same → AreWanted (wanted now d same since t) removed acted added → ImagesStand now d earlier since t
    → length t.entries ≤ cap → length earlier.entries ≤ cap → CanRevert cap now (in_key_order removed acted added) t
key_order-room cap now d same since earlier removed acted added t test are h fits fitted =
    CanRevert-sent cap now earlier (reverse removed) (reverse acted) (reverse added) t fits fitted (stay-in_key_order now d same since t removed acted added are)
    (sent-stand now d same since earlier (in_key_order removed acted added) t test (image-in_key_order (wanted now d same since t) removed acted added are) h)
