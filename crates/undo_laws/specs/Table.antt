-- One message a key: what is sent for a key is told by the image of it and by the entry that stands there now. Removals go first, then
-- changes of actions, then additions, so that a full table has room (OpenFlow 1.0.0, 4.6 Flow Table Modification Messages). This is our
-- own.
use Rattle.std.specs.Prelude.{◌≡◌, ℕ, ◌≤◌, Bool, true, false, List, ◌++◌, All, map, Option, Some, None, if◌then◌else◌}
use Rattle.std.specs.Option.{option_map, is_some}
use Rattle.of_match.specs.declared.key.Key.{Key}
use Rattle.of_action.specs.declared.action.Action.{Action}
use Rattle.flow_table.specs.declared.entry.Entry.{Entry}
use Rattle.flow_table.specs.Table.{TableState, entry_at}
use Rattle.undo_laws.specs.Removal.{is_key_among}
use Rattle.undo_laws.specs.Log.{Inverse, Remove, PutBack, GiveActions, Image, Untouched, Absent, Gone, Acted, image_of, given_back, seen}
use Rattle.undo_laws.specs.Stands.{is_gone}

-- ---- The table: an image, the entry that stands at its key now, and what is sent as an image, that is, as what it undoes

-- a test of lists of actions that tells none apart that are one
abbrev pub IsTest : (List Action → List Action → Bool) → Type 0
IsTest same = (a b : List Action) → same a b ≡ true → a ≡ b

abbrev pub sent_for : (List Action → List Action → Bool) → Image → Option Entry → Image
sent_for same Untouched o = Untouched
-- before none, now none: nothing; now an entry: DELETE_STRICT
sent_for same Absent None = Untouched
sent_for same Absent (Some e) = Absent
-- before an entry for which the present one stands, with equal actions: nothing; with other actions: MODIFY_STRICT
sent_for same (Acted actions) None = Untouched
sent_for same (Acted actions) (Some e) = if same actions e.actions then Untouched else Acted actions
-- before an entry, and now none, or one that does not stand for it: ADD
sent_for same (Gone e) o = Gone e

-- ---- Logs that give the same

-- At each key both logs give back the same to the present entry. Where only the other log says that an entry went, the present one
-- came later than the earlier table.
pub record GiveAlike (now : ℕ) (earlier : TableState) (log other : List Inverse) (t : TableState) : Type 0 where
  pub given : (k : Key) → option_map seen (given_back now (image_of k other) (entry_at k t.entries)) ≡ option_map seen (given_back now (image_of k log) (entry_at k t.entries))
  pub gone : (k : Key) → is_gone (image_of k other) ≡ true → is_gone (image_of k log) ≡ false → (e : Entry) → entry_at k t.entries ≡ Some e → earlier.next ≤ e.serial

-- ---- The order

abbrev pub remove_all : List Key → List Inverse
remove_all ks = map Remove ks

abbrev pub gives : Key × List Action → Inverse
gives a = GiveActions a.0 a.1

-- a log that is sent backwards: first all removals, then all changes of actions, then all additions
abbrev pub in_order : List Key → List (Key × List Action) → List Entry → List Inverse
in_order removed acted added = map PutBack added ++ (map gives acted ++ remove_all removed)

-- the entry whose actions change stands
abbrev pub IsMet : List Entry → Key × List Action → Type 0
IsMet es a = is_some (entry_at a.0 es) ≡ true

abbrev pub AllMeet : List (Key × List Action) → List Entry → Type 0
AllMeet acted es = All (IsMet es) acted

-- it stands, and is not removed
abbrev pub Stays : List Key → List Entry → Key × List Action → Type 0
Stays removed es a = IsMet es a × (is_key_among removed a.0 ≡ false)

abbrev pub AllStay : List Key → List (Key × List Action) → List Entry → Type 0
AllStay removed acted es = All (Stays removed es) acted
