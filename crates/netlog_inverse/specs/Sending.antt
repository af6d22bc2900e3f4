-- The messages to one switch, in order: the DELETE_STRICTs, then the MODIFY_STRICTs, then the ADDs, each kind in key order, and for each
-- key what the table of images wants. This is our own.
use Rattle.std.specs.Prelude.{◌≡◌, ◌==◌, ℕ, ◌+◌, ◌≤◌, Bool, true, false, List, [], ◌∷◌, length, filter, reverse, Option, Some, None, if◌then◌else◌}
use Rattle.of_match.specs.declared.key.Key.{Key}
use Rattle.of_match.specs.Key.{key_number}
use Rattle.of_action.specs.declared.action.Action.{Action}
use Rattle.flow_table.specs.declared.entry.Entry.{Entry}
use Rattle.flow_table.specs.Table.{TableState, IsTable, place_of, entry_at}
use Rattle.undo_laws.specs.Removal.{is_key_among}
use Rattle.undo_laws.specs.Log.{Inverse, Remove, PutBack, GiveActions, Image as Said, Absent, Gone, Acted}
use Rattle.undo_laws.specs.Table.{sent_for, in_order}
use Rattle.netlog_inverse.specs.declared.image.Logged.{Logged}
use Rattle.netlog_inverse.specs.Meaning.{said, first_at}
use Rattle.flow_table.specs.RowKeys.{RowsAscend}

-- ---- Key order

abbrev pub KeysAscend : ℕ → List Key → Type 0
KeysAscend least [] = Unit {0}
KeysAscend least (k ∷ ks) = (least ≤ key_number k) × KeysAscend (key_number k + 1) ks

-- the actions that a key is given
abbrev pub actions_at : Key → List (Key × List Action) → Option (List Action)
actions_at k [] = None
actions_at k (a ∷ acted) = if key_number a.0 == key_number k then Some a.1 else actions_at k acted

-- ---- What is wanted of a key

abbrev pub wants_removal : Said → Bool
wants_removal Absent = true
wants_removal other = false

abbrev pub wanted_actions : Said → Option (List Action)
wanted_actions (Acted actions) = Some actions
wanted_actions other = None

abbrev pub wanted_entry : Said → Option Entry
wanted_entry (Gone e) = Some e
wanted_entry other = None

-- The removals, the changes of actions and the additions, each in key order, are what is wanted of each key.
pub record AreWanted (want : Key → Said) (removed : List Key) (acted : List (Key × List Action)) (added : List Entry) : Type 0 where
  pub removed_up : KeysAscend 0 removed
  pub acted_up : RowsAscend 0 acted
  pub added_up : IsTable added
  pub removals : (k : Key) → is_key_among removed k ≡ wants_removal (want k)
  pub actions : (k : Key) → actions_at k acted ≡ wanted_actions (want k)
  pub additions : (k : Key) → entry_at k added ≡ wanted_entry (want k)

-- what the table wants of each key of a switch, by the first images since a mark and the entries that stand
abbrev pub wanted : ℕ → ℕ → (List Action → List Action → Bool) → List Logged → TableState → Key → Said
wanted now d same since t k = sent_for same (said now (first_at d k since)) (entry_at k t.entries)

-- A log that is sent backwards has the last of a kind first: so it is sent in key order, each kind from the lowest place on.
abbrev pub in_key_order : List Key → List (Key × List Action) → List Entry → List Inverse
in_key_order removed acted added = in_order (reverse removed) (reverse acted) (reverse added)

-- ---- How many messages a key has

abbrev pub is_inverse_of : Key → Inverse → Bool
is_inverse_of k (Remove l) = key_number l == key_number k
is_inverse_of k (PutBack e) = place_of e == key_number k
is_inverse_of k (GiveActions l actions) = key_number l == key_number k

abbrev pub messages_of : Key → List Inverse → ℕ
messages_of k sent = length (filter (is_inverse_of k) sent)
