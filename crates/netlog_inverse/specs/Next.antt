-- What is sent for the images since a mark, message by message: of each kind the next key in key order whose first image wants a message, by
-- the row that stands there now. All of this is our own.
use Rattle.std.specs.Prelude.{◌≡◌, ℕ, ◌+◌, ◌-◌, ◌≤◌, ◌<◌, Bool, true, false, not, List, [], ◌∷◌, ◌++◌, map, drop, slice_get, Option, Some, None, option_to_list}
use Rattle.std.specs.List.{AllByRecursion}
use Rattle.std.specs.Option.{is_some}
use Rattle.of_match.specs.declared.key.Key.{Key}
use Rattle.of_match.specs.Key.{key_number}
use Rattle.of_action.specs.declared.action.Action.{Action}
use Rattle.flow_table.specs.declared.entry.Entry.{Entry}
use Rattle.flow_table.specs.declared.lost.Lost.{Lost}
use Rattle.flow_table.specs.declared.view.ViewRow.{ViewRow}
use Rattle.flow_table.specs.Corrected.{row_at}
use Rattle.netlog_inverse.specs.declared.image.Image.{Image}
use Rattle.netlog_inverse.specs.declared.image.Logged.{Logged}
use Rattle.netlog_inverse.specs.declared.image.PutBack.{PutBack}
use Rattle.netlog_inverse.specs.declared.image.PutBack.TheVariants.{Row}
use Rattle.netlog_inverse.specs.declared.sending.InverseKind.{InverseKind}
use Rattle.netlog_inverse.specs.declared.sending.InverseKind.TheVariants.{Delete, Modify, Add}
use Rattle.netlog_inverse.specs.declared.sending.Wanted.{Wanted}
use Rattle.netlog_inverse.specs.Actions.{same_actions}
use Rattle.netlog_inverse.specs.Index.{key_in_put}
use Rattle.netlog_inverse.specs.Log.{logged_at}
use Rattle.netlog_inverse.specs.Marks.{IsFirstAt}
use Rattle.netlog_inverse.specs.Messages.{removal, addition, modification, spelled_mod, hard_left}
use Rattle.netlog_inverse.specs.Sending.{wanted_actions, wanted_entry}
use Rattle.netlog_inverse.specs.Meaning.{said, first_at}

-- ---- Which message an image wants

-- the entry of a key stands, with other actions
abbrev pub has_others : List Action → Option ViewRow → Bool
has_others actions None = false
has_others actions (Some r) = not (same_actions actions r.actions)

-- Nothing stood there, and an entry stands now; an entry stood there and the present one, which stands for it, has other actions; an entry
-- stood there that went.
abbrev pub wants_row : InverseKind → Bool → Option ViewRow → Option Lost → Option ViewRow → Bool
wants_row Delete stands None lost present = is_some present
wants_row Modify true (Some r) lost present = has_others r.actions present
wants_row Add false (Some r) lost present = is_some lost
wants_row kind stands row lost present = false

abbrev pub wants_put : InverseKind → Bool → PutBack → Option ViewRow → Bool
wants_put kind stands (Row k row lost) present = wants_row kind stands row lost present
wants_put kind stands other present = false

abbrev pub wants : InverseKind → Option Image → Option ViewRow → Bool
wants kind None present = false
wants kind (Some i) present = wants_put kind i.stands i.put present

-- the message of a kind
abbrev pub message_of : InverseKind → Image → List ℕ
message_of Delete i = i.delete
message_of Modify i = i.modify
message_of Add i = i.add

-- ---- The first image of a key from a position on

abbrev pub IsFirstFrom : ℕ → Key → ℕ → List Logged → Option ℕ → Type 0
IsFirstFrom d k from log None = first_at d k (drop from log) ≡ None
IsFirstFrom d k from log (Some at) = (from ≤ at) × IsFirstAt d k (at - from) (drop from log)

-- ---- What is looked for: messages of a kind to a switch, for what a log holds behind a mark, where these rows stand

pub record Sought : Type 0 where
  pub kind : InverseKind
  pub dpid : ℕ
  pub mark : ℕ
  pub log : List Logged
  pub rows : List ViewRow

-- the first image of a key since the mark
abbrev pub image_for : Sought → Key → Option Image
image_for s k = first_at s.dpid k (drop s.mark s.log)

abbrev pub is_sought : Sought → Key → Bool
is_sought s k = wants s.kind (image_for s k) (row_at k s.rows)

-- the place behind a key, from which on it is looked for
abbrev pub place_after : Option Key → ℕ
place_after None = 0
place_after (Some k) = key_number k + 1

-- no key is sought from a place on, or up to another one
abbrev pub NoneFrom : Sought → ℕ → Type 0
NoneFrom s from = (k : Key) → from ≤ key_number k → is_sought s k ≡ false

abbrev pub NoneBetween : Sought → ℕ → ℕ → Type 0
NoneBetween s from to = (k : Key) → from ≤ key_number k → key_number k < to → is_sought s k ≡ false

-- what is found is the image of its key, at its position
abbrev pub IsImageOf : Sought → Wanted → Image → Type 0
IsImageOf s w i = (image_for s w.key ≡ Some i) × (key_in_put i.put ≡ Some w.key) × (slice_get s.log w.at ≡ Some (logged_at s.dpid i))

-- it is the next one that is sought from a place on
pub record IsNextFrom (s : Sought) (from : ℕ) (w : Wanted) : Type 0 where
  pub behind : from ≤ key_number w.key
  pub passed : NoneBetween s from (key_number w.key)
  pub sought : is_sought s w.key ≡ true
  pub found : (i : Image) × IsImageOf s w i

-- the next one behind a key, or none
abbrev pub IsNext : Sought → Option Key → Option Wanted → Type 0
IsNext s after None = NoneFrom s (place_after after)
IsNext s after (Some w) = IsNextFrom s (place_after after) w

-- ---- All of a kind, one after the other

-- these are the ones from a place on up to another
abbrev pub ArePassed : Sought → ℕ → List Wanted → ℕ → Type 0
ArePassed s from [] to = (from ≤ to) × NoneBetween s from to
ArePassed s from (w ∷ ws) to = IsNextFrom s from w × ArePassed s (key_number w.key + 1) ws to

-- these are all from a place on
abbrev pub AreAll : Sought → ℕ → List Wanted → Type 0
AreAll s from [] = NoneFrom s from
AreAll s from (w ∷ ws) = IsNextFrom s from w × AreAll s (key_number w.key + 1) ws

-- what they say is wanted: the actions that keys are given, and the entries that come back at a moment
abbrev pub given_to : Key → Option (List Action) → List (Key × List Action)
given_to k None = []
given_to k (Some actions) = (k, actions) ∷ []

abbrev pub actions_for : ℕ → Sought → List Wanted → List (Key × List Action)
actions_for now s [] = []
actions_for now s (w ∷ ws) = given_to w.key (wanted_actions (said now (image_for s w.key))) ++ actions_for now s ws

abbrev pub entries_for : ℕ → Sought → List Wanted → List Entry
entries_for now s [] = []
entries_for now s (w ∷ ws) = option_to_list (wanted_entry (said now (image_for s w.key))) ++ entries_for now s ws

abbrev pub keys_for : List Wanted → List Key
keys_for ws = map (λ w. w.key) ws

-- ---- Images as `plan` makes them and `Log::mend_key` sets them right: a row has its key, the messages are those of the row, and what is left of
-- the hard timeout is that at the age that was lost.

abbrev pub IsMadeAdd : Bool → ViewRow → Option Lost → List ℕ → Type 0
IsMadeAdd true r lost add = (hard : ℕ) × (add ≡ spelled_mod (addition hard r))
IsMadeAdd false r (Some lost) add = add ≡ spelled_mod (addition (hard_left lost.hard lost.age) r)
IsMadeAdd false r None add = ⊥

abbrev pub IsMadePut : Image → PutBack → Type 0
IsMadePut i (Row k None lost) = i.delete ≡ spelled_mod (removal k)
IsMadePut i (Row k (Some r) lost) = (r.key ≡ k) × (i.stands ≡ true → i.modify ≡ spelled_mod (modification r)) × IsMadeAdd i.stands r lost i.add
IsMadePut i other = Unit {0}

abbrev pub IsMade : Logged → Type 0
IsMade l = IsMadePut l.image l.image.put

abbrev pub AreMade : List Logged → Type 0
AreMade log = AllByRecursion IsMade log

-- ---- One key

-- what is told of one key: it is not sought, or it is, and this is its image
abbrev pub IsFoundFor : Sought → Key → Option Wanted → Type 0
IsFoundFor s k None = is_sought s k ≡ false
IsFoundFor s k (Some w) = (is_sought s k ≡ true) × (key_number w.key ≡ key_number k) × ((i : Image) × IsImageOf s w i)
