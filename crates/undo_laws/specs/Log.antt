-- What a log holds of changes to one flow table, and what reverting it backwards gives. A log is oldest first; it is reverted newest
-- first. All of it is our own: OpenFlow 1.0.0 has no undo, only messages that change entries (4.6 Flow Table Modification Messages).
use Rattle.std.specs.Prelude.{◌==◌, ℕ, ◌+◌, List, [], ◌∷◌, map, filter, Option, Some, None, if◌then◌else◌}
use Rattle.std.specs.Option.{option_map}
use Rattle.of_match.specs.declared.key.Key.{Key}
use Rattle.of_match.specs.Key.{key_number}
use Rattle.of_action.specs.declared.action.Action.{Action}
use Rattle.of_wire.specs.declared.bodies.FlowMod.{FlowMod}
use Rattle.flow_table.specs.declared.entry.Entry.{Entry}
use Rattle.flow_table.specs.Table.{TableState, place_of, has_key, entry_at, with_entry}
use Rattle.flow_table.specs.Change.{key_in, is_modify, describes, deletes, adds, refusal, unless_refused}
use Rattle.undo_laws.specs.Removal.{without}

-- an entry but for its serial, which no message shows
abbrev pub seen : Entry → Entry
seen e = record e { serial = 0 }

-- ---- What undoes a change of one entry

pub data Inverse : Type 0 where
  -- of a key that was new: its entry goes
  Remove : Key → Inverse
  -- of an entry that was removed or replaced: it comes back
  PutBack : Entry → Inverse
  -- of an entry whose actions were changed: it has the old ones again
  GiveActions : Key → List Action → Inverse

abbrev pub old_entry : Entry → Inverse
old_entry e = PutBack (seen e)

abbrev pub old_actions : Entry → Inverse
old_actions e = GiveActions e.key e.actions

-- Under ADD, and under a MODIFY that meets no entry, the key is new or its entry is replaced.
abbrev pub logged_addition : Key → Option Entry → List Inverse
logged_addition k None = Remove k ∷ []
logged_addition k (Some e) = old_entry e ∷ []

-- what a change that is not refused logs about the entries before it
unfoldable pub logged : FlowMod → List Entry → List Inverse
logged m es =
    if adds m es then logged_addition (key_in m) (entry_at (key_in m) es)
    else if is_modify m then map old_actions (filter (λ e. describes m e.key) es)
    else map old_entry (filter (deletes m) es)

-- what a change logs: a refused one nothing
unfoldable pub logged_by : ℕ → FlowMod → List Entry → List Inverse
logged_by cap m es = unless_refused (refusal cap m es) [] (logged m es)

-- ---- Playing it backwards

abbrev pub with_actions : List Action → Entry → Entry
with_actions actions e = record e { actions = actions }

-- the entry of a key with these actions, the others as they are
abbrev pub give_actions : Key → List Action → Entry → Entry
give_actions k actions e = if has_key k e then with_actions actions e else e

-- an entry as it comes back: its idle time begins anew, and it is a new one of the table
abbrev pub back : ℕ → ℕ → Entry → Entry
back now serial e = record e { used = now; serial = serial }

unfoldable pub undo_one : ℕ → Inverse → TableState → TableState
undo_one now (Remove k) t = record t { entries = without k t.entries }
undo_one now (PutBack e) t = record { entries = with_entry (back now t.next e) t.entries; next = t.next + 1 }
undo_one now (GiveActions k actions) t = record t { entries = map (give_actions k actions) t.entries }

-- the table after a log is reverted backwards at a moment
unfoldable pub undo : ℕ → List Inverse → TableState → TableState
undo now [] t = t
undo now (x ∷ log) t = undo_one now x (undo now log t)

-- ---- What a log says about one key

pub data Image : Type 0 where
  -- nothing
  Untouched : Image
  -- there was no entry
  Absent : Image
  -- there was this entry, and it went
  Gone : Entry → Image
  -- there was the entry of now, with these actions
  Acted : List Action → Image

unfoldable pub image_at : Key → Inverse → Image
image_at k (Remove l) = if key_number l == key_number k then Absent else Untouched
image_at k (PutBack e) = if place_of e == key_number k then Gone e else Untouched
image_at k (GiveActions l actions) = if key_number l == key_number k then Acted actions else Untouched

-- an older image and a newer one as one
abbrev pub merge : Image → Image → Image
merge Untouched newer = newer
merge Absent newer = Absent
merge (Gone e) newer = Gone e
merge (Acted actions) Untouched = Acted actions
merge (Acted actions) Absent = Absent
merge (Acted actions) (Gone e) = Gone (with_actions actions e)
merge (Acted actions) (Acted later) = Acted actions

unfoldable pub image_of : Key → List Inverse → Image
image_of k [] = Untouched
image_of k (x ∷ log) = merge (image_at k x) (image_of k log)

-- what stands under a key after its image is reverted back, but for the serial
abbrev pub given_back : ℕ → Image → Option Entry → Option Entry
given_back now Untouched o = o
given_back now Absent o = None
given_back now (Gone e) o = Some (record e { used = now })
given_back now (Acted actions) o = option_map (with_actions actions) o
