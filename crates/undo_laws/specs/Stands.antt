-- When a log, reverted backwards, gives back an earlier table: said key by key, with what makes it last through further changes and
-- through undos of newer parts of the log. The moment stays from the earlier table on.
use Rattle.std.specs.Prelude.{◌≡◌, ◌==◌, ℕ, ◌<◌, ◌≤◌, Bool, true, false, List, Option, Some, None, if◌then◌else◌}
use Rattle.std.specs.Option.{option_map}
use Rattle.of_match.specs.declared.key.Key.{Key}
use Rattle.flow_table.specs.declared.entry.Entry.{Entry}
use Rattle.flow_table.specs.Table.{TableState, entry_at}
use Rattle.undo_laws.specs.Serials.{IsSerialed}
use Rattle.undo_laws.specs.Log.{Inverse, Image, Untouched, Absent, Gone, Acted, image_of, given_back, seen}

-- when the entry with a serial was used last, by the one that stands under its key; now, where that is another one or none
abbrev pub used_at : ℕ → ℕ → Option Entry → ℕ
used_at now serial None = now
used_at now serial (Some e) = if e.serial == serial then e.used else now

-- an earlier entry as it is given back, but for its serial
abbrev pub restored_at : ℕ → Option Entry → Entry → Entry
restored_at now present e = seen (record e { used = used_at now e.serial present })

-- the earlier entry went, or there was none and one came
abbrev pub is_gone : Image → Bool
is_gone Untouched = false
is_gone Absent = true
is_gone (Gone e) = true
is_gone (Acted actions) = false

-- What the log says about a key, between the earlier entry there and the present one; `next` is the earlier table's next serial.
pub record Standing (now next : ℕ) (earlier : Option Entry) (image : Image) (present : Option Entry) : Type 0 where
  -- the image gives back the earlier entry
  pub effect : option_map seen (given_back now image present) ≡ option_map (restored_at now present) earlier
  -- where that went, the present entry came later
  pub younger : is_gone image ≡ true → (e : Entry) → present ≡ Some e → next ≤ e.serial
  -- an entry that did not come later is the earlier one
  pub older : (e : Entry) → present ≡ Some e → e.serial < next → (f : Entry) × (earlier ≡ Some f) × (f.serial ≡ e.serial)

-- the log holds what was changed since the earlier table
pub record Stands (now : ℕ) (earlier : TableState) (log : List Inverse) (present : TableState) : Type 0 where
  pub was : IsSerialed earlier
  pub serialed : IsSerialed present
  pub later : earlier.next ≤ present.next
  pub keys : (k : Key) → Standing now earlier.next (entry_at k earlier.entries) (image_of k log) (entry_at k present.entries)
