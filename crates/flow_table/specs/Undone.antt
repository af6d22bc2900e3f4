-- What an undo gives back: the earlier table, in which each entry that had been removed meanwhile begins its idle time anew, since
-- OpenFlow 1.0.0 has no message that sets an idle timer. This is our own.
use Rattle.std.specs.Prelude.{◌==◌, ℕ, List, [], ◌∷◌, map, if◌then◌else◌}
use Rattle.flow_table.specs.declared.entry.Entry.{Entry}
use Rattle.flow_table.specs.Table.{TableState}

-- when the entry with this serial was used last, or now where it is not there
abbrev pub used_or : ℕ → ℕ → List Entry → ℕ
used_or now serial [] = now
used_or now serial (e ∷ es) = if e.serial == serial then e.used else used_or now serial es

abbrev pub restored : ℕ → List Entry → Entry → Entry
restored now after e = record e { used = used_or now e.serial after }

-- the table before, given back at a moment out of the table after; serials go on
unfoldable pub undone : TableState → TableState → ℕ → TableState
undone before after now = record { entries = map (restored now after.entries) before.entries; next = after.next }
