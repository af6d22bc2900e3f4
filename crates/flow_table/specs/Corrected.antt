-- The table of a switch as it is shown to the owners of its entries. An entry that was removed and added again counts from 0 at the
-- switch, and it stands there with the rest of its hard timeout; and the engine asks for notices that no owner asked for. What is shown
-- has what was lost and what was asked. All of this is our own.
use Rattle.std.specs.Prelude.{ℕ, ◌+◌, ◌-◌, ◌%◌, ◌^◌, List, map, Option, Some, None}
use Rattle.std.specs.Option.{option_map}
use Rattle.of_match.specs.declared.key.Key.{Key}
use Rattle.of_match.specs.Key.{key_number}
use Rattle.flow_table.specs.declared.entry.Entry.{Entry}
use Rattle.flow_table.specs.declared.lost.Lost.{Lost}
use Rattle.flow_table.specs.declared.view.ViewRow.{ViewRow}
use Rattle.flow_table.specs.Sorted.{row_place, lost_place, at_place}
use Rattle.flow_table.specs.Table.{TableState}

-- the owner's row of a key
abbrev pub row_at : Key → List ViewRow → Option ViewRow
row_at k rows = at_place row_place (key_number k) rows

-- what the entry of a key has lost
abbrev pub lost_at : Key → List (Key × Lost) → Option Lost
lost_at k lost = option_map (λ c. c.1) (at_place lost_place (key_number k) lost)

-- the flags with which an owner asked for an entry; none where it asked for none
abbrev pub asked_flags : Option ViewRow → ℕ
asked_flags None = 0
asked_flags (Some r) = r.flags

-- an entry with what it has lost: counts are modulo 2^64, and it was put in earlier by its lost age
abbrev pub with_lost : Option Lost → Entry → Entry
with_lost None e = e
with_lost (Some l) e = record e {
  packets = (e.packets + l.packets) % 2 ^ 64;
  bytes = (e.bytes + l.bytes) % 2 ^ 64;
  installed = e.installed - l.age;
  hard = l.hard;
}

-- an entry as it is shown over the rows of owners and those of what was lost
unfoldable pub shown_entry : List ViewRow → List (Key × Lost) → Entry → Entry
shown_entry rows lost e = with_lost (lost_at e.key lost) (record e { flags = asked_flags (row_at e.key rows) })

abbrev pub shown_entries : List ViewRow → List (Key × Lost) → List Entry → List Entry
shown_entries rows lost es = map (shown_entry rows lost) es

abbrev pub shown_table : List ViewRow → List (Key × Lost) → TableState → TableState
shown_table rows lost t = record t { entries = shown_entries rows lost t.entries }
