-- Serials of a table: each new entry takes the next one, so an entry is known by it for good. They are our own.
use Rattle.std.specs.Prelude.{◌≡◌, ℕ, ◌<◌, List, Some}
use Rattle.of_match.specs.declared.key.Key.{Key}
use Rattle.of_match.specs.Key.{key_number}
use Rattle.flow_table.specs.declared.entry.Entry.{Entry}
use Rattle.flow_table.specs.Table.{TableState, entry_at, IsTable}

-- the serials of some entries lie below a number
abbrev pub SerialsBelow : ℕ → List Entry → Type 0
SerialsBelow most es = (k : Key) (e : Entry) → entry_at k es ≡ Some e → e.serial < most

-- no two keys' entries share a serial
abbrev pub SerialsDiffer : List Entry → Type 0
SerialsDiffer es = (k l : Key) (e f : Entry) → entry_at k es ≡ Some e → entry_at l es ≡ Some f → e.serial ≡ f.serial → key_number k ≡ key_number l

-- The entries are a table, whose serials differ and lie below the next one.
pub record IsSerialed (t : TableState) : Type 0 where
  pub table : IsTable t.entries
  pub below : SerialsBelow t.next t.entries
  pub differ : SerialsDiffer t.entries
