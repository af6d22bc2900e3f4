-- The rows of a table as applications see them, and how many rows more their list has room for. All of this is our own.
use Rattle.std.specs.Prelude.{ℕ, ◌+◌, ◌≤◌, List, length}
use Rattle.flow_table.specs.declared.view.ViewRow.{ViewRow}

pub record ViewRows : Type 0 where
  pub rows : List ViewRow
  pub spare : ℕ

-- how many rows there can be before the list needs memory
abbrev pub room_of : ViewRows → ℕ
room_of v = length v.rows + v.spare

-- So a row that is put in takes one place of the spare ones, a row in place of another one takes none, and a row that goes gives one
-- back.
abbrev pub KeepsRoom : ViewRows → ViewRows → Type 0
KeepsRoom old new = room_of old ≤ room_of new
