-- What a cache holds. All of this is our own.
use Rattle.std.specs.Prelude.{ℕ, ◌+◌, ◌≤◌, List, length}
use Rattle.of_match.specs.declared.key.Key.{Key}
use Rattle.of_match.specs.Key.{key_number}
use Rattle.flow_table.specs.declared.lost.Lost.{Lost}
use Rattle.flow_table.specs.Sorted.{with_item, without_place, lost_place}

-- its rows in key order, and how many rows more there is room for
pub record CacheState : Type 0 where
  pub rows : List (Key × Lost)
  pub spare : ℕ

-- the rows with this one, in place of one with its key
abbrev pub with_lost_row : Key × Lost → List (Key × Lost) → List (Key × Lost)
with_lost_row c lost = with_item lost_place c lost

abbrev pub without_lost : Key → List (Key × Lost) → List (Key × Lost)
without_lost key lost = without_place lost_place (key_number key) lost

-- Rows and room together never get less. So a row at a new key takes one place of the spare ones, a row at a key that is there takes
-- none, and a row that goes gives one back.
abbrev pub KeepsRoom : CacheState → CacheState → Type 0
KeepsRoom old new = length old.rows + old.spare ≤ length new.rows + new.spare
