-- Two tables that go through the same changes and undos, as a switch's and a definition's do: they are the same but for serials, and so are the
-- tables that they give back. Serials count within a turn alone: as one begins entries are numbered by their places, and none is left at its end.
-- All of this is our own.
use Rattle.std.specs.Prelude.{◌≡◌, ℕ, ◌+◌, List, [], ◌∷◌, length, map}
use Rattle.flow_table.specs.declared.entry.Entry.{Entry}
use Rattle.flow_table.specs.Table.{TableState}
use Rattle.undo_laws.specs.Log.{Inverse, seen}
use Rattle.undo_laws.specs.Same.{SameButSerials}
use Rattle.undo_laws.specs.Stands.{Stands}

-- a table that was, and what has become of it
pub record Course : Type 0 where
  pub earlier : TableState
  pub present : TableState

-- One log stands for the earlier table on both sides, and the present tables are the same but for serials.
pub record Abreast (now : ℕ) (log : List Inverse) (one other : Course) : Type 0 where
  pub first : Stands now one.earlier log one.present
  pub second : Stands now other.earlier log other.present
  pub same : SameButSerials one.present.entries other.present.entries

-- ---- Serials within a turn

abbrev pub numbered_from : ℕ → List Entry → List Entry
numbered_from n [] = []
numbered_from n (e ∷ es) = record e { serial = n } ∷ numbered_from (n + 1) es

-- a table as a turn begins
abbrev pub numbered : TableState → TableState
numbered t = record { entries = numbered_from 0 t.entries; next = length t.entries }

-- a table as a turn ends
abbrev pub bare : TableState → TableState
bare t = record { entries = map seen t.entries; next = 0 }
