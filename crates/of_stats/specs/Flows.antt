-- Rows of flows: how they are spelled, which there are, and which bytes spell them (OpenFlow 1.0.0, 5.3.5 Read State
-- Messages: Individual Flow Statistics). A row is its length, its match, fields and actions. What is said of the table
-- and of nanoseconds is not kept: it is written 0, and ignored when it is read.
use Rattle.std.specs.Prelude.{◌≡◌, ℕ, ◌+◌, ◌^◌, ◌<◌, List, [], ◌∷◌, ◌++◌, length, take, drop}
use Rattle.std.specs.List.{flat_map, AllByRecursion}
use Rattle.of_types.specs.Fields.{number_at, piece}
use Rattle.of_types.specs.Layout.{Field, number, pad, spelled, AreFields, IsLaidOut}
use Rattle.of_match.specs.Fields.{bytes_of}
use Rattle.of_match.specs.Match.{match_of, fields_in}
use Rattle.of_action.specs.Spelling.{list_bytes, list_size, AreActions, Spell}
use Rattle.of_stats.specs.declared.flow_row.FlowRow.{FlowRow}

-- how many bytes a row takes
abbrev pub row_size : FlowRow → ℕ
row_size row = 88 + list_size row.actions

-- ---- the spelling

-- before the match: length, and table_id with its pad
abbrev pub front_fields : FlowRow → List Field
front_fields row = number 2 (row_size row) ∷ pad 2 ∷ []

-- behind the match, with duration_nsec as four bytes that say nothing
abbrev pub count_fields : FlowRow → List Field
count_fields row =
    number 4 row.duration_sec ∷ pad 4 ∷ number 2 row.key.priority ∷ number 2 row.idle ∷ number 2 row.hard ∷ pad 6
    ∷ number 8 row.cookie ∷ number 8 row.packets ∷ number 8 row.bytes ∷ []

unfoldable pub row_bytes : FlowRow → List ℕ
row_bytes row =
    spelled (front_fields row) ++ (bytes_of (fields_in row.key.matching) ++ (spelled (count_fields row) ++ list_bytes row.actions))

-- rows, one after the other
abbrev pub rows_bytes : List FlowRow → List ℕ
rows_bytes rows = flat_map row_bytes rows

-- ---- the grammar

-- what has a spelling that is read again
pub record IsRow (row : FlowRow) : Type 0 where
  pub fields : AreFields (count_fields row)
  pub actions : AreActions row.actions
  pub size : row_size row < 2 ^ 16

abbrev pub AreRows : List FlowRow → Type 0
AreRows rows = AllByRecursion IsRow rows

-- the bytes of one row, whatever stands in pads and in the ignored bits of its match
pub record SpellRow (row : FlowRow) (bytes : List ℕ) : Type 0 where
  pub size : length bytes ≡ row_size row
  pub said : number_at 2 0 bytes ≡ row_size row
  pub matching : match_of (piece 40 4 bytes) ≡ row.key.matching
  pub counts : IsLaidOut 44 (count_fields row) (drop 88 bytes) bytes
  pub actions : Spell row.actions (drop 88 bytes)

abbrev pub SpellRows : List FlowRow → List ℕ → Type 0
SpellRows [] bytes = bytes ≡ []
SpellRows (row ∷ rows) bytes = SpellRow row (take (row_size row) bytes) × SpellRows rows (drop (row_size row) bytes)
