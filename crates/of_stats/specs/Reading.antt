-- Reading rows of flows: their values, or the place of the first that is at fault (OpenFlow 1.0.0, 5.3.5 Read State
-- Messages: Individual Flow Statistics).
use Rattle.std.specs.Prelude.{◌≡◌, ℕ, zero, suc, ◌+◌, ◌==◌, ◌||◌, nat_lt, if◌then◌else◌, List, [], ◌∷◌, length, take, drop, Option, Some, None, Result, Ok, Err}
use Rattle.of_types.specs.Fields.{number_at, piece}
use Rattle.of_match.specs.Match.{match_of}
use Rattle.of_action.specs.declared.action.Action.{Action}
use Rattle.of_action.specs.declared.fault.ActionFault.{ActionFault}
use Rattle.of_action.specs.Reading.{◌>>=◌, actions_of}
use Rattle.of_stats.specs.declared.flow_row.FlowRow.{FlowRow}
use Rattle.of_stats.specs.declared.fault.StatsFault.{StatsFault}
use Rattle.of_stats.specs.declared.fault.StatsFault.TheVariants.{Bad, NoMemory}

-- What a call gave is what reading gives; where memory ran out, nothing is said.
abbrev pub Fails : {X : Type 0} → StatsFault → Result X StatsFault → Type 0
Fails (Bad place) read = read ≡ Err (Bad place)
Fails NoMemory read = Unit {0}

abbrev pub Gives : {X : Type 0} → Result X StatsFault → Result X StatsFault → Type 0
Gives (Ok x) read = read ≡ Ok x
Gives (Err fault) read = Fails fault read

-- The length of the row at the front: that of its fields at least, and no more than there is.
unfoldable pub row_length_at : List ℕ → Option ℕ
row_length_at bytes =
    if nat_lt (length bytes) 2 then None
    else (let len = number_at 2 0 bytes in if nat_lt len 88 || nat_lt (length bytes) len then None else Some len)

-- the row that a row's bytes spell, but for its actions
abbrev pub row_with : List ℕ → List Action → FlowRow
row_with bytes actions = record {
  key = record { priority = number_at 2 52 bytes; matching = match_of (piece 40 4 bytes) };
  duration_sec = number_at 4 44 bytes;
  idle = number_at 2 54 bytes;
  hard = number_at 2 56 bytes;
  cookie = number_at 8 64 bytes;
  packets = number_at 8 72 bytes;
  bytes = number_at 8 80 bytes;
  actions = actions;
}

-- A row whose actions are at fault is at fault.
abbrev pub if_actions : ℕ → List ℕ → Result (List Action) ActionFault → Result FlowRow StatsFault
if_actions place bytes (Ok actions) = Ok (row_with bytes actions)
if_actions place bytes (Err fault) = Err (Bad place)

unfoldable pub row_of : ℕ → List ℕ → Result FlowRow StatsFault
row_of place bytes = if_actions place bytes (actions_of (drop 88 bytes))

abbrev pub at_place : {X : Type 0} → ℕ → Option X → Result X StatsFault
at_place place (Some x) = Ok x
at_place place None = Err (Bad place)

-- the row at the front of what stands from a place on, and its length
unfoldable pub row_at : ℕ → List ℕ → Result (FlowRow × ℕ) StatsFault
row_at place bytes = do
  len ← at_place place (row_length_at bytes)
  row ← row_of place (take len bytes)
  Ok (row, len)

-- So many rows at most, from a place on.
unfoldable pub rows_from : ℕ → ℕ → List ℕ → Result (List FlowRow) StatsFault
rows_from zero place bytes = Ok []
rows_from (suc steps) place bytes =
    if length bytes == 0 then Ok []
    else (row_at place bytes >>= λ first. rows_from steps (place + first.1) (drop first.1 bytes) >>= λ others. Ok (first.0 ∷ others))

-- No row is shorter than a byte, so there are no more of them than bytes.
unfoldable pub rows_of : List ℕ → Result (List FlowRow) StatsFault
rows_of bytes = rows_from (length bytes) 0 bytes
