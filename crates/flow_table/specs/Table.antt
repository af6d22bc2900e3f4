-- A flow table (OpenFlow 1.0.0, 3.1 Flow Table): its entries, and which number the next new one gets. The order of the list
-- and the numbers are our own choice.
use Rattle.std.specs.Prelude.{◌≡◌, ◌==◌, ℕ, ◌+◌, ◌<◌, ◌≤◌, Bool, List, [], ◌∷◌, length, slice_index_or, slice_get, Option, Some, None, Result, Ok, Err, All, map, nat_lt, if◌then◌else◌}
use Rattle.of_match.specs.declared.key.Key.{Key}
use Rattle.of_match.specs.Key.{key_number}
use Rattle.flow_table.specs.declared.entry.Entry.{Entry}

-- where an entry stands in key order
abbrev pub place_of : Entry → ℕ
place_of e = key_number e.key

-- strictly ascending, from a place on
abbrev pub AscendsFrom : ℕ → List Entry → Type 0
AscendsFrom least [] = Unit {0}
AscendsFrom least (e ∷ es) = (least ≤ place_of e) × AscendsFrom (place_of e + 1) es

-- no two entries have one key, and they stand in key order
abbrev pub IsTable : List Entry → Type 0
IsTable es = AscendsFrom 0 es

-- a table as calls see it: its entries, and the number that the next new one gets
pub record TableState : Type 0 where
  pub entries : List Entry
  pub next : ℕ

-- a table at first
abbrev pub empty_table : TableState
empty_table = record { entries = []; next = 0 }

-- whether an entry is that of a key
abbrev pub has_key : Key → Entry → Bool
has_key k e = place_of e == key_number k

-- the keys of entries, in the order in which these stand
abbrev pub keys : List Entry → List Key
keys es = map (λ e. e.key) es

-- the entry of a key
abbrev pub entry_at : Key → List Entry → Option Entry
entry_at k [] = None
entry_at k (e ∷ es) = if has_key k e then Some e else entry_at k es

-- the table with this entry, in place of one with its key
abbrev pub with_entry : Entry → List Entry → List Entry
with_entry e [] = e ∷ []
with_entry e (f ∷ fs) =
    if nat_lt (place_of e) (place_of f) then e ∷ f ∷ fs
    else if place_of e == place_of f then e ∷ fs
    else f ∷ with_entry e fs

-- ---- Moments, in seconds; the last one is our own choice.

abbrev pub last_moment : ℕ
last_moment = 4294967295

-- no entry was put in or used after this moment
pub record IsMoment (now : ℕ) (es : List Entry) : Type 0 where
  pub within : now ≤ last_moment
  pub installed : All (λ e. e.installed ≤ now) es
  pub used : All (λ e. e.used ≤ now) es

-- ---- Positions

-- where an entry that was looked for stands, counted from 0
abbrev pub IsPositionOf : Option Entry → List Entry → Option ℕ → Type 0
IsPositionOf None es None = Unit {0}
IsPositionOf (Some e) es (Some i) = slice_get es i ≡ Some e
IsPositionOf None es (Some i) = ⊥
IsPositionOf (Some e) es None = ⊥

-- the entries before the i-th stand below a place, and those from the j-th on above it
pub record Parts (key_number i j : ℕ) (es : List Entry) : Type 0 where
  pub below : (k : ℕ) (e : Entry) → k < i → place_of (slice_index_or es k e) < key_number
  pub above : (k : ℕ) (e : Entry) → j ≤ k → k < length es → key_number < place_of (slice_index_or es k e)

-- where the entry at a place stands, or where it would stand
abbrev pub IsPlaceOf : ℕ → List Entry → Result ℕ ℕ → Type 0
IsPlaceOf key_number es (Ok i) = (i < length es) × ((e : Entry) → place_of (slice_index_or es i e) ≡ key_number)
IsPlaceOf key_number es (Err i) = (i ≤ length es) × Parts key_number i i es
