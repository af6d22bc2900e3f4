-- Lists whose items stand in the order of their places, each place once. The rows of a view and those of what entries have lost are
-- such lists: a row's place is the number of its key. All of this is our own.
use Rattle.std.specs.Prelude.{◌≡◌, ◌==◌, ℕ, ◌+◌, ◌<◌, ◌≤◌, not, List, [], ◌∷◌, length, filter, slice_index_or, Option, Some, None, Result, Ok, Err, nat_lt, if◌then◌else◌}
use Rattle.std.proofs.Common.{zero, suc}
use Rattle.of_types.specs.declared.port_desc.PortDesc.{PortDesc}
use Rattle.of_match.specs.declared.key.Key.{Key}
use Rattle.of_match.specs.Key.{key_number}
use Rattle.flow_table.specs.declared.lost.Lost.{Lost}
use Rattle.flow_table.specs.declared.view.ViewRow.{ViewRow}

-- strictly ascending, from a place on
abbrev pub Ascends : {X : Type 0} → (X → ℕ) → ℕ → List X → Type 0
Ascends place least [] = Unit {0}
Ascends place least (x ∷ xs) = (least ≤ place x) × Ascends place (place x + 1) xs

-- what stands at a place
abbrev pub at_place : {X : Type 0} → (X → ℕ) → ℕ → List X → Option X
at_place place n [] = None
at_place place n (x ∷ xs) = if place x == n then Some x else at_place place n xs

-- the list with this item, in place of one at its place
abbrev pub with_item : {X : Type 0} → (X → ℕ) → X → List X → List X
with_item place x [] = x ∷ []
with_item place x (y ∷ ys) =
    if nat_lt (place x) (place y) then x ∷ y ∷ ys
    else if place x == place y then x ∷ ys
    else y ∷ with_item place x ys

-- the list without what stands at a place
abbrev pub without_place : {X : Type 0} → (X → ℕ) → ℕ → List X → List X
without_place place n xs = filter (λ x. not (place x == n)) xs

-- the items before the i-th stand below a place, and those from the j-th on above it
pub record Around {X : Type 0} (place : X → ℕ) (n i j : ℕ) (xs : List X) : Type 0 where
  pub below : (k : ℕ) (x : X) → k < i → place (slice_index_or xs k x) < n
  pub above : (k : ℕ) (x : X) → j ≤ k → k < length xs → n < place (slice_index_or xs k x)

-- where the item of a place stands, or where it would stand
abbrev pub IsFoundAt : {X : Type 0} → (X → ℕ) → ℕ → List X → Result ℕ ℕ → Type 0
IsFoundAt {X} place n xs (Ok i) = (i < length xs) × ((x : X) → place (slice_index_or xs i x) ≡ n)
IsFoundAt {X} place n xs (Err i) = (i ≤ length xs) × Around place n i i xs

-- ---- Rows by their keys

abbrev pub row_place : ViewRow → ℕ
row_place r = key_number r.key

-- the rows with this one, in place of one with its key
abbrev pub with_row : ViewRow → List ViewRow → List ViewRow
with_row r rows = with_item row_place r rows

-- the rows but for the one with this key
abbrev pub without_key : Key → List ViewRow → List ViewRow
without_key k rows = without_place row_place (key_number k) rows

abbrev pub lost_place : Key × Lost → ℕ
lost_place c = key_number c.0

-- rows in key order, each key once
abbrev pub AreRows : List ViewRow → Type 0
AreRows rows = Ascends row_place 0 rows

abbrev pub AreLostRows : List (Key × Lost) → Type 0
AreLostRows lost = Ascends lost_place 0 lost

-- ---- Ports by their numbers

abbrev pub port_number : PortDesc → ℕ
port_number p = p.port_no

-- where the port of a number goes: the ports before it have lower ones, and the one there has none
abbrev pub IsPortPlace : ℕ → List PortDesc → ℕ → Type 0
IsPortPlace n [] i = i ≡ 0
IsPortPlace n (p ∷ ps) zero = n ≤ p.port_no
IsPortPlace n (p ∷ ps) (suc i) = (p.port_no < n) × IsPortPlace n ps i
