-- What is kept of the joined switches: what is known of them, and how many rows more there is room for. All of this is our own.
use Rattle.std.specs.Prelude.{◌≡◌, ℕ, ◌+◌, ◌≤◌, List, [], Option, Some, None, length, map}
use Rattle.std.specs.Option.{option_map}
use Rattle.of_types.specs.declared.port_desc.PortDesc.{PortDesc}
use Rattle.flow_table.specs.declared.view.ViewRow.{ViewRow}
use Rattle.flow_table.specs.View.{TableView}
use Rattle.flow_table.specs.Sorted.{Ascends, at_place, with_item}
use Rattle.shadow_tables.specs.Known.{Known, changed_at, view_of}

pub record Kept : Type 0 where
  pub known : Known
  pub spare : ℕ

-- switches by their numbers ascending, each once
abbrev pub kept_place : Kept → ℕ
kept_place x = x.known.dpid

abbrev pub AreKept : List Kept → Type 0
AreKept xs = Ascends kept_place 0 xs

-- what is kept of a switch, while it is joined
abbrev pub kept_at : ℕ → List Kept → Option Kept
kept_at d xs = at_place kept_place d xs

abbrev pub known : List Kept → List Known
known xs = map (λ x. x.known) xs

abbrev pub ports_at : ℕ → List Kept → Option (List PortDesc)
ports_at d xs = option_map (λ x. x.known.ports) (kept_at d xs)

-- the table of a switch as applications see it
abbrev pub view_at : ℕ → List Kept → Option TableView
view_at d xs = option_map (λ x. view_of x.known) (kept_at d xs)

-- ---- Room

-- how many rows a switch has, and how many more there is room for
abbrev pub room_of : Kept → ℕ
room_of x = length x.known.rows + x.spare

-- So a row at a new key takes one place of the spare ones, a row at a key that is there takes none, and a row that goes gives one back.
abbrev pub KeepsRoom : Kept → Kept → Type 0
KeepsRoom old new = room_of old ≤ room_of new

-- the room of a switch that is not joined
abbrev pub room_in : Option Kept → ℕ
room_in None = 0
room_in (Some x) = room_of x

abbrev pub spare_in : Option Kept → ℕ
spare_in None = 0
spare_in (Some x) = x.spare

abbrev pub rows_in : Option Kept → List ViewRow
rows_in None = []
rows_in (Some x) = x.known.rows

abbrev pub rows_at : ℕ → List Kept → List ViewRow
rows_at d xs = rows_in (kept_at d xs)

abbrev pub spare_at : ℕ → List Kept → ℕ
spare_at d xs = spare_in (kept_at d xs)

-- what is known of one switch is changed, and no switch has less room than before
pub record Changes (d : ℕ) (change : Known → Known) (old new : List Kept) : Type 0 where
  pub known : known new ≡ changed_at d change (known old)
  pub room : (e : ℕ) → room_in (kept_at e old) ≤ room_in (kept_at e new)

-- nothing that is known is changed, and no switch has less room than before
pub record Keeps (old new : List Kept) : Type 0 where
  pub known : known new ≡ known old
  pub room : (e : ℕ) → room_in (kept_at e old) ≤ room_in (kept_at e new)

-- a switch joined with these ports, and without rows
pub record Joins (d : ℕ) (ports : List PortDesc) (old new : List Kept) : Type 0 where
  pub joined : Kept
  pub known : joined.known ≡ record { dpid = d; rows = []; ports = ports }
  pub all : new ≡ with_item kept_place joined old
