-- What stays so of switches whatever is called: they are the declared ones, and the serials of their tables differ; and what a packet or a
-- frame leaves of a switch. All of this is our own.
use Rattle.std.specs.Prelude.{◌≡◌, ℕ, List, map, Option, Some, None}
use Rattle.std.specs.List.{AllByRecursion}
use Rattle.flow_table.specs.Switch.{Declared, SwitchState, port_desc}
use Rattle.undo_laws.specs.Serials.{IsSerialed}
use Rattle.lego_model.specs.Answers.{rows_of_table}
use Rattle.outside.specs.State.{Link, declared_in}

abbrev pub Serialed : SwitchState → Type 0
Serialed s = IsSerialed s.table

abbrev pub SerialedIn : Option SwitchState → Type 0
SerialedIn None = Unit {0}
SerialedIn (Some s) = Serialed s

abbrev pub Tables : List Link → Type 0
Tables ls = AllByRecursion (λ l. SerialedIn l.switch) ls

-- the links are of the declared switches, and their tables stand
pub record AreLinks (declared : List Declared) (ls : List Link) : Type 0 where
  pub declared_is : declared_in ls ≡ declared
  pub tables : Tables ls

-- It is the declared switch that it was, keeps the keys and actions of its table, and describes its ports as before.
pub record FaceKept (before now : SwitchState) : Type 0 where
  pub declared : now.declared ≡ before.declared
  pub ports : (n : ℕ) → map (port_desc n) now.ports ≡ map (port_desc n) before.ports
  pub rows : rows_of_table now.table.entries ≡ rows_of_table before.table.entries
