-- What stays so of each switch through the whole history of a world: it is the one that was declared, and its ports are few, in order, and
-- within their limits. All of this is our own.
use Rattle.std.specs.Prelude.{◌≡◌, ℕ, ◌+◌, ◌^◌, ◌<◌, ◌≤◌, List, [], ◌∷◌, length, Option, Some, None}
use Rattle.std.specs.List.{AllByRecursion}
use Rattle.of_types.specs.declared.journal.Stimulus.{Stimulus}
use Rattle.of_types.specs.declared.journal.Stimulus.TheVariants.{Port}
use Rattle.flow_table.specs.Switch.{Declared, PortState, SwitchState}
use Rattle.outside.specs.State.{Link}
use Rattle.outside.specs.Conforming.{MayDeclare}

-- strictly ascending by number, within 65,280, and with configs of 32 bits
abbrev pub AscendPorts : ℕ → List PortState → Type 0
AscendPorts least [] = Unit {0}
AscendPorts least (p ∷ ps) = (least ≤ p.number) × (p.number ≤ 65280) × (p.config < 2 ^ 32) × AscendPorts (p.number + 1) ps

-- it is the declared one, with at most 64 such ports
pub record Lasts (d : Declared) (s : SwitchState) : Type 0 where
  pub declared : s.declared ≡ d
  pub ports : AscendPorts 1 s.ports
  pub few : length s.ports ≤ 64

-- a port that changes has a number from 1 to 65,280
abbrev pub PortWithin : Stimulus → Type 0
PortWithin (Port port change) = (1 ≤ port) × (port ≤ 65280)
PortWithin other = Unit {0}

abbrev pub LastsIn : Declared → Option SwitchState → Type 0
LastsIn d None = Unit {0}
LastsIn d (Some s) = Lasts d s

-- a switch that may be declared, and stands so while it is joined
pub record LinkLasts (l : Link) : Type 0 where
  pub may : MayDeclare l.declared
  pub switch : LastsIn l.declared l.switch

abbrev pub AllLast : List Link → Type 0
AllLast ls = AllByRecursion LinkLasts ls
