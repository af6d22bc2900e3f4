-- The clock of a world and of its switches: a switch stands at a moment. All of this is our own.
use Rattle.std.specs.Prelude.{◌≡◌, ℕ}
use Rattle.flow_table.specs.Switch.{Declared, SwitchState}

-- it is the declared one, and stands at a moment
pub record StandsAt (moment : ℕ) (d : Declared) (s : SwitchState) : Type 0 where
  pub moment_is : s.moment ≡ moment
  pub declared : s.declared ≡ d

-- it has this number, and stands at this moment
pub record InTime (d moment : ℕ) (x : SwitchState) : Type 0 where
  pub number : x.declared.dpid ≡ d
  pub moment_is : x.moment ≡ moment
