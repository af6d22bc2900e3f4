-- The links of switches, that is, their connections to the controller: which messages wait on them. And the places of the declared switches
-- in the reference controller. All of this is our own.
use Rattle.std.specs.Prelude.{◌≡◌, ◌==◌, ℕ, List, [], map, Option, Some, if◌then◌else◌}
use Rattle.std.specs.List.{AllByRecursion}
use Rattle.flow_table.specs.Switch.{Declared, SwitchState}
use Rattle.app_frames.specs.declared.frame.Event.{Event}
use Rattle.lego_model.specs.Places.{Place}
use Rattle.outside.specs.declared.step.WorldStep.{WorldStep}
use Rattle.outside.specs.declared.step.WorldStep.TheVariants.{From}
use Rattle.outside.specs.State.{Link, link_of}

abbrev pub place_at : (ℕ → Option SwitchState) → Declared → Place
place_at g d = record { declared = d; switch = g d.dpid }

-- of the events that each place makes, those of the switch with this number
abbrev pub events_of_one : ℕ → (Place → List Event) → Place → List Event
events_of_one d f p = if p.declared.dpid == d then f p else []

-- a declared switch has a link
pub record HasLink (d : ℕ) (ls : List Link) : Type 0 where
  pub link : Link
  pub link_is : link_of d ls ≡ Some link
  pub number : link.declared.dpid ≡ d

abbrev pub waiting : Link → List WorldStep
waiting l = map (From l.declared.dpid) l.waits

abbrev pub NoneWait : List Link → Type 0
NoneWait ls = AllByRecursion (λ l. l.waits ≡ []) ls
