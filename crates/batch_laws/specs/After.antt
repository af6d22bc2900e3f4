-- What holds of the switches, and of what the engine knows of them, before a stimulus, and once all items that it makes are handled. All of
-- this is our own.
use Rattle.std.specs.Prelude.{◌≡◌, ℕ, [], ◌++◌, Option, Some, None}
use Rattle.of_types.specs.declared.journal.WorldStim.{WorldStim}
use Rattle.flow_table.specs.Switch.{SwitchState}
use Rattle.lego_model.specs.Controller.{places_after, events_after}
use Rattle.outside.specs.State.{State, switch_of, after_stim, declared_in}
use Rattle.outside.specs.Conforming.{AreDeclaredFrom}
use Rattle.net_txn.specs.Views.{rows_at, ViewsAscend}
use Rattle.switch_laws.specs.Shown.{shown_places}
use Rattle.switch_laws.specs.Sound.{AllSound}
use Rattle.batch_laws.specs.Knowledge.{known_by, Knowledge}
use Rattle.batch_laws.specs.Calm.{known_ports}
use Rattle.batch_laws.specs.Lasting.{AllLast}
use Rattle.batch_laws.specs.LinkTells.{KnownIn, StandsIn}
use Rattle.batch_laws.specs.Waiting.{NoneWait}

-- Before a stimulus nothing waits, the engine knows each switch as it is, and each switch stands well.
pub record Facts (s : State) (k : Knowledge) : Type 0 where
  pub ascend : AreDeclaredFrom 1 (declared_in s.links)
  pub waits : NoneWait s.links
  pub due : s.due ≡ []
  pub known : (d : ℕ) → KnownIn (switch_of d s) (rows_at d k.views) (known_ports d k.ports)
  pub order : ViewsAscend 0 k.views
  pub moment : k.moment ≡ s.moment
  pub stands : (d : ℕ) → StandsIn d (switch_of d s)
  pub last : AllLast s.links

abbrev pub SoundIn : Option SwitchState → Type 0
SoundIn None = Unit {0}
SoundIn (Some s) = AllSound s.table.entries

-- After it the events that wait and the switches are those of the reference controller, and the engine knows each switch as it is.
pub record After (x : WorldStim) (s : State) (before k : Knowledge) : Type 0 where
  pub queue : k.queue ≡ before.queue ++ events_after x s.moment (shown_places (declared_in s.links) (known_by before) s)
  pub places : shown_places (declared_in s.links) (known_by k) (after_stim x s) ≡ places_after x s.moment (shown_places (declared_in s.links) (known_by before) s)
  pub known : (d : ℕ) → KnownIn (switch_of d (after_stim x s)) (rows_at d k.views) (known_ports d k.ports)
  pub order : ViewsAscend 0 k.views
  pub moment : k.moment ≡ (after_stim x s).moment
  pub sound : (d : ℕ) → SoundIn (switch_of d (after_stim x s))
