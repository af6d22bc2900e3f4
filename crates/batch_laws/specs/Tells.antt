-- What the items of a stimulus tell the engine of a switch, and what it knows once they are handled. All of this is our own.
use Rattle.std.specs.Prelude.{◌≡◌, ◌≢◌, ℕ, List, ◌++◌, Some, None, Result, Ok, Err}
use Rattle.std.specs.List.{AllByRecursion}
use Rattle.of_types.specs.declared.journal.Stimulus.{Stimulus}
use Rattle.of_wire.specs.declared.message.Message.{Message}
use Rattle.of_wire.specs.declared.message.Message.TheVariants.{FlowRemoved, PortStatus}
use Rattle.of_wire.specs.declared.message.Envelope.{Envelope}
use Rattle.of_wire.specs.declared.fault.WireFault.{WireFault}
use Rattle.of_wire.specs.Reading.{reading_of}
use Rattle.flow_table.specs.declared.view.ViewRow.{ViewRow}
use Rattle.flow_table.specs.View.{TableView}
use Rattle.flow_table.specs.Switch.{SwitchState}
use Rattle.flow_table.specs.Step.{after_stimulus, sent_by_stimulus}
use Rattle.undo_laws.specs.CorrectedSwitch.{corrected_switch}
use Rattle.lego_model.specs.Answers.{rows_of_table, rows_of_view}
use Rattle.lego_model.specs.Events.{ports_of, events_of}
use Rattle.lego_model.specs.Controller.{places_after, events_after, left_at}
use Rattle.lego_model.specs.Places.{Place, with_place}
use Rattle.net_txn.specs.Views.{rows_at, ViewsAscend}
use Rattle.switch_laws.specs.Shown.{shown_places, correction_in, shown_by}
use Rattle.switch_laws.specs.Since.{ports_known}
use Rattle.batch_laws.specs.Knowledge.{known_by, Knowledge, ports_lost}
use Rattle.batch_laws.specs.Calm.{known_ports}
use Rattle.outside.specs.State.{State, switch_of, after_stim, state}
use Rattle.of_types.specs.declared.journal.WorldStim.{WorldStim}
use Rattle.app_frames.specs.declared.frame.Event.{Event}
use Rattle.outside.specs.Seen.{Seen}
use Rattle.net_txn.specs.Net.{NetState}
use Rattle.net_txn.specs.ChangeSteps.{Agrees}
use Rattle.switch_laws.specs.Sound.{Sound}

abbrev pub IsPlain : Message → Type 0
IsPlain (FlowRemoved f) = ⊥
IsPlain (PortStatus status) = ⊥
IsPlain other = Unit {0}

abbrev pub IsPlainRead : Result Envelope WireFault → Type 0
IsPlainRead (Ok e) = IsPlain e.message
IsPlainRead (Err fault) = Unit {0}

-- bytes of a message that is no news of a port and no notice of an entry that went
abbrev pub PlainBytes : List ℕ → Type 0
PlainBytes bytes = IsPlainRead (reading_of bytes)

abbrev pub AllPlain : List (List ℕ) → Type 0
AllPlain list = AllByRecursion PlainBytes list

-- the rows of one view changed
pub record ViewChanged (d : ℕ) (rows : List ViewRow) (before now : List TableView) : Type 0 where
  pub here : rows_at d now ≡ Some rows
  pub others : (e : ℕ) → e ≢ d → rows_at e now ≡ rows_at e before
  pub order : (least : ℕ) → ViewsAscend least before → ViewsAscend least now

-- The events are those that its owners see; its view, its flags and its known ports are those of the switch after the stimulus.
pub record SwitchHandled (d : ℕ) (x : Stimulus) (s : SwitchState) (rows : List ViewRow) (k now : Knowledge) : Type 0 where
  pub rows_now : List ViewRow
  pub views : ViewChanged d rows_now k.views now.views
  pub queue : now.queue ≡ k.queue ++ events_of d (sent_by_stimulus x (corrected_switch (correction_in rows) s))
  pub agrees : rows_of_view rows_now ≡ rows_of_table (after_stimulus x s).table.entries
  pub shown : corrected_switch (correction_in rows_now) (after_stimulus x s) ≡ after_stimulus x (corrected_switch (correction_in rows) s)
  pub ports : known_ports d now.ports ≡ Some (ports_of (after_stimulus x s))
  pub others : (e : ℕ) → e ≢ d → known_ports e now.ports ≡ known_ports e k.ports
  pub moment : now.moment ≡ k.moment

-- a switch as the engine knows it
pub record SwitchKnown (d : ℕ) (s : SwitchState) (rows : List ViewRow) (k : Knowledge) : Type 0 where
  pub rows_are : rows_at d k.views ≡ Some rows
  pub agrees : rows_of_view rows ≡ rows_of_table s.table.entries
  pub ports : known_ports d k.ports ≡ Some (ports_of s)

-- one switch changed, and what the engine knows of it; the others are as they were
pub record OnlyOne (d : ℕ) (s now : State) (k after : Knowledge) : Type 0 where
  pub switches : (e : ℕ) → e ≢ d → switch_of e now ≡ switch_of e s
  pub rows : (e : ℕ) → e ≢ d → rows_at e after.views ≡ rows_at e k.views
  pub described : (e : ℕ) → e ≢ d → known_ports e after.ports ≡ known_ports e k.ports

-- what is so once the items of a stimulus are handled
pub record StimulusHandled {Own : Type 0} (x : WorldStim) (seen : Seen Own) (net : NetState) (queue : List Event) (k : Knowledge) : Type 0 where
  pub queue_is : k.queue ≡ queue ++ events_after x (state seen).moment (shown_places seen.given.declared (shown_by net) (state seen))
  pub places : shown_places seen.given.declared (known_by k) (after_stim x (state seen)) ≡ places_after x (state seen).moment (shown_places seen.given.declared (shown_by net) (state seen))
  pub agrees : (d : ℕ) → Agrees d k.views (after_stim x (state seen))
  pub known : (d : ℕ) → ports_lost d k.ports ≡ ports_known d (switch_of d (after_stim x (state seen)))
  pub order : ViewsAscend 0 k.views
  pub moment : k.moment ≡ (after_stim x (state seen)).moment
  pub sound : Sound (after_stim x (state seen))

-- What is so once a switch was lost while they were handled: as the reference controller has it, the switch is out.
pub record StimulusLost {Own : Type 0} (x : WorldStim) (d : ℕ) (seen new : Seen Own) (net : NetState) (queue : List Event) (k : Knowledge) : Type 0 where
  pub after : List Place
  pub after_is : after ≡ places_after x (state seen).moment (shown_places seen.given.declared (shown_by net) (state seen))
  pub queue_is : k.queue ≡ queue ++ left_at x d after
  pub places : shown_places seen.given.declared (known_by k) (state new) ≡ with_place d (λ o. None) after
  pub agrees : (e : ℕ) → Agrees e k.views (state new)
  pub known : (e : ℕ) → ports_lost e k.ports ≡ ports_known e (switch_of e (state new))
  pub order : ViewsAscend 0 k.views
  pub moment : k.moment ≡ (after_stim x (state seen)).moment
  pub sound : Sound (state new)
