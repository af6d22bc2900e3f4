-- One switch at a stimulus: what may happen to it, the messages that its link to the controller brings, and what the engine knows of it
-- before and behind them. All of this is our own.
use Rattle.std.specs.Prelude.{◌≡◌, ◌≢◌, ℕ, ◌^◌, ◌<◌, ◌≤◌, List, ◌++◌, map, Option, Some, None, IsTrue}
use Rattle.std.specs.List.{AllByRecursion, flat_map}
use Rattle.std.specs.Option.{option_map}
use Rattle.of_types.specs.declared.port_desc.PortDesc.{PortDesc}
use Rattle.of_types.specs.declared.journal.Stimulus.{Stimulus}
use Rattle.of_types.specs.declared.journal.Stimulus.TheVariants.{Frame, Advance, Port, Counts, Raw}
use Rattle.of_wire.specs.Reading.{reading_of}
use Rattle.flow_table.specs.declared.view.ViewRow.{ViewRow}
use Rattle.flow_table.specs.View.{TableView}
use Rattle.flow_table.specs.Table.{IsTable}
use Rattle.flow_table.specs.Switch.{SwitchState}
use Rattle.flow_table.specs.Step.{after_stimulus}
use Rattle.undo_laws.specs.CorrectedSwitch.{corrected_switch}
use Rattle.app_frames.specs.declared.frame.Event.{Event}
use Rattle.lego_model.specs.Answers.{rows_of_view}
use Rattle.lego_model.specs.Events.{ports_of}
use Rattle.lego_model.specs.Controller.{sent_events}
use Rattle.outside.specs.declared.step.WorldStep.{WorldStep}
use Rattle.outside.specs.declared.step.WorldStep.TheVariants.{From}
use Rattle.outside.specs.State.{Link, link_of, stimulus_sends}
use Rattle.outside.specs.Conforming.{may_be_raw}
use Rattle.net_txn.specs.Views.{rows_at, ViewsAscend}
use Rattle.switch_laws.specs.Shown.{rows_or_none, correction_in, corrections}
use Rattle.switch_laws.specs.Sound.{AllSound}
use Rattle.batch_laws.specs.Knowledge.{known_by, Knowledge}
use Rattle.batch_laws.specs.Calm.{known_ports}
use Rattle.batch_laws.specs.Lasting.{Lasts}
use Rattle.lego_model.specs.Places.{table_rows}

-- what may happen to a switch that is joined
abbrev pub Happens : Stimulus → Type 0
Happens (Frame port bytes) = Unit {0}
Happens (Advance t) = t < 2 ^ 32
Happens (Port port change) = (1 ≤ port) × (port ≤ 65280)
Happens (Counts priority packets bytes) = Unit {0}
Happens (Raw bytes) = IsTrue (may_be_raw (reading_of bytes))

-- what holds of a switch that is joined, between stimuli
pub record StandsWell (d : ℕ) (s : SwitchState) : Type 0 where
  pub number : s.declared.dpid ≡ d
  pub lasts : Lasts s.declared s
  pub table : IsTable s.table.entries
  pub sound : AllSound s.table.entries

-- what the engine knows of it
pub record KnownIn (o : Option SwitchState) (rows : Option (List ViewRow)) (described : Option (List PortDesc)) : Type 0 where
  pub agrees : option_map rows_of_view rows ≡ option_map table_rows o
  pub ports : described ≡ option_map ports_of o

abbrev pub StandsIn : ℕ → Option SwitchState → Type 0
StandsIn d None = Unit {0}
StandsIn d (Some s) = StandsWell d s

abbrev pub HappensIn : Stimulus → Option SwitchState → Type 0
HappensIn x None = Unit {0}
HappensIn x (Some s) = Happens x

-- what it knows then
pub record KnownThen (x : Stimulus) (o : Option SwitchState) (before after : Option (List ViewRow)) (described : Option (List PortDesc)) : Type 0 where
  pub known : KnownIn (option_map (after_stimulus x) o) after described
  pub shown : option_map (corrected_switch (correction_in (rows_or_none after))) (option_map (after_stimulus x) o) ≡ option_map (after_stimulus x) (option_map (corrected_switch (correction_in (rows_or_none before))) o)

-- what becomes of the knowledge of all switches
pub record SwitchStep (d : ℕ) (x : Stimulus) (o : Option SwitchState) (k now : Knowledge) : Type 0 where
  pub here : KnownThen x o (rows_at d k.views) (rows_at d now.views) (known_ports d now.ports)
  pub others : (e : ℕ) → e ≢ d → rows_at e now.views ≡ rows_at e k.views
  pub others_ports : (e : ℕ) → e ≢ d → known_ports e now.ports ≡ known_ports e k.ports
  pub order : (least : ℕ) → ViewsAscend least k.views → ViewsAscend least now.views
  pub queue : now.queue ≡ k.queue ++ sent_events x d (option_map (corrected_switch (known_by k d)) o)
  pub moment : now.moment ≡ k.moment

abbrev pub items_of : Stimulus → Link → List WorldStep
items_of x l = map (From l.declared.dpid) (stimulus_sends x l.switch)

abbrev pub seen_events : Stimulus → List TableView → Link → List Event
seen_events x views l = sent_events x l.declared.dpid (option_map (corrected_switch (corrections views l.declared.dpid)) l.switch)

pub record LinkReady (x : Stimulus) (k : Knowledge) (l : Link) : Type 0 where
  pub known : KnownIn l.switch (rows_at l.declared.dpid k.views) (known_ports l.declared.dpid k.ports)
  pub stands : StandsIn l.declared.dpid l.switch
  pub may : HappensIn x l.switch

pub record LinkThen (x : Stimulus) (k now : Knowledge) (l : Link) : Type 0 where
  pub here : KnownThen x l.switch (rows_at l.declared.dpid k.views) (rows_at l.declared.dpid now.views) (known_ports l.declared.dpid now.ports)

pub record LinksStep (x : Stimulus) (ls : List Link) (k now : Knowledge) : Type 0 where
  pub each : AllByRecursion (LinkThen x k now) ls
  pub others : (e : ℕ) → link_of e ls ≡ None → rows_at e now.views ≡ rows_at e k.views
  pub others_ports : (e : ℕ) → link_of e ls ≡ None → known_ports e now.ports ≡ known_ports e k.ports
  pub order : (least : ℕ) → ViewsAscend least k.views → ViewsAscend least now.views
  pub queue : now.queue ≡ k.queue ++ flat_map (seen_events x k.views) ls
  pub moment : now.moment ≡ k.moment
