-- The last lines of a report, of the engine and of the reference controller. All of this is our own.
use Rattle.std.specs.Prelude.{◌≡◌, ℕ, List, [], ◌∷◌, ◌++◌, length, Option, Some, None, if◌then◌else◌}
use Rattle.std.specs.List.{flat_map}
use Rattle.of_stats.specs.declared.flow_row.FlowRow.{FlowRow}
use Rattle.flow_table.specs.declared.view.ViewRow.{ViewRow}
use Rattle.lego_model.specs.Controller.{Run, Line}
use Rattle.lego_model.specs.RunReport.{lost_line, switch_line, flow_line, app_line, end_line, switch_text, apps_text, line_text}
use Rattle.outside.specs.Seen.{Seen, journal}
use Rattle.outside.specs.State.{State, state, switch_of}
use Rattle.lego_model.specs.Places.{Place}
use Rattle.of_types.specs.Membership.{is_among}
use Rattle.lego_model.specs.AtOnce.{AtOnce}
use Rattle.flow_table.specs.View.{TableView}
use Rattle.switch_laws.specs.Orderly.{OrderlySince}
use Rattle.switch_laws.specs.Shown.{shown_switch, shown_places, corrections, shown_by}
use Rattle.run_laws.specs.Engine.{Application, Engine}
use Rattle.lego_model.specs.History.{own_acts, given_in, stimuli_in, released_of, lost_of}
use Rattle.flow_table.specs.Switch.{SwitchState}
use Rattle.lego_model.specs.Answers.{rows_of_table, rows_of_view}

-- ---- A switch

-- rows and the rows of a view have the same keys in the same order
abbrev pub SameKeys : List FlowRow → List ViewRow → Type 0
SameKeys [] [] = Unit {0}
SameKeys (row ∷ rows) (v ∷ vs) = (v.key ≡ row.key) × SameKeys rows vs
SameKeys [] (v ∷ vs) = ⊥
SameKeys (row ∷ rows) [] = ⊥

-- the lines of rows, each with the flags of the view's row beside it
abbrev pub flow_lines : List FlowRow → List ViewRow → List ℕ
flow_lines [] vs = []
flow_lines (row ∷ rows) [] = []
flow_lines (row ∷ rows) (v ∷ vs) = flow_line row v.flags ++ flow_lines rows vs

-- how many there are, and each
abbrev pub table_lines : ℕ → List FlowRow → List ViewRow → List ℕ
table_lines d rows vs = switch_line d (length rows) ++ flow_lines rows vs

-- ---- All that have a view, in the order of the views

-- what is said of a switch of a world, as its owner sees it, where these are lost
abbrev pub shown_text : List ℕ → List TableView → State → ℕ → List ℕ
shown_text lost views s d = if is_among d lost then lost_line d else switch_text (shown_switch (corrections views) s d)

-- how a switch stands then
abbrev pub switch_left : List ℕ → State → ℕ → Option SwitchState
switch_left lost s d = if is_among d lost then None else switch_of d s

-- ---- The end

-- the lines of applications
abbrev pub app_lines : List Application → List ℕ
app_lines [] = []
app_lines (a ∷ more) = app_line a.rule.name a.alive a.done a.failed ++ app_lines more

abbrev pub engine_end : Engine → List ℕ
engine_end e = app_lines e.apps ++ end_line e.net.moment e.events

-- of a switch that is lost when it is asked for its rows, that alone
abbrev pub place_lines : List ℕ → Place → List ℕ
place_lines lost p = if is_among p.declared.dpid lost then lost_line p.declared.dpid else switch_text p.switch

-- what the engine says at the end, where these switches are lost
abbrev pub last_text : {Own : Type 0} → List ℕ → Seen Own → Engine → List ℕ
last_text lost seen e = flat_map (place_lines lost) (shown_places seen.given.declared (shown_by e.net) (state seen)) ++ engine_end e

-- what the reference controller says at the end, where the applications have these names
abbrev pub last_lines : List (List ℕ) → Run → List ℕ
last_lines names r = flat_map (place_lines r.losses.last) r.places ++ apps_text names r.apps ++ end_line r.moment r.events

-- ---- What it leaves: switches were asked, which tells nothing of an application, is no stimulus and releases nothing; these were lost

pub record OnlyAsked {Own : Type 0} (lost : List ℕ) (old new : Seen Own) : Type 0 where
  pub given : new.given ≡ old.given
  pub acts : (app : ℕ) → own_acts app new ≡ own_acts app old
  pub inputs : (app : ℕ) → given_in app new ≡ given_in app old
  pub stimuli : stimuli_in new ≡ stimuli_in old
  pub released : released_of new ≡ released_of old
  pub lost_is : lost_of new ≡ lost_of old ++ lost
  pub marks : (state new).marks ≡ (state old).marks
  pub at_once : (app : ℕ) → AtOnce app (journal old.history) → AtOnce app (journal new.history)
  pub orderly : (number : ℕ) → OrderlySince number old new

-- a switch that has a view is joined, and its table has these rows
pub record JoinedWith (vs : List ViewRow) (o : Option SwitchState) : Type 0 where
  pub switch : SwitchState
  pub stands : o ≡ Some switch
  pub rows : rows_of_view vs ≡ rows_of_table switch.table.entries

abbrev pub lines_text : List (List ℕ) → List Line → List ℕ
lines_text names lines = flat_map (line_text names) lines
