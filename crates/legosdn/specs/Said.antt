-- The reference controller of a session: its switches, what its lines say of the applications, and its stimuli. All of this is our own.
use Rattle.std.specs.Prelude.{◌≡◌, ℕ, ◌≤◌, ◌⊎◌, Bool, false, List, [], ◌∷◌, Option, Some, None}
use Rattle.std.specs.List.{flat_map}
use Rattle.flow_table.specs.View.{TableView}
use Rattle.flow_table.specs.Switch.{SwitchState}
use Rattle.net_guard.specs.declared.quota.ChosenJudge.{ChosenJudge}
use Rattle.net_guard.specs.Judging.{table_with, is_allowed}
use Rattle.legosdn.specs.Input.{ProgramValue}
use Rattle.outside.specs.Seen.{Given, Seen}
use Rattle.sim_world.specs.Told.{without_links}
use Rattle.sim_world.specs.Scripts.{Scripts, starts_of, replies_of}
use Rattle.lego_model.specs.Places.{Place, table_rows}
use Rattle.lego_model.specs.Losses.{Losses}
use Rattle.lego_model.specs.Controller.{Run, reference}
use Rattle.lego_model.specs.Scripted.{starts_said, replies_said}
use Rattle.lego_model.specs.SessionLines.{SessionValue}
use Rattle.session_text.specs.Loading.{given_by}
use Rattle.lego_model.specs.ReferenceRun.{Said, fresh_from}
use Rattle.lego_model.specs.History.{stimuli_in}
use Rattle.lego_model.specs.AllLines.{AllDone, NoneBetween}
use Rattle.lego_model.specs.CutRun.{start_said, Progress, WroteSoFar, WasWriting, AlikeUpTo, CutBetweenLines, CutWhileWriting}

-- ---- The judge

-- the table of a switch, while it is joined: a judge looks at its keys and actions alone
abbrev pub table_of : ℕ → Option SwitchState → List TableView
table_of d None = []
table_of d (Some s) = table_with (d, table_rows s) ∷ []

-- the tables of the joined switches, in the order of the declared ones
abbrev pub tables_of : List Place → List TableView
tables_of places = flat_map (λ p. table_of p.declared.dpid p.switch) places

-- the judge of a policy lets these switches stand so
unfoldable pub allowed_by : ChosenJudge → List Place → Bool
allowed_by judge places = is_allowed judge (tables_of places)

-- ---- The run

-- what the lines say of each application, by its index; behind the last line come as many starts that are ready as `more` says,
-- and as many turns that are done at once
abbrev pub said_by : ℕ → Scripts → ℕ → Said
said_by more own i = record { starts = starts_said more (starts_of i own); replies = replies_said more (replies_of i own) }

-- over what a world was given, with these losses
abbrev pub reference_over : ProgramValue → ℕ → Losses → Given Scripts → Run
reference_over program more losses given = reference (allowed_by program.judge) given.declared (fresh_from 0 program.apps (said_by more given.own)) losses false given.stimuli

-- of a session
abbrev pub reference_of_session : ProgramValue → ℕ → Losses → SessionValue → Run
reference_of_session program more losses session = reference_over program more losses (given_by session)

-- with as many starts and turns behind the last lines as one likes, where they are enough
pub record WithEnough (P : ℕ → Type 0) : Type 0 where
  pub enough : ℕ
  pub holds : (more : ℕ) → enough ≤ more → P more

-- ---- A run that a fault ends

-- before anything is started, with applications of which the lines say so much, and these losses to come
abbrev pub start_by_lines : ProgramValue → ℕ → Losses → Seen Scripts → Run
start_by_lines program more losses last = start_said program.apps losses last (said_by more last.given.own)

-- What is so up to a point is so over what the lines of the session say of the applications, too.
abbrev pub HoldsAsSaid : {last : Seen Scripts} → (program : ProgramValue) → (Holds : Progress last → Run → Type 0) → AlikeUpTo program.apps last Holds → Type 0
HoldsAsSaid {last} program Holds up_to = without_links last.given.fails ≡ [] → WithEnough (λ more. Holds up_to.far (start_by_lines program more up_to.far.losses last))

-- all lines of what was done up to there were written
pub record CutRun (program : ProgramValue) (last : Seen Scripts) (contents now_contents : Option (List ℕ)) : Type 0 where
  pub run : CutBetweenLines program.apps (allowed_by program.judge) last contents now_contents
  pub as_said : HoldsAsSaid program (WroteSoFar program.apps (allowed_by program.judge) last contents now_contents) run

-- and none is missing, of the start and of all events before the fault,
pub record LinesRun (program : ProgramValue) (last : Seen Scripts) (contents now_contents : Option (List ℕ)) : Type 0 where
  pub cut : CutRun program last contents now_contents
  pub done : AllDone program.apps (allowed_by program.judge) cut.run.far
  pub none_between : NoneBetween program.apps (allowed_by program.judge) cut.run.far

-- or memory was wanting, behind the lines of the start if a stimulus happened
pub record MemoryRun (program : ProgramValue) (seen last : Seen Scripts) (contents now_contents : Option (List ℕ)) : Type 0 where
  pub cut : CutRun program last contents now_contents
  pub done : (stimuli_in seen ≡ []) ⊎ AllDone program.apps (allowed_by program.judge) cut.run.far

-- the sink took a part of the lines of what was done last, behind all those before
pub record WritingRun (program : ProgramValue) (last : Seen Scripts) (contents now_contents : Option (List ℕ)) : Type 0 where
  pub run : CutWhileWriting program.apps (allowed_by program.judge) last contents now_contents
  pub done : AllDone program.apps (allowed_by program.judge) run.up_to.far
  pub as_said : HoldsAsSaid program (WasWriting program.apps (allowed_by program.judge) last run.text run.more) run.up_to
