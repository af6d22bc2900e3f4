-- What a turn and attempts to start are of the dialogue with the application, in a world that tells. All of this is our own.
use Rattle.std.specs.Prelude.{◌≡◌, ℕ, Bool, true, false, List, [], ◌∷◌, ◌++◌, Option, Some, None}
use Rattle.of_types.specs.declared.journal.Act.{Act}
use Rattle.of_types.specs.declared.journal.Act.TheVariants.{Started}
use Rattle.outside.specs.declared.step.WorldStep.{WorldStep}
use Rattle.outside.specs.Seen.{Seen, act_of, journal}
use Rattle.outside.specs.State.{State, state, is_running, after_step}
use Rattle.lego_model.specs.Journal.{is_of}
use Rattle.lego_model.specs.AtOnce.{Before, Passes, Dialogue}
use Rattle.app_visor.specs.declared.state.TurnEnd.{TurnEnd}
use Rattle.app_visor.specs.declared.state.TurnEnd.TheVariants as ends

-- the history goes on, and its acts go on with the dialogue
pub record Converses {Own : Type 0} (app : ℕ) (s t : Before) (old new : Seen Own) : Type 0 where
  pub steps : List WorldStep
  pub history : new.history ≡ old.history ++ steps
  pub dialogue : Dialogue app s (journal steps) t

-- It does so; and where this went well, the application runs then, and these bytes are unread, behind frames that are no messages.
pub record Speaks {Own : Type 0} (app : ℕ) (s : Before) (old new : Seen Own) (well : Bool) (unread : List ℕ) : Type 0 where
  pub after : Before
  pub converses : Converses app s after old new
  pub runs : well ≡ true → after.running ≡ true
  pub passes : well ≡ true → Passes after.unread unread

-- It does so, wherever that leads.
abbrev pub LeadsOn : {Own : Type 0} → ℕ → Before → Seen Own → Seen Own → Type 0
LeadsOn app s old new = (t : Before) × Converses app s t old new

-- It does so in a world that tells, where it tells whether the application runs.
abbrev pub TalksOn : {Own : Type 0} → Type 0 → ℕ → Seen Own → Seen Own → Type 0
TalksOn Tells app old new = Tells → (s : Before) → s.running ≡ is_running app (state old) → LeadsOn app s old new

-- It does so, and tells then whether the application runs, where it told that before.
pub record Talks {Own : Type 0} (app : ℕ) (s : Before) (old new : Seen Own) : Type 0 where
  pub after : Before
  pub converses : Converses app s after old new
  pub runs : s.running ≡ is_running app (state old) → after.running ≡ is_running app (state new)

abbrev pub is_done : TurnEnd → Bool
is_done (ends.Done stop) = true
is_done (ends.Failed cause) = false

-- ---- Calls in place

-- whether an application runs before a call for it that is in place: it is started only where it does not run
abbrev pub ran_before : Act → Bool
ran_before (Started app stands) = false
ran_before act = true

abbrev pub KeepsOrder : ℕ → Option Act → Bool → Type 0
KeepsOrder app None running = Unit {0}
KeepsOrder app (Some act) running = is_of app act ≡ true → running ≡ ran_before act

-- No call for the application is out of place: it is started only where it does not run, and given to, taken from and ended only while it
-- runs.
abbrev pub CallsKeepOrder : ℕ → List WorldStep → State → Type 0
CallsKeepOrder app [] s = Unit {0}
CallsKeepOrder app (step ∷ steps) s = KeepsOrder app (act_of step) (is_running app s) × CallsKeepOrder app steps (after_step step s)
