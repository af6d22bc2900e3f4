-- What a telling world's history tells, after a turn or after attempts to start, beside what it told before. All of this is our own.
use Rattle.std.specs.Prelude.{◌≡◌, ℕ, Bool, true, List, [], ◌∷◌, ◌++◌, is_some, if◌then◌else◌}
use Rattle.std.specs.List.{AllByRecursion}
use Rattle.of_types.specs.declared.journal.Act.{Act}
use Rattle.of_types.specs.declared.journal.Act.TheVariants.{Started}
use Rattle.lego_model.specs.Journal.{Reply, inputs, stimuli, is_of}
use Rattle.outside.specs.Seen.{Seen, journal}
use Rattle.outside.specs.State.{Mark, State, state, is_running, marks_after_gave}
use Rattle.journal_laws.specs.Readings.{LastStands, end_acts}
use Rattle.lego_model.specs.History.{starts_in, replies_in}
use Rattle.app_visor.specs.Beats.{acts_of}
use Rattle.app_visor.specs.Attempts.{OneTry, ready_rest, starts_of, given_by}

-- ---- The state

-- All stays of a state but its switches, its marks, and which applications run.
pub record Beside (s t : State) : Type 0 where
  pub opened : t.opened ≡ s.opened
  pub moment : t.moment ≡ s.moment
  pub to_come : t.to_come ≡ s.to_come
  pub due : t.due ≡ s.due
  pub begun : t.begun ≡ s.begun

-- Its switches and its marks stay as well.
pub record Apart (s t : State) : Type 0 where
  pub beside : Beside s t
  pub links : t.links ≡ s.links
  pub marks : t.marks ≡ s.marks

-- the marks after an event, which was given or could not be
abbrev pub marks_by : Bool → List ℕ → State → List Mark
marks_by given frame s = if given then marks_after_gave frame s else s.marks

-- ---- A turn

-- One reply more is told, the application was given so many frames more, no stimulus came, and the last attempt to start it stands.
pub record TurnTold {Own : Type 0} (app : ℕ) (given : Bool) (frame : List ℕ) (reply : Reply) (frames : List (List ℕ)) (old new : Seen Own) : Type 0 where
  pub given_is : new.given ≡ old.given
  pub starts : starts_in (acts_of app new.history) ≡ starts_in (acts_of app old.history)
  pub replies : replies_in (acts_of app new.history) ≡ replies_in (acts_of app old.history) ++ reply ∷ []
  pub life : LastStands (acts_of app new.history)
  pub inputs_is : inputs app (journal new.history) ≡ inputs app (journal old.history) ++ frames
  pub stimuli_is : stimuli (journal new.history) ≡ stimuli (journal old.history)
  pub beside : Beside (state old) (state new)
  pub marks : (state new).marks ≡ marks_by given frame (state old)

-- ---- Attempts to start

-- the acts of attempts, one after the other
abbrev pub tried_acts : {Own : Type 0} → ℕ → Seen Own → List (OneTry Own) → List Act
tried_acts app old [] = []
tried_acts app old (t ∷ ts) = (end_acts (is_running app (state old)) app ++ Started app t.attempt.stands ∷ t.attempt.acts) ++ tried_acts app t.after ts

-- Their starts are told more and no reply, the application was given so many frames more, and no stimulus came; where one was ready, the
-- last attempt stands, and the application runs.
pub record TriesTold {Own : Type 0} (app : ℕ) (kept : List ℕ) (all : List (OneTry Own)) (old new : Seen Own) : Type 0 where
  pub given_is : new.given ≡ old.given
  pub acts : acts_of app new.history ≡ acts_of app old.history ++ tried_acts app old all
  pub starts : starts_in (acts_of app new.history) ≡ starts_in (acts_of app old.history) ++ starts_of all
  pub replies : replies_in (acts_of app new.history) ≡ replies_in (acts_of app old.history)
  pub inputs_is : inputs app (journal new.history) ≡ inputs app (journal old.history) ++ given_by kept all
  pub stimuli_is : stimuli (journal new.history) ≡ stimuli (journal old.history)
  pub apart : Apart (state old) (state new)
  pub life : is_some (ready_rest all) ≡ true → LastStands (acts_of app new.history)
  pub running : is_some (ready_rest all) ≡ true → is_running app (state new) ≡ true
  -- each act of an attempt is of the application
  pub own : AllByRecursion (λ t. AllByRecursion (λ act. is_of app act ≡ true) t.attempt.acts) all
