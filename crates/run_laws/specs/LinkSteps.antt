-- Parts of a history with calls of links alone (a link is the connection of a switch to the controller), or with calls for the application
-- alone: what of the state and of the journal stays as it was. All of this is our own.
use Rattle.std.specs.Prelude.{◌≡◌, ℕ, List, [], filter, None, ◌++◌}
use Rattle.std.specs.List.{AllByRecursion}
use Rattle.of_types.specs.declared.journal.Act.{Act}
use Rattle.lego_model.specs.Journal.{is_of, inputs, stimuli}
use Rattle.outside.specs.declared.step.WorldStep.{WorldStep}
use Rattle.outside.specs.Seen.{journal, Seen}
use Rattle.outside.specs.State.{State, event_number, after_step, state}
use Rattle.app_visor.specs.Talks.{step_of}
use Rattle.switch_laws.specs.Sound.{Sound}
use Rattle.lego_model.specs.History.{own_acts, given_in, stimuli_in, released_of, lost_of}

-- from s to t all but the switches is as it was
pub record OnlyLinks (s t : State) : Type 0 where
  pub begun : t.begun ≡ s.begun
  pub due : t.due ≡ s.due
  pub moment : t.moment ≡ s.moment
  pub to_come : t.to_come ≡ s.to_come
  pub running : t.running ≡ s.running
  pub marks : t.marks ≡ s.marks

-- these steps tell nothing of an application, and no stimulus
pub record TellsNothing (app : ℕ) (steps : List WorldStep) : Type 0 where
  pub acts : filter (is_of app) (journal steps) ≡ []
  pub given : inputs app (journal steps) ≡ []
  pub stims : stimuli (journal steps) ≡ []

-- no switch moved, and no stimulus was begun or is over
pub record OnlyTalk (s t : State) : Type 0 where
  pub links : t.links ≡ s.links
  pub begun : t.begun ≡ s.begun
  pub due : t.due ≡ s.due
  pub moment : t.moment ≡ s.moment
  pub to_come : t.to_come ≡ s.to_come

abbrev pub NoEvents : List (List ℕ) → Type 0
NoEvents frames = AllByRecursion (λ frame. event_number frame ≡ None) frames

-- an act that makes no mark, and the frames behind it
pub record MarksNothing (app : ℕ) (act : Act) (acts : List Act) : Type 0 where
  pub marks : (s : State) → (after_step (step_of act) s).marks ≡ s.marks
  pub rest : NoEvents (inputs app acts)

-- nothing was begun since, and the moment stays
pub record Rests (s t : State) : Type 0 where
  pub begun : t.begun ≡ s.begun
  pub due : t.due ≡ s.due
  pub moment : t.moment ≡ s.moment

-- the journal tells the same of the application
pub record TellsSame {Own : Type 0} (app : ℕ) (old new : Seen Own) : Type 0 where
  pub acts : own_acts app new ≡ own_acts app old
  pub given : given_in app new ≡ given_in app old
  pub stims : stimuli_in new ≡ stimuli_in old

-- what no attempt to start and no end changes
pub record TriesKeep (s t : State) : Type 0 where
  pub links : t.links ≡ s.links
  pub rests : Rests s t
  pub marks : t.marks ≡ s.marks

-- what the application was given more, and that no stimulus came
pub record TellsGiven {Own : Type 0} (app : ℕ) (old new : Seen Own) (frames : List (List ℕ)) : Type 0 where
  pub given : given_in app new ≡ given_in app old ++ frames
  pub stims : stimuli_in new ≡ stimuli_in old

-- the history went on with no act of the application
pub record Silent {Own : Type 0} (app : ℕ) (old new : Seen Own) : Type 0 where
  pub steps : List WorldStep
  pub history : new.history ≡ old.history ++ steps
  pub none : filter (is_of app) (journal steps) ≡ []

-- no packet was released, and no switch lost
pub record TellsNoLoss {Own : Type 0} (old new : Seen Own) : Type 0 where
  pub released : released_of new ≡ released_of old
  pub lost : lost_of new ≡ lost_of old

-- behind messages of a turn what is sound stays so, and no packet was released
pub record ChainKeeps {Own : Type 0} (old new : Seen Own) : Type 0 where
  pub sound : Sound (state new)
  pub released : released_of new ≡ released_of old
