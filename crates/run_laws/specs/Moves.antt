-- A part of a run, as a batch, an event or a start, does what the reference controller does, with what the journal tells of the applications
-- in it. All of this is our own.
use Rattle.std.specs.Prelude.{◌≡◌, ◌==◌, ℕ, Bool, true, List, [], ◌∷◌, ◌++◌, length, ◌≤◌}
use Rattle.of_types.specs.declared.journal.WorldStim.{WorldStim}
use Rattle.flow_table.specs.View.{TableView}
use Rattle.of_types.specs.declared.journal.Act.{Act}
use Rattle.lego_model.specs.Places.{Place}
use Rattle.lego_model.specs.Controller.{Run, settle_last, happen}
use Rattle.lego_model.specs.Losses.{TurnLosses, Losses}
use Rattle.outside.specs.Seen.{Seen, journal}
use Rattle.outside.specs.Conforming.{Conforming}
use Rattle.std.specs.List.{AllByRecursion}
use Rattle.lego_model.specs.OrderlySteps.{IsOrderly}
use Rattle.journal_laws.specs.Readings.{LastStands}
use Rattle.lego_model.specs.History.{starts_in, replies_in, own_acts, stimuli_in}
use Rattle.lego_model.specs.AtOnce.{Passes, AtOnce}
use Rattle.batch_laws.specs.Calm.{Calm}
use Rattle.run_laws.specs.Engine.{Application, Engine, EachFrom, Focus, Stands, ahead, behind, rules_of}
use Rattle.lego_model.specs.Application.{names}
use Rattle.lego_model.specs.ReferenceRun.{Said, AreFrontsOf, text_of, rounds}
use Rattle.run_laws.specs.Readings.{JudgesAlike}

-- acts of an application that tell more of it
pub record TellsMore (told : Said) (before after : List Act) : Type 0 where
  pub starts : starts_in after ≡ starts_in before ++ told.starts
  pub replies : replies_in after ≡ replies_in before ++ told.replies

-- A part of a run with these stimuli, which prints this text. The journal tells more starts and replies of the applications by it. Where engine
-- and reference controller stood alike before it, they stand alike behind it: if the first starts and replies that the applications of the
-- reference controller had left were these, and the first losses to come those of this part.
pub record Moves {Own : Type 0} (xs : List WorldStim) (f : Run → Run) (text : List ℕ) (old new : Seen Own) (e now_e : Engine) : Type 0 where
  pub told : ℕ → Said
  -- at which of the batches a switch was lost, and those that were lost in the turns
  pub batches : List Bool
  pub turns : List TurnLosses
  pub given : new.given ≡ old.given
  -- what the policy says of the applications stays
  pub rules : rules_of now_e ≡ rules_of e
  pub read : (i : ℕ) → TellsMore (told i) (own_acts i old) (own_acts i new)
  pub read_stimuli : stimuli_in new ≡ stimuli_in old ++ xs
  pub stands : (said : ℕ → Said) (later : Losses) (r : Run) → AreFrontsOf told said → Stands old e said (ahead batches turns later) r → Stands new now_e (behind told said) later (f r)
  pub says : (said : ℕ → Said) (later : Losses) (r : Run) → AreFrontsOf told said → Stands old e said (ahead batches turns later) r
      → text_of (names (rules_of e)) (f r) ≡ text_of (names (rules_of e)) r ++ text

-- All that happened is a dialogue with the application; where it is alive, it runs, and what is unread stands behind frames that are no
-- messages.
pub record Conversing {Own : Type 0} (seen : Seen Own) (e : Focus) : Type 0 where
  pub at_once : AtOnce e.index (journal seen.history)
  pub rest_is : e.alive ≡ true → (at_once.last.running ≡ true) × Passes at_once.last.unread e.rest

-- so it is with an application that the engine keeps; and where it is alive its last start stands
pub record IsAtRest {Own : Type 0} (seen : Seen Own) (i : ℕ) (a : Application) : Type 0 where
  pub life : a.alive ≡ true → LastStands (own_acts i seen)
  pub at_once : AtOnce i (journal seen.history)
  pub rest_is : a.alive ≡ true → (at_once.last.running ≡ true) × Passes at_once.last.unread a.rest

-- between parts all is calm, so it is with each application, and all steps were in order
pub record AtRest {Own : Type 0} (seen : Seen Own) (e : Engine) : Type 0 where
  pub calm : Calm seen e.net
  pub each : EachFrom (IsAtRest seen) 0 e.apps
  pub orderly : AllByRecursion (IsOrderly (length e.apps)) seen.history

pub record Moved {Own : Type 0} (xs : List WorldStim) (f : Run → Run) (text : List ℕ) (old new : Seen Own) (e now_e : Engine) : Type 0 where
  pub moves : Moves xs f text old new e now_e
  pub settled : AtRest new now_e

-- In a world that keeps its word a part does what the reference controller does, whatever its judge is, if the two judge alike.
pub record Shown {Own : Type 0} (Tells : Type 0) (accepts : List TableView → Bool) (xs : List WorldStim) (f : (List Place → Bool) → Run → Run) (text : List ℕ) (old new : Seen Own) (e now_e : Engine) : Type 0 where
  pub moved : (allows : List Place → Bool) → Tells → Conforming new → JudgesAlike Own allows accepts → AtRest old e → Moved xs (f allows) text old new e now_e

-- ---- Batch after batch

-- a batch with one stimulus, which may lose its switch
pub record OneHappens {Own : Type 0} (text : List ℕ) (old new : Seen Own) (e now_e : Engine) : Type 0 where
  pub stimulus : WorldStim
  pub moved : Moved (stimulus ∷ []) (happen stimulus) text old new e now_e

-- so many rounds, with a stimulus each
pub record Rounds {Own : Type 0} (allows : List Place → Bool) (number : ℕ) (text : List ℕ) (old new : Seen Own) (e now_e : Engine) : Type 0 where
  pub stimuli : List WorldStim
  pub number_is : length stimuli ≡ number
  pub moved : Moved stimuli (rounds allows stimuli) text old new e now_e

-- all rounds, at most so many, and where these are not spent the last batch, that has no stimulus
pub record ToEnd {Own : Type 0} (allows : List Place → Bool) (most : ℕ) (text : List ℕ) (old new : Seen Own) (e now_e : Engine) : Type 0 where
  pub stimuli : List WorldStim
  pub at_most : length stimuli ≤ most
  pub moved : Moved stimuli (λ r. settle_last allows (length stimuli == most) (rounds allows stimuli r)) text old new e now_e

-- the same in a world that keeps its word
pub record ShownIdle {Own : Type 0} (Tells : Type 0) (text : List ℕ) (old new : Seen Own) (e now_e : Engine) : Type 0 where
  pub happens : Tells → Conforming new → AtRest old e → OneHappens text old new e now_e

pub record ShownOver {Own : Type 0} (Tells : Type 0) (text : List ℕ) (old new : Seen Own) (e now_e : Engine) : Type 0 where
  pub moved : Tells → Conforming new → AtRest old e → Moved [] (λ r. r) text old new e now_e

pub record ShownRounds {Own : Type 0} (Tells : Type 0) (accepts : List TableView → Bool) (number : ℕ) (text : List ℕ) (old new : Seen Own) (e now_e : Engine) : Type 0 where
  pub rounds_is : (allows : List Place → Bool) → Tells → Conforming new → JudgesAlike Own allows accepts → AtRest old e → Rounds allows number text old new e now_e

pub record ShownToEnd {Own : Type 0} (Tells : Type 0) (accepts : List TableView → Bool) (most : ℕ) (text : List ℕ) (old new : Seen Own) (e now_e : Engine) : Type 0 where
  pub to_end : (allows : List Place → Bool) → Tells → Conforming new → JudgesAlike Own allows accepts → AtRest old e → ToEnd allows most text old new e now_e
