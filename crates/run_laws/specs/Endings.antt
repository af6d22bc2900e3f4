-- How a whole run ends: with the last part of the report, or with events left. All of this is our own.
use Rattle.std.specs.Prelude.{◌≡◌, ℕ, ◌≤◌, Bool, List, [], ◌++◌, length, Option}
use Rattle.std.specs.Io.KnownBytes.{append_known}
use Rattle.of_types.specs.declared.journal.WorldStim.{WorldStim}
use Rattle.flow_table.specs.View.{TableView}
use Rattle.lego_model.specs.Places.{Place}
use Rattle.outside.specs.Seen.{Seen, Continues, journal}
use Rattle.outside.specs.Conforming.{Conforming}
use Rattle.outside.specs.State.{state, switch_of}
use Rattle.switch_laws.specs.Orderly.{OrderlySince}
use Rattle.batch_laws.specs.Calm.{Calm}
use Rattle.lego_model.specs.History.{starts_in, replies_in, own_acts, given_in, stimuli_in, released_of, lost_of}
use Rattle.lego_model.specs.AtOnce.{AtOnce}
use Rattle.run_laws.specs.Engine.{Engine}
use Rattle.run_laws.specs.Readings.{JudgesAlike}
use Rattle.run_laws.specs.Moves.{AtRest, Moved}
use Rattle.run_laws.specs.LastReport.{last_text, switch_left}
use Rattle.lego_model.specs.ReferenceRun.{all_started}
use Rattle.run_laws.specs.Whole.{whole}

-- ---- The start

pub record ShownStart {Own : Type 0} (Tells : Type 0) (text : List ℕ) (old new : Seen Own) (e now_e : Engine) : Type 0 where
  pub moved : Tells → Conforming new → AtRest old e → Moved [] all_started text old new e now_e

-- ---- From the start to the last batch

pub record WholeMoves {Own : Type 0} (allows : List Place → Bool) (most : ℕ) (text : List ℕ) (old new : Seen Own) (e now_e : Engine) : Type 0 where
  pub stimuli : List WorldStim
  pub at_most : length stimuli ≤ most
  pub moved : Moved stimuli (whole allows most stimuli) text old new e now_e

-- the same in a world that keeps its word, in at most so many rounds
pub record ShownWhole {Own : Type 0} (Tells : Type 0) (accepts : List TableView → Bool) (most : ℕ) (text : List ℕ) (old new : Seen Own) (e now_e : Engine) : Type 0 where
  pub whole_is : (allows : List Place → Bool) → Tells → Conforming new → JudgesAlike Own allows accepts → AtRest old e → WholeMoves allows most text old new e now_e

-- ---- The last part

-- no more starts and replies of an application are told, and no frames that it was given
pub record TellsNoMore {Own : Type 0} (app : ℕ) (old new : Seen Own) : Type 0 where
  pub starts : starts_in (own_acts app new) ≡ starts_in (own_acts app old)
  pub replies : replies_in (own_acts app new) ≡ replies_in (own_acts app old)
  pub inputs : given_in app new ≡ given_in app old

-- what it leaves as it was, but for these switches, which are lost; there are so many applications
pub record Leaves {Own : Type 0} (number : ℕ) (lost : List ℕ) (last new : Seen Own) : Type 0 where
  pub given : new.given ≡ last.given
  pub told : (app : ℕ) → TellsNoMore app last new
  pub stimuli : stimuli_in new ≡ stimuli_in last
  pub released : released_of new ≡ released_of last
  pub lost_is : lost_of new ≡ lost_of last ++ lost
  pub marks : (state new).marks ≡ (state last).marks
  pub switches : (d : ℕ) → switch_of d (state new) ≡ switch_left lost (state last) d
  pub at_once : (app : ℕ) → AtOnce app (journal last.history) → AtOnce app (journal new.history)
  pub orderly : OrderlySince number last new

-- the last lines were written
pub record Finished {Own : Type 0} (held now_contents : Option (List ℕ)) (last new : Seen Own) (e : Engine) : Type 0 where
  pub lost : List ℕ
  pub written : now_contents ≡ append_known held (last_text lost last e)
  pub leaves : Leaves (length e.apps) lost last new

pub record ShownFinish {Own : Type 0} (Tells : Type 0) (held now_contents : Option (List ℕ)) (last new : Seen Own) (e : Engine) : Type 0 where
  pub shown : Tells → Conforming new → Calm last e.net → Finished held now_contents last new e

-- nothing was written, and nothing else changed
pub record ShownLeaves {Own : Type 0} (Tells : Type 0) (number : ℕ) (last new : Seen Own) : Type 0 where
  pub shown : Tells → Conforming new → Leaves number [] last new

-- ---- The whole

-- all events were dispatched, and the report was ended
pub record RanOut {Own : Type 0} (Tells : Type 0) (accepts : List TableView → Bool) (most : ℕ) (held now_contents : Option (List ℕ)) (old new : Seen Own) (e now_e : Engine) : Type 0 where
  pub last : Seen Own
  pub text : List ℕ
  pub later : Continues Tells last new
  pub whole_is : ShownWhole Tells accepts most text old last e now_e
  pub none_left : now_e.queue ≡ []
  pub finish : ShownFinish Tells (append_known held text) now_contents last new now_e

-- some were left
pub record RanFull {Own : Type 0} (Tells : Type 0) (accepts : List TableView → Bool) (most left : ℕ) (held now_contents : Option (List ℕ)) (old new : Seen Own) (e : Engine) : Type 0 where
  pub last : Seen Own
  pub now_engine : Engine
  pub text : List ℕ
  pub later : Continues Tells last new
  pub whole_is : ShownWhole Tells accepts most text old last e now_engine
  pub left_is : left ≡ length now_engine.queue
  pub contents_is : now_contents ≡ append_known held text
  pub leaves : ShownLeaves Tells (length now_engine.apps) last new
