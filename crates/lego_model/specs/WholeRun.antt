-- What is promised of a run that comes to its end, with all events dispatched or with some left: it is the run of the reference controller
-- over what the world told, and over whatever was said of the applications, of which what was told is the front, with some places of the
-- losses that the world told; and its journal is a dialogue with each application, in which each change had reached its switch at once when
-- it was answered. All of this is our own.
use Rattle.std.specs.Prelude.{◌≡◌, ◌==◌, ◌<◌, ℕ, Bool, List, [], length, take, Option}
use Rattle.std.specs.Io.KnownBytes.{append_known}
use Rattle.std.specs.List.{AllByRecursion}
use Rattle.crash_policy.specs.Policies.{AppValue}
use Rattle.lego_model.specs.Places.{Place}
use Rattle.lego_model.specs.RunReport.{run_report}
use Rattle.lego_model.specs.Losses.{Losses}
use Rattle.lego_model.specs.Controller.{Run, at_end}
use Rattle.outside.specs.Seen.{Seen, journal}
use Rattle.lego_model.specs.History.{stimuli_in}
use Rattle.lego_model.specs.OrderlySteps.{IsOrderly}
use Rattle.lego_model.specs.AtOnce.{AtOnce}
use Rattle.lego_model.specs.Application.{names}
use Rattle.lego_model.specs.ReferenceRun.{Said, text_of, reference_of, reference_said, AreSaid, RunsAlike}

-- ---- How many stimuli are taken in so many rounds

-- the first ones that the world was given, as many as there are rounds, or all of them
abbrev pub TookFirst : {Own : Type 0} → (rounds : ℕ) → Seen Own → Type 0
TookFirst rounds seen = stimuli_in seen ≡ take rounds seen.given.stimuli

-- they took all rounds
abbrev pub is_spent : {Own : Type 0} → (rounds : ℕ) → Seen Own → Bool
is_spent rounds seen = length (stimuli_in seen) == rounds

-- ---- A run to its end

-- All was dispatched, as in this run of the reference controller, and the report is its whole one.
pub record EndsAs {Own : Type 0} (rules : List AppValue) (seen : Seen Own) (contents now_contents : Option (List ℕ)) (events : ℕ) (r : Run) : Type 0 where
  pub alike : RunsAlike seen (at_end r)
  pub none_left : r.queue ≡ []
  pub events_is : events ≡ r.events
  pub report : now_contents ≡ append_known contents (run_report (names rules) r)

-- So many events were left, as in this run of the reference controller, and the report has the lines of those that were dispatched.
pub record LeavesAs {Own : Type 0} (rules : List AppValue) (seen : Seen Own) (contents now_contents : Option (List ℕ)) (left : ℕ) (r : Run) : Type 0 where
  pub alike : RunsAlike seen r
  pub left_is : left ≡ length r.queue
  pub report : now_contents ≡ append_known contents (text_of (names rules) r)

-- All was dispatched: the report is the reference controller's, whole. The journal is a dialogue with each application.
pub record EndsAlike {Own : Type 0} (rules : List AppValue) (allows : List Place → Bool) (spent : Bool) (seen : Seen Own) (contents now_contents : Option (List ℕ)) (events : ℕ) : Type 0 where
  -- where the switches were lost
  pub losses : Losses
  pub as_told : EndsAs rules seen contents now_contents events (reference_of rules allows spent losses seen)
  -- over all that was said of the applications it is the same
  pub as_said : (said : ℕ → Said) → AreSaid seen said → EndsAs rules seen contents now_contents events (reference_said rules allows spent losses seen said)
  pub at_once : (i : ℕ) → i < length rules → AtOnce i (journal seen.history)
  -- no call of a link failed but by a loss
  pub in_order : AllByRecursion (IsOrderly (length rules)) seen.history

-- So many events were left: the report has the lines of the events that were dispatched. The journal is a dialogue all the same.
pub record LeavesAlike {Own : Type 0} (rules : List AppValue) (allows : List Place → Bool) (spent : Bool) (seen : Seen Own) (contents now_contents : Option (List ℕ)) (left : ℕ) : Type 0 where
  pub losses : Losses
  pub as_told : LeavesAs rules seen contents now_contents left (reference_of rules allows spent losses seen)
  -- over all that was said of the applications it is the same
  pub as_said : (said : ℕ → Said) → AreSaid seen said → LeavesAs rules seen contents now_contents left (reference_said rules allows spent losses seen said)
  pub at_once : (i : ℕ) → i < length rules → AtOnce i (journal seen.history)
  pub in_order : AllByRecursion (IsOrderly (length rules)) seen.history
