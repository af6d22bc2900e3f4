-- Applications in the course of a run: how each of them stands, how it is started, and what follows where its turn failed. How often a start is tried
-- is our own choice, as all of this is.
use Rattle.std.specs.Prelude.{◌≡◌, ℕ, ◌+◌, Bool, true, false, ◌&&◌, List, [], ◌∷◌, ◌++◌, length, filter}
use Rattle.std.specs.List.{AllByRecursion}
use Rattle.of_types.specs.declared.journal.Act.{Act}
use Rattle.of_types.specs.declared.journal.Act.TheVariants.{Started}
use Rattle.app_frames.specs.declared.frame.EventKind.{EventKind}
use Rattle.crash_policy.specs.Policies.{AppValue}
use Rattle.crash_policy.specs.Asking.{is_given}
use Rattle.crash_policy.specs.declared.policy_file.Policy.{Policy}
use Rattle.crash_policy.specs.declared.policy_file.Policy.TheVariants as policy
use Rattle.outside.specs.declared.step.WorldStep.{WorldStep}
use Rattle.outside.specs.Seen.{Seen, journal}
use Rattle.outside.specs.State.{state, is_running}
use Rattle.outside.specs.Calls.{end_steps}
use Rattle.lego_model.specs.Journal.{inputs}
use Rattle.lego_model.specs.Controller.{restore_frame, attempts}
use Rattle.run_course.specs.Asked.{CallsOf, HasGiven}

-- What the policy says of it; whether it is alive; which of its bytes were taken and not read; and its kept checkpoint.
pub record Application : Type 0 where
  pub rule : AppValue
  pub alive : Bool
  pub unread : List ℕ
  pub checkpoint : List ℕ

abbrev pub at_first : AppValue → Application
at_first rule = record { rule = rule; alive = false; unread = []; checkpoint = [] }

-- it is alive, and its policy gives it such events
abbrev pub listens : EventKind → Application → Bool
listens kind app = app.alive && is_given app.rule kind

-- ---- Starts

abbrev pub is_start : Act → Bool
is_start (Started app stands) = true
is_start other = false

-- how often something was started by these steps
abbrev pub times_started : List WorldStep → ℕ
times_started steps = length (filter is_start (journal steps))

-- It is started: all that it is given meanwhile is the frame Restore with its kept checkpoint. It lives, with some bytes unread that it gave, or as
-- many attempts were made as may be, and it is gone.
pub record Restarts {Own : Type 0} (i : ℕ) (app now_app : Application) (old new : Seen Own) : Type 0 where
  pub calls : CallsOf i old.history new.history
  pub restored : AllByRecursion (λ frame. frame ≡ restore_frame app.checkpoint) (inputs i (journal calls.steps))
  pub tried : (now_app.alive ≡ false) → times_started calls.steps ≡ attempts
  pub unread : HasGiven i now_app.unread old.history new.history
  pub same : now_app ≡ record app { alive = now_app.alive; unread = now_app.unread }

pub record StartsOne {Own : Type 0} (i : ℕ) (app : Application) (now_apps : List Application) (old : Seen Own) : Type 0 where
  pub mid : Seen Own
  pub now_app : Application
  pub later : List Application
  pub apps_are : now_apps ≡ now_app ∷ later
  pub starts : Restarts i app now_app old mid

-- those from an index on are started, one after the other
abbrev pub StartsAll : {Own : Type 0} → ℕ → List Application → List Application → Seen Own → Seen Own → Type 0
StartsAll i [] now_apps old new = (now_apps ≡ []) × (new ≡ old)
StartsAll i (app ∷ more) now_apps old new = (one : StartsOne i app now_apps old) × StartsAll (i + 1) more one.later one.mid new

-- ---- Behind a turn that failed

-- it is ended, if it runs, and gone
pub record GoesAway {Own : Type 0} (i : ℕ) (app now_app : Application) (old new : Seen Own) : Type 0 where
  pub history : new.history ≡ old.history ++ end_steps i (is_running i (state old))
  pub gone : now_app ≡ record app { alive = false }

-- by its policy for such events it is gone, or is started again
abbrev pub Follows : {Own : Type 0} → Policy → ℕ → Application → Application → Seen Own → Seen Own → Type 0
Follows policy.None i app now_app old new = GoesAway i app now_app old new
Follows policy.Absolute i app now_app old new = Restarts i app now_app old new
Follows policy.Equivalence i app now_app old new = Restarts i app now_app old new
