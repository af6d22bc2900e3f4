-- What is promised of a run that a fault ends before its end: how far it is the reference controller's, and what was written. All of this is
-- our own.
use Rattle.std.specs.Prelude.{◌≡◌, ℕ, zero, suc, ◌+◌, ◌<◌, ◌≤◌, ◌⊎◌, Bool, true, if◌then◌else◌, List, [], ◌∷◌, ◌++◌, length, fold, take, drop, Option}
use Rattle.std.specs.Io.KnownBytes.{append_known}
use Rattle.std.specs.List.{AllByRecursion}
use Rattle.of_types.specs.declared.journal.WorldStim.{WorldStim}
use Rattle.lego_io.specs.Sink.{TookPart}
use Rattle.crash_policy.specs.Policies.{AppValue}
use Rattle.app_frames.specs.declared.frame.Event.{Event}
use Rattle.lego_model.specs.Places.{Place}
use Rattle.lego_model.specs.Losses.{Losses}
use Rattle.lego_model.specs.Controller.{Run, Dispatched, given_to, happen, at_end}
use Rattle.lego_model.specs.RunReport.{run_report}
use Rattle.lego_model.specs.AtOnce.{AtOnce}
use Rattle.outside.specs.Seen.{Seen, journal}
use Rattle.lego_model.specs.History.{stimuli_in}
use Rattle.lego_model.specs.OrderlySteps.{IsOrderly}
use Rattle.lego_model.specs.Application.{names}
use Rattle.lego_model.specs.ReferenceRun.{Said, text_of, told_of, dispatch_next, times, rounds, AreSaid, fresh_from, before_start, all_started, RunsAlike}
use Rattle.outside.specs.declared.step.WorldStep.{WorldStep}

-- ---- The reference controller in the middle of a run

-- before anything is started, with applications that do this, and these losses to come
abbrev pub start_said : {Own : Type 0} → List AppValue → Losses → Seen Own → (ℕ → Said) → Run
start_said rules losses seen said = before_start seen.given.declared losses (fresh_from 0 rules said)

-- with applications that do what the history tells of them
abbrev pub start_of : {Own : Type 0} → List AppValue → Losses → Seen Own → Run
start_of rules losses seen = start_said rules losses seen (told_of seen)

-- an event that was given to so many of the first applications, and to no other yet
unfoldable pub dispatch_to : (List Place → Bool) → ℕ → Event → Run → Run
dispatch_to allows n event r =
    let numbered = record r { events = r.events + 1; lines = r.lines ++ Dispatched (r.events + 1) event ∷ [] } in
    let done = given_to allows event 0 (take n numbered.apps) numbered in
    record done.1 { apps = done.0 ++ drop n numbered.apps }

-- the oldest event that waits, where there is one
abbrev pub next_dispatched_to : (List Place → Bool) → ℕ → List Event → Run → Run
next_dispatched_to allows n [] r = r
next_dispatched_to allows n (event ∷ queue) r = dispatch_to allows n event (record r { queue = queue })

-- given to none, it waits still
abbrev pub dispatch_partly : (List Place → Bool) → ℕ → Run → Run
dispatch_partly allows zero r = r
dispatch_partly allows (suc n) r = next_dispatched_to allows (suc n) r.queue r

-- The applications are started or not yet, these stimuli happened with all that follows of each, then perhaps one more was begun, and so
-- many of the events that wait then were dispatched.
abbrev pub reference_so_far : (List Place → Bool) → Bool → List WorldStim → List WorldStim → ℕ → Run → Run
reference_so_far allows started stimuli begun number r = times number (dispatch_next allows) (fold (λ q x. happen x q) (rounds allows stimuli (if started then all_started r else r)) begun)

-- how far a run came to a point: these stimuli are all that happened before it, and so were switches lost
pub record Progress {Own : Type 0} (last : Seen Own) : Type 0 where
  pub started : Bool
  pub stimuli : List WorldStim
  pub begun : List WorldStim
  pub number : ℕ
  -- to how many of the first applications the next event was given then
  pub given : ℕ
  pub begun_one : length begun ≤ 1
  pub at_most : number ≤ 1000
  pub stimuli_is : stimuli_in last ≡ stimuli ++ begun
  pub losses : Losses

-- the reference controller up to there, but for an event that was given to some
abbrev pub reference_to : {Own : Type 0} {last : Seen Own} → (List Place → Bool) → Progress last → Run → Run
reference_to allows far r = reference_so_far allows far.started far.stimuli far.begun far.number r

-- and with that event
abbrev pub reference_within : {Own : Type 0} {last : Seen Own} → (List Place → Bool) → Progress last → Run → Run
reference_within allows far r = dispatch_partly allows far.given (reference_to allows far r)

-- ---- What was written

-- The lines of all that was done up to there were written, but for those of an event that was given to some applications, and not yet to all
-- that are to be given it.
pub record WroteSoFar {Own : Type 0} (rules : List AppValue) (allows : List Place → Bool) (last : Seen Own) (contents now_contents : Option (List ℕ)) (far : Progress last) (r : Run) : Type 0 where
  pub alike : RunsAlike last (reference_within allows far r)
  pub written : now_contents ≡ append_known contents (text_of (names rules) (reference_to allows far r))

-- Where the sink failed, it did so at these lines, and had taken this text before; the run is that of the reference controller up to there. It
-- failed at the lines of the start,
pub record StartLines {Own : Type 0} {last : Seen Own} (rules : List AppValue) (allows : List Place → Bool) (far : Progress last) (text more : List ℕ) (r : Run) : Type 0 where
  pub alike : RunsAlike last (reference_to allows far r)
  pub is_started : far.started ≡ true
  pub none_happened : stimuli_in last ≡ []
  pub none_dispatched : far.number ≡ 0
  pub text_is : text ≡ []
  pub more_is : text_of (names rules) (reference_to allows far r) ≡ more

-- at that of a switch that was lost at the stimulus that was begun last, behind the lines of all before it,
pub record LossLines {Own : Type 0} {last : Seen Own} (rules : List AppValue) (allows : List Place → Bool) (far : Progress last) (text more : List ℕ) (r : Run) : Type 0 where
  pub alike : RunsAlike last (reference_to allows far r)
  pub is_begun : length far.begun ≡ 1
  pub none_dispatched : far.number ≡ 0
  pub text_is : text_of (names rules) (reference_so_far allows far.started far.stimuli [] 0 r) ≡ text
  pub more_is : text_of (names rules) (reference_to allows far r) ≡ text ++ more

-- at those of the event that was dispatched last, behind the lines of all before it,
pub record EventLines {Own : Type 0} {last : Seen Own} (rules : List AppValue) (allows : List Place → Bool) (far : Progress last) (text more : List ℕ) (r : Run) : Type 0 where
  pub alike : RunsAlike last (reference_to allows far r)
  pub before : ℕ
  pub one_more : far.number ≡ before + 1
  pub text_is : text_of (names rules) (reference_so_far allows far.started far.stimuli far.begun before r) ≡ text
  pub more_is : text_of (names rules) (reference_to allows far r) ≡ text ++ more

-- or at the end of the report, where switches may be lost that are asked for their rows.
pub record EndLines {Own : Type 0} {last : Seen Own} (rules : List AppValue) (allows : List Place → Bool) (far : Progress last) (text more : List ℕ) (r : Run) : Type 0 where
  pub alike : RunsAlike last (at_end (reference_to allows far r))
  pub none_left : (reference_to allows far r).queue ≡ []
  pub text_is : text_of (names rules) (reference_to allows far r) ≡ text
  pub more_is : run_report (names rules) (reference_to allows far r) ≡ text ++ more

-- These lines were to be written, behind this text, which is all that was done before.
pub record WasWriting {Own : Type 0} (rules : List AppValue) (allows : List Place → Bool) (last : Seen Own) (text more : List ℕ) (far : Progress last) (r : Run) : Type 0 where
  pub none_given : far.given ≡ 0
  pub lines : StartLines rules allows far text more r ⊎ LossLines rules allows far text more r ⊎ EventLines rules allows far text more r ⊎ EndLines rules allows far text more r

-- ---- A point of a run

-- Up to a point the run is that of the reference controller so far, over what was told and over all that was said of the applications: the
-- tables agree at every quiescent point, that one included, and each application was given what it is given there. The journal is a dialogue
-- with each, and all steps were in order.
pub record AlikeUpTo {Own : Type 0} (rules : List AppValue) (last : Seen Own) (Holds : Progress last → Run → Type 0) : Type 0 where
  pub far : Progress last
  pub as_told : Holds far (start_of rules far.losses last)
  pub as_said : (said : ℕ → Said) → AreSaid last said → Holds far (start_said rules far.losses last said)
  pub at_once : (i : ℕ) → i < length rules → AtOnce i (journal last.history)
  pub in_order : AllByRecursion (IsOrderly (length rules)) last.history

-- and the lines of all that was done were written,
abbrev pub CutBetweenLines : {Own : Type 0} → List AppValue → (List Place → Bool) → Seen Own → Option (List ℕ) → Option (List ℕ) → Type 0
CutBetweenLines rules allows last contents now_contents = AlikeUpTo rules last (WroteSoFar rules allows last contents now_contents)

-- or the sink took a part of the lines of what was done last, behind all lines of what was done before.
pub record CutWhileWriting {Own : Type 0} (rules : List AppValue) (allows : List Place → Bool) (last : Seen Own) (contents now_contents : Option (List ℕ)) : Type 0 where
  pub text : List ℕ
  pub more : List ℕ
  pub up_to : AlikeUpTo rules last (WasWriting rules allows last text more)
  pub part : TookPart (append_known contents text) now_contents more

-- ---- A run of which nothing was done

-- The world was not opened, which its history tells, and nothing was written.
pub record NothingDone {Own : Type 0} (steps : List WorldStep) (seen : Seen Own) (contents now_contents : Option (List ℕ)) : Type 0 where
  pub history : seen.history ≡ steps
  pub still : now_contents ≡ contents
