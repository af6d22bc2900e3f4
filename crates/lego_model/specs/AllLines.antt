-- That no line is missing where a fault ends a run. An event that no application is given makes no quiescent point, so that a point alone
-- does not tell how many of them were dispatched up to there. All of this is our own.
use Rattle.std.specs.Prelude.{◌≡◌, ℕ, ◌⊎◌, ◌&&◌, Bool, true, false, List, [], ◌∷◌, Option}
use Rattle.std.specs.List.{AllByRecursion, list_any}
use Rattle.app_frames.specs.declared.frame.Event.{Event}
use Rattle.crash_policy.specs.Policies.{AppValue}
use Rattle.crash_policy.specs.Asking.{is_given}
use Rattle.lego_model.specs.Places.{Place}
use Rattle.lego_model.specs.Controller.{App, Run}
use Rattle.lego_model.specs.CutRun.{start_of, Progress, reference_to, reference_within, CutBetweenLines, CutWhileWriting}
use Rattle.lego_model.specs.History.{stimuli_in}
use Rattle.outside.specs.Seen.{Seen}

-- of what is told of each application nothing is left: no start, and no turn
abbrev pub NoneAhead : Run → Type 0
NoneAhead r = AllByRecursion (λ a. (a.starts ≡ []) × (a.replies ≡ [])) r.apps

-- some application is given the event: it is alive, and is given such events
abbrev pub is_given_to_some : List App → Event → Bool
is_given_to_some apps event = list_any (λ a. a.alive && is_given a.rule event.kind) apps

-- so it is with the oldest of the events that wait
abbrev pub is_next_given : List App → List Event → Bool
is_next_given apps [] = false
is_next_given apps (event ∷ queue) = is_given_to_some apps event

-- The applications were started, and with what was done up to the point all was done that the history tells of them.
pub record AllDone {Own : Type 0} {last : Seen Own} (rules : List AppValue) (allows : List Place → Bool) (far : Progress last) : Type 0 where
  pub started : far.started ≡ true
  pub none_ahead : NoneAhead (reference_within allows far (start_of rules far.losses last))

-- the last stimulus was settled, and nothing was done since then
pub record IsSettled {Own : Type 0} {last : Seen Own} (far : Progress last) : Type 0 where
  pub none_begun : far.begun ≡ []
  pub none_dispatched : far.number ≡ 0
  pub none_given : far.given ≡ 0

-- No event was dispatched between what was done and what comes next, which is a stimulus or the end, or an event that an application is
-- given.
abbrev pub NextIsGiven : Run → Type 0
NextIsGiven r = (r.queue ≡ []) ⊎ (is_next_given r.apps r.queue ≡ true)

abbrev pub NoneBetween : {Own : Type 0} {last : Seen Own} → List AppValue → (List Place → Bool) → Progress last → Type 0
NoneBetween {last = last} rules allows far = IsSettled far ⊎ NextIsGiven (reference_to allows far (start_of rules far.losses last))

-- ---- Up to a point

-- Where what comes next failed, or a switch: all lines were written, those of the start and of all events before.
pub record CutBehindLines {Own : Type 0} (rules : List AppValue) (allows : List Place → Bool) (last : Seen Own) (contents now_contents : Option (List ℕ)) : Type 0 where
  pub run : CutBetweenLines rules allows last contents now_contents
  pub done : AllDone rules allows run.far
  pub none_between : NoneBetween rules allows run.far

-- Where the sink failed: it took a part of the lines of what was done last, behind those of the start and of all that was done before.
pub record CutInLines {Own : Type 0} (rules : List AppValue) (allows : List Place → Bool) (last : Seen Own) (contents now_contents : Option (List ℕ)) : Type 0 where
  pub run : CutWhileWriting rules allows last contents now_contents
  pub done : AllDone rules allows run.up_to.far

-- Where memory was wanting: the lines of the start are there and those of what was done, or no stimulus happened.
pub record CutForMemory {Own : Type 0} (rules : List AppValue) (allows : List Place → Bool) (seen last : Seen Own) (contents now_contents : Option (List ℕ)) : Type 0 where
  pub run : CutBetweenLines rules allows last contents now_contents
  pub done : (stimuli_in seen ≡ []) ⊎ AllDone rules allows run.far
