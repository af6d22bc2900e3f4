-- What steps leave of a state beside its switches: calls of links change the switches alone, and calls for an application no switch.
use Rattle.std.proofs.Common.{◌≡◌, ◌==◌, ℕ, true, List, [], ◌∷◌, map, Some, None, refl, sym, ◌∙◌, subst, true≢false}
use Rattle.std.specs.List.{AllByRecursion}
use Rattle.of_types.specs.declared.journal.Act.{Act}
use Rattle.of_types.specs.declared.journal.Act.TheVariants.{Stim, Started, Gave, Gone, Took, Ended, Sent, Got, Lost}
use Rattle.lego_model.specs.Journal.{is_of, inputs, stimuli}
use Rattle.outside.specs.declared.step.WorldStep.{WorldStep}
use Rattle.outside.specs.declared.step.WorldStep.TheVariants.{Acted, TookInto, From, Joined, Left, Moment, Idle, End, Opened, NotOpened, NextFailed, SendLost, RecvLost, SendFailed, RecvFailed}
use Rattle.outside.specs.Seen.{journal}
use Rattle.outside.specs.State.{State, event_number, marks_at_event, marks_after_gave, after_act, after_step, after_steps}
use Rattle.app_visor.specs.Talks.{step_of}
use Rattle.net_txn.specs.LinkSteps.{is_link_step, AreLinkSteps}
use Rattle.run_laws.specs.LinkSteps.{OnlyLinks, TellsNothing, OnlyTalk, NoEvents, MarksNothing}

-- ---- Calls of links

pub OnlyLinks-refl : (s : State) → OnlyLinks s s
OnlyLinks-refl s = record { begun = refl; due = refl; moment = refl; to_come = refl; running = refl; marks = refl }

pub OnlyLinks-trans : (s t u : State) → OnlyLinks s t → OnlyLinks t u → OnlyLinks s u
OnlyLinks-trans s t u first second = record {
  begun = second.begun ∙ first.begun;
  due = second.due ∙ first.due;
  moment = second.moment ∙ first.moment;
  to_come = second.to_come ∙ first.to_come;
  running = second.running ∙ first.running;
  marks = second.marks ∙ first.marks;
}

pub link_step : (step : WorldStep) (s : State) → is_link_step step ≡ true → OnlyLinks s (after_step step s)
unfolding after_step after_act
link_step (Acted (Sent d bytes)) s is = record { begun = refl; due = refl; moment = refl; to_come = refl; running = refl; marks = refl }
link_step (Acted (Got d bytes)) s is = record { begun = refl; due = refl; moment = refl; to_come = refl; running = refl; marks = refl }
link_step (SendLost d) s is = record { begun = refl; due = refl; moment = refl; to_come = refl; running = refl; marks = refl }
link_step (RecvLost d) s is = record { begun = refl; due = refl; moment = refl; to_come = refl; running = refl; marks = refl }
link_step (SendFailed d) s is = record { begun = refl; due = refl; moment = refl; to_come = refl; running = refl; marks = refl }
link_step (RecvFailed d) s is = record { begun = refl; due = refl; moment = refl; to_come = refl; running = refl; marks = refl }
link_step (Acted (Stim x)) s is = absurd (true≢false (sym is))
link_step (Acted (Started app ok)) s is = absurd (true≢false (sym is))
link_step (Acted (Gave app bytes)) s is = absurd (true≢false (sym is))
link_step (Acted (Gone app bytes)) s is = absurd (true≢false (sym is))
link_step (Acted (Took app what)) s is = absurd (true≢false (sym is))
link_step (Acted (Ended app)) s is = absurd (true≢false (sym is))
link_step (Acted (Lost d)) s is = absurd (true≢false (sym is))
link_step (TookInto app what room) s is = absurd (true≢false (sym is))
link_step (From d bytes) s is = absurd (true≢false (sym is))
link_step (Joined d bytes) s is = absurd (true≢false (sym is))
link_step (Left d) s is = absurd (true≢false (sym is))
link_step (Moment t) s is = absurd (true≢false (sym is))
link_step Idle s is = absurd (true≢false (sym is))
link_step End s is = absurd (true≢false (sym is))
link_step Opened s is = absurd (true≢false (sym is))
link_step NotOpened s is = absurd (true≢false (sym is))
link_step NextFailed s is = absurd (true≢false (sym is))

pub link_steps : (steps : List WorldStep) (s : State) → AreLinkSteps steps → OnlyLinks s (after_steps steps s)
link_steps [] s are = OnlyLinks-refl s
link_steps (step ∷ steps) s are = OnlyLinks-trans s (after_step step s) (after_steps steps (after_step step s)) (link_step step s are.0) (link_steps steps (after_step step s) are.1)

pub link_steps-tell : (app : ℕ) (steps : List WorldStep) → AreLinkSteps steps → TellsNothing app steps
unfolding journal inputs stimuli
link_steps-tell app [] are = record { acts = refl; given = refl; stims = refl }
link_steps-tell app (Acted (Sent d bytes) ∷ steps) are = let rest = link_steps-tell app steps are.1 in record { acts = rest.acts; given = rest.given; stims = rest.stims }
link_steps-tell app (Acted (Got d bytes) ∷ steps) are = let rest = link_steps-tell app steps are.1 in record { acts = rest.acts; given = rest.given; stims = rest.stims }
link_steps-tell app (SendLost d ∷ steps) are = let rest = link_steps-tell app steps are.1 in record { acts = rest.acts; given = rest.given; stims = rest.stims }
link_steps-tell app (RecvLost d ∷ steps) are = let rest = link_steps-tell app steps are.1 in record { acts = rest.acts; given = rest.given; stims = rest.stims }
link_steps-tell app (SendFailed d ∷ steps) are = let rest = link_steps-tell app steps are.1 in record { acts = rest.acts; given = rest.given; stims = rest.stims }
link_steps-tell app (RecvFailed d ∷ steps) are = let rest = link_steps-tell app steps are.1 in record { acts = rest.acts; given = rest.given; stims = rest.stims }
link_steps-tell app (Acted (Stim x) ∷ steps) are = absurd (true≢false (sym are.0))
link_steps-tell app (Acted (Started of ok) ∷ steps) are = absurd (true≢false (sym are.0))
link_steps-tell app (Acted (Gave of bytes) ∷ steps) are = absurd (true≢false (sym are.0))
link_steps-tell app (Acted (Gone of bytes) ∷ steps) are = absurd (true≢false (sym are.0))
link_steps-tell app (Acted (Took of what) ∷ steps) are = absurd (true≢false (sym are.0))
link_steps-tell app (Acted (Ended of) ∷ steps) are = absurd (true≢false (sym are.0))
link_steps-tell app (Acted (Lost d) ∷ steps) are = absurd (true≢false (sym are.0))
link_steps-tell app (TookInto of what room ∷ steps) are = absurd (true≢false (sym are.0))
link_steps-tell app (From d bytes ∷ steps) are = absurd (true≢false (sym are.0))
link_steps-tell app (Joined d bytes ∷ steps) are = absurd (true≢false (sym are.0))
link_steps-tell app (Left d ∷ steps) are = absurd (true≢false (sym are.0))
link_steps-tell app (Moment t ∷ steps) are = absurd (true≢false (sym are.0))
link_steps-tell app (Idle ∷ steps) are = absurd (true≢false (sym are.0))
link_steps-tell app (End ∷ steps) are = absurd (true≢false (sym are.0))
link_steps-tell app (Opened ∷ steps) are = absurd (true≢false (sym are.0))
link_steps-tell app (NotOpened ∷ steps) are = absurd (true≢false (sym are.0))
link_steps-tell app (NextFailed ∷ steps) are = absurd (true≢false (sym are.0))

-- ---- Calls for an application

pub OnlyTalk-refl : (s : State) → OnlyTalk s s
OnlyTalk-refl s = record { links = refl; begun = refl; due = refl; moment = refl; to_come = refl }

pub OnlyTalk-trans : (s t u : State) → OnlyTalk s t → OnlyTalk t u → OnlyTalk s u
OnlyTalk-trans s t u first second = record {
  links = second.links ∙ first.links;
  begun = second.begun ∙ first.begun;
  due = second.due ∙ first.due;
  moment = second.moment ∙ first.moment;
  to_come = second.to_come ∙ first.to_come;
}

pub talk_step : (app : ℕ) (act : Act) (s : State) → is_of app act ≡ true → OnlyTalk s (after_step (step_of act) s)
unfolding after_step after_act
talk_step app (Stim x) s is = absurd (true≢false (sym is))
talk_step app (Started of ok) s is = record { links = refl; begun = refl; due = refl; moment = refl; to_come = refl }
talk_step app (Gave of bytes) s is = record { links = refl; begun = refl; due = refl; moment = refl; to_come = refl }
talk_step app (Gone of bytes) s is = record { links = refl; begun = refl; due = refl; moment = refl; to_come = refl }
talk_step app (Took of what) s is = record { links = refl; begun = refl; due = refl; moment = refl; to_come = refl }
talk_step app (Ended of) s is = record { links = refl; begun = refl; due = refl; moment = refl; to_come = refl }
talk_step app (Sent d bytes) s is = absurd (true≢false (sym is))
talk_step app (Got d bytes) s is = absurd (true≢false (sym is))
talk_step app (Lost d) s is = absurd (true≢false (sym is))

pub talk_steps : (app : ℕ) (acts : List Act) (s : State) → AllByRecursion (λ act. is_of app act ≡ true) acts → OnlyTalk s (after_steps (map step_of acts) s)
talk_steps app [] s are = OnlyTalk-refl s
talk_steps app (act ∷ acts) s are =
    OnlyTalk-trans s (after_step (step_of act) s) (after_steps (map step_of acts) (after_step (step_of act) s)) (talk_step app act s are.0) (talk_steps app acts (after_step (step_of act) s) are.1)

-- ---- Marks: only a frame that tells an event makes one

pub gave_first : (app to : ℕ) (bytes : List ℕ) (acts : List Act) → (to == app) ≡ true → inputs app (Gave to bytes ∷ acts) ≡ bytes ∷ inputs app acts
unfolding inputs
gave_first app to bytes acts is = rw is refl

gave_marks : (bytes : List ℕ) (s : State) → event_number bytes ≡ None → marks_after_gave bytes s ≡ s.marks
unfolding marks_after_gave
gave_marks bytes s none = rw none refl

-- such a frame marks the switches, where the event was not given before
pub event_marks : (n app : ℕ) (bytes : List ℕ) (s : State) → event_number bytes ≡ Some n → (after_step (Acted (Gave app bytes)) s).marks ≡ marks_at_event (Some n) s
unfolding after_step after_act marks_after_gave
event_marks n app bytes s is = rw is refl

pub gone_marks : (app : ℕ) (bytes : List ℕ) (s : State) → (after_step (Acted (Gone app bytes)) s).marks ≡ s.marks
unfolding after_step after_act
gone_marks app bytes s = refl

pub talk_marks : (app : ℕ) (act : Act) (acts : List Act) → is_of app act ≡ true → NoEvents (inputs app (act ∷ acts)) → MarksNothing app act acts
unfolding after_step after_act inputs
talk_marks app (Gave to bytes) acts is none =
    let both : NoEvents (bytes ∷ inputs app acts) = subst NoEvents (gave_first app to bytes acts is) none in
    record { marks = λ s. gave_marks bytes s both.0; rest = both.1 }
talk_marks app (Started of ok) acts is none = record { marks = λ s. refl; rest = none }
talk_marks app (Gone of bytes) acts is none = record { marks = λ s. refl; rest = none }
talk_marks app (Took of what) acts is none = record { marks = λ s. refl; rest = none }
talk_marks app (Ended of) acts is none = record { marks = λ s. refl; rest = none }
talk_marks app (Stim x) acts is none = absurd (true≢false (sym is))
talk_marks app (Sent d bytes) acts is none = absurd (true≢false (sym is))
talk_marks app (Got d bytes) acts is none = absurd (true≢false (sym is))
talk_marks app (Lost d) acts is none = absurd (true≢false (sym is))

pub talks_mark : (app : ℕ) (acts : List Act) (s : State) → AllByRecursion (λ act. is_of app act ≡ true) acts → NoEvents (inputs app acts) → (after_steps (map step_of acts) s).marks ≡ s.marks
talks_mark app [] s are none = refl
talks_mark app (act ∷ acts) s are none =
    let one = talk_marks app act acts are.0 none in
    talks_mark app acts (after_step (step_of act) s) are.1 one.rest ∙ one.marks s
