-- Laws of what a history tells: what calls for an application and of links leave.
use Rattle.std.specs.Prelude.{◌≡◌, ◌==◌, ℕ, true, false, List, [], ◌∷◌, ◌++◌, map, filter, None, refl}
use Rattle.std.proofs.Common.{sym, ap, ◌∙◌, true≢false}
use Rattle.of_types.specs.declared.journal.Act.{Act}
use Rattle.of_types.specs.declared.journal.Act.TheVariants.{Stim, Started, Gave, Gone, Took, Ended, Sent, Got, Lost}
use Rattle.lego_model.specs.Journal.{stimuli, inputs, is_of, is_event}
use Rattle.lego_model.specs.laws.JournalLaws.{stimuli-append, inputs-append}
use Rattle.outside.specs.declared.step.WorldStep.{WorldStep}
use Rattle.outside.specs.declared.step.WorldStep.TheVariants.{Acted, TookInto, From, Joined, Left, Moment, Idle, End, Opened, NotOpened, NextFailed, SendLost, RecvLost, SendFailed, RecvFailed}
use Rattle.outside.specs.Seen.{journal, Seen}
use Rattle.outside.specs.laws.SeenLaws.{journal-append}
use Rattle.outside.specs.State.{State, event_number, marks_after_gave, after_act, after_step, after_steps, state}
use Rattle.net_txn.specs.LinkSteps.{is_link_step, AreLinkSteps}
use Rattle.journal_laws.specs.Readings.{is_call, Calls}
use Rattle.journal_laws.specs.laws.CallLaws.{both_second, call_of, calls_of, stimulus_called, no_stimuli}
use Rattle.journal_laws.specs.laws.FrameLaws.{kind_byte}
use Rattle.app_visor.specs.Talks.{step_of, Told}
use Rattle.app_visor.specs.Beats.{acts_of}
use Rattle.app_visor.specs.laws.JournalLaws.{journal_told}
use Rattle.app_visor.specs.Tellings.{Beside, Apart}
use Rattle.outside.specs.laws.StateLaws.{state-append}

-- ---- Longer histories

pub stimuli_longer : (xs ys : List WorldStep) → stimuli (journal (xs ++ ys)) ≡ stimuli (journal xs) ++ stimuli (journal ys)
stimuli_longer xs ys = ap stimuli (journal-append xs ys) ∙ stimuli-append (journal xs) (journal ys)

pub inputs_longer : (app : ℕ) (xs ys : List WorldStep) → inputs app (journal (xs ++ ys)) ≡ inputs app (journal xs) ++ inputs app (journal ys)
inputs_longer app xs ys = ap (inputs app) (journal-append xs ys) ∙ inputs-append app (journal xs) (journal ys)

-- ---- The state

pub Beside-refl : (s : State) → Beside s s
Beside-refl s = record { opened = refl; moment = refl; to_come = refl; due = refl; begun = refl }

pub Beside-trans : (a b c : State) → Beside a b → Beside b c → Beside a c
Beside-trans a b c first second = record {
  opened = second.opened ∙ first.opened;
  moment = second.moment ∙ first.moment;
  to_come = second.to_come ∙ first.to_come;
  due = second.due ∙ first.due;
  begun = second.begun ∙ first.begun;
}

pub Apart-refl : (s : State) → Apart s s
Apart-refl s = record { beside = Beside-refl s; links = refl; marks = refl }

pub Apart-trans : (a b c : State) → Apart a b → Apart b c → Apart a c
Apart-trans a b c first second = record { beside = Beside-trans a b c first.beside second.beside; links = second.links ∙ first.links; marks = second.marks ∙ first.marks }

-- ---- What is no Event makes no mark

pub no_number : (bytes : List ℕ) → is_event bytes ≡ false → event_number bytes ≡ None
unfolding event_number
no_number bytes is = rw (kind_byte bytes, is) refl

pub no_mark : (bytes : List ℕ) (s : State) → is_event bytes ≡ false → marks_after_gave bytes s ≡ s.marks
unfolding marks_after_gave
no_mark bytes s is = rw (no_number bytes is) refl

-- ---- Calls for an application, each but the giving of an Event

pub journal_steps : (acts : List Act) → journal (map step_of acts) ≡ acts
unfolding journal
journal_steps [] = refl
journal_steps (act ∷ acts) =
    journal-append (step_of act ∷ []) (map step_of acts) ∙ ap (λ (front : List Act). front ++ journal (map step_of acts)) (journal_told act) ∙ ap (λ (xs : List Act). act ∷ xs) (journal_steps acts)

pub acts_called : (app : ℕ) (acts : List Act) → Calls app acts → acts_of app (map step_of acts) ≡ acts
acts_called app acts all = ap (λ (xs : List Act). filter (is_of app) xs) (journal_steps acts) ∙ calls_of app acts all

pub inputs_called : (app : ℕ) (acts : List Act) → inputs app (journal (map step_of acts)) ≡ inputs app acts
inputs_called app acts = ap (inputs app) (journal_steps acts)

pub stimuli_called : (app : ℕ) (acts : List Act) → Calls app acts → stimuli (journal (map step_of acts)) ≡ []
stimuli_called app acts all = ap stimuli (journal_steps acts) ∙ no_stimuli app acts all

-- an act of the application that is an Event as well
pub stimuli_one : (app : ℕ) (act : Act) → is_of app act ≡ true → stimuli (journal (step_of act ∷ [])) ≡ []
unfolding stimuli
stimuli_one app act is = ap stimuli (journal_told act) ∙ stimulus_called app act [] is

pub beside_one : (app : ℕ) (act : Act) (s : State) → is_of app act ≡ true → Beside s (after_step (step_of act) s)
unfolding after_step after_act
beside_one app (Started of stands) s is = record { opened = refl; moment = refl; to_come = refl; due = refl; begun = refl }
beside_one app (Gave to bytes) s is = record { opened = refl; moment = refl; to_come = refl; due = refl; begun = refl }
beside_one app (Gone to bytes) s is = Beside-refl s
beside_one app (Took from what) s is = Beside-refl s
beside_one app (Ended of) s is = record { opened = refl; moment = refl; to_come = refl; due = refl; begun = refl }
beside_one app (Stim x) s is = absurd (true≢false (sym is))
beside_one app (Sent d bytes) s is = absurd (true≢false (sym is))
beside_one app (Got d bytes) s is = absurd (true≢false (sym is))
beside_one app (Lost d) s is = absurd (true≢false (sym is))

pub links_one : (app : ℕ) (act : Act) (s : State) → is_of app act ≡ true → (after_step (step_of act) s).links ≡ s.links
unfolding after_step after_act
links_one app (Started of stands) s is = refl
links_one app (Gave to bytes) s is = refl
links_one app (Gone to bytes) s is = refl
links_one app (Took from what) s is = refl
links_one app (Ended of) s is = refl
links_one app (Stim x) s is = absurd (true≢false (sym is))
links_one app (Sent d bytes) s is = absurd (true≢false (sym is))
links_one app (Got d bytes) s is = absurd (true≢false (sym is))
links_one app (Lost d) s is = absurd (true≢false (sym is))

pub marks_one : (app : ℕ) (act : Act) (s : State) → is_call app act ≡ true → (after_step (step_of act) s).marks ≡ s.marks
unfolding after_step after_act
marks_one app (Started of stands) s is = refl
marks_one app (Gave to bytes) s is = no_mark bytes s (both_second (to == app) (is_event bytes) is)
marks_one app (Gone to bytes) s is = refl
marks_one app (Took from what) s is = refl
marks_one app (Ended of) s is = refl
marks_one app (Stim x) s is = absurd (true≢false (sym is))
marks_one app (Sent d bytes) s is = absurd (true≢false (sym is))
marks_one app (Got d bytes) s is = absurd (true≢false (sym is))
marks_one app (Lost d) s is = absurd (true≢false (sym is))

pub apart_called : (app : ℕ) (acts : List Act) (s : State) → Calls app acts → Apart s (after_steps (map step_of acts) s)
apart_called app [] s all = Apart-refl s
apart_called app (act ∷ acts) s all =
    let is = call_of app act all.0 in
    let next = after_step (step_of act) s in
    Apart-trans s next (after_steps (map step_of acts) next) (record { beside = beside_one app act s is; links = links_one app act s is; marks = marks_one app act s all.0 }) (apart_called app acts next all.1)

-- ---- Calls of links

-- what stays at a call of a link
record Kept (s t : State) : Type 0 where
  beside : Beside s t
  marks : t.marks ≡ s.marks

kept_same : (s t : State) → t.opened ≡ s.opened → t.moment ≡ s.moment → t.to_come ≡ s.to_come → t.due ≡ s.due → t.begun ≡ s.begun → t.marks ≡ s.marks → Kept s t
kept_same s t opened moment to_come due begun marks = record { beside = record { opened = opened; moment = moment; to_come = to_come; due = due; begun = begun }; marks = marks }

kept_link : (step : WorldStep) (s : State) → is_link_step step ≡ true → Kept s (after_step step s)
unfolding after_step after_act
kept_link (Acted (Sent d bytes)) s is = kept_same s _ refl refl refl refl refl refl
kept_link (Acted (Got d bytes)) s is = kept_same s _ refl refl refl refl refl refl
kept_link (SendLost d) s is = kept_same s _ refl refl refl refl refl refl
kept_link (RecvLost d) s is = kept_same s _ refl refl refl refl refl refl
kept_link (SendFailed d) s is = kept_same s _ refl refl refl refl refl refl
kept_link (RecvFailed d) s is = kept_same s _ refl refl refl refl refl refl
kept_link (Acted (Lost d)) s is = absurd (true≢false (sym is))
kept_link (Acted (Stim x)) s is = absurd (true≢false (sym is))
kept_link (Acted (Started of stands)) s is = absurd (true≢false (sym is))
kept_link (Acted (Gave of frame)) s is = absurd (true≢false (sym is))
kept_link (Acted (Gone of frame)) s is = absurd (true≢false (sym is))
kept_link (Acted (Took of what)) s is = absurd (true≢false (sym is))
kept_link (Acted (Ended of)) s is = absurd (true≢false (sym is))
kept_link (TookInto of what room) s is = absurd (true≢false (sym is))
kept_link (From d bytes) s is = absurd (true≢false (sym is))
kept_link (Joined d bytes) s is = absurd (true≢false (sym is))
kept_link (Left d) s is = absurd (true≢false (sym is))
kept_link (Moment at) s is = absurd (true≢false (sym is))
kept_link Idle s is = absurd (true≢false (sym is))
kept_link End s is = absurd (true≢false (sym is))
kept_link Opened s is = absurd (true≢false (sym is))
kept_link NotOpened s is = absurd (true≢false (sym is))
kept_link NextFailed s is = absurd (true≢false (sym is))

kept_links : (steps : List WorldStep) (s : State) → AreLinkSteps steps → Kept s (after_steps steps s)
kept_links [] s all = record { beside = Beside-refl s; marks = refl }
kept_links (step ∷ steps) s all =
    let first = kept_link step s all.0 in
    let later = kept_links steps (after_step step s) all.1 in
    record { beside = Beside-trans s (after_step step s) (after_steps steps (after_step step s)) first.beside later.beside; marks = later.marks ∙ first.marks }

pub beside_links : (steps : List WorldStep) (s : State) → AreLinkSteps steps → Beside s (after_steps steps s)
beside_links steps s all = (kept_links steps s all).beside

pub marks_links : (steps : List WorldStep) (s : State) → AreLinkSteps steps → (after_steps steps s).marks ≡ s.marks
marks_links steps s all = (kept_links steps s all).marks

-- ---- One act that is told

pub told_state : {Own : Type 0} {Tells : Type 0} {act : Act} {old new : Seen Own} → Told Tells act old new → Tells → state new ≡ after_step (step_of act) (state old)
told_state {act = act} {old = old} {new = new} told tells = state-append old new (step_of act ∷ []) told.continues.given (told.history tells)
