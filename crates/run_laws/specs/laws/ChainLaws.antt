-- Laws of the beats of a turn, of an undo and of attempts to start: what they leave of a state beside its switches, and that what is sound
-- stays so.
use Rattle.std.proofs.Common.{◌≡◌, ◌==◌, ℕ, zero, suc, Bool, true, false, List, [], ◌∷◌, ◌++◌, map, filter, Some, if◌then◌else◌, refl, sym, ap, ◌∙◌, subst, inl, inr}
use Rattle.std.proofs.lemmas.Bool.{eq-eqb}
use Rattle.std.proofs.lemmas.List.{append-nil}
use Rattle.std.proofs.lemmas.List.Elements.{filter-append}
use Rattle.std.specs.List.{AllByRecursion}
use Rattle.of_types.specs.declared.journal.Act.{Act}
use Rattle.of_types.specs.declared.journal.Act.TheVariants.{Started, Gave, Gone}
use Rattle.of_types.specs.declared.journal.WorldStim.{WorldStim}
use Rattle.app_frames.specs.declared.frame.Answer.{Answer}
use Rattle.lego_model.specs.Journal.{is_of, inputs, stimuli, give_act}
use Rattle.lego_model.specs.laws.JournalLaws.{inputs-append, stimuli-append}
use Rattle.lego_model.specs.Controller.{answer_frame, restore_frame}
use Rattle.outside.specs.Seen.{Seen, Continues, journal}
use Rattle.outside.specs.laws.SeenLaws.{journal-append, Continues-refl, Continues-trans}
use Rattle.outside.specs.State.{State, state, event_number, marks_at_event, is_running, after_step, after_steps}
use Rattle.outside.specs.laws.StateLaws.{state-append}
use Rattle.net_txn.specs.Net.{NetState}
use Rattle.app_visor.specs.Talks.{step_of, Told}
use Rattle.app_visor.specs.Beats.{Beat, Talk, Asks, Chain, acts_in}
use Rattle.app_visor.specs.Attempts.{IsTry, OneTry, AreTries}
use Rattle.journal_laws.specs.Readings.{end_acts}
use Rattle.lego_model.specs.History.{own_acts, given_in, stimuli_in}
use Rattle.run_laws.specs.laws.FrameLaws.{answer_number, restore_number}
use Rattle.run_laws.specs.laws.LinkStepLaws.{link_steps, link_steps-tell, talk_step, talk_steps, event_marks, gone_marks, talk_marks, talks_mark}
use Rattle.net_txn.specs.LinkSteps.{LinkSteps}
use Rattle.run_laws.specs.LinkSteps.{OnlyLinks, OnlyTalk, NoEvents, Rests, TellsSame, TriesKeep}
use Rattle.run_laws.specs.laws.CalmLaws.{Rests-refl, Rests-trans}

-- ---- What steps of links leave

pub links_state : {Own : Type 0} (old new : Seen Own) → new.given ≡ old.given → LinkSteps old new → OnlyLinks (state old) (state new)
links_state old new given only =
    subst (λ (s : State). OnlyLinks (state old) s) (sym (state-append old new only.steps given only.history)) (link_steps only.steps (state old) only.all)

pub links_rest : {Own : Type 0} (old new : Seen Own) → OnlyLinks (state old) (state new) → Rests (state old) (state new)
links_rest old new only = record { begun = only.begun; due = only.due; moment = only.moment }

pub links_tell : {Own : Type 0} (app : ℕ) (old new : Seen Own) → LinkSteps old new → TellsSame app old new
links_tell app old new only =
    let tells = link_steps-tell app only.steps only.all in
    let longer : journal new.history ≡ journal old.history ++ journal only.steps = ap journal only.history ∙ journal-append old.history only.steps in
    record {
      acts = ap (filter (is_of app)) longer ∙ filter-append (is_of app) (journal old.history) (journal only.steps)
          ∙ ap (λ (acts : List Act). own_acts app old ++ acts) tells.acts ∙ append-nil (own_acts app old);
      given = ap (inputs app) longer ∙ inputs-append app (journal old.history) (journal only.steps)
          ∙ ap (λ (frames : List (List ℕ)). given_in app old ++ frames) tells.given ∙ append-nil (given_in app old);
      stims = ap stimuli longer ∙ stimuli-append (journal old.history) (journal only.steps)
          ∙ ap (λ (xs : List WorldStim). stimuli_in old ++ xs) tells.stims ∙ append-nil (stimuli_in old);
    }

-- ---- Beats

talk_rests : (s t : State) → OnlyTalk s t → Rests s t
talk_rests s t only = record { begun = only.begun; due = only.due; moment = only.moment }

pub told_state : {Own : Type 0} (Tells : Type 0) (act : Act) (old new : Seen Own) → Tells → Told Tells act old new → state new ≡ after_step (step_of act) (state old)
told_state Tells act old new told t = state-append old new (step_of act ∷ []) t.continues.given (t.history told)

pub chain_rests : {Own : Type 0} (Tells : Type 0) (app : ℕ) (trace : List (Beat Own)) (old new : Seen Own) (net now_net : NetState) → Tells → Chain Tells app trace old new net now_net → Rests (state old) (state new)
chain_rests Tells app [] old new net now_net told chain = subst (λ (s : Seen _). Rests (state old) (state s)) (sym chain.0) (Rests-refl (state old))
chain_rests Tells app (Talk act ∷ trace) old new net now_net told chain =
    let next = chain.1.0 in
    let one = subst (λ (s : State). Rests (state old) s) (sym (told_state Tells act old next told chain.1.1.0)) (talk_rests (state old) (after_step (step_of act) (state old)) (talk_step app act (state old) chain.0)) in
    Rests-trans (state old) (state next) (state new) one (chain_rests Tells app trace next new net now_net told chain.1.1.1)
chain_rests Tells app (Asks x ∷ trace) old new net now_net told chain =
    let is = chain.1.0 in
    let only = links_state x.before x.after is.changes.continues.given (is.changes.links told) in
    let one = subst (λ (s : Seen _). Rests (state s) (state x.after)) chain.0.0 (links_rest x.before x.after only) in
    Rests-trans (state old) (state x.after) (state new) one (chain_rests Tells app trace x.after new x.now_net now_net told chain.1.1)

-- behind the event no mark is made
pub chain_marks : {Own : Type 0} (Tells : Type 0) (app : ℕ) (trace : List (Beat Own)) (old new : Seen Own) (net now_net : NetState) → Tells → Chain Tells app trace old new net now_net → NoEvents (inputs app (acts_in trace)) → (state new).marks ≡ (state old).marks
chain_marks Tells app [] old new net now_net told chain none = ap (λ (s : Seen _). (state s).marks) chain.0
chain_marks Tells app (Talk act ∷ trace) old new net now_net told chain none =
    let next = chain.1.0 in
    let one = talk_marks app act (acts_in trace) chain.0 none in
    chain_marks Tells app trace next new net now_net told chain.1.1.1 one.rest ∙ ap (λ (s : State). s.marks) (told_state Tells act old next told chain.1.1.0) ∙ one.marks (state old)
chain_marks Tells app (Asks x ∷ trace) old new net now_net told chain none =
    let is = chain.1.0 in
    let only = links_state x.before x.after is.changes.continues.given (is.changes.links told) in
    chain_marks Tells app trace x.after new x.now_net now_net told chain.1.1 none ∙ only.marks ∙ ap (λ (s : Seen _). (state s).marks) chain.0.0

-- ---- The event

-- it marks the switches, where it could be given and was not before
pub given_marks : {Own : Type 0} (Tells : Type 0) (given : Bool) (app n : ℕ) (frame : List ℕ) (old next : Seen Own) → Tells → Told Tells (give_act given app frame) old next → event_number frame ≡ Some n
    → (state next).marks ≡ (if given then marks_at_event (Some n) (state old) else (state old).marks)
given_marks Tells true app n frame old next told t is = ap (λ (s : State). s.marks) (told_state Tells (Gave app frame) old next told t) ∙ event_marks n app frame (state old) is
given_marks Tells false app n frame old next told t is = ap (λ (s : State). s.marks) (told_state Tells (Gone app frame) old next told t) ∙ gone_marks app frame (state old)

pub answers_no_events : (answers : List Answer) → NoEvents (map answer_frame answers)
answers_no_events [] = tt
answers_no_events (a ∷ answers) = (answer_number a, answers_no_events answers)

-- ---- Attempts to start

TriesKeep-refl : (s : State) → TriesKeep s s
TriesKeep-refl s = record { links = refl; rests = Rests-refl s; marks = refl }

TriesKeep-trans : (s t u : State) → TriesKeep s t → TriesKeep t u → TriesKeep s u
TriesKeep-trans s t u first second = record { links = second.links ∙ first.links; rests = Rests-trans s t u first.rests second.rests; marks = second.marks ∙ first.marks }

keep_talk : (app : ℕ) (acts : List Act) (s : State) → AllByRecursion (λ act. is_of app act ≡ true) acts → NoEvents (inputs app acts) → TriesKeep s (after_steps (map step_of acts) s)
keep_talk app acts s are none =
    let only = talk_steps app acts s are in
    record { links = only.links; rests = talk_rests s (after_steps (map step_of acts) s) only; marks = talks_mark app acts s are none }

restored_none : (kept : List ℕ) (b : Bool) → NoEvents (if b then restore_frame kept ∷ [] else [])
restored_none kept true = (restore_number kept, tt)
restored_none kept false = tt

-- the acts of an attempt, from the end of the life before it on
pub try_own : (app : ℕ) (running stands : Bool) (acts : List Act) → (app == app) ≡ true → AllByRecursion (λ act. is_of app act ≡ true) acts → AllByRecursion (λ act. is_of app act ≡ true) (end_acts running app ++ Started app stands ∷ acts)
try_own app true stands acts same own = (same, (same, own))
try_own app false stands acts same own = (same, own)

pub try_given : (app : ℕ) (running stands : Bool) (acts : List Act) → inputs app (end_acts running app ++ Started app stands ∷ acts) ≡ inputs app acts
unfolding inputs
try_given app true stands acts = refl
try_given app false stands acts = refl

try_keeps : {Own : Type 0} (Tells : Type 0) (app : ℕ) (kept : List ℕ) (t : OneTry Own) (old : Seen Own) → Tells → IsTry Tells app kept t.attempt t.tried t.rest old t.after → AllByRecursion (λ act. is_of app act ≡ true) t.attempt.acts → TriesKeep (state old) (state t.after)
try_keeps Tells app kept t old told is own =
    let running = is_running app (state old) in
    let acts = end_acts running app ++ Started app t.attempt.stands ∷ t.attempt.acts in
    subst (λ (s : State). TriesKeep (state old) s) (sym (state-append old t.after (map step_of acts) is.continues.given (is.history told)))
    (keep_talk app acts (state old) (try_own app running t.attempt.stands t.attempt.acts (eq-eqb app app refl) own)
    (subst NoEvents (sym (try_given app running t.attempt.stands t.attempt.acts ∙ is.given)) (restored_none kept _)))

pub tries_keep : {Own : Type 0} (Tells : Type 0) (app : ℕ) (kept : List ℕ) (n : ℕ) (ts : List (OneTry Own)) (old new : Seen Own) → Tells → AreTries Tells app kept n ts old new → AllByRecursion (λ t. AllByRecursion (λ act. is_of app act ≡ true) t.attempt.acts) ts → TriesKeep (state old) (state new)
tries_keep Tells app kept zero [] old new told are own = subst (λ (s : Seen _). TriesKeep (state old) (state s)) (sym are) (TriesKeep-refl (state old))
tries_keep Tells app kept zero (t ∷ ts) old new told are own = absurd are
tries_keep Tells app kept (suc n) [] old new told are own = absurd are
tries_keep Tells app kept (suc n) (t ∷ ts) old new told are own =
    let one = try_keeps Tells app kept t old told are.0 own.0 in
    elim are.1 [
      | inl last ↦ subst (λ (s : Seen _). TriesKeep (state old) (state s)) (sym last.2) one
      | inr more ↦ TriesKeep-trans (state old) (state t.after) (state new) one (tries_keep Tells app kept n ts t.after new told more.1 own.1)
    ]

pub tries_continue : {Own : Type 0} (Tells : Type 0) (app : ℕ) (kept : List ℕ) (n : ℕ) (ts : List (OneTry Own)) (old new : Seen Own) → AreTries Tells app kept n ts old new → Continues Tells old new
tries_continue Tells app kept zero [] old new are = subst (λ (s : Seen _). Continues Tells old s) (sym are) (Continues-refl Tells old)
tries_continue Tells app kept zero (t ∷ ts) old new are = absurd are
tries_continue Tells app kept (suc n) [] old new are = absurd are
tries_continue Tells app kept (suc n) (t ∷ ts) old new are =
    elim are.1 [
      | inl last ↦ subst (λ (s : Seen _). Continues Tells old s) (sym last.2) are.0.continues
      | inr more ↦ Continues-trans Tells old t.after new are.0.continues (tries_continue Tells app kept n ts t.after new more.1)
    ]
