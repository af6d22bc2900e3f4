-- Laws of the stimuli that a history tells: in a world that tells in order they are the first of those that it was given, and the others
-- are still to come.
use Rattle.std.specs.Prelude.{◌≡◌, List, [], ◌∷◌, ◌++◌, drop, Some, refl, slice_get}
use Rattle.std.proofs.Common.{ap, ◌∙◌, append_assoc}
use Rattle.std.proofs.lemmas.List.Elements.{filter_map-append}
use Rattle.of_types.specs.declared.journal.Act.{Act}
use Rattle.of_types.specs.declared.journal.Act.TheVariants.{Stim, Started, Gave, Gone, Took, Ended, Sent, Got, Lost}
use Rattle.of_types.specs.declared.journal.WorldStim.{WorldStim}
use Rattle.flow_table.specs.Switch.{Declared}
use Rattle.outside.specs.declared.step.WorldStep.{WorldStep}
use Rattle.outside.specs.declared.step.WorldStep.TheVariants.{Acted, TookInto, From, Joined, Left, Moment, Idle, End, Opened, NotOpened, NextFailed, SendLost, RecvLost, SendFailed, RecvFailed}
use Rattle.outside.specs.Seen.{Seen, journal}
use Rattle.outside.specs.Stimuli.{stimulus_in, stimuli}
use Rattle.outside.specs.State.{State, at_first, after_stim, after_act, after_step, after_steps, state}
use Rattle.outside.specs.Conforming.{MayAct, MayStep}
use Rattle.outside.specs.InOrder.{MayCome, MayComeAll, InOrder}
use Rattle.outside.specs.laws.SeenLaws.{journal-append}

-- ---- A longer journal

pub stimuli-append : (first next : List Act) → stimuli (first ++ next) ≡ stimuli first ++ stimuli next
unfolding stimuli
stimuli-append first next = filter_map-append stimulus_in first next

-- the stimuli of steps
abbrev pub told_in : List WorldStep → List WorldStim
told_in steps = stimuli (journal steps)

pub told_none : told_in [] ≡ []
unfolding stimuli journal
told_none = refl

pub told_more : (step : WorldStep) (steps : List WorldStep) → told_in (step ∷ steps) ≡ told_in (step ∷ []) ++ told_in steps
told_more step steps = ap stimuli (journal-append (step ∷ []) steps) ∙ stimuli-append (journal (step ∷ [])) (journal steps)

-- ---- One step

-- the stimulus that a step begins, with those to come behind it, was to come
abbrev TakesNext : WorldStep → State → Type 0
TakesNext step s = told_in (step ∷ []) ++ (after_step step s).to_come ≡ s.to_come

first_to_come : (xs : List WorldStim) (x : WorldStim) → slice_get xs 0 ≡ Some x → x ∷ drop 1 xs ≡ xs
first_to_come [] x is = absurd cc
first_to_come (y ∷ ys) x is = cc

stim_next : (declared : List Declared) (x : WorldStim) (s : State) → MayCome declared (Acted (Stim x)) s → TakesNext (Acted (Stim x)) s
unfolding MayCome MayStep MayAct after_step after_act after_stim stimuli journal
stim_next declared x s may = first_to_come s.to_come x may.to_come

step_next : (declared : List Declared) (step : WorldStep) (s : State) → MayCome declared step s → TakesNext step s
unfolding after_step after_act stimuli journal
step_next declared (Acted (Stim x)) s may = stim_next declared x s may
step_next declared (Acted (Started app ok)) s may = refl
step_next declared (Acted (Gave app bytes)) s may = refl
step_next declared (Acted (Gone app bytes)) s may = refl
step_next declared (Acted (Took app what)) s may = refl
step_next declared (Acted (Ended app)) s may = refl
step_next declared (Acted (Sent d bytes)) s may = refl
step_next declared (Acted (Got d bytes)) s may = refl
step_next declared (Acted (Lost d)) s may = refl
step_next declared (TookInto app what room) s may = refl
step_next declared (From d bytes) s may = refl
step_next declared (Joined d bytes) s may = refl
step_next declared (Left d) s may = refl
step_next declared (Moment t) s may = refl
step_next declared Idle s may = refl
step_next declared End s may = refl
step_next declared Opened s may = refl
step_next declared NotOpened s may = refl
step_next declared NextFailed s may = refl
step_next declared (SendLost d) s may = refl
step_next declared (RecvLost d) s may = refl
step_next declared (SendFailed d) s may = refl
step_next declared (RecvFailed d) s may = refl

-- ---- A history

steps_next : (declared : List Declared) (steps : List WorldStep) (s : State) → MayComeAll declared steps s → told_in steps ++ (after_steps steps s).to_come ≡ s.to_come
steps_next declared [] s may = ap (λ (xs : List WorldStim). xs ++ s.to_come) told_none
steps_next declared (step ∷ steps) s may =
    let t = after_step step s in
    ap (λ (xs : List WorldStim). xs ++ (after_steps steps t).to_come) (told_more step steps)
    ∙ append_assoc (told_in (step ∷ [])) (told_in steps) (after_steps steps t).to_come
    ∙ ap (λ (xs : List WorldStim). told_in (step ∷ []) ++ xs) (steps_next declared steps t may.1)
    ∙ step_next declared step s may.0

-- the stimuli that were begun, and then those still to come, are all that were given
pub begun-and-to_come : {Own : Type 0} (seen : Seen Own) → InOrder seen → stimuli (journal seen.history) ++ (state seen).to_come ≡ seen.given.stimuli
unfolding state at_first
begun-and-to_come seen order = steps_next seen.given.declared seen.history (at_first seen.given) order.steps
