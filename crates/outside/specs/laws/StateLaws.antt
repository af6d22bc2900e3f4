-- Laws of the state that a history leaves, and of a world that keeps its word.
use Rattle.std.specs.Prelude.{◌≡◌, List, [], ◌∷◌, ◌++◌, refl}
use Rattle.std.specs.List.{AllByRecursion}
use Rattle.std.proofs.Common.{ap, ◌∙◌, subst}
use Rattle.of_types.specs.declared.journal.Act.{Act}
use Rattle.of_types.specs.declared.journal.Act.TheVariants.{Stim, Started, Gave, Gone, Took, Ended, Sent, Got, Lost}
use Rattle.of_types.specs.declared.journal.WorldStim.TheVariants.{Join, Leave, At, Of}
use Rattle.flow_table.specs.Switch.{Declared}
use Rattle.outside.specs.declared.step.WorldStep.{WorldStep}
use Rattle.outside.specs.declared.step.WorldStep.TheVariants.{Acted, TookInto, From, Joined, Left, Moment, Idle, End, Opened, NotOpened, NextFailed, SendLost, RecvLost, SendFailed, RecvFailed}
use Rattle.outside.specs.Seen.{Given, Seen, Continues}
use Rattle.outside.specs.State.{State, at_first, switch_of, after_stim, after_act, after_step, after_steps, state, but_marks}
use Rattle.outside.specs.Conforming.{MaySteps, AreDeclaredFrom, MayDeclare, Conforming}

-- ---- A longer history

pub after_steps-append : (xs ys : List WorldStep) (s : State) → after_steps (xs ++ ys) s ≡ after_steps ys (after_steps xs s)
after_steps-append [] ys s = refl
after_steps-append (x ∷ xs) ys s = after_steps-append xs ys (after_step x s)

-- the state that calls leave which appended these steps
pub state-append : {Own : Type 0} (old new : Seen Own) (steps : List WorldStep) → new.given ≡ old.given → new.history ≡ old.history ++ steps → state new ≡ after_steps steps (state old)
unfolding state
state-append old new steps same longer =
    ap (λ (xs : List WorldStep). after_steps xs (at_first new.given)) longer
    ∙ ap (λ (g : Given _). after_steps (old.history ++ steps) (at_first g)) same
    ∙ after_steps-append old.history steps (at_first old.given)

-- ---- Steps that a world may make, one after the other

pub MaySteps-front : (declared : List Declared) (xs ys : List WorldStep) (s : State) → MaySteps declared (xs ++ ys) s → MaySteps declared xs s
MaySteps-front declared [] ys s may = tt
MaySteps-front declared (x ∷ xs) ys s may = (may.0, MaySteps-front declared xs ys (after_step x s) may.1)

pub MaySteps-rest : (declared : List Declared) (xs ys : List WorldStep) (s : State) → MaySteps declared (xs ++ ys) s → MaySteps declared ys (after_steps xs s)
MaySteps-rest declared [] ys s may = may
MaySteps-rest declared (x ∷ xs) ys s may = MaySteps-rest declared xs ys (after_step x s) may.1

-- ---- A world that keeps its word

-- The steps that were appended to what was seen: what was seen before keeps its word, and they may come then.
pub Conforming-front : {Own : Type 0} (old new : Seen Own) (steps : List WorldStep) → new.given ≡ old.given → new.history ≡ old.history ++ steps → Conforming new → Conforming old
Conforming-front old new steps same longer keeps =
    let may : MaySteps new.given.declared (old.history ++ steps) (at_first new.given) =
    subst (λ (xs : List WorldStep). MaySteps new.given.declared xs (at_first new.given)) longer keeps.steps in
    record {
      declared = subst (λ (g : Given _). AreDeclaredFrom 1 g.declared) same keeps.declared;
      switches = subst (λ (g : Given _). AllByRecursion MayDeclare g.declared) same keeps.switches;
      steps = subst (λ (g : Given _). MaySteps g.declared old.history (at_first g)) same (MaySteps-front new.given.declared old.history steps (at_first new.given) may);
    }

pub Conforming-rest : {Own : Type 0} (old new : Seen Own) (steps : List WorldStep) → new.given ≡ old.given → new.history ≡ old.history ++ steps → Conforming new → MaySteps old.given.declared steps (state old)
unfolding state
Conforming-rest old new steps same longer keeps =
    let may : MaySteps new.given.declared (old.history ++ steps) (at_first new.given) =
    subst (λ (xs : List WorldStep). MaySteps new.given.declared xs (at_first new.given)) longer keeps.steps in
    MaySteps-rest old.given.declared old.history steps (at_first old.given) (subst (λ (g : Given _). MaySteps g.declared (old.history ++ steps) (at_first g)) same may)

-- Whoever keeps its word later kept it before.
pub Conforming-before : {Own : Type 0} {Tells : Type 0} {old new : Seen Own} → Tells → Continues Tells old new → Conforming new → Conforming old
Conforming-before {old = old} {new = new} told later keeps =
    Conforming-front old new (later.told told).0 later.given (later.told told).1 keeps

-- ---- Marks steer nothing

act_but_marks : (act : Act) (s : State) → but_marks (after_act act s) ≡ but_marks (after_act act (but_marks s))
unfolding after_act after_stim switch_of
act_but_marks (Stim (Join d)) s = refl
act_but_marks (Stim (Leave d)) s = refl
act_but_marks (Stim (At t)) s = refl
act_but_marks (Stim (Of d x)) s = refl
act_but_marks (Started app ok) s = refl
act_but_marks (Gave app bytes) s = refl
act_but_marks (Gone app bytes) s = refl
act_but_marks (Took app what) s = refl
act_but_marks (Ended app) s = refl
act_but_marks (Sent d bytes) s = refl
act_but_marks (Got d bytes) s = refl
act_but_marks (Lost d) s = refl

pub but_marks-step : (step : WorldStep) (s : State) → but_marks (after_step step s) ≡ but_marks (after_step step (but_marks s))
unfolding after_step
but_marks-step (Acted act) s = act_but_marks act s
but_marks-step (TookInto app what room) s = refl
but_marks-step (From d bytes) s = refl
but_marks-step (Joined d bytes) s = refl
but_marks-step (Left d) s = refl
but_marks-step (Moment t) s = refl
but_marks-step Idle s = refl
but_marks-step End s = refl
but_marks-step Opened s = refl
but_marks-step NotOpened s = refl
but_marks-step NextFailed s = refl
but_marks-step (SendLost d) s = refl
but_marks-step (RecvLost d) s = refl
but_marks-step (SendFailed d) s = refl
but_marks-step (RecvFailed d) s = refl
