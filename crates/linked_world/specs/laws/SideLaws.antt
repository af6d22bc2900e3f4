-- Steps of applications move neither the switches, nor what is due, nor the stimuli still to come; the other steps move no application.
use Rattle.std.specs.Prelude.{◌≡◌, ℕ, true, false, List, [], ◌∷◌, refl}
use Rattle.std.proofs.Common.{sym, ap, ◌∙◌, inl, inr}
use Rattle.std.proofs.lemmas.Bool.{cases_Bool, false≢true}
use Rattle.of_types.specs.declared.journal.Act.{Act}
use Rattle.of_types.specs.declared.journal.Act.TheVariants.{Stim, Started, Gave, Gone, Took, Ended, Sent, Got, Lost}
use Rattle.of_types.specs.declared.journal.WorldStim.TheVariants.{Join, Leave, At, Of}
use Rattle.outside.specs.declared.step.WorldStep.{WorldStep}
use Rattle.outside.specs.declared.step.WorldStep.TheVariants.{Acted, TookInto, From, Joined, Left, Moment, Idle, End, Opened, NotOpened, NextFailed, SendLost, RecvLost, SendFailed, RecvFailed}
use Rattle.outside.specs.State.{State, after_stim, after_act, after_step, after_steps, switch_of, waits_of, is_joined, upcoming}
use Rattle.outside.specs.Calls.{IsIdle, IsOver, can_receive}
use Rattle.linked_world.specs.Linked.{is_app_act, is_app_step, link_steps}

-- ---- What is not of applications

-- the state but for the applications that run, and for the marks
abbrev pub link_side : State → State
link_side s = record s { running = []; marks = [] }

act_side : (act : Act) (s : State) → link_side (after_act act s) ≡ link_side (after_act act (link_side s))
unfolding after_act after_stim switch_of
act_side (Stim (Join d)) s = refl
act_side (Stim (Leave d)) s = refl
act_side (Stim (At t)) s = refl
act_side (Stim (Of d x)) s = refl
act_side (Started app ok) s = refl
act_side (Gave app bytes) s = refl
act_side (Gone app bytes) s = refl
act_side (Took app what) s = refl
act_side (Ended app) s = refl
act_side (Sent d bytes) s = refl
act_side (Got d bytes) s = refl
act_side (Lost d) s = refl

-- no step looks at the applications that run, but for those of applications
pub side-step : (step : WorldStep) (s : State) → link_side (after_step step s) ≡ link_side (after_step step (link_side s))
unfolding after_step
side-step (Acted act) s = act_side act s
side-step (TookInto app what room) s = refl
side-step (From d bytes) s = refl
side-step (Joined d bytes) s = refl
side-step (Left d) s = refl
side-step (Moment t) s = refl
side-step Idle s = refl
side-step End s = refl
side-step Opened s = refl
side-step NotOpened s = refl
side-step NextFailed s = refl
side-step (SendLost d) s = refl
side-step (RecvLost d) s = refl
side-step (SendFailed d) s = refl
side-step (RecvFailed d) s = refl

app_act : (act : Act) (s : State) → is_app_act act ≡ true → link_side (after_act act s) ≡ link_side s
unfolding after_act
app_act (Stim x) s is = absurd (false≢true is)
app_act (Started app ok) s is = refl
app_act (Gave app bytes) s is = refl
app_act (Gone app bytes) s is = refl
app_act (Took app what) s is = refl
app_act (Ended app) s is = refl
app_act (Sent d bytes) s is = absurd (false≢true is)
app_act (Got d bytes) s is = absurd (false≢true is)
app_act (Lost d) s is = absurd (false≢true is)

-- a step of an application moves nothing else
pub side-app : (step : WorldStep) (s : State) → is_app_step step ≡ true → link_side (after_step step s) ≡ link_side s
unfolding after_step
side-app (Acted act) s is = app_act act s is
side-app (TookInto app what room) s is = refl
side-app (From d bytes) s is = absurd (false≢true is)
side-app (Joined d bytes) s is = absurd (false≢true is)
side-app (Left d) s is = absurd (false≢true is)
side-app (Moment t) s is = absurd (false≢true is)
side-app Idle s is = absurd (false≢true is)
side-app End s is = absurd (false≢true is)
side-app Opened s is = absurd (false≢true is)
side-app NotOpened s is = absurd (false≢true is)
side-app NextFailed s is = absurd (false≢true is)
side-app (SendLost d) s is = absurd (false≢true is)
side-app (RecvLost d) s is = absurd (false≢true is)
side-app (SendFailed d) s is = absurd (false≢true is)
side-app (RecvFailed d) s is = absurd (false≢true is)

-- two states alike but for applications are so after any step
pub side-alike : (step : WorldStep) (s t : State) → link_side s ≡ link_side t → link_side (after_step step s) ≡ link_side (after_step step t)
side-alike step s t alike =
    side-step step s ∙ ap (λ (x : State). link_side (after_step step x)) alike ∙ sym (side-step step t)

pub side-steps : (steps : List WorldStep) (s t : State) → link_side s ≡ link_side t → link_side (after_steps steps s) ≡ link_side (after_steps steps t)
side-steps [] s t alike = alike
side-steps (step ∷ steps) s t alike = side-steps steps (after_step step s) (after_step step t) (side-alike step s t alike)

-- without the steps of applications the state is the same but for applications
pub side-link_steps : (steps : List WorldStep) (s t : State) → link_side s ≡ link_side t → link_side (after_steps steps s) ≡ link_side (after_steps (link_steps steps) t)
unfolding link_steps
side-link_steps [] s t alike = alike
side-link_steps (step ∷ steps) s t alike =
    elim (cases_Bool (is_app_step step)) [
      | inl app ↦ rw app (side-link_steps steps (after_step step s) t (side-app step s app ∙ alike))
      | inr other ↦ rw other (side-link_steps steps (after_step step s) (after_step step t) (side-alike step s t alike))
    ]

-- ---- Applications

act_runs : (act : Act) (s : State) → is_app_act act ≡ false → (after_act act s).running ≡ s.running
unfolding after_act after_stim
act_runs (Stim x) s is = refl
act_runs (Started app ok) s is = absurd (false≢true (sym is))
act_runs (Gave app bytes) s is = absurd (false≢true (sym is))
act_runs (Gone app bytes) s is = absurd (false≢true (sym is))
act_runs (Took app what) s is = absurd (false≢true (sym is))
act_runs (Ended app) s is = absurd (false≢true (sym is))
act_runs (Sent d bytes) s is = refl
act_runs (Got d bytes) s is = refl
act_runs (Lost d) s is = refl

pub runs-step : (step : WorldStep) (s : State) → is_app_step step ≡ false → (after_step step s).running ≡ s.running
unfolding after_step
runs-step (Acted act) s is = act_runs act s is
runs-step (TookInto app what room) s is = absurd (false≢true (sym is))
runs-step (From d bytes) s is = refl
runs-step (Joined d bytes) s is = refl
runs-step (Left d) s is = refl
runs-step (Moment t) s is = refl
runs-step Idle s is = refl
runs-step End s is = refl
runs-step Opened s is = refl
runs-step NotOpened s is = refl
runs-step NextFailed s is = refl
runs-step (SendLost d) s is = refl
runs-step (RecvLost d) s is = refl
runs-step (SendFailed d) s is = refl
runs-step (RecvFailed d) s is = refl

-- the other steps start and end none
pub runs-link_steps : (steps : List WorldStep) (s : State) → (after_steps (link_steps steps) s).running ≡ s.running
unfolding link_steps
runs-link_steps [] s = refl
runs-link_steps (step ∷ steps) s =
    elim (cases_Bool (is_app_step step)) [
      | inl app ↦ rw app (runs-link_steps steps s)
      | inr other ↦ rw other (runs-link_steps steps (after_step step s) ∙ runs-step step s other)
    ]

-- ---- What calls ask of the state

pub opened-side : (s t : State) → link_side s ≡ link_side t → s.opened ≡ t.opened
opened-side s t alike = ap (λ (x : State). x.opened) alike

pub to_come-side : (s t : State) → link_side s ≡ link_side t → s.to_come ≡ t.to_come
to_come-side s t alike = ap (λ (x : State). x.to_come) alike

pub joined-side : (d : ℕ) (s t : State) → link_side s ≡ link_side t → is_joined d s ≡ is_joined d t
unfolding switch_of
joined-side d s t alike = ap (λ (x : State). is_joined d x) alike

pub receive-side : (d : ℕ) (s t : State) → link_side s ≡ link_side t → can_receive d s ≡ can_receive d t
unfolding waits_of
receive-side d s t alike = ap (λ (x : State). can_receive d x) alike

pub idle-side : (s t : State) → link_side s ≡ link_side t → IsIdle s ≡ IsIdle t
unfolding upcoming
idle-side s t alike = ap (λ (x : State). IsIdle x) alike

pub over-side : (s t : State) → link_side s ≡ link_side t → IsOver s ≡ IsOver t
over-side s t alike = ap (λ (x : State). IsOver x) alike
