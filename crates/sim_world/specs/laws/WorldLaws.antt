-- Laws of a simulated world: that the marks of quiescent points steer nothing, that what was declared stays, and that a call which does
-- what a step says leaves a world that stands.
use Rattle.std.specs.Prelude.{◌≡◌, ℕ, List, [], ◌∷◌, ◌++◌, refl}
use Rattle.std.proofs.Common.{sym, ap, ◌∙◌, subst, append_assoc}
use Rattle.of_types.specs.declared.journal.Act.{Act}
use Rattle.of_types.specs.declared.journal.Act.TheVariants.{Stim, Started, Gave, Gone, Took, Ended, Sent, Got, Lost}
use Rattle.of_types.specs.declared.journal.WorldStim.{WorldStim}
use Rattle.of_types.specs.declared.journal.WorldStim.TheVariants.{Join, Leave, At, Of}
use Rattle.flow_table.specs.Switch.{Declared}
use Rattle.outside.specs.declared.call.FailCall.{FailCall}
use Rattle.outside.specs.declared.step.WorldStep.{WorldStep}
use Rattle.outside.specs.declared.step.WorldStep.TheVariants.{Acted, TookInto, From, Joined, Left, Moment, Idle, End, Opened, NotOpened, NextFailed, SendLost, RecvLost, SendFailed, RecvFailed}
use Rattle.outside.specs.Seen.{Given}
use Rattle.outside.specs.State.{State, at_first, after_stim, after_step, after_steps, state, but_marks, switch_of, waits_of, upcoming, link_fails}
use Rattle.outside.specs.laws.StateLaws.{after_steps-append, but_marks-step}
use Rattle.outside.specs.Conforming.{MayBegin, MayAct, MayStep}
use Rattle.outside.specs.InOrder.{MayCome, MayComeAll}
use Rattle.outside.specs.laws.InOrderLaws.{come-append}
use Rattle.outside.specs.laws.LinkKeptLaws.{steps-declared}
use Rattle.sim_world.specs.Tally.{TallyState, CountsFor}
use Rattle.sim_world.specs.Told.{without_links}
use Rattle.sim_world.specs.Lives.{life_in}
use Rattle.sim_world.specs.laws.ScriptLaws.{AreScripted-append, life_through-append}
use Rattle.sim_world.specs.Scripts.{Scripts, Life, fresh, all_fresh, life_after, life_through, lives_after, IsScriptedAct, IsScripted, AreScripted, KeepsScripts}
use Rattle.sim_world.specs.World.{WorldData, all_declared, given_of, seen_of, IsActAsTold, IsAsTold, AreAsTold, counted_next, nexts_through, CanCome, IsHistory, Stands, Moves}

-- ---- Marks steer nothing

pub after_steps-but_marks : (steps : List WorldStep) (s : State) → but_marks (after_steps steps s) ≡ but_marks (after_steps steps (but_marks s))
after_steps-but_marks [] s = refl
after_steps-but_marks (step ∷ steps) s =
    after_steps-but_marks steps (after_step step s)
    ∙ ap (λ (x : State). but_marks (after_steps steps x)) (but_marks-step step s)
    ∙ sym (after_steps-but_marks steps (after_step step (but_marks s)))

upcoming_but_marks : (x : WorldStim) (s : State) → upcoming (after_stim x s) ≡ upcoming (after_stim x (but_marks s))
unfolding upcoming after_stim switch_of
upcoming_but_marks (Join d) s = refl
upcoming_but_marks (Leave d) s = refl
upcoming_but_marks (At t) s = refl
upcoming_but_marks (Of d x) s = refl

same_upcoming : (s : State) → upcoming s ≡ upcoming (but_marks s)
unfolding upcoming
same_upcoming s = refl

begin_but : (declared : List Declared) (x : WorldStim) (s : State) → MayBegin declared x s → MayBegin declared x (but_marks s)
begin_but declared x s may = record {
  stimulus = may.stimulus;
  none_begun = may.none_begun;
  to_come = may.to_come;
  few = rw (← upcoming_but_marks x s, ← same_upcoming s) may.few;
}

begin_with : (declared : List Declared) (x : WorldStim) (s : State) → MayBegin declared x (but_marks s) → MayBegin declared x s
begin_with declared x s may = record {
  stimulus = may.stimulus;
  none_begun = may.none_begun;
  to_come = may.to_come;
  few = rw (upcoming_but_marks x s, same_upcoming s) may.few;
}

act_but : (declared : List Declared) (act : Act) (s : State) → MayAct declared act s → MayAct declared act (but_marks s)
unfolding MayAct waits_of
act_but declared (Stim x) s may = begin_but declared x s may
act_but declared (Started app ok) s may = may
act_but declared (Gave app bytes) s may = may
act_but declared (Gone app bytes) s may = may
act_but declared (Took app what) s may = may
act_but declared (Ended app) s may = may
act_but declared (Sent d bytes) s may = may
act_but declared (Got d bytes) s may = may
act_but declared (Lost d) s may = may

act_with : (declared : List Declared) (act : Act) (s : State) → MayAct declared act (but_marks s) → MayAct declared act s
unfolding MayAct waits_of
act_with declared (Stim x) s may = begin_with declared x s may
act_with declared (Started app ok) s may = may
act_with declared (Gave app bytes) s may = may
act_with declared (Gone app bytes) s may = may
act_with declared (Took app what) s may = may
act_with declared (Ended app) s may = may
act_with declared (Sent d bytes) s may = may
act_with declared (Got d bytes) s may = may
act_with declared (Lost d) s may = may

step_but : (declared : List Declared) (step : WorldStep) (s : State) → MayStep declared step s → MayStep declared step (but_marks s)
unfolding MayStep upcoming waits_of switch_of link_fails
step_but declared (Acted act) s may = act_but declared act s may
step_but declared (TookInto app what room) s may = may
step_but declared (From d bytes) s may = may
step_but declared (Joined d bytes) s may = may
step_but declared (Left d) s may = may
step_but declared (Moment t) s may = may
step_but declared Idle s may = may
step_but declared End s may = may
step_but declared Opened s may = may
step_but declared NotOpened s may = may
step_but declared NextFailed s may = may
step_but declared (SendLost d) s may = may
step_but declared (RecvLost d) s may = may
step_but declared (SendFailed d) s may = may
step_but declared (RecvFailed d) s may = may

step_with : (declared : List Declared) (step : WorldStep) (s : State) → MayStep declared step (but_marks s) → MayStep declared step s
unfolding MayStep upcoming waits_of switch_of link_fails
step_with declared (Acted act) s may = act_with declared act s may
step_with declared (TookInto app what room) s may = may
step_with declared (From d bytes) s may = may
step_with declared (Joined d bytes) s may = may
step_with declared (Left d) s may = may
step_with declared (Moment t) s may = may
step_with declared Idle s may = may
step_with declared End s may = may
step_with declared Opened s may = may
step_with declared NotOpened s may = may
step_with declared NextFailed s may = may
step_with declared (SendLost d) s may = may
step_with declared (RecvLost d) s may = may
step_with declared (SendFailed d) s may = may
step_with declared (RecvFailed d) s may = may

pub after_same : (step : WorldStep) (s t : State) → but_marks s ≡ but_marks t → but_marks (after_step step s) ≡ but_marks (after_step step t)
after_same step s t same =
    but_marks-step step s ∙ ap (λ (x : State). but_marks (after_step step x)) same ∙ sym (but_marks-step step t)

-- what may come, too
come_but : (declared : List Declared) (step : WorldStep) (s : State) → MayCome declared step s → MayCome declared step (but_marks s)
unfolding MayCome upcoming waits_of
come_but declared (Acted (Stim x)) s may = step_but declared (Acted (Stim x)) s may
come_but declared (Acted (Started app ok)) s may = step_but declared (Acted (Started app ok)) s may
come_but declared (Acted (Gave app bytes)) s may = step_but declared (Acted (Gave app bytes)) s may
come_but declared (Acted (Gone app bytes)) s may = step_but declared (Acted (Gone app bytes)) s may
come_but declared (Acted (Took app what)) s may = step_but declared (Acted (Took app what)) s may
come_but declared (Acted (Ended app)) s may = step_but declared (Acted (Ended app)) s may
come_but declared (Acted (Sent d bytes)) s may = step_but declared (Acted (Sent d bytes)) s may
come_but declared (Acted (Got d bytes)) s may = may
come_but declared (Acted (Lost d)) s may = step_but declared (Acted (Lost d)) s may
come_but declared (From d bytes) s may = may
come_but declared (TookInto app what room) s may = step_but declared (TookInto app what room) s may
come_but declared (Joined d bytes) s may = step_but declared (Joined d bytes) s may
come_but declared (Left d) s may = step_but declared (Left d) s may
come_but declared (Moment t) s may = step_but declared (Moment t) s may
come_but declared (SendLost d) s may = step_but declared (SendLost d) s may
come_but declared (RecvLost d) s may = step_but declared (RecvLost d) s may
come_but declared (SendFailed d) s may = step_but declared (SendFailed d) s may
come_but declared (RecvFailed d) s may = step_but declared (RecvFailed d) s may
come_but declared Idle s may = step_but declared Idle s may
come_but declared End s may = step_but declared End s may
come_but declared Opened s may = step_but declared Opened s may
come_but declared NotOpened s may = step_but declared NotOpened s may
come_but declared NextFailed s may = step_but declared NextFailed s may

come_with : (declared : List Declared) (step : WorldStep) (s : State) → MayCome declared step (but_marks s) → MayCome declared step s
unfolding MayCome upcoming waits_of
come_with declared (Acted (Stim x)) s may = step_with declared (Acted (Stim x)) s may
come_with declared (Acted (Started app ok)) s may = step_with declared (Acted (Started app ok)) s may
come_with declared (Acted (Gave app bytes)) s may = step_with declared (Acted (Gave app bytes)) s may
come_with declared (Acted (Gone app bytes)) s may = step_with declared (Acted (Gone app bytes)) s may
come_with declared (Acted (Took app what)) s may = step_with declared (Acted (Took app what)) s may
come_with declared (Acted (Ended app)) s may = step_with declared (Acted (Ended app)) s may
come_with declared (Acted (Sent d bytes)) s may = step_with declared (Acted (Sent d bytes)) s may
come_with declared (Acted (Got d bytes)) s may = may
come_with declared (Acted (Lost d)) s may = step_with declared (Acted (Lost d)) s may
come_with declared (From d bytes) s may = may
come_with declared (TookInto app what room) s may = step_with declared (TookInto app what room) s may
come_with declared (Joined d bytes) s may = step_with declared (Joined d bytes) s may
come_with declared (Left d) s may = step_with declared (Left d) s may
come_with declared (Moment t) s may = step_with declared (Moment t) s may
come_with declared (SendLost d) s may = step_with declared (SendLost d) s may
come_with declared (RecvLost d) s may = step_with declared (RecvLost d) s may
come_with declared (SendFailed d) s may = step_with declared (SendFailed d) s may
come_with declared (RecvFailed d) s may = step_with declared (RecvFailed d) s may
come_with declared Idle s may = step_with declared Idle s may
come_with declared End s may = step_with declared End s may
come_with declared Opened s may = step_with declared Opened s may
come_with declared NotOpened s may = step_with declared NotOpened s may
come_with declared NextFailed s may = step_with declared NextFailed s may

-- Steps may come in a state exactly where they may in one that differs in marks alone.
pub MayComeAll-same : (declared : List Declared) (steps : List WorldStep) (s t : State) → but_marks s ≡ but_marks t → MayComeAll declared steps s → MayComeAll declared steps t
MayComeAll-same declared [] s t same may = tt
MayComeAll-same declared (step ∷ steps) s t same may = (
  come_with declared step t (subst (λ (x : State). MayCome declared step x) same (come_but declared step s may.0)),
  MayComeAll-same declared steps (after_step step s) (after_step step t) (after_same step s t same) may.1,
)

-- ---- Calls that are told to fail

told_act_same : (fails : List FailCall) (act : Act) (s : State) → IsActAsTold fails act s ≡ IsActAsTold fails act (but_marks s)
unfolding link_fails switch_of waits_of
told_act_same fails (Stim x) s = refl
told_act_same fails (Started app ok) s = refl
told_act_same fails (Gave app bytes) s = refl
told_act_same fails (Gone app bytes) s = refl
told_act_same fails (Took app what) s = refl
told_act_same fails (Ended app) s = refl
told_act_same fails (Sent d bytes) s = refl
told_act_same fails (Got d bytes) s = refl
told_act_same fails (Lost d) s = refl

told_same : (fails : List FailCall) (n : ℕ) (step : WorldStep) (s : State) → IsAsTold fails n step s ≡ IsAsTold fails n step (but_marks s)
unfolding IsAsTold link_fails switch_of waits_of
told_same fails n (Acted act) s = told_act_same fails act s
told_same fails n (TookInto app what room) s = refl
told_same fails n (From d bytes) s = refl
told_same fails n (Joined d bytes) s = refl
told_same fails n (Left d) s = refl
told_same fails n (Moment t) s = refl
told_same fails n Idle s = refl
told_same fails n End s = refl
told_same fails n Opened s = refl
told_same fails n NotOpened s = refl
told_same fails n NextFailed s = refl
told_same fails n (SendLost d) s = refl
told_same fails n (RecvLost d) s = refl
told_same fails n (SendFailed d) s = refl
told_same fails n (RecvFailed d) s = refl

pub AreAsTold-same : (fails : List FailCall) (n : ℕ) (steps : List WorldStep) (s t : State) → but_marks s ≡ but_marks t → AreAsTold fails n steps s → AreAsTold fails n steps t
AreAsTold-same fails n [] s t same told = tt
AreAsTold-same fails n (step ∷ steps) s t same told =
    let here : IsAsTold fails n step s ≡ IsAsTold fails n step t =
    told_same fails n step s ∙ ap (IsAsTold fails n step) same ∙ sym (told_same fails n step t) in (
      subst (λ (x : Type 0). x) here told.0,
      AreAsTold-same fails (counted_next step n) steps (after_step step s) (after_step step t) (after_same step s t same) told.1,
    )

pub nexts_through-append : (xs ys : List WorldStep) (n : ℕ) → nexts_through (xs ++ ys) n ≡ nexts_through ys (nexts_through xs n)
nexts_through-append [] ys n = refl
nexts_through-append (x ∷ xs) ys n = nexts_through-append xs ys (counted_next x n)

pub AreAsTold-append : (fails : List FailCall) (n : ℕ) (xs ys : List WorldStep) (s : State) → AreAsTold fails n xs s → AreAsTold fails (nexts_through xs n) ys (after_steps xs s) → AreAsTold fails n (xs ++ ys) s
AreAsTold-append fails n [] ys s front rest = rest
AreAsTold-append fails n (x ∷ xs) ys s front rest = (front.0, AreAsTold-append fails (counted_next x n) xs ys (after_step x s) front.1 rest)

-- ---- What was declared stays

pub declared-stays : (steps : List WorldStep) (s : State) → all_declared (after_steps steps s) ≡ all_declared s
unfolding all_declared
declared-stays steps s = steps-declared steps s

-- ---- Applications

scripted_act_same : (own : Scripts) (fails : List FailCall) (act : Act) (lives others : ℕ → Life) → ((app : ℕ) → lives app ≡ others app) → IsScriptedAct own fails act lives → IsScriptedAct own fails act others
scripted_act_same own fails (Stim x) lives others same is = is
scripted_act_same own fails (Started app ok) lives others same is = rw (← same app) is
scripted_act_same own fails (Gave app bytes) lives others same is = rw (← same app) is
scripted_act_same own fails (Gone app bytes) lives others same is = rw (← same app) is
scripted_act_same own fails (Took app what) lives others same is = is
scripted_act_same own fails (Ended app) lives others same is = rw (← same app) is
scripted_act_same own fails (Sent d bytes) lives others same is = is
scripted_act_same own fails (Got d bytes) lives others same is = is
scripted_act_same own fails (Lost d) lives others same is = is

scripted_same : (own : Scripts) (fails : List FailCall) (step : WorldStep) (lives others : ℕ → Life) → ((app : ℕ) → lives app ≡ others app) → IsScripted own fails step lives → IsScripted own fails step others
unfolding IsScripted
scripted_same own fails (Acted act) lives others same is = scripted_act_same own fails act lives others same is
scripted_same own fails (TookInto app what room) lives others same is = rw (← same app) is
scripted_same own fails (From d bytes) lives others same is = is
scripted_same own fails (Joined d bytes) lives others same is = is
scripted_same own fails (Left d) lives others same is = is
scripted_same own fails (Moment t) lives others same is = is
scripted_same own fails Idle lives others same is = is
scripted_same own fails End lives others same is = is
scripted_same own fails Opened lives others same is = is
scripted_same own fails NotOpened lives others same is = is
scripted_same own fails NextFailed lives others same is = is
scripted_same own fails (SendLost d) lives others same is = is
scripted_same own fails (RecvLost d) lives others same is = is
scripted_same own fails (SendFailed d) lives others same is = is
scripted_same own fails (RecvFailed d) lives others same is = is

AreScripted-same : (own : Scripts) (fails : List FailCall) (steps : List WorldStep) (lives others : ℕ → Life) → ((app : ℕ) → lives app ≡ others app) → AreScripted own fails steps lives → AreScripted own fails steps others
AreScripted-same own fails [] lives others same are = tt
AreScripted-same own fails (step ∷ steps) lives others same are = (
  scripted_same own fails step lives others same are.0,
  AreScripted-same own fails steps (lives_after own fails step lives) (lives_after own fails step others) (λ app. ap (life_after own fails app step) (same app)) are.1,
)

-- ---- A call that does what steps say

-- What steps may come in a world, so that it stands afterwards.
pub record MayMove (old : WorldData) (steps : List WorldStep) : Type 0 where
  pub word : MayComeAll (all_declared old.state) steps old.state
  pub scripts : AreScripted old.scripts old.told steps (λ app. life_in app old.lives)
  pub told : AreAsTold old.told old.nexts steps old.state

pub declared_but : (s : State) → all_declared (but_marks s) ≡ all_declared s
unfolding all_declared
declared_but s = refl

IsHistory-more : (given : Given Scripts) (history steps : List WorldStep) (s : State) (lives : ℕ → Life) → but_marks (after_steps history (at_first given)) ≡ s
    → ((app : ℕ) → lives app ≡ life_through given.own (without_links given.fails) app history fresh) → IsHistory given history
    → MayComeAll given.declared steps s → AreScripted given.own (without_links given.fails) steps lives → AreAsTold (without_links given.fails) (nexts_through history 0) steps s → IsHistory given (history ++ steps)
unfolding KeepsScripts
IsHistory-more given history steps s lives is same before may scripts told =
    let now : but_marks s ≡ but_marks (after_steps history (at_first given)) = ap but_marks (sym is) in
    record {
      word = come-append given.declared history steps (at_first given) before.word
          (MayComeAll-same given.declared steps s (after_steps history (at_first given)) now may);
      scripts = AreScripted-append given.own (without_links given.fails) history steps all_fresh before.scripts (AreScripted-same given.own (without_links given.fails) steps lives _ same scripts);
      told = AreAsTold-append (without_links given.fails) 0 history steps (at_first given) before.told (AreAsTold-same (without_links given.fails) (nexts_through history 0) steps s _ now told);
    }

-- A call that does what steps say, where they may come, leaves a world that stands.
pub Stands_moves : (old new : WorldData) (steps : List WorldStep) (counted : TallyState) → Stands old → Moves old new steps counted → MayMove old steps
    → CountsFor (all_declared old.state) counted → CanCome (all_declared old.state) new.state.moment new.state.to_come → Stands new
unfolding given_of seen_of state
Stands_moves old new steps counted stands moves may counts come =
    let declared : all_declared new.state ≡ all_declared old.state =
    ap all_declared moves.state ∙ declared_but (after_steps steps old.state) ∙ declared-stays steps old.state in
    let given : given_of new ≡ given_of old = rw (declared, moves.scripts, moves.stimuli, moves.fails) refl in
    let history : IsHistory (given_of old) (old.history ++ steps) =
    IsHistory-more (given_of old) old.history steps old.state (λ app. life_in app old.lives) stands.state (λ app. rw (← stands.told) (stands.lives app)) stands.history may.word (rw (← stands.told) may.scripts) (rw (← stands.told, ← stands.nexts) may.told) in
    record {
      declared = rw declared stands.declared;
      switches = rw declared stands.switches;
      state =
          ap (λ (g : Given Scripts). but_marks (after_steps new.history (at_first g))) given
          ∙ ap (λ (h : List WorldStep). but_marks (after_steps h (at_first (given_of old)))) moves.history
          ∙ ap but_marks (after_steps-append old.history steps (at_first (given_of old)))
          ∙ after_steps-but_marks steps (after_steps old.history (at_first (given_of old)))
          ∙ ap (λ (x : State). but_marks (after_steps steps x)) stands.state
          ∙ sym moves.state;
      lives = λ app. moves.lives app ∙ ap (life_through old.scripts old.told app steps) (stands.lives app)
          ∙ sym (life_through-append old.scripts old.told app old.history steps fresh)
          ∙ rw (moves.scripts, moves.told, moves.history) refl;
      told = rw (moves.told, moves.fails) stands.told;
      nexts = moves.nexts ∙ ap (nexts_through steps) stands.nexts ∙ sym (nexts_through-append old.history steps 0) ∙ ap (λ (h : List WorldStep). nexts_through h 0) (sym moves.history);
      history = subst (λ (h : List WorldStep). IsHistory (given_of new) h) (sym moves.history) (subst (λ (g : Given Scripts). IsHistory g (old.history ++ steps)) (sym given) history);
      room = moves.room;
      tally = rw (declared, moves.tally) counts;
      can_come = rw declared come;
    }

-- One call behind another.
pub Moves_both : (old mid new : WorldData) (xs ys : List WorldStep) (t u : TallyState) → Moves old mid xs t → Moves mid new ys u → Moves old new (xs ++ ys) u
Moves_both old mid new xs ys t u first second = record {
  scripts = second.scripts ∙ first.scripts;
  stimuli = second.stimuli ∙ first.stimuli;
  fails = second.fails ∙ first.fails;
  told = second.told ∙ first.told;
  history = second.history ∙ ap (λ (h : List WorldStep). h ++ ys) first.history ∙ append_assoc old.history xs ys;
  nexts = second.nexts ∙ ap (nexts_through ys) first.nexts ∙ sym (nexts_through-append xs ys old.nexts);
  room = second.room;
  tally = second.tally;
  state =
      second.state
      ∙ ap (λ (s : State). but_marks (after_steps ys s)) first.state
      ∙ sym (after_steps-but_marks ys (after_steps xs old.state))
      ∙ ap but_marks (sym (after_steps-append xs ys old.state));
  lives = λ app.
      second.lives app
      ∙ rw (first.scripts, first.told) (ap (life_through old.scripts old.told app ys) (first.lives app))
      ∙ sym (life_through-append old.scripts old.told app xs ys (life_in app old.lives));
}

-- A call behind one that made room and took applications down, with no life moved.
pub Moves_ready : (old mid new : WorldData) (steps : List WorldStep) (t : TallyState) → mid ≡ record old { room = mid.room; calls = mid.calls; lives = mid.lives } → ((app : ℕ) → life_in app mid.lives ≡ life_in app old.lives) → Moves mid new steps t → Moves old new steps t
Moves_ready old mid new steps t same lives moves = record {
  scripts = moves.scripts ∙ ap (λ (w : WorldData). w.scripts) same;
  stimuli = moves.stimuli ∙ ap (λ (w : WorldData). w.stimuli) same;
  fails = moves.fails ∙ ap (λ (w : WorldData). w.fails) same;
  told = moves.told ∙ ap (λ (w : WorldData). w.told) same;
  history = moves.history ∙ ap (λ (w : WorldData). w.history ++ steps) same;
  nexts = moves.nexts ∙ ap (λ (w : WorldData). nexts_through steps w.nexts) same;
  room = moves.room;
  tally = moves.tally;
  state = moves.state ∙ ap (λ (w : WorldData). but_marks (after_steps steps w.state)) same;
  lives = λ app. moves.lives app
      ∙ ap (λ (w : WorldData). life_through w.scripts w.told app steps (life_in app mid.lives)) same
      ∙ ap (life_through old.scripts old.told app steps) (lives app);
}
