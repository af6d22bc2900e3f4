-- No call of a run was a stray one.
use Rattle.std.proofs.Common.{◌≡◌, ℕ, ◌<◌, ◌≤◌, true, false, List, [], ◌∷◌, ◌++◌, refl, sym, ap, subst}
use Rattle.std.specs.List.{AllByRecursion}
use Rattle.std.proofs.lemmas.Bool.{eq-eqb}
use Rattle.of_types.specs.declared.journal.Act.{Act}
use Rattle.of_types.specs.declared.journal.Act.TheVariants.{Stim, Started, Gave, Gone, Took, Ended, Sent, Got, Lost}
use Rattle.of_types.specs.declared.journal.TookWhat.TheVariants as took
use Rattle.outside.specs.declared.step.WorldStep.{WorldStep}
use Rattle.outside.specs.declared.step.WorldStep.TheVariants.{Acted, TookInto, From, Joined, Left, Moment, Idle, End, Opened, NotOpened, NextFailed, SendLost, RecvLost, SendFailed, RecvFailed}
use Rattle.outside.specs.Seen.{Given, Seen, act_of}
use Rattle.outside.specs.State.{State, at_first, after_step, after_steps, state, is_running}
use Rattle.net_txn.specs.laws.SaidLaws.{all_two}
use Rattle.net_txn.specs.LinkSteps.{MakesNoStrayCall}
use Rattle.lego_model.specs.UndoFaults.{IsExpectedOnLink, AreExpectedOnLinks}
use Rattle.app_visor.specs.Dialogues.{KeepsOrder as IsInPlaceOf, CallsKeepOrder as AreInPlaceOf}
use Rattle.run_laws.specs.Cut.{IsActAmong, IsCallAmong, CallsAmong}
use Rattle.lego_model.specs.OrderlySteps.{IsOrderlyAct, IsOrderly}
use Rattle.sim_world.specs.Places.{IsActExpected, IsExpected, AreExpected}
use Rattle.sim_world.specs.World.{WorldData, given_of, seen_of}
use Rattle.legosdn.specs.Live.{NoneStray}

-- ---- Calls for a number of applications

act_among : (number : ℕ) (act : Act) → IsOrderlyAct number act → IsActAmong number act
act_among number (Stim x) so = tt
act_among number (Started of stands) so = so
act_among number (Gave of bytes) so = so
act_among number (Gone of bytes) so = so
act_among number (Took of what) so = so
act_among number (Ended of) so = so
act_among number (Sent d bytes) so = tt
act_among number (Got d bytes) so = tt
act_among number (Lost d) so = tt

step_among : (number : ℕ) (step : WorldStep) → IsOrderly number step → IsCallAmong number step
step_among number (Acted act) so = act_among number act so
step_among number (TookInto of what room) so = so.0
step_among number (From d bytes) so = tt
step_among number (Joined d bytes) so = tt
step_among number (Left d) so = tt
step_among number (Moment t) so = tt
step_among number Idle so = tt
step_among number End so = tt
step_among number Opened so = tt
step_among number NotOpened so = so
step_among number NextFailed so = tt
step_among number (SendLost d) so = tt
step_among number (RecvLost d) so = tt
step_among number (SendFailed d) so = tt
step_among number (RecvFailed d) so = tt

pub all_among : (number : ℕ) (steps : List WorldStep) → AllByRecursion (IsOrderly number) steps → AllByRecursion (IsCallAmong number) steps
all_among number [] so = tt
all_among number (step ∷ steps) so = (step_among number step so.0, all_among number steps so.1)

-- as far as a place all steps were in order, and behind it all calls are for these applications
pub behind_among : {Own : Type 0} {last seen : Seen Own} (number : ℕ) → AllByRecursion (IsOrderly number) last.history → CallsAmong number last seen → AllByRecursion (IsCallAmong number) seen.history
behind_among {last} {seen} number ordered own = subst (AllByRecursion (IsCallAmong number)) (sym own.history) (all_two (IsCallAmong number) last.history own.steps (all_among number last.history ordered) own.all)

-- ---- Each step

-- the calls for each of them keep their order, from a state on
abbrev pub AreInPlace : ℕ → List WorldStep → State → Type 0
AreInPlace number steps s = (i : ℕ) → i < number → AreInPlaceOf i steps s

-- of an application that is one of them
abbrev IsInPlaceThere : ℕ → WorldStep → State → Type 0
IsInPlaceThere number step s = (i : ℕ) → i < number → IsInPlaceOf i (act_of step) (is_running i s)

act_in_place : (number : ℕ) (act : Act) (s : State) → IsActAmong number act → IsInPlaceThere number (Acted act) s → IsActExpected act s
act_in_place number (Stim x) s own so = tt
act_in_place number (Started of true) s own so = tt
act_in_place number (Started of false) s own so = so of own (eq-eqb of of refl)
act_in_place number (Gave of bytes) s own so = tt
act_in_place number (Gone of bytes) s own so = so of own (eq-eqb of of refl)
act_in_place number (Took of what) s own so = tt
act_in_place number (Ended of) s own so = tt
act_in_place number (Sent d bytes) s own so = tt
act_in_place number (Got d bytes) s own so = tt
act_in_place number (Lost d) s own so = tt

step_in_place : (number : ℕ) (step : WorldStep) (s : State) → IsCallAmong number step → IsInPlaceThere number step s → IsExpectedOnLink step s → IsExpected step s
step_in_place number (Acted act) s own so link = act_in_place number act s own so
step_in_place number (TookInto of (took.Bytes bytes) room) s own so link = tt
step_in_place number (TookInto of took.Closed room) s own so link = so of own (eq-eqb of of refl)
step_in_place number (TookInto of took.Silent room) s own so link = tt
step_in_place number (From d bytes) s own so link = tt
step_in_place number (Joined d bytes) s own so link = tt
step_in_place number (Left d) s own so link = tt
step_in_place number (Moment t) s own so link = tt
step_in_place number Idle s own so link = tt
step_in_place number End s own so link = tt
step_in_place number Opened s own so link = tt
step_in_place number NotOpened s own so link = absurd own
step_in_place number NextFailed s own so link = tt
step_in_place number (SendLost d) s own so link = tt
step_in_place number (RecvLost d) s own so link = link
step_in_place number (SendFailed d) s own so link = absurd link
step_in_place number (RecvFailed d) s own so link = absurd link

steps_in_place : (number : ℕ) (steps : List WorldStep) (s : State) → AllByRecursion (IsCallAmong number) steps → AreInPlace number steps s → AreExpectedOnLinks steps s → AreExpected steps s
steps_in_place number [] s own so links = tt
steps_in_place number (step ∷ steps) s own so links =
    (step_in_place number step s own.0 (λ i lt. (so i lt).0) links.0, steps_in_place number steps (after_step step s) own.1 (λ i lt. (so i lt).1) links.1)

-- ---- The whole

-- calls of links since nothing had happened
pub links_from_first : {Own : Type 0} (old new : Seen Own) → old.history ≡ [] → new.given ≡ old.given → MakesNoStrayCall old new → AreExpectedOnLinks new.history (at_first new.given)
unfolding state
links_from_first {Own} old new none given stays =
    subst (λ (g : Given Own). AreExpectedOnLinks new.history (at_first g)) (sym given)
    (subst (λ (h : List WorldStep). AreExpectedOnLinks new.history (after_steps h (at_first old.given))) none
    (stays new.history (ap (λ (h : List WorldStep). h ++ new.history) (sym none))))

pub in_place : {Own : Type 0} (number : ℕ) (seen : Seen Own) → AllByRecursion (IsCallAmong number) seen.history → AreInPlace number seen.history (at_first seen.given) → AreExpectedOnLinks seen.history (at_first seen.given) → NoneStray seen
in_place number seen own so links = steps_in_place number seen.history (at_first seen.given) own so links

-- where the world stayed shut, or nothing was done
pub shut_in_place : {Own : Type 0} (seen : Seen Own) → seen.history ≡ NotOpened ∷ [] → NoneStray seen
unfolding at_first
shut_in_place seen is = subst (λ (h : List WorldStep). AreExpected h (at_first seen.given)) (sym is) (refl, tt)

pub idle_in_place : {Own : Type 0} (seen : Seen Own) → seen.history ≡ [] → NoneStray seen
idle_in_place seen is = subst (λ (h : List WorldStep). AreExpected h (at_first seen.given)) (sym is) tt

-- ---- What the simulated world says of calls that are no stray ones

abbrev pub CountsFew : WorldData → Type 0
CountsFew sim = AreExpected sim.history (at_first (given_of sim)) → (seen_of sim).counts.strays ≤ (seen_of sim).counts.shorts

pub counted_few : (sim : WorldData) → CountsFew sim → NoneStray (seen_of sim) → (seen_of sim).counts.strays ≤ (seen_of sim).counts.shorts
unfolding seen_of
counted_few sim few so = few so
