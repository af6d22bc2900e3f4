-- Laws of what applications do.
use Rattle.std.proofs.Common.{◌≡◌, ℕ, ◌+◌, Bool, true, false, not, ◌||◌, ◌&&◌, List, [], ◌∷◌, ◌++◌, refl, sym, ap, ◌∙◌, ◌==◌, if◌then◌else◌, is_some, length, Option, Some, None, arith, subst, inl, inr, ◌⊎◌}
use Rattle.std.proofs.lemmas.Bool.{eq-eqb, ne_eqb, eqb-true, eqb-false}
use Rattle.std.proofs.lemmas.Map.Views.{any-filter_same}
use Rattle.of_types.specs.declared.journal.Act.{Act}
use Rattle.of_types.specs.declared.journal.Act.TheVariants.{Stim, Started, Gave, Gone, Took, Ended, Sent, Got, Lost}
use Rattle.of_types.specs.declared.journal.TookWhat.{TookWhat}
use Rattle.of_types.specs.declared.journal.TookWhat.TheVariants as took
use Rattle.std.proofs.lemmas.List.Folds.{list_any-append}
use Rattle.outside.specs.declared.call.CallKind.TheVariants as kinds
use Rattle.outside.specs.declared.call.FailCall.{FailCall}
use Rattle.outside.specs.declared.step.WorldStep.{WorldStep}
use Rattle.outside.specs.declared.step.WorldStep.TheVariants.{Acted, TookInto, From, Joined, Left, Moment, Idle, End, Opened, NotOpened, NextFailed, SendLost, RecvLost, SendFailed, RecvFailed}
use Rattle.outside.specs.Seen.{Seen}
use Rattle.outside.specs.State.{State, at_first, state, is_running, event_number, after_stim, after_act, after_step, after_steps}
use Rattle.app_frames.specs.declared.frame.AppFrame.TheVariants.{Done, Ready}
use Rattle.app_frames.specs.Spelling.{app_bytes, app_body_bytes, framed}
use Rattle.of_types.specs.Fields.{number_bytes}
use Rattle.sim_world.specs.Told.{TellSame}
use Rattle.sim_world.specs.Scripts.{fresh, ready_bytes, done_bytes, next_start, is_refused, start_reached, will_start, will_give, after_start, after_gave, after_gone, after_end, life_after_act, life_after, life_through, lives_after, lives_through, AreScripted, all_fresh, KeepsScripts, FewCalls, Scripts, Life, closed_told, silent_told, take_fault, next_taken, given_of, left_of, taken_bytes, after_take, left_unless, fault_or}

-- ---- What a take does

pub fault-closed : (fails : List FailCall) (app : ℕ) (l : Life) → (not l.running || closed_told fails app l) ≡ true → take_fault fails app l ≡ Some took.Closed
unfolding take_fault
fault-closed fails app l closed = rw closed refl

pub fault-silent : (fails : List FailCall) (app : ℕ) (l : Life) → (not l.running || closed_told fails app l) ≡ false → silent_told fails app l ≡ true → take_fault fails app l ≡ Some took.Silent
unfolding take_fault
fault-silent fails app l open_ silent = rw open_ (rw silent refl)

pub fault-none : (fails : List FailCall) (app : ℕ) (l : Life) → (not l.running || closed_told fails app l) ≡ false → silent_told fails app l ≡ false → take_fault fails app l ≡ None
unfolding take_fault
fault-none fails app l open_ loud = rw open_ (rw loud refl)

pub taken-fault : (fails : List FailCall) (app room : ℕ) (l : Life) (what : TookWhat) → take_fault fails app l ≡ Some what → next_taken fails app room l ≡ what
unfolding next_taken
taken-fault fails app room l what fault = ap (fault_or (given_of room l.left)) fault

pub taken-left : (fails : List FailCall) (app room : ℕ) (l : Life) → take_fault fails app l ≡ None → next_taken fails app room l ≡ given_of room l.left
unfolding next_taken
taken-left fails app room l none = ap (fault_or (given_of room l.left)) none

pub kept-fault : (fails : List FailCall) (app : ℕ) (l : Life) (what fault : TookWhat) → take_fault fails app l ≡ Some fault → after_take fails app what l ≡ record l { take_calls = l.take_calls + 1 }
unfolding after_take
kept-fault fails app l what fault is = rw is refl

pub kept-left : (fails : List FailCall) (app : ℕ) (l : Life) (what : TookWhat) → take_fault fails app l ≡ None → after_take fails app what l ≡ record l { take_calls = l.take_calls + 1; left = left_of (length (taken_bytes what)) l.left }
unfolding after_take
kept-left fails app l what none = rw none refl

-- ---- Fails that tell the same

same-start_reached : (fails others : List FailCall) (app : ℕ) (l : Life) → TellSame fails others → start_reached fails app l ≡ start_reached others app l
same-start_reached fails others app l same = ap (λ (told : Bool). not l.running && not told) (same kinds.Start app (l.start_calls + 1) refl)

pub same-will_start : (own : Scripts) (fails others : List FailCall) (app : ℕ) (l : Life) → TellSame fails others → will_start own fails app l ≡ will_start own others app l
unfolding will_start
same-will_start own fails others app l same = ap (λ (reached : Bool). reached && not (is_refused (next_start own app l))) (same-start_reached fails others app l same)

pub same-will_give : (fails others : List FailCall) (app : ℕ) (l : Life) → TellSame fails others → will_give fails app l ≡ will_give others app l
unfolding will_give
same-will_give fails others app l same = ap (λ (told : Bool). l.running && not told) (same kinds.Give app (l.give_calls + 1) refl)

same-take_fault : (fails others : List FailCall) (app : ℕ) (l : Life) → TellSame fails others → take_fault fails app l ≡ take_fault others app l
unfolding take_fault
same-take_fault fails others app l same =
    ap (λ (told : Bool). if not l.running || told then Some took.Closed else if silent_told fails app l then Some took.Silent else None) (same kinds.TakeClosed app (l.take_calls + 1) refl)
    ∙ ap (λ (told : Bool). if not l.running || closed_told others app l then Some took.Closed else if told then Some took.Silent else None) (same kinds.TakeSilent app (l.take_calls + 1) refl)

pub same-next_taken : (fails others : List FailCall) (app room : ℕ) (l : Life) → TellSame fails others → next_taken fails app room l ≡ next_taken others app room l
unfolding next_taken
same-next_taken fails others app room l same = ap (fault_or (given_of room l.left)) (same-take_fault fails others app l same)

same-after_start : (own : Scripts) (fails others : List FailCall) (app : ℕ) (ok : Bool) (l : Life) → TellSame fails others → after_start own fails app ok l ≡ after_start own others app ok l
unfolding after_start
same-after_start own fails others app true l same = refl
same-after_start own fails others app false l same =
    ap (λ (reached : Bool). record l { starts = if reached && is_refused (next_start own app l) then l.starts + 1 else l.starts; start_calls = l.start_calls + 1 }) (same-start_reached fails others app l same)

same-after_take : (fails others : List FailCall) (app : ℕ) (what : TookWhat) (l : Life) → TellSame fails others → after_take fails app what l ≡ after_take others app what l
unfolding after_take
same-after_take fails others app what l same =
    ap (λ (fault : Option TookWhat). record l { take_calls = l.take_calls + 1; left = left_unless l.left fault (left_of (length (taken_bytes what)) l.left) }) (same-take_fault fails others app l same)

same-act : (own : Scripts) (fails others : List FailCall) (app : ℕ) (act : Act) (l : Life) → TellSame fails others → life_after_act own fails app act l ≡ life_after_act own others app act l
same-act own fails others app (Started a ok) l same = ap (λ (m : Life). if a == app then m else l) (same-after_start own fails others app ok l same)
same-act own fails others app (Stim x) l same = refl
same-act own fails others app (Gave a bytes) l same = refl
same-act own fails others app (Gone a bytes) l same = refl
same-act own fails others app (Took a what) l same = refl
same-act own fails others app (Ended a) l same = refl
same-act own fails others app (Sent d bytes) l same = refl
same-act own fails others app (Got d bytes) l same = refl
same-act own fails others app (Lost d) l same = refl

-- a step makes the same of a life
pub same-life_after : (own : Scripts) (fails others : List FailCall) (app : ℕ) (step : WorldStep) (l : Life) → TellSame fails others → life_after own fails app step l ≡ life_after own others app step l
unfolding life_after
same-life_after own fails others app (Acted act) l same = same-act own fails others app act l same
same-life_after own fails others app (TookInto a what room) l same = ap (λ (m : Life). if a == app then m else l) (same-after_take fails others app what l same)
same-life_after own fails others app (From d bytes) l same = refl
same-life_after own fails others app (Joined d bytes) l same = refl
same-life_after own fails others app (Left d) l same = refl
same-life_after own fails others app (Moment t) l same = refl
same-life_after own fails others app Idle l same = refl
same-life_after own fails others app End l same = refl
same-life_after own fails others app Opened l same = refl
same-life_after own fails others app NotOpened l same = refl
same-life_after own fails others app NextFailed l same = refl
same-life_after own fails others app (SendLost d) l same = refl
same-life_after own fails others app (RecvLost d) l same = refl
same-life_after own fails others app (SendFailed d) l same = refl
same-life_after own fails others app (RecvFailed d) l same = refl

-- ---- A longer history

pub life_through-append : (own : Scripts) (fails : List FailCall) (app : ℕ) (xs ys : List WorldStep) (l : Life) → life_through own fails app (xs ++ ys) l ≡ life_through own fails app ys (life_through own fails app xs l)
life_through-append own fails app [] ys l = refl
life_through-append own fails app (x ∷ xs) ys l = life_through-append own fails app xs ys (life_after own fails app x l)

pub AreScripted-front : (own : Scripts) (fails : List FailCall) (xs ys : List WorldStep) (lives : ℕ → Life) → AreScripted own fails (xs ++ ys) lives → AreScripted own fails xs lives
AreScripted-front own fails [] ys lives all = tt
AreScripted-front own fails (x ∷ xs) ys lives all = (all.0, AreScripted-front own fails xs ys (lives_after own fails x lives) all.1)

pub AreScripted-rest : (own : Scripts) (fails : List FailCall) (xs ys : List WorldStep) (lives : ℕ → Life) → AreScripted own fails (xs ++ ys) lives → AreScripted own fails ys (lives_through own fails xs lives)
AreScripted-rest own fails [] ys lives all = all
AreScripted-rest own fails (x ∷ xs) ys lives all = AreScripted-rest own fails xs ys (lives_after own fails x lives) all.1

pub AreScripted-append : (own : Scripts) (fails : List FailCall) (xs ys : List WorldStep) (lives : ℕ → Life) → AreScripted own fails xs lives → AreScripted own fails ys (lives_through own fails xs lives) → AreScripted own fails (xs ++ ys) lives
AreScripted-append own fails [] ys lives front rest = rest
AreScripted-append own fails (x ∷ xs) ys lives front rest = (front.0, AreScripted-append own fails xs ys (lives_after own fails x lives) front.1 rest)

-- a history that keeps to the scripts did so at the end of each front of it
pub KeepsScripts-front : (own : Scripts) (fails : List FailCall) (xs ys : List WorldStep) → KeepsScripts own fails (xs ++ ys) → KeepsScripts own fails xs
unfolding KeepsScripts
KeepsScripts-front own fails xs ys all = AreScripted-front own fails xs ys all_fresh all

pub KeepsScripts-rest : (own : Scripts) (fails : List FailCall) (xs ys : List WorldStep) → KeepsScripts own fails (xs ++ ys) → AreScripted own fails ys (lives_through own fails xs all_fresh)
unfolding KeepsScripts
KeepsScripts-rest own fails xs ys all = AreScripted-rest own fails xs ys all_fresh all

-- and goes on to do so where each step behind it does
pub KeepsScripts-append : (own : Scripts) (fails : List FailCall) (xs ys : List WorldStep) → KeepsScripts own fails xs → AreScripted own fails ys (lives_through own fails xs all_fresh) → KeepsScripts own fails (xs ++ ys)
unfolding KeepsScripts
KeepsScripts-append own fails xs ys front rest = AreScripted-append own fails xs ys all_fresh front rest

-- ---- Running, as the state of a world has it

started_runs : (b running : Bool) (l m : Life) → m.running ≡ true → l.running ≡ running → (if b then m else l).running ≡ (b || running)
started_runs true running l m starts same = starts
started_runs false running l m starts same = same

stays_is : (b running : Bool) (l m : Life) → m.running ≡ l.running → l.running ≡ running → (if b then m else l).running ≡ running
stays_is true running l m stays same = stays ∙ same
stays_is false running l m stays same = same

ended_runs : (b running : Bool) (l m : Life) → m.running ≡ false → l.running ≡ running → (if b then m else l).running ≡ (not b && running)
ended_runs true running l m ends same = ends
ended_runs false running l m ends same = same

test_of : (t : Bool) (a b : ℕ) → (a == b) ≡ t → (a ≡ b) ⊎ (a ≡ b → ⊥)
test_of true a b is = inl (eqb-true a b is)
test_of false a b is = inr (eqb-false a b is)

test_cases : (a b : ℕ) → (a ≡ b) ⊎ (a ≡ b → ⊥)
test_cases a b = test_of (a == b) a b refl

same_test : (x a app : ℕ) → (x == app) ≡ true → not (x == a) ≡ not (a == app)
same_test x a app is =
    let here : x ≡ app = eqb-true x app is in
    elim (test_cases a app) [
      | inl same ↦ ap not (eq-eqb x a (here ∙ sym same) ∙ sym (eq-eqb a app same))
      | inr other ↦ ap not (ne_eqb x a (λ e. other (sym e ∙ here)) ∙ sym (ne_eqb a app other))
    ]

running-gave : (own : Scripts) (app : ℕ) (event : Bool) (l : Life) → (after_gave own app event l).running ≡ l.running
unfolding after_gave
running-gave own app true l = refl
running-gave own app false l = refl

or_swapped : (a b : Bool) → (a || b) ≡ (b || (a || false))
or_swapped true true = refl
or_swapped true false = refl
or_swapped false true = refl
or_swapped false false = refl

running-act : (own : Scripts) (fails : List FailCall) (app : ℕ) (act : Act) (l : Life) (s : State) → l.running ≡ is_running app s → (life_after_act own fails app act l).running ≡ is_running app (after_act act s)
unfolding after_act after_stim after_start after_gone after_end
running-act own fails app (Started a true) l s same =
    started_runs (a == app) (is_running app s) l (after_start own fails app true l) refl same
    ∙ or_swapped (a == app) (is_running app s)
    ∙ sym (list_any-append (λ (x : ℕ). x == app) s.running (a ∷ []))
running-act own fails app (Started a false) l s same = stays_is (a == app) (is_running app s) l (after_start own fails app false l) refl same
running-act own fails app (Gave a bytes) l s same = stays_is (a == app) (is_running app s) l (after_gave own app (is_some (event_number bytes)) l) (running-gave own app (is_some (event_number bytes)) l) same
running-act own fails app (Gone a bytes) l s same = stays_is (a == app) (is_running app s) l (after_gone l) refl same
running-act own fails app (Ended a) l s same =
    ended_runs (a == app) (is_running app s) l (after_end l) refl same
    ∙ sym (any-filter_same (λ (x : ℕ). x == app) (λ (x : ℕ). not (x == a)) (not (a == app)) (λ x is. same_test x a app is) s.running)
running-act own fails app (Stim x) l s same = same
running-act own fails app (Took a what) l s same = same
running-act own fails app (Sent d bytes) l s same = same
running-act own fails app (Got d bytes) l s same = same
running-act own fails app (Lost d) l s same = same

-- a step starts and ends an application in its life as in the state of the world
pub running-step : (own : Scripts) (fails : List FailCall) (app : ℕ) (step : WorldStep) (l : Life) (s : State) → l.running ≡ is_running app s → (life_after own fails app step l).running ≡ is_running app (after_step step s)
unfolding life_after after_step after_take
running-step own fails app (Acted act) l s same = running-act own fails app act l s same
running-step own fails app (TookInto a what room) l s same = stays_is (a == app) (is_running app s) l (after_take fails app what l) refl same
running-step own fails app (From d bytes) l s same = same
running-step own fails app (Joined d bytes) l s same = same
running-step own fails app (Left d) l s same = same
running-step own fails app (Moment t) l s same = same
running-step own fails app Idle l s same = same
running-step own fails app End l s same = same
running-step own fails app Opened l s same = same
running-step own fails app NotOpened l s same = same
running-step own fails app NextFailed l s same = same
running-step own fails app (SendLost d) l s same = same
running-step own fails app (RecvLost d) l s same = same
running-step own fails app (SendFailed d) l s same = same
running-step own fails app (RecvFailed d) l s same = same

pub running-through : (own : Scripts) (fails : List FailCall) (app : ℕ) (steps : List WorldStep) (l : Life) (s : State) → l.running ≡ is_running app s → (life_through own fails app steps l).running ≡ is_running app (after_steps steps s)
running-through own fails app [] l s same = same
running-through own fails app (x ∷ xs) l s same = running-through own fails app xs (life_after own fails app x l) (after_step x s) (running-step own fails app x l s same)

-- an application runs in its life where it runs in the state of the world
pub running-state : (seen : Seen Scripts) (app : ℕ) → (life_through seen.given.own seen.given.fails app seen.history fresh).running ≡ is_running app (state seen)
unfolding state at_first fresh
running-state seen app = running-through seen.given.own seen.given.fails app seen.history fresh (at_first seen.given) refl

-- ---- Counts of calls

few_kept : (n : ℕ) (l : Life) → FewCalls n l → FewCalls (n + 1) l
few_kept n l few = let a = few.starts in let b = few.gives in let c = few.takes in record { starts = omega arith; gives = omega arith; takes = omega arith }

few_if : (n : ℕ) (b : Bool) (l m : Life) → FewCalls n l → FewCalls n m → FewCalls n (if b then m else l)
few_if n true l m old new = new
few_if n false l m old new = old

few_start : (n : ℕ) (own : Scripts) (fails : List FailCall) (app : ℕ) (ok : Bool) (l : Life) → FewCalls n l → FewCalls (n + 1) (after_start own fails app ok l)
unfolding after_start
few_start n own fails app true l few = let a = few.starts in let b = few.gives in let c = few.takes in record { starts = omega arith; gives = omega arith; takes = omega arith }
few_start n own fails app false l few = let a = few.starts in let b = few.gives in let c = few.takes in record { starts = omega arith; gives = omega arith; takes = omega arith }

few_gave : (n : ℕ) (own : Scripts) (app : ℕ) (event : Bool) (l : Life) → FewCalls n l → FewCalls (n + 1) (after_gave own app event l)
unfolding after_gave
few_gave n own app true l few = let a = few.starts in let b = few.gives in let c = few.takes in record { starts = omega arith; gives = omega arith; takes = omega arith }
few_gave n own app false l few = let a = few.starts in let b = few.gives in let c = few.takes in record { starts = omega arith; gives = omega arith; takes = omega arith }

few_act : (n : ℕ) (own : Scripts) (fails : List FailCall) (app : ℕ) (act : Act) (l : Life) → FewCalls n l → FewCalls (n + 1) (life_after_act own fails app act l)
unfolding after_gone after_end
few_act n own fails app (Started a ok) l few = few_if (n + 1) (a == app) l (after_start own fails app ok l) (few_kept n l few) (few_start n own fails app ok l few)
few_act n own fails app (Gave a bytes) l few = few_if (n + 1) (a == app) l (after_gave own app (is_some (event_number bytes)) l) (few_kept n l few) (few_gave n own app (is_some (event_number bytes)) l few)
few_act n own fails app (Gone a bytes) l few = few_if (n + 1) (a == app) l (after_gone l) (few_kept n l few) (let x = few.starts in let y = few.gives in let z = few.takes in record { starts = omega arith; gives = omega arith; takes = omega arith })
few_act n own fails app (Ended a) l few = few_if (n + 1) (a == app) l (after_end l) (few_kept n l few) (let x = few.starts in let y = few.gives in let z = few.takes in record { starts = omega arith; gives = omega arith; takes = omega arith })
few_act n own fails app (Stim x) l few = few_kept n l few
few_act n own fails app (Took a what) l few = few_kept n l few
few_act n own fails app (Sent d bytes) l few = few_kept n l few
few_act n own fails app (Got d bytes) l few = few_kept n l few
few_act n own fails app (Lost d) l few = few_kept n l few

few_take : (n : ℕ) (fails : List FailCall) (app : ℕ) (what : TookWhat) (l : Life) → FewCalls n l → FewCalls (n + 1) (after_take fails app what l)
unfolding after_take
few_take n fails app what l few = let a = few.starts in let b = few.gives in let c = few.takes in record { starts = omega arith; gives = omega arith; takes = omega arith }

pub FewCalls-step : (n : ℕ) (own : Scripts) (fails : List FailCall) (app : ℕ) (step : WorldStep) (l : Life) → FewCalls n l → FewCalls (n + 1) (life_after own fails app step l)
unfolding life_after
FewCalls-step n own fails app (Acted act) l few = few_act n own fails app act l few
FewCalls-step n own fails app (TookInto a what room) l few = few_if (n + 1) (a == app) l (after_take fails app what l) (few_kept n l few) (few_take n fails app what l few)
FewCalls-step n own fails app (From d bytes) l few = few_kept n l few
FewCalls-step n own fails app (Joined d bytes) l few = few_kept n l few
FewCalls-step n own fails app (Left d) l few = few_kept n l few
FewCalls-step n own fails app (Moment t) l few = few_kept n l few
FewCalls-step n own fails app Idle l few = few_kept n l few
FewCalls-step n own fails app End l few = few_kept n l few
FewCalls-step n own fails app Opened l few = few_kept n l few
FewCalls-step n own fails app NotOpened l few = few_kept n l few
FewCalls-step n own fails app NextFailed l few = few_kept n l few
FewCalls-step n own fails app (SendLost d) l few = few_kept n l few
FewCalls-step n own fails app (RecvLost d) l few = few_kept n l few
FewCalls-step n own fails app (SendFailed d) l few = few_kept n l few
FewCalls-step n own fails app (RecvFailed d) l few = few_kept n l few

few_through : (n : ℕ) (own : Scripts) (fails : List FailCall) (app : ℕ) (steps : List WorldStep) (l : Life) → FewCalls n l → FewCalls (n + length steps) (life_through own fails app steps l)
few_through n own fails app [] l few = subst (λ (m : ℕ). FewCalls m l) (omega arith) few
few_through n own fails app (x ∷ xs) l few =
    subst (λ (m : ℕ). FewCalls m (life_through own fails app xs (life_after own fails app x l))) (omega arith)
    (few_through (n + 1) own fails app xs (life_after own fails app x l) (FewCalls-step n own fails app x l few))

-- no application had more calls of a kind than there were steps
pub FewCalls-history : (own : Scripts) (fails : List FailCall) (app : ℕ) (history : List WorldStep) → FewCalls (length history) (life_through own fails app history fresh)
unfolding fresh
FewCalls-history own fails app history =
    subst (λ (m : ℕ). FewCalls m (life_through own fails app history fresh)) (omega arith)
    (few_through 0 own fails app history fresh (record { starts = omega arith; gives = omega arith; takes = omega arith }))

-- ---- Frames

-- what is given where no line says it is spelled as applications spell it
pub ready_bytes-spelled : app_bytes Ready ≡ ready_bytes
unfolding app_bytes app_body_bytes framed number_bytes ready_bytes
ready_bytes-spelled = refl

pub done_bytes-spelled : app_bytes (Done false None) ≡ done_bytes
unfolding app_bytes app_body_bytes framed number_bytes done_bytes
done_bytes-spelled = refl
