-- Laws of the quiescent points of a run, at which an application is given its first event of a number.
use Rattle.std.proofs.Common.{◌≡◌, ℕ, false, List, [], ◌∷◌, ◌++◌, Option, Some, None, refl, sym, ap, ◌∙◌, subst, append_assoc, true≢false}
use Rattle.std.specs.Option.{is_some}
use Rattle.std.proofs.lemmas.List.{append-nil}
use Rattle.of_types.specs.declared.journal.Act.TheVariants.{Stim, Started, Gave, Gone, Took, Ended, Sent, Got, Lost}
use Rattle.outside.specs.declared.step.WorldStep.{WorldStep}
use Rattle.outside.specs.declared.step.WorldStep.TheVariants.{Acted, TookInto, From, Joined, Left, Moment, Idle, End, Opened, NotOpened, NextFailed, SendLost, RecvLost, SendFailed, RecvFailed}
use Rattle.outside.specs.Seen.{Seen}
use Rattle.outside.specs.State.{event_number}
use Rattle.outside.specs.Quiescence.{is_quiescent, NoneQuiescent, NoneQuiescentLater, NoneQuiescentSince, IsLastQuiescent}
use Rattle.run_course.specs.Points.{is_first_given, is_point, NoPoints, NoPointsLater, NoPointSince, IsLastPoint}

-- ---- Where no application is given an event, and no stimulus is begun

given_none : (app : ℕ) (number : Option ℕ) (before : List WorldStep) → is_some number ≡ false → is_first_given app number before ≡ false
given_none app None before none = refl
given_none app (Some number) before none = absurd (true≢false none)

step_no_point : (before : List WorldStep) (step : WorldStep) → is_quiescent step ≡ false → is_point before step ≡ false
step_no_point before (Acted (Stim x)) none = absurd (true≢false none)
step_no_point before (Acted (Started app stands)) none = refl
step_no_point before (Acted (Gave app bytes)) none = given_none app (event_number bytes) before none
step_no_point before (Acted (Gone app bytes)) none = refl
step_no_point before (Acted (Took app what)) none = refl
step_no_point before (Acted (Ended app)) none = refl
step_no_point before (Acted (Sent d bytes)) none = refl
step_no_point before (Acted (Got d bytes)) none = refl
step_no_point before (Acted (Lost d)) none = refl
step_no_point before (TookInto app what room) none = refl
step_no_point before (From d bytes) none = refl
step_no_point before (Joined d bytes) none = refl
step_no_point before (Left d) none = refl
step_no_point before (Moment t) none = refl
step_no_point before Idle none = refl
step_no_point before End none = refl
step_no_point before Opened none = refl
step_no_point before NotOpened none = refl
step_no_point before NextFailed none = refl
step_no_point before (SendLost d) none = refl
step_no_point before (RecvLost d) none = refl
step_no_point before (SendFailed d) none = refl
step_no_point before (RecvFailed d) none = refl

no_points : (before steps : List WorldStep) → NoneQuiescent steps → NoPoints before steps
no_points before [] none = tt
no_points before (step ∷ steps) none = (step_no_point before step none.0, no_points (before ++ step ∷ []) steps none.1)

no_points_later : (before steps : List WorldStep) → NoneQuiescentLater steps → NoPointsLater before steps
no_points_later before [] none = tt
no_points_later before (step ∷ steps) none = no_points (before ++ step ∷ []) steps none

pub no_point_of : {Own : Type 0} {old new : Seen Own} → NoneQuiescentSince old new → NoPointSince old new
no_point_of {old = old} since = record { steps = since.steps; history = since.history; none = no_points old.history since.steps since.none }

pub last_point_of : {Own : Type 0} {old new : Seen Own} → IsLastQuiescent old new → IsLastPoint old new
last_point_of {old = old} last = record { steps = last.steps; history = last.history; none_later = no_points_later old.history last.steps last.none_later }

-- ---- One behind the other

points_two : (before xs ys : List WorldStep) → NoPoints before xs → NoPoints (before ++ xs) ys → NoPoints before (xs ++ ys)
points_two before [] ys first later = subst (λ (h : List WorldStep). NoPoints h ys) (append-nil before) later
points_two before (x ∷ xs) ys first later = (first.0, points_two (before ++ x ∷ []) xs ys first.1 (subst (λ (h : List WorldStep). NoPoints h ys) (sym (append_assoc before (x ∷ []) xs)) later))

no_later : (before steps : List WorldStep) → NoPoints before steps → NoPointsLater before steps
no_later before [] none = tt
no_later before (step ∷ steps) none = none.1

later_two : (before xs ys : List WorldStep) → NoPointsLater before xs → NoPoints (before ++ xs) ys → NoPointsLater before (xs ++ ys)
later_two before [] ys first later = no_later before ys (subst (λ (h : List WorldStep). NoPoints h ys) (append-nil before) later)
later_two before (x ∷ xs) ys first later = points_two (before ++ x ∷ []) xs ys first (subst (λ (h : List WorldStep). NoPoints h ys) (sym (append_assoc before (x ∷ []) xs)) later)

two_steps : (before mid after xs ys : List WorldStep) → mid ≡ before ++ xs → after ≡ mid ++ ys → after ≡ before ++ (xs ++ ys)
two_steps before mid after xs ys first later = later ∙ ap (λ (h : List WorldStep). h ++ ys) first ∙ append_assoc before xs ys

pub last_point_then : {Own : Type 0} {old mid new : Seen Own} → IsLastPoint old mid → NoPointSince mid new → IsLastPoint old new
last_point_then {old = old} {mid = mid} {new = new} first later = record {
  steps = first.steps ++ later.steps;
  history = two_steps old.history mid.history new.history first.steps later.steps first.history later.history;
  none_later = later_two old.history first.steps later.steps first.none_later (subst (λ (h : List WorldStep). NoPoints h later.steps) first.history later.none);
}

pub no_point_then : {Own : Type 0} {old mid new : Seen Own} → NoPointSince old mid → NoPointSince mid new → NoPointSince old new
no_point_then {old = old} {mid = mid} {new = new} first later = record {
  steps = first.steps ++ later.steps;
  history = two_steps old.history mid.history new.history first.steps later.steps first.history later.history;
  none = points_two old.history first.steps later.steps first.none (subst (λ (h : List WorldStep). NoPoints h later.steps) first.history later.none);
}

pub no_point_none : {Own : Type 0} (old new : Seen Own) → new.history ≡ old.history → NoPointSince old new
no_point_none old new same = record { steps = []; history = same ∙ sym (append-nil old.history); none = tt }
