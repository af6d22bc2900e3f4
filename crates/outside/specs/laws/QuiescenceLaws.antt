-- Laws of quiescent points.
use Rattle.std.specs.Prelude.{◌≡◌, List, [], ◌∷◌, ◌++◌}
use Rattle.std.proofs.Common.{sym, ap, ◌∙◌, append_assoc}
use Rattle.std.proofs.lemmas.List.{append-nil}
use Rattle.outside.specs.declared.step.WorldStep.{WorldStep}
use Rattle.outside.specs.Seen.{Seen}
use Rattle.outside.specs.Quiescence.{NoneQuiescent, NoneQuiescentLater, NoneQuiescentSince, IsLastQuiescent}

none_append : (xs ys : List WorldStep) → NoneQuiescent xs → NoneQuiescent ys → NoneQuiescent (xs ++ ys)
none_append [] ys all rest = rest
none_append (x ∷ xs) ys all rest = (all.0, none_append xs ys all.1 rest)

later_append : (xs ys : List WorldStep) → NoneQuiescentLater xs → NoneQuiescent ys → NoneQuiescentLater (xs ++ ys)
later_append [] [] all rest = tt
later_append [] (y ∷ ys) all rest = rest.1
later_append (x ∷ xs) ys all rest = none_append xs ys all rest

later_of : (xs : List WorldStep) → NoneQuiescent xs → NoneQuiescentLater xs
later_of [] all = tt
later_of (x ∷ xs) all = all.1

-- by steps that are told
pub none_since-by : {Own : Type 0} (old new : Seen Own) (steps : List WorldStep) → new.history ≡ old.history ++ steps → NoneQuiescent steps → NoneQuiescentSince old new
none_since-by old new steps told none = record { steps = steps; history = told; none = none }

pub none_since-none : {Own : Type 0} (seen : Seen Own) → NoneQuiescentSince seen seen
none_since-none seen = record { steps = []; history = sym (append-nil seen.history); none = tt }

pub none_since-then : {Own : Type 0} {old mid new : Seen Own} → NoneQuiescentSince old mid → NoneQuiescentSince mid new → NoneQuiescentSince old new
none_since-then {old = old} first second = record {
  steps = first.steps ++ second.steps;
  history = second.history ∙ ap (λ (xs : List WorldStep). xs ++ second.steps) first.history ∙ append_assoc old.history first.steps second.steps;
  none = none_append first.steps second.steps first.none second.none;
}

-- no point behind one from which on no point was quiescent
pub last_quiescent-of : {Own : Type 0} {old new : Seen Own} → NoneQuiescentSince old new → IsLastQuiescent old new
last_quiescent-of since = record { steps = since.steps; history = since.history; none_later = later_of since.steps since.none }

pub last_quiescent-then : {Own : Type 0} {old mid new : Seen Own} → IsLastQuiescent old mid → NoneQuiescentSince mid new → IsLastQuiescent old new
last_quiescent-then {old = old} first second = record {
  steps = first.steps ++ second.steps;
  history = second.history ∙ ap (λ (xs : List WorldStep). xs ++ second.steps) first.history ∙ append_assoc old.history first.steps second.steps;
  none_later = later_append first.steps second.steps first.none_later second.none;
}
