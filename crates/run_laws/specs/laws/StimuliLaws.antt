-- The stimuli that a world told are the first of those that it was given, and the others are still to come.
use Rattle.std.proofs.Common.{◌≡◌, ℕ, ◌<◌, ◌≤◌, false, List, [], ◌∷◌, ◌++◌, length, take, refl, sym, ap, ◌∙◌, arith, inl, inr}
use Rattle.std.proofs.lemmas.Bool.{cases_eq}
use Rattle.std.proofs.lemmas.List.{append-nil, length-append, take_at, take_all}
use Rattle.of_types.specs.declared.journal.Act.TheVariants.{Stim, Started, Gave, Gone, Took, Ended, Sent, Got, Lost}
use Rattle.of_types.specs.declared.journal.WorldStim.{WorldStim}
use Rattle.lego_model.specs.Journal.{stimuli}
use Rattle.lego_model.specs.laws.JournalLaws.{stimuli-append}
use Rattle.outside.specs.declared.step.WorldStep.{WorldStep}
use Rattle.outside.specs.declared.step.WorldStep.TheVariants.{Acted, TookInto, From, Joined, Left, Moment, Idle, End, Opened, NotOpened, NextFailed, SendLost, RecvLost, SendFailed, RecvFailed}
use Rattle.outside.specs.Seen.{Seen, Longer, Continues, journal}
use Rattle.outside.specs.State.{state}
use Rattle.outside.specs.laws.SeenLaws.{journal-append}
use Rattle.outside.specs.laws.StateLaws.{Conforming-before}
use Rattle.outside.specs.Quiescence.{is_quiescent, NoneQuiescent, NoneQuiescentSince}
use Rattle.outside.specs.Conforming.{Conforming}
use Rattle.lego_model.specs.History.{stimuli_in}
use Rattle.lego_model.specs.WholeRun.{TookFirst}
use Rattle.outside.specs.laws.StimuliLaws.{told_in, told_none, told_more, begun-and-to_come}
use Rattle.batch_laws.specs.laws.KeepingLaws.{Conforming-in_order}

-- steps with no quiescent point among them tell none
step_tells_none : (step : WorldStep) → is_quiescent step ≡ false → told_in (step ∷ []) ≡ []
unfolding stimuli journal
step_tells_none (Acted (Stim x)) none = absurd cc
step_tells_none (Acted (Started app ok)) none = refl
step_tells_none (Acted (Gave app bytes)) none = refl
step_tells_none (Acted (Gone app bytes)) none = refl
step_tells_none (Acted (Took app what)) none = refl
step_tells_none (Acted (Ended app)) none = refl
step_tells_none (Acted (Sent d bytes)) none = refl
step_tells_none (Acted (Got d bytes)) none = refl
step_tells_none (Acted (Lost d)) none = refl
step_tells_none (TookInto app what room) none = refl
step_tells_none (From d bytes) none = refl
step_tells_none (Joined d bytes) none = refl
step_tells_none (Left d) none = refl
step_tells_none (Moment t) none = refl
step_tells_none Idle none = refl
step_tells_none End none = refl
step_tells_none Opened none = refl
step_tells_none NotOpened none = refl
step_tells_none NextFailed none = refl
step_tells_none (SendLost d) none = refl
step_tells_none (RecvLost d) none = refl
step_tells_none (SendFailed d) none = refl
step_tells_none (RecvFailed d) none = refl

steps_tell_none : (steps : List WorldStep) → NoneQuiescent steps → told_in steps ≡ []
steps_tell_none [] none = told_none
steps_tell_none (step ∷ steps) none = told_more step steps ∙ ap (λ (xs : List WorldStim). xs ++ told_in steps) (step_tells_none step none.0) ∙ steps_tell_none steps none.1

pub none-happened : {Own : Type 0} (old new : Seen Own) → NoneQuiescentSince old new → stimuli_in new ≡ stimuli_in old
none-happened old new since =
    ap told_in since.history ∙ ap stimuli (journal-append old.history since.steps) ∙ stimuli-append (journal old.history) (journal since.steps)
    ∙ ap (λ (xs : List WorldStim). stimuli_in old ++ xs) (steps_tell_none since.steps since.none) ∙ append-nil (stimuli_in old)

-- In a world that keeps its word: the stimuli that it told, and then those still to come, are all that it was given.
pub told-and-to_come : {Own : Type 0} (seen : Seen Own) → Conforming seen → stimuli_in seen ++ (state seen).to_come ≡ seen.given.stimuli
told-and-to_come seen keeps = begun-and-to_come seen (Conforming-in_order seen keeps)

-- where none is to come, they are all of them
pub told-all : {Own : Type 0} (seen : Seen Own) → Conforming seen → (state seen).to_come ≡ [] → stimuli_in seen ≡ seen.given.stimuli
told-all seen keeps none =
    sym (append-nil (stimuli_in seen)) ∙ ap (λ (xs : List WorldStim). stimuli_in seen ++ xs) (sym none) ∙ told-and-to_come seen keeps

-- where those told took all rounds, or none is to come, they are the first
pub took-first : {Own : Type 0} (most : ℕ) (seen : Seen Own) → Conforming seen → length (stimuli_in seen) ≤ most → (length (stimuli_in seen) < most → (state seen).to_come ≡ []) → TookFirst most seen
took-first most seen keeps few none =
    elim (cases_eq (length (stimuli_in seen)) most) [
      | inl all ↦ sym (take_at (stimuli_in seen) (state seen).to_come most all) ∙ ap (take most) (told-and-to_come seen keeps)
      | inr other ↦ sym (take_all most (stimuli_in seen) few) ∙ ap (take most) (told-all seen keeps (none (omega (arith, few, other))))
    ]

-- earlier they were no more
pub fewer-front : {Own : Type 0} {most : ℕ} (old new : Seen Own) → Longer old.history new.history → length (stimuli_in new) < most → length (stimuli_in old) < most
fewer-front old new later few =
    let steps = later.0 in
    let longer : stimuli_in new ≡ stimuli_in old ++ told_in steps =
    ap told_in later.1 ∙ ap stimuli (journal-append old.history steps) ∙ stimuli-append (journal old.history) (journal steps) in
    let sum = ap (λ (xs : List WorldStim). length xs) longer ∙ length-append (stimuli_in old) (told_in steps) in
    omega (arith, sum, few)

pub fewer-before : {Own : Type 0} {most : ℕ} (Tells : Type 0) (old new : Seen Own) → Tells → Continues Tells old new → length (stimuli_in new) < most → length (stimuli_in old) < most
fewer-before Tells old new told later few = fewer-front old new (later.told told) few

-- none is to come later where none was to come
pub none-later : {Own : Type 0} (Tells : Type 0) (old new : Seen Own) → Tells → Continues Tells old new → Conforming new → (state old).to_come ≡ [] → (state new).to_come ≡ []
none-later Tells old new told later keeps none =
    let before : stimuli_in old ≡ old.given.stimuli = told-all old (Conforming-before told later keeps) none in
    let steps = (later.told told).0 in
    let longer : stimuli_in new ≡ stimuli_in old ++ told_in steps =
    ap told_in (later.told told).1 ∙ ap stimuli (journal-append old.history steps) ∙ stimuli-append (journal old.history) (journal steps) in
    let given = ap (λ g. g.stimuli) later.given in
    let all = ap (λ (xs : List WorldStim). length xs) (told-and-to_come new keeps ∙ given) in
    let sum = length-append (stimuli_in new) (state new).to_come in
    let first = ap (λ (xs : List WorldStim). length xs) before in
    let more = ap (λ (xs : List WorldStim). length xs) longer ∙ length-append (stimuli_in old) (told_in steps) in
    no_item (state new).to_come (omega (arith, all, sum, first, more))
  where
    no_item : (xs : List WorldStim) → length xs ≡ 0 → xs ≡ []
    no_item [] is = refl
    no_item (x ∷ xs) is = absurd cc
