-- One round more.
use Rattle.std.proofs.Common.{◌≡◌, ℕ, suc, ◌+◌, ◌-◌, ◌<◌, List, [], ◌∷◌, ◌++◌, map, ap, sym, ◌∙◌, arith}
use Rattle.std.proofs.lemmas.List.{append_assoc}
use Rattle.of_types.specs.declared.journal.WorldStim.{WorldStim}
use Rattle.app_frames.specs.declared.script.ScriptStep.{ScriptStep}
use Rattle.outside.specs.State.{moment_after}
use Rattle.session_gen.specs.Draws.{behind}
use Rattle.session_gen.specs.Turns.{turn_drawn}
use Rattle.session_gen.specs.Rounds.{happening_drawn, behind_happening, turns_drawn, happenings_drawn}

one_less : (count i : ℕ) → i < count → count - i ≡ suc (count - (i + 1))
one_less count i less = omega arith

abbrev reply : List ScriptStep → ℕ × List ScriptStep
reply turn = (0, turn)

-- the turns of the rounds that are left, behind one that was drawn
pub turn_more : (old new all : List (ℕ × List ScriptStep)) (turn : List ScriptStep) (count i x y z : ℕ) → i < count → new ≡ old ++ (0, turn) ∷ []
    → turn ≡ turn_drawn x → y ≡ behind 17 x → z ≡ behind_happening y → old ++ map (λ t. (0, t)) (turns_drawn (count - i) x) ≡ all
    → new ++ map (λ t. (0, t)) (turns_drawn (count - (i + 1)) z) ≡ all
turn_more old new all turn count i x y z less pushed is moved on so_far =
    let left = count - (i + 1) in
    ap (λ (l : List (ℕ × List ScriptStep)). l ++ map reply (turns_drawn left z)) pushed
    ∙ append_assoc old ((0, turn) ∷ []) (map reply (turns_drawn left z))
    ∙ ap (λ (t : List ScriptStep). old ++ (0, t) ∷ map reply (turns_drawn left z)) is
    ∙ ap (λ (s : ℕ). old ++ (0, turn_drawn x) ∷ map reply (turns_drawn left s)) (on ∙ ap behind_happening moved)
    ∙ ap (λ (n : ℕ). old ++ map reply (turns_drawn n x)) (sym (one_less count i less))
    ∙ so_far

-- and what happens in them
pub happening_more : (old new all : List WorldStim) (x : WorldStim) (count i moment later s y z : ℕ) → i < count → new ≡ old ++ x ∷ []
    → x ≡ happening_drawn moment y → later ≡ moment_after x moment → y ≡ behind 17 s → z ≡ behind_happening y → old ++ happenings_drawn (count - i) moment s ≡ all
    → new ++ happenings_drawn (count - (i + 1)) later z ≡ all
happening_more old new all x count i moment later s y z less pushed is then moved on so_far =
    let left = count - (i + 1) in
    let drawn = is ∙ ap (happening_drawn moment) moved in
    ap (λ (l : List WorldStim). l ++ happenings_drawn left later z) pushed
    ∙ append_assoc old (x ∷ []) (happenings_drawn left later z)
    ∙ ap (λ (m : ℕ). old ++ x ∷ happenings_drawn left m z) then
    ∙ ap (λ (w : ℕ). old ++ x ∷ happenings_drawn left (moment_after x moment) w) (on ∙ ap behind_happening moved)
    ∙ ap (λ (w : WorldStim). old ++ w ∷ happenings_drawn left (moment_after w moment) (behind_happening (behind 17 s))) drawn
    ∙ ap (λ (n : ℕ). old ++ happenings_drawn n moment s) (sym (one_less count i less))
    ∙ so_far
