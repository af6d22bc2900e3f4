use Rattle.std.proofs.Common.{◌≡◌, ℕ, suc, zero, ◌+◌, ◌-◌, ◌≤◌, true, List, [], ◌∷◌, length, drop, refl, sym, ◌∙◌, arith}
use Rattle.lego_model.specs.SessionWords.{ascends}
use Rattle.session_text.proofs.text_words.ascends.Goals as goal

-- at most one element ascends
ascends-drop : (i : ℕ) (ports : List ℕ) → length ports ≤ i + 1 → ascends (drop i ports) ≡ true
ascends-drop zero [] few = refl
ascends-drop zero (port ∷ []) few = refl
ascends-drop zero (port ∷ next ∷ more) few = absurd (omega arith)
ascends-drop (suc i) [] few = refl
ascends-drop (suc i) (port ∷ ports) few = ascends-drop i ports (omega arith)

pub returns : goal.returns
returns c = sym (ascends-drop (c.loop-at.at - 1) c.args.ports.now (omega arith)) ∙ c.loop-at.invariant
