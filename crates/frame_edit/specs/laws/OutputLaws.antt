-- Actions done one after the other.
use Rattle.std.proofs.Common.{◌≡◌, ℕ, suc, ◌+◌, ◌<◌, ◌≤◌, List, ◌∷◌, ◌++◌, length, get_or, drop, sym, ap, ◌∙◌, append_assoc, add-one}
use Rattle.std.proofs.Math.Seq.{drop-cons}
use Rattle.std.proofs.lemmas.List.{append-nil, drop_all}
use Rattle.of_action.specs.declared.action.Action.{Action}
use Rattle.frame_edit.specs.Edits.{edited, output_of, outputs}

-- what the action at a place adds to what was sent out before
pub outputs-drop : (actions : List Action) (at : ℕ) (action : Action) (sent : List (ℕ × List ℕ)) (frame : List ℕ) → at < length actions → action ≡ get_or actions at action
    → sent ++ outputs (drop at actions) frame ≡ (sent ++ output_of action frame) ++ outputs (drop (at + 1) actions) (edited action frame)
unfolding outputs
outputs-drop actions at action sent frame within is =
    let parts : drop at actions ≡ action ∷ drop (at + 1) actions = rw add-one (drop-cons actions at action within ∙ ap (λ (a : Action). a ∷ drop (suc at) actions) (sym is)) in
    ap (λ (rest : List Action). sent ++ outputs rest frame) parts
    ∙ sym (append_assoc sent (output_of action frame) (outputs (drop (at + 1) actions) (edited action frame)))

pub outputs-drop_all : (actions : List Action) (at : ℕ) (sent : List (ℕ × List ℕ)) (frame : List ℕ) → length actions ≤ at → sent ++ outputs (drop at actions) frame ≡ sent
unfolding outputs
outputs-drop_all actions at sent frame past = rw (drop_all at actions past) (append-nil sent)
