use Rattle.std.proofs.Common.{◌≡◌, ◌<◌, ◌≤◌, ◌++◌, ℕ, List, [], ◌∷◌, eqb, false, length, take, sym, ap, subst, ◌∙◌, append_assoc, arith}
use Rattle.std.specs.Prelude.{All}
use Rattle.std.specs.List.{concat}
use Rattle.std.proofs.lemmas.Bool.{eqb-false}
use Rattle.std.proofs.lemmas.List.Elements.{All-drop}
use Rattle.of_stats.specs.Parts.{Part, room, AreParts}
use Rattle.of_stats.specs.laws.PartLaws.{more_parts}
use Rattle.of_stats.proofs.parts.split_reply.Goals as goal

pub loop-parts-preserved : goal.loop-parts-preserved
loop-parts-preserved c =
    let kind = c.args.kind in
    let rest = c.loop-parts.rest.now in
    let count = c.count_fitting.result in
    let back = c.split_at.ensures.back in
    let part : Part = (kind, 1, c.in_ok-body.body) in
    let some : eqb (length c.split_at.result.1.now) 0 ≡ false = sym c.is_empty.ensures ∙ c.if-is_empty.false in
    let more : count < length rest = let ne = eqb-false _ _ some in omega (arith, ne, c.split_at.ensures.back_len) in
    let full = c.count_fitting.ensures.full more in
    let is : part ≡ (kind, 1, concat (take count rest)) = ap (λ (b : List ℕ). (kind, 1, b)) (c.in_ok-body.ensures ∙ ap concat c.split_at.ensures.front) in
    let pushed = c.in_ok-push-2.ensures.items in
    record {
      fit = subst (λ (xs : List (List ℕ)). All (λ row. length row ≤ room) xs) (sym back) (All-drop (λ row. length row ≤ room) count rest c.loop-parts.invariant.fit);
      so_far = λ later are.
          subst (λ (xs : List Part). AreParts kind c.args.rows.now xs) (sym (append_assoc c.loop-parts.parts.items (part ∷ []) later) ∙ ap (λ (xs : List Part). xs ++ later) (sym pushed)) (c.loop-parts.invariant.so_far (part ∷ later) (more_parts kind rest count part later full is (subst (λ (xs : List (List ℕ)). AreParts kind xs later) back are)));
    }
