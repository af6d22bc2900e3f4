use Rattle.std.proofs.Common.{◌<◌, length, refl, sym, ap, ◌∙◌, subst, arith, ℕ, List}
use Rattle.std.proofs.lemmas.List.{length-map}
use Rattle.net_guard.specs.Bits.{edge_of}
use Rattle.net_guard.specs.Walks.{reaches}
use Rattle.net_guard.specs.laws.GraphLaws.{edges_more}
use Rattle.net_guard.proofs.closing.close.Goals as goal

pub loop-k-init : goal.loop-k-init
unfolding reaches
loop-k-init c = (refl, λ i j within. refl)

pub loop-k-preserved : goal.loop-k-preserved
loop-k-preserved c =
    let graph = c.loop-k.graph in
    let same = c.loop-k.invariant.0 in
    let k_within : c.loop-k.k < length graph = omega arith in (
      ap length c.widen.ensures ∙ length-map graph _ ∙ same,
      λ i j within. ap (λ (g : List ℕ). edge_of g i j) c.widen.ensures
          ∙ edges_more (edge_of c.args.graph.now) graph c.loop-k.k i j (λ x y lt. c.loop-k.invariant.1 x y (subst (λ n. x < n) same lt)) k_within (subst (λ n. i < n) (sym same) within),
    )
