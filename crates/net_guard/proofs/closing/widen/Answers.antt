use Rattle.std.proofs.Common.{◌<◌, length, get_or, ap, ◌∙◌, set, arith}
use Rattle.std.proofs.lemmas.List.{get_or_default}
use Rattle.std.proofs.lemmas.List.Edits.{map_over_more}
use Rattle.net_guard.specs.Bits.{joined}
use Rattle.net_guard.proofs.closing.widen.Goals as goal

pub loop-set-preserved : goal.loop-set-preserved
loop-set-preserved c =
    let xs = c.args.graph.now in
    let ys = c.loop-set.graph in
    let i = c.loop-set.set-index in
    let within : i < length xs = omega arith in
    ap (λ x. set ys i x) c.joined.ensures
    ∙ map_over_more (joined c.args.k (get_or xs c.args.k 0)) xs ys i (get_or ys i 0) within c.loop-set.invariant (get_or_default ys i 0 (get_or ys i 0) (omega arith))
