use Rattle.std.proofs.Common.{ap₂, sym, ◌∙◌, arith}
use Rattle.std.specs.Ordering.{ordering_then}
use Rattle.netlog_inverse.specs.laws.IndexLaws.{rank-cmp}
use Rattle.netlog_inverse.proofs.index.compare.Goals as goal

pub returns : goal.returns
returns c =
    c.then-2.ensures ∙ ap₂ ordering_then (c.then.ensures ∙ ap₂ ordering_then c.cmp.ensures c.compare_keys.ensures) c.cmp-2.ensures
    ∙ sym (rank-cmp c.args.spot.now.dpid c.args.dpid c.args.spot.now.key c.args.key.now c.args.spot.now.at c.args.at (omega arith) (omega arith))
