use Rattle.std.proofs.Common.{length, ap, ◌∙◌, arith}
use Rattle.net_guard.proofs.Hops.{length-hops_of}
use Rattle.net_guard.proofs.guard.Guard.new.Goals as goal

pub invariant_of-result : goal.invariant_of-result
invariant_of-result c =
    let twice = ap length c.in_ok-hops_of.ensures ∙ length-hops_of c.as_slice.result.now in
    let items = ap length c.as_slice.ensures.value in
    omega (arith, twice, items, c.requires, c.args.rule.now.links.ok)
