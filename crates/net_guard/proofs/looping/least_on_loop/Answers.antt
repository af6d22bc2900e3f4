use Rattle.std.proofs.Common.{◌<◌, length, ◌∙◌, arith}
use Rattle.flow_table.specs.View.{plains}
use Rattle.net_guard.specs.Bits.{edge_of}
use Rattle.net_guard.specs.Links.{Guarded}
use Rattle.net_guard.specs.Loops.{step_of, returns_to}
use Rattle.net_guard.specs.laws.WalkLaws.{reaches-alike}
use Rattle.net_guard.specs.laws.LeadingLaws.{least_loop}
use Rattle.net_guard.proofs.looping.least_on_loop.Goals as goal

pub returns : goal.returns
unfolding returns_to
returns c =
    let g : Guarded = record { field = c.args.field; hops = c.args.hops.now } in
    let tables = plains c.args.tables.now in
    let graph = c.graph-graph.result in
    let n = length c.args.hops.now in
    least_loop g c.args.scope tables (λ i. edge_of c.close.new.graph i i) c.least_place.result
    (λ i within.
    let whole : i < length graph = omega (arith, c.graph-graph.ensures.whole, c.requires.most) in
    c.close.ensures i i whole ∙ reaches-alike (edge_of graph) (step_of g c.args.scope tables) n (λ x y in_x in_y. (c.graph-graph.ensures.each x in_x).each y in_y) n i i (omega arith) within within)
    c.least_place.ensures
