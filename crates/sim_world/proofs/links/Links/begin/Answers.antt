use Rattle.std.proofs.Common.{◌≤◌, ◌+◌, List, length, sym, subst, arith}
use Rattle.outside.specs.State.{Link, with_link, link_joined, waiting_in}
use Rattle.sim_world.specs.laws.LinksLaws.{few_joined, few_left}
use Rattle.sim_world.proofs.Places.{either_way}
use Rattle.sim_world.proofs.links.Links.begin.Goals as goal

pub returns-in-Join-clause-few : goal.returns-in-Join-clause-few
returns-in-Join-clause-few c =
    let old = c.args.self.now in
    let d = c.in-Join.dpid in
    either_way c.begin_join.result (λ (ls : List Link). length (waiting_in ls) ≤ length (waiting_in old) + 262144) old c.begin_join.new.self (with_link d (link_joined c.args.moment) old) c.begin_join.ensures.ok c.begin_join.ensures.err
    (few_joined d c.args.moment old) (omega arith)

pub returns-in-Leave-clause-few : goal.returns-in-Leave-clause-few
returns-in-Leave-clause-few c =
    let old = c.args.self.now in
    subst (λ (ls : List Link). length (waiting_in ls) ≤ length (waiting_in old) + 262144) (sym c.begin_leave.ensures.left) (few_left c.in-Leave.dpid old)
