use Rattle.std.proofs.Common.{◌≡◌, ap, ◌∙◌}
use Rattle.net_txn.specs.Net.{NetState}
use Rattle.net_txn.specs.laws.ChangeLaws.{Changes-short, Changes-by_host, Changes-by_switch, Changes-by_statistics, query_passed, host_unknown, host_knows, unknown_unheld, unheld, packet_held, holds_nothing, holds_packet}
use Rattle.std.proofs.lemmas.Result.{err_from_is_err_and}
use Rattle.app_frames.specs.declared.frame.Answer.TheVariants.{Fine, Unknown}
use Rattle.net_txn.proofs.net.Net.change.Goals as goal

pub returns-in_default-clause-changes : goal.returns-in_default-clause-changes
returns-in_default-clause-changes g c =
    let v : c.self.inside.views ≡ c.args.self.now.views = ap (λ (n : NetState). n.views) c.self.view_is in
    Changes-by_host {Tells = g.W.World.Tells} c.args.dpid c.args.bytes.now (g.W.World.seen c.args.world.now) c.args.self.now c.args.self.now _ (host_unknown c.args.dpid c.args.bytes.now c.args.self.now c.self.inside.views v c.in_default.ensures.rows)
    (holds_nothing c.args.dpid c.args.bytes.now Unknown c.args.self.now (unknown_unheld c.args.dpid c.args.bytes.now))

pub returns-in-Answered-clause-changes : goal.returns-in-Answered-clause-changes
returns-in-Answered-clause-changes g c =
    let v : c.self.inside.views ≡ c.args.self.now.views = ap (λ (n : NetState). n.views) c.self.view_is in
    let knows = host_knows c.args.dpid c.args.bytes.now c.args.self.now c.self.inside.views c.in-Some.view.now.rows.rows c.as_slice.result.now v c.in-Some.ensures.rows c.as_slice.ensures in
    let answered = rw c.in-Answered.is at c.in_ok-answer.ensures in
    Changes-by_host {Tells = g.W.World.Tells} c.args.dpid c.args.bytes.now (g.W.World.seen c.args.world.now) c.args.self.now c.args.self.now c.in-Answered.answer (knows ∙ answered.0)
    (holds_nothing c.args.dpid c.args.bytes.now c.in-Answered.answer c.args.self.now (unheld c.args.dpid c.args.bytes.now c.in-Answered.answer (answered.1 c.args.dpid)))

pub returns-in-Asks-clause-changes : goal.returns-in-Asks-clause-changes
returns-in-Asks-clause-changes g c =
    let v : c.self.inside.views ≡ c.args.self.now.views = ap (λ (n : NetState). n.views) c.self.view_is in
    let knows = host_knows c.args.dpid c.args.bytes.now c.args.self.now c.self.inside.views c.in-Some.view.now.rows.rows c.as_slice.result.now v c.in-Some.ensures.rows c.as_slice.ensures in
    let asked = rw c.in-Asks.is at c.in_ok-answer.ensures in
    Changes-by_switch g.W.World.Tells c.args.dpid c.args.bytes.now (g.W.World.seen c.args.world.now) (g.W.World.seen c.make_or_lose.new.world) c.args.self.now c.make_or_lose.new.self c.make_or_lose.result asked.1.0 c.in-Asks.flow (knows ∙ asked.0) asked.1.1 c.make_or_lose.ensures.makes

pub returns-in_err-answer-clause-changes : goal.returns-in_err-answer-clause-changes
returns-in_err-answer-clause-changes g c =
    let p = err_from_is_err_and c.from_residual.result c.from_residual.ensures.1 in
    rw (p.1, p.2) (Changes-short c.args.dpid c.args.bytes.now (g.W.World.seen c.args.world.now) c.args.self.now)

pub returns-in_err-hold-in-Holds-clause-changes : goal.returns-in_err-hold-in-Holds-clause-changes
returns-in_err-hold-in-Holds-clause-changes g c =
    let p = err_from_is_err_and c.from_residual-in_err-hold-in-Holds.result c.from_residual-in_err-hold-in-Holds.ensures.1 in
    rw (p.1, p.2, c.in_err-hold-in-Holds.ensures.err) (Changes-short c.args.dpid c.args.bytes.now (g.W.World.seen c.args.world.now) c.args.self.now)

pub returns-in_ok-hold-in-Holds-clause-changes : goal.returns-in_ok-hold-in-Holds-clause-changes
returns-in_ok-hold-in-Holds-clause-changes g c =
    let v : c.self.inside.views ≡ c.args.self.now.views = ap (λ (n : NetState). n.views) c.self.view_is in
    let knows = host_knows c.args.dpid c.args.bytes.now c.args.self.now c.self.inside.views c.in-Some.view.now.rows.rows c.as_slice.result.now v c.in-Some.ensures.rows c.as_slice.ensures in
    let held = rw c.in-Holds.is at c.in_ok-answer.ensures in
    Changes-by_host {Tells = g.W.World.Tells} c.args.dpid c.args.bytes.now (g.W.World.seen c.args.world.now) c.args.self.now c.hold.new.self Fine (knows ∙ held.0)
    (c.in_ok-hold-in-Holds.ensures.ok ∙ holds_packet c.args.dpid c.args.bytes.now c.in-Holds.packet c.args.self.now (packet_held c.args.dpid held.1.0 c.args.bytes.now c.in-Holds.packet held.1.1))

pub query_or_lose-requires : goal.query_or_lose-requires
query_or_lose-requires g c =
    let asked = rw c.in-Queries.is at c.in_ok-answer.ensures in
    record { message = asked.2; passed = query_passed _ c.args.bytes.now asked.1.0 c.in-Queries.query asked.1.1 asked.0 }

pub returns-in-Queries-clause-changes : goal.returns-in-Queries-clause-changes
returns-in-Queries-clause-changes g c =
    let v : c.self.inside.views ≡ c.args.self.now.views = ap (λ (n : NetState). n.views) c.self.view_is in
    let knows = host_knows c.args.dpid c.args.bytes.now c.args.self.now c.self.inside.views c.in-Some.view.now.rows.rows c.as_slice.result.now v c.in-Some.ensures.rows c.as_slice.ensures in
    let asked = rw c.in-Queries.is at c.in_ok-answer.ensures in
    Changes-by_statistics g.W.World.Tells c.args.dpid c.args.bytes.now (g.W.World.seen c.args.world.now) (g.W.World.seen c.query_or_lose.new.world) c.args.self.now c.query_or_lose.new.self c.query_or_lose.result asked.1.0 c.in-Queries.query (knows ∙ asked.0) asked.1.1 c.query_or_lose.ensures.queried
