use Rattle.std.proofs.Common.{rules, arith, ◌≡◌, ◌∷◌, ℕ, List, [], length, ap, sym, subst}
use Rattle.std.specs.Vec.Iter.{into_iter_items}
use Rattle.std.proofs.lemmas.Result.{err_from_is_err_and}
use Rattle.net_txn.specs.ReleaseSteps.{ReleasedFront}
use Rattle.net_txn.specs.laws.ReleaseStepLaws.{front_none, front_more, stops_behind, yielded_more, yielded_here}
use Rattle.net_txn.proofs.release.release_all.Goals as goal

pub loop-dpid-init : goal.loop-dpid-init
loop-dpid-init g c =
    let net = c.args.net.now in
    let seen = g.W.World.seen c.args.world.now in (
      search rules,
      search rules,
      subst (λ (sizes : List (ℕ × ℕ)). ReleasedFront g.W.World.Tells [] seen seen net net c.args.queue.now c.args.queue.now sizes) (sym c.requires.none) (front_none g.W.World.Tells seen net c.args.queue.now),
    )

pub loop-dpid-preserved : goal.loop-dpid-preserved
loop-dpid-preserved g c =
    let (split, room, before) = c.loop-dpid.invariant in
    let step : into_iter_items c.loop-dpid.dpid-iterator ≡ (c.in-Some.dpid, c.in-Some.packet) ∷ into_iter_items c.next.new.self = search rules in (
      yielded_more c.args.held.items c.loop-dpid.yielded (into_iter_items c.loop-dpid.dpid-iterator) (into_iter_items c.next.new.self) (c.in-Some.dpid, c.in-Some.packet) split step,
      omega (arith, room, ap length step, c.in_ok-release_one.ensures.capacity, c.in_ok-release_one.ensures.len),
      front_more c.loop-dpid.yielded (c.in-Some.dpid, c.in-Some.packet) (g.W.World.seen c.args.world.now) (g.W.World.seen c.loop-dpid.world) (g.W.World.seen c.release_one.new.world) c.args.net.now c.loop-dpid.net c.release_one.new.net c.args.queue.now c.loop-dpid.queue c.release_one.new.queue
          c.loop-dpid.sent.items c.release_one.new.sent.items before c.in_ok-release_one.ensures.released,
    )

pub returns-in_err-release_one-clause-released : goal.returns-in_err-release_one-clause-released
returns-in_err-release_one-clause-released g c =
    let (split, room, before) = c.loop-dpid.invariant in
    let step : into_iter_items c.loop-dpid.dpid-iterator ≡ (c.in-Some.dpid, c.in-Some.packet) ∷ into_iter_items c.next.new.self = search rules in
    let p = err_from_is_err_and c.from_residual.result c.from_residual.ensures.1 in
    rw (p.1, p.2) (stops_behind c.args.held.items c.loop-dpid.yielded (c.in-Some.dpid, c.in-Some.packet) (into_iter_items c.next.new.self) (g.W.World.seen c.args.world.now) (g.W.World.seen c.loop-dpid.world) (g.W.World.seen c.release_one.new.world)
    c.args.net.now c.loop-dpid.net c.release_one.new.net c.args.queue.now c.loop-dpid.queue c.release_one.new.queue c.loop-dpid.sent.items c.release_one.new.sent.items c.in_err-release_one.field-0.0
    (yielded_here c.args.held.items c.loop-dpid.yielded (into_iter_items c.loop-dpid.dpid-iterator) (into_iter_items c.next.new.self) (c.in-Some.dpid, c.in-Some.packet) split step) before c.in_err-release_one.ensures.released)

pub returns-in_err-release_one-clause-parted : goal.returns-in_err-release_one-clause-parted
returns-in_err-release_one-clause-parted g c =
    let p = err_from_is_err_and c.from_residual.result c.from_residual.ensures.1 in
    λ can. rw (p.1, p.2) (c.in_err-release_one.ensures.parted can)
