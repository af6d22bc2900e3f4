use Rattle.std.proofs.Common.{rules, ◌≡◌, ◌∷◌, List, [], ℕ, refl, sym, ap, ◌∙◌}
use Rattle.std.specs.Vec.Iter.{into_iter_items}
use Rattle.of_wire.specs.Reading.{reading_of}
use Rattle.net_txn.specs.Releases.{takes_read}
use Rattle.net_txn.specs.laws.ReleaseStepLaws.{stays_same, stays_then, takes_more, yielded_more}
use Rattle.net_txn.proofs.release.take_all.Goals as goal

pub loop-dpid-init : goal.loop-dpid-init
loop-dpid-init c = (search rules, refl, stays_same c.args.net.now)

pub returns-in_err-take_one-clause-stays : goal.returns-in_err-take_one-clause-stays
returns-in_err-take_one-clause-stays c = stays_then [] [] c.args.net.now c.loop-dpid.net c.take_one.new.net c.loop-dpid.invariant.2 c.in_err-take_one.ensures.stays

pub loop-dpid-preserved : goal.loop-dpid-preserved
loop-dpid-preserved c =
    let (came, taken, stays) = c.loop-dpid.invariant in
    let took = c.in_ok-take_one.ensures.ok ∙ ap (λ (b : List ℕ). takes_read c.in-Some.dpid (reading_of b) (c.loop-dpid.net, c.loop-dpid.queue)) c.as_slice.ensures ∙ ap (takes_read c.in-Some.dpid (reading_of c.in-Some.bytes)) taken
    ∙ sym (takes_more c.loop-dpid.yielded c.in-Some.dpid c.in-Some.bytes (c.args.net.now, c.args.queue.now)) in
    let step : into_iter_items c.loop-dpid.dpid-iterator ≡ (c.in-Some.dpid, c.in-Some.bytes) ∷ into_iter_items c.next.new.self = search rules in
    (yielded_more c.args.came.items c.loop-dpid.yielded (into_iter_items c.loop-dpid.dpid-iterator) (into_iter_items c.next.new.self) (c.in-Some.dpid, c.in-Some.bytes) came step, took, stays_then [] [] c.args.net.now c.loop-dpid.net c.take_one.new.net stays c.in_ok-take_one.ensures.stays)
