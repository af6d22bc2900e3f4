use Rattle.std.proofs.Common.{rules, ◌≡◌, ◌∷◌, length, ap, arith, ◌∙◌}
use Rattle.std.specs.Vec.Iter.{into_iter_items}
use Rattle.netlog_inverse.specs.Log.{with_image, pushed}
use Rattle.netlog_inverse.specs.laws.FirstLaws.{length-pushed}
use Rattle.netlog_inverse.proofs.log.push_all.Goals as goal

pub push_first-requires-clause-room : goal.push_first-requires-clause-room
push_first-requires-clause-room c =
    let more = length-pushed c.args.mark c.args.dpid (into_iter_items c.next.new.self) (with_image c.args.mark c.args.dpid c.loop-image.logged.items c.in-Some.image) in
    let step : into_iter_items c.loop-image.image-iterator ≡ c.in-Some.image ∷ into_iter_items c.next.new.self = search rules in
    let same : pushed c.args.mark c.args.dpid (c.in-Some.image ∷ into_iter_items c.next.new.self) c.loop-image.logged.items ≡ pushed c.args.mark c.args.dpid c.args.images.items c.args.logged.now.items = rw step at c.loop-image.invariant.rest in
    omega (arith, ap length same)

pub push_first-requires-clause-index_room : goal.push_first-requires-clause-index_room
push_first-requires-clause-index_room c =
    let more = length-pushed c.args.mark c.args.dpid (into_iter_items c.next.new.self) (with_image c.args.mark c.args.dpid c.loop-image.logged.items c.in-Some.image) in
    let step : into_iter_items c.loop-image.image-iterator ≡ c.in-Some.image ∷ into_iter_items c.next.new.self = search rules in
    let same : pushed c.args.mark c.args.dpid (c.in-Some.image ∷ into_iter_items c.next.new.self) c.loop-image.logged.items ≡ pushed c.args.mark c.args.dpid c.args.images.items c.args.logged.now.items = rw step at c.loop-image.invariant.rest in
    omega (arith, ap length same)

pub loop-image-preserved : goal.loop-image-preserved
loop-image-preserved c =
    let step : into_iter_items c.loop-image.image-iterator ≡ c.in-Some.image ∷ into_iter_items c.next.new.self = search rules in
    let same : pushed c.args.mark c.args.dpid (c.in-Some.image ∷ into_iter_items c.next.new.self) c.loop-image.logged.items ≡ pushed c.args.mark c.args.dpid c.args.images.items c.args.logged.now.items = rw step at c.loop-image.invariant.rest in
    record {
      rest = rw c.push_first.ensures.items same;
      mark = omega (arith, c.loop-image.invariant.mark, c.push_first.ensures.longer);
      room = c.push_first.ensures.room ∙ c.loop-image.invariant.room;
      index_room = c.push_first.ensures.index_room ∙ c.loop-image.invariant.index_room;
      index = c.push_first.ensures.index;
    }
