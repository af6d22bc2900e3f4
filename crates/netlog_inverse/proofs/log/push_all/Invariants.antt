use Rattle.std.proofs.Common.{◌≡◌, ◌≤◌, vec_len, vec_capacity}
use Rattle.std.specs.Vec.Iter.{into_iter_items}
use Rattle.netlog_inverse.specs.Index.{IsIndex}
use Rattle.netlog_inverse.specs.Log.{pushed}
use Rattle.netlog_inverse.proofs.log.push_all.Given as goal

abbrev pub invariant-loop-image : goal.invariant-loop-image
invariant-loop-image l = record {
  rest : pushed l.mark l.dpid (into_iter_items l.image-iterator) l.logged.items ≡ pushed l.mark l.dpid l.fn.images.items l.fn.logged.items;
  mark : l.mark ≤ vec_len l.logged;
  room : vec_capacity l.logged ≡ vec_capacity l.fn.logged;
  index_room : vec_capacity l.index ≡ vec_capacity l.fn.index;
  index : IsIndex l.logged.items l.index.items;
}
