use Rattle.std.proofs.Common.{◌≡◌, ◌-◌, vec_len, vec_capacity}
use Rattle.netlog_inverse.specs.Index.{IsIndex}
use Rattle.netlog_inverse.specs.Mending.{set_right, map_first}
use Rattle.netlog_inverse.proofs.mending.mend_images.Given as goal

abbrev pub invariant-loop-at : goal.invariant-loop-at
invariant-loop-at l = record {
  items : l.logged.items ≡ map_first l.from (set_right l.dpid l.key l.lost) l.fn.logged.items;
  room : vec_capacity l.logged ≡ vec_capacity l.fn.logged;
  index : IsIndex l.logged.items l.index;
}

abbrev pub decreases-loop-at : goal.decreases-loop-at
decreases-loop-at l = vec_len l.logged - l.from
