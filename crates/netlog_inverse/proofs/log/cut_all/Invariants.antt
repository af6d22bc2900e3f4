use Rattle.std.proofs.Common.{◌≡◌, ◌≤◌, ◌-◌, take, vec_len, vec_capacity}
use Rattle.netlog_inverse.specs.Index.{IsIndex}
use Rattle.netlog_inverse.proofs.log.cut_all.Given as goal

abbrev pub invariant-loop-logged : goal.invariant-loop-logged
invariant-loop-logged l = record {
  front : take l.mark l.logged.items ≡ take l.mark l.fn.logged.items;
  mark : l.mark ≤ vec_len l.logged;
  room : vec_capacity l.logged ≡ vec_capacity l.fn.logged;
  index_room : vec_capacity l.index ≡ vec_capacity l.fn.index;
  index : IsIndex l.logged.items l.index.items;
}

abbrev pub decreases-loop-logged : goal.decreases-loop-logged
decreases-loop-logged l = vec_len l.logged - l.mark
