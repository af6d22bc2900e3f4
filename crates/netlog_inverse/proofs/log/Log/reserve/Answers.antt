use Rattle.std.proofs.Common.{rules, ◌≡◌, length, vec_len, arith}
use Rattle.netlog_inverse.specs.laws.IndexLaws.{length-index}
use Rattle.netlog_inverse.proofs.log.Log.reserve.Goals as goal

pub overflow_sub-len : goal.overflow_sub-len
overflow_sub-len c =
    let list : vec_len c.self.inside.logged ≡ length c.self.inside.logged.items = search rules in
    let index : vec_len c.self.inside.index ≡ length c.self.inside.index.items = search rules in
    omega (arith, list, index, c.len.ensures, c.len-2.ensures, length-index c.self.inside.logged.items c.self.inside.index.items c.self.invariant.index)
