use Rattle.std.proofs.Common.{rules, ◌≡◌, length, vec_len, ap, arith}
use Rattle.netlog_inverse.specs.laws.FirstLaws.{length-pushed, length-pushed-most}
use Rattle.library_tests.proofs.tests.netlog.log_more.Goals as goal

pub push-requires-clause-room : goal.push-requires-clause-room
push-requires-clause-room c =
    let images : vec_len c.args.inverse.images ≡ length c.args.inverse.images.items = search rules in
    omega (arith, images, c.len.ensures, c.in_ok-reserve.ensures.ok, length-pushed-most c.args.mark.at 1 c.args.inverse.images.items c.reserve.new.self.logged)

pub returns : goal.returns
returns c =
    omega (arith, ap length c.push.ensures.logged, ap length c.in_ok-reserve.ensures.logged, length-pushed c.args.mark.at 1 c.args.inverse.images.items c.reserve.new.self.logged)
