use Rattle.std.proofs.Common.{◌<◌, length, arith}
use Rattle.vote_world.specs.laws.VotingLaws.{added, counted, few_more}
use Rattle.vote_world.proofs.world.applications.Goals as goal

pub loop-number-preserved : goal.loop-number-preserved
loop-number-preserved c =
    let i = c.loop-number.number-index in
    let xs = c.args.copies.now in
    let lt : i < length xs = omega (arith, c.loop-number-test.true) in
    record {
      all = added xs i _ c.loop-number.first c.loop-number.all.items c.add.new.all.items lt c.loop-number.invariant.all c.loop-number.invariant.first c.in_ok-first.ensures.all;
      first = counted xs i _ c.loop-number.first c.in_ok-first.first lt c.loop-number.invariant.first c.in_ok-first.ensures.next;
      few = few_more _ i c.loop-number.first c.in_ok-first.first c.loop-number.invariant.few c.in_ok-first.ensures.next;
    }
