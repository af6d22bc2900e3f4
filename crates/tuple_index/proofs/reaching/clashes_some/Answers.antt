use Rattle.std.proofs.Common.{sym, arith}
use Rattle.tuple_index.specs.Reach.{key_clashes}
use Rattle.tuple_index.specs.laws.ReachLaws.{none-all}
use Rattle.tuple_index.proofs.reaching.clashes_some.Goals as goal

pub returns : goal.returns
returns c = sym (none-all (key_clashes c.args.key.now) c.args.keys.now (λ i d within. c.loop-at.invariant.1 i d (omega (arith, within, c.loop-at-test.false))))
