use Rattle.std.proofs.Common.{sym, arith}
use Rattle.match_overlap.specs.Relations.{is_subsuming}
use Rattle.tuple_index.specs.laws.ReachLaws.{none-all}
use Rattle.tuple_index.proofs.reaching.subsumes_some.Goals as goal

pub returns : goal.returns
returns c = sym (none-all (λ k. is_subsuming c.args.m.now k.matching) c.args.keys.now (λ i d within. c.loop-at.invariant.1 i d (omega (arith, within, c.loop-at-test.false))))
