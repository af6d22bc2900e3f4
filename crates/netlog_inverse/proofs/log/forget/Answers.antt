use Rattle.std.proofs.Common.{◌^◌, ◌<◌, length, sym, ap, arith}
use Rattle.std.specs.Option.{is_some}
use Rattle.netlog_inverse.specs.laws.IndexLaws.{popped-there, index-popped, index-popped-other}
use Rattle.netlog_inverse.proofs.log.forget.Goals as goal

pub remove_spot-requires-clause-there : goal.remove_spot-requires-clause-there
remove_spot-requires-clause-there c =
    let small : length c.args.logged.now < 2 ^ 64 = omega (arith, c.requires.at) in
    rw c.requires.at (ap is_some (popped-there c.args.logged.now c.args.last.now c.args.index.now.items c.in-Some.key (sym c.in-Some.ensures) small c.requires.index))

pub returns-in-Some-clause-index : goal.returns-in-Some-clause-index
returns-in-Some-clause-index c =
    let small : length c.args.logged.now < 2 ^ 64 = omega (arith, c.requires.at) in
    rw (c.remove_spot.ensures.items, c.requires.at) (index-popped c.args.logged.now c.args.last.now c.args.index.now.items c.in-Some.key (sym c.in-Some.ensures) small c.requires.index)

pub returns-in-None-clause-index : goal.returns-in-None-clause-index
returns-in-None-clause-index c = index-popped-other c.args.logged.now c.args.last.now c.args.index.now.items (sym c.in-None.ensures) c.requires.index
