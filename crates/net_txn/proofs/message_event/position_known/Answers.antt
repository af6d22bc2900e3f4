use Rattle.std.proofs.Common.{arith}
use Rattle.std.proofs.lemmas.Bool.{ne_eqb}
use Rattle.net_txn.specs.laws.KnownLaws.{looked_none, looked_more, looked_stop, looked_all}
use Rattle.net_txn.proofs.message_event.position_known.Goals as goal

pub loop-i-init : goal.loop-i-init
loop-i-init c = looked_none c.args.dpid c.args.all.now

pub returns-then-known-dpid : goal.returns-then-known-dpid
returns-then-known-dpid c = looked_stop c.args.dpid c.args.all.now c.loop-i.i c.index-all-i.result c.loop-i-test.true c.index-all-i.is c.if-known-dpid.true c.loop-i.invariant

pub loop-i-preserved : goal.loop-i-preserved
loop-i-preserved c = looked_more c.args.dpid c.args.all.now c.loop-i.i c.index-all-i.result c.loop-i-test.true c.index-all-i.is (ne_eqb c.index-all-i.result.dpid c.args.dpid c.if-known-dpid.false) c.loop-i.invariant

pub returns : goal.returns
returns c = looked_all c.args.dpid c.args.all.now c.loop-i.i (omega arith) c.loop-i.invariant
