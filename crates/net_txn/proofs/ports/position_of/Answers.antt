use Rattle.std.proofs.Common.{arith}
use Rattle.flow_table.specs.laws.PortLaws.{port_more_at, port_stop_at, port_end}
use Rattle.net_txn.proofs.ports.position_of.Goals as goal

pub returns-then-number-port : goal.returns-then-number-port
returns-then-number-port c = port_stop_at c.args.number c.args.ports.now c.loop-i.i _ c.loop-i-test.true c.if-number-port.true c.loop-i.invariant

pub loop-i-preserved : goal.loop-i-preserved
loop-i-preserved c = port_more_at c.args.number c.args.ports.now c.loop-i.i _ c.loop-i-test.true c.if-number-port.false c.loop-i.invariant

pub returns : goal.returns
returns c = port_end c.args.number c.args.ports.now c.loop-i.i (omega arith) c.loop-i.invariant
