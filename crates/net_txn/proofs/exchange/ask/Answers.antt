use Rattle.net_txn.specs.laws.PartingLaws.{halted_plain}
use Rattle.net_txn.proofs.exchange.ask.Goals as goal

pub returns-in-Err-clause-talks : goal.returns-in-Err-clause-talks
returns-in-Err-clause-talks g c = record { trouble = c.in-Err.trouble; buf = c.exchange.new.buf; breaks = c.in-Err.ensures.exchanges; halt_is = c.halt_of.ensures }

pub returns-in-Err-clause-parted : goal.returns-in-Err-clause-parted
returns-in-Err-clause-parted g c = λ can. halted_plain c.args.awaited.now.dpid c.in-Err.trouble c.exchange.new.buf c.halt_of.result (c.in-Err.ensures.parted can) c.halt_of.ensures
