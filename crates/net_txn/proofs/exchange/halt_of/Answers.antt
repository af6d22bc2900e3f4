use Rattle.net_txn.specs.laws.HaltLaws.{halt_is, halt_short}
use Rattle.net_txn.proofs.exchange.halt_of.Goals as goal

pub returns-in-Ok : goal.returns-in-Ok
returns-in-Ok c = halt_is c.args.dpid c.args.trouble c.args.buf.now c.in-Ok.halt c.in-Ok.ensures.halt

pub returns-in-Err : goal.returns-in-Err
returns-in-Err c = halt_short c.args.dpid c.args.trouble c.args.buf.now (λ is. absurd (let ok = c.in-Err.ensures.link is in cc))
