use Rattle.std.proofs.Common.{[]}
use Rattle.net_txn.proofs.exchange.say.Goals as goal

pub returns-in-Err : goal.returns-in-Err
returns-in-Err g c = record { trouble = c.in-Err.trouble; buf = []; why = c.in-Err.ensures.0; calls = c.in-Err.ensures.1; halt_is = c.halt_of.ensures }
