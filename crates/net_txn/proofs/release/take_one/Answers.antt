use Rattle.std.proofs.Common.{rules}
use Rattle.net_txn.specs.laws.ReleaseStepLaws.{stays_same, stays_by, stays_news}
use Rattle.net_txn.proofs.release.take_one.Goals as goal

pub returns-in-Err-NoMemory-clause-stays : goal.returns-in-Err-NoMemory-clause-stays
returns-in-Err-NoMemory-clause-stays c = stays_same c.args.net.now

pub returns-in-Err : goal.returns-in-Err
returns-in-Err c = record { ok = search rules; stays = stays_same c.args.net.now }

pub returns-in_err-event-clause-stays : goal.returns-in_err-event-clause-stays
returns-in_err-event-clause-stays c = stays_by c.args.net.now c.take_news.new.self c.in_err-event.ensures.err

pub returns-in_err-push-clause-stays : goal.returns-in_err-push-clause-stays
returns-in_err-push-clause-stays c = stays_news c.args.dpid c.in-Ok.envelope.message c.args.net.now c.take_news.new.self c.in_ok-event.ensures.ok

pub returns-clause-stays : goal.returns-clause-stays
returns-clause-stays c = stays_news c.args.dpid c.in-Ok.envelope.message c.args.net.now c.take_news.new.self c.in_ok-event.ensures.ok
