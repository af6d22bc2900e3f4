use Rattle.std.proofs.Common.{◌∷◌, []}
use Rattle.std.proofs.lemmas.Result.{err_from_is_err_and}
use Rattle.net_txn.specs.declared.queue.Storage.TheVariants.{Growing}
use Rattle.net_txn.specs.Said.{barrier_of}
use Rattle.net_txn.specs.laws.ExchangeLaws.{unsent, behind}
use Rattle.net_txn.specs.laws.PartingLaws.{link_plain}
use Rattle.net_txn.proofs.exchange.exchange.Goals as goal

pub returns-in_err-send-clause-exchanges : goal.returns-in_err-send-clause-exchanges
returns-in_err-send-clause-exchanges g c =
    let p = err_from_is_err_and c.from_residual.result c.from_residual.ensures.1 in
    rw (p.1, p.2) (unsent (c.args.frame.now ∷ barrier_of c.args.awaited.now ∷ []) Growing [] c.args.kept.now c.args.buf.now c.in_err-send.field-0.0 c.in_err-send.ensures)

pub returns-clause-exchanges : goal.returns-clause-exchanges
returns-clause-exchanges g c = behind c.args.awaited.now (barrier_of c.args.awaited.now ∷ []) Growing [] (g.W.World.seen c.await_barrier.new.world) c.args.kept.now c.await_barrier.new.kept c.await_barrier.new.buf c.args.frame.now c.await_barrier.result c.in_ok-send.ensures c.await_barrier.ensures.exchanges

pub returns-in_err-send-clause-parted : goal.returns-in_err-send-clause-parted
returns-in_err-send-clause-parted g c =
    let p = err_from_is_err_and c.from_residual.result c.from_residual.ensures.1 in
    λ can. rw (p.1, p.2) (link_plain c.in_err-send.field-0.0 c.in_err-send.ensures.0)
