use Rattle.std.proofs.Common.{◌∷◌, [], arith}
use Rattle.std.proofs.lemmas.Result.{err_from_is_err_and}
use Rattle.net_txn.specs.Undos.{inverses_in}
use Rattle.net_txn.specs.Said.{barrier_of}
use Rattle.net_txn.specs.laws.ExchangeLaws.{unsent, behind}
use Rattle.net_txn.specs.laws.PartingLaws.{link_plain}
use Rattle.net_txn.proofs.wait.await_barrier.Goals as goal

pub wait-requires-clause-is_xid : goal.wait-requires-clause-is_xid
wait-requires-clause-is_xid g c = omega arith

pub returns-in_err-send-clause-exchanges : goal.returns-in_err-send-clause-exchanges
returns-in_err-send-clause-exchanges g c =
    let p = err_from_is_err_and c.from_residual.result c.from_residual.ensures.1 in
    let a = c.args.awaited.now in
    rw (p.1, p.2) (unsent (barrier_of a ∷ []) c.args.storage (inverses_in a.dpid c.args.reverted.now) c.args.kept.now c.args.buf.now c.in_err-send.field-0.0 c.in_err-send.ensures)

pub returns-clause-exchanges : goal.returns-clause-exchanges
returns-clause-exchanges g c =
    behind c.args.awaited.now [] c.args.storage (inverses_in c.args.awaited.now.dpid c.args.reverted.now) (g.W.World.seen c.wait.new.world) c.args.kept.now c.wait.new.kept c.wait.new.buf (barrier_of c.args.awaited.now) c.wait.result (rw c.barrier_request.ensures.bytes at c.in_ok-send.ensures) c.wait.ensures.exchanges

pub returns-in_err-send-clause-parted : goal.returns-in_err-send-clause-parted
returns-in_err-send-clause-parted g c =
    let p = err_from_is_err_and c.from_residual.result c.from_residual.ensures.1 in
    λ can. rw (p.1, p.2) (link_plain c.in_err-send.field-0.0 c.in_err-send.ensures.0)
