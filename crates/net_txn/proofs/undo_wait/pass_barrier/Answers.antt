use Rattle.std.proofs.Common.{arith}
use Rattle.std.proofs.lemmas.Result.{err_from_is_err_and}
use Rattle.net_txn.specs.laws.UndoWaitLaws.{passes_ok, passes_err}
use Rattle.net_txn.proofs.undo_wait.pass_barrier.Goals as goal

pub returns-clause-passes : goal.returns-clause-passes
returns-clause-passes g c = passes_ok c.args.dpid c.args.xid c.in_ok-await_barrier.field-0 c.await_barrier.new.buf c.in_ok-await_barrier.ensures.exchanges

pub returns-in_err-await_barrier-clause-passes : goal.returns-in_err-await_barrier-clause-passes
returns-in_err-await_barrier-clause-passes g c =
    let p = err_from_is_err_and c.from_residual.result c.from_residual.ensures.1 in
    rw (p.1, p.2) (passes_err c.args.dpid c.args.xid c.in_err-await_barrier.field-0.0 c.await_barrier.new.buf (omega arith) c.in_err-await_barrier.ensures.exchanges)

pub returns-in_err-await_barrier-clause-parted : goal.returns-in_err-await_barrier-clause-parted
returns-in_err-await_barrier-clause-parted g c =
    let p = err_from_is_err_and c.from_residual.result c.from_residual.ensures.1 in
    λ can. rw (p.1, p.2) (c.in_err-await_barrier.ensures.parted can)
