use Rattle.std.proofs.Common.{refl, arith}
use Rattle.net_txn.specs.laws.RevertLaws.{unfaulted, passed_none, passed_failed, await_expected, barred_here, barred_there, barred_failed, barred_none}
use Rattle.net_txn.proofs.reverting.await_switch.Goals as goal

pub returns-in_default-clause-barred : goal.returns-in_default-clause-barred
returns-in_default-clause-barred g c = barred_none c.args.dpid c.args.log.now (rw c.in_default.is at c.position_of.ensures.place)

pub returns-then-log-at-clause-barred : goal.returns-then-log-at-clause-barred
returns-then-log-at-clause-barred g c = barred_failed c.args.dpid c.args.log.now c.in-Some.at c.index-log-at.result c.in-Some.ensures.place c.if-log-at.true

pub returns-clause-undoing : goal.returns-clause-undoing
returns-clause-undoing g c = λ base views x first p q switches fault u known.
    let e = c.index-log-at.result in
    let s = c.await_at.ensures in
    await_expected c.args.dpid c.take_xid-id.result c.args.log.now c.await_at.new.log c.in-Some.at e c.await_at.result c.await_at.new.buf c.in-Some.ensures.place (s.marked e) (omega arith) c.take_xid-id.ensures.next c.take_xid-id.ensures.taken u known
    c.if-log-at.false (s.passes e).replied (s.passes e).failed

pub returns-clause-barred : goal.returns-clause-barred
returns-clause-barred g c = barred_here c.args.dpid c.args.log.now c.await_at.new.log c.in-Some.at c.index-log-at.result _ c.in-Some.ensures.place (c.await_at.ensures.marked c.index-log-at.result) refl

pub returns-clause-others : goal.returns-clause-others
returns-clause-others g c = λ d before.
    barred_there c.args.dpid d c.args.log.now c.await_at.new.log c.in-Some.at c.index-log-at.result _ c.in-Some.ensures.place (c.await_at.ensures.marked c.index-log-at.result) refl before

pub returns-in_default-clause-undoing : goal.returns-in_default-clause-undoing
returns-in_default-clause-undoing g c = λ base views x first p q switches fault u known. unfaulted (passed_none c.args.dpid c.args.log.now (rw c.in_default.is at c.position_of.ensures.place) known u)

pub returns-then-log-at-clause-undoing : goal.returns-then-log-at-clause-undoing
returns-then-log-at-clause-undoing g c = λ base views x first p q switches fault u known. unfaulted (passed_failed c.args.dpid c.args.log.now c.in-Some.at c.index-log-at.result c.in-Some.ensures.place c.if-log-at.true known u)
