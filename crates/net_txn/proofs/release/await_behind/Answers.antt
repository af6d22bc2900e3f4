use Rattle.std.proofs.Common.{refl, inl, inr}
use Rattle.std.proofs.lemmas.Result.{err_from_is_err_and}
use Rattle.net_txn.specs.laws.PacketReleaseLaws.{barrier_passed, barrier_broke}
use Rattle.net_txn.proofs.release.await_behind.Goals as goal

pub returns-in_err-pass-clause-awaits : goal.returns-in_err-pass-clause-awaits
returns-in_err-pass-clause-awaits g c =
    let p = err_from_is_err_and c.from_residual.result c.from_residual.ensures.1 in
    rw (p.1, p.2) (inl (barrier_broke c.args.awaited.now _ _ c.clear.new.self c.pass.new.kept c.in_err-pass.field-0.0 c.clear.ensures c.in_err-pass.ensures.talks))

pub returns-in_err-take_all-clause-awaits : goal.returns-in_err-take_all-clause-awaits
returns-in_err-take_all-clause-awaits g c =
    let p = err_from_is_err_and c.from_residual-in_err-take_all.result c.from_residual-in_err-take_all.ensures.1 in
    rw (p.1, p.2) (inr (record { came = c.pass.new.kept; passed = barrier_passed c.args.awaited.now _ _ c.clear.new.self c.pass.new.kept c.pass.new.kept c.in_ok-pass.field-0 c.clear.ensures refl c.in_ok-pass.ensures.talks; short = refl }))

pub returns-clause-awaits : goal.returns-clause-awaits
returns-clause-awaits g c = barrier_passed c.args.awaited.now _ _ c.clear.new.self c.pass.new.kept _ c.in_ok-pass.field-0 c.clear.ensures c.in_ok-take_all.ensures c.in_ok-pass.ensures.talks

pub returns-in_err-pass-clause-parted : goal.returns-in_err-pass-clause-parted
returns-in_err-pass-clause-parted g c =
    let p = err_from_is_err_and c.from_residual.result c.from_residual.ensures.1 in
    λ can. rw (p.1, p.2) (c.in_err-pass.ensures.parted can)
