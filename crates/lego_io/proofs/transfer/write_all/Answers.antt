use Rattle.std.proofs.Common.{◌<◌, length, rules}
use Rattle.std.proofs.lemmas.Result.{err_from_is_err_and}
use Rattle.lego_io.proofs.Writing.{Written-more, Written-part}
use Rattle.lego_io.proofs.transfer.write_all.Goals as goal

pub returns-in_err-count-clause-part : goal.returns-in_err-count-clause-part
returns-in_err-count-clause-part g c =
    let p = err_from_is_err_and c.from_residual.result c.from_residual.ensures.1 in
    let some : 0 < length c.loop-rest.rest.now = search rules in
    rw p.1 (Written-part _ _ _ c.args.bytes.now c.loop-rest.rest.now some c.loop-rest.invariant.0 c.in_err-count.ensures.fault_took_nothing)

pub loop-rest-preserved : goal.loop-rest-preserved
loop-rest-preserved g c = (Written-more _ _ _ c.args.bytes.now c.loop-rest.rest.now c.in_ok-count.count c.loop-rest.invariant.0 c.in_ok-count.ensures.front, search rules)
