use Rattle.std.proofs.Common.{arith}
use Rattle.std.proofs.lemmas.Result.{err_from_is_err_and}
use Rattle.of_action.specs.Reading.{actions_of}
use Rattle.of_action.proofs.Loop.{begins, goes_on, gives_end, is_done}
use Rattle.of_action.proofs.reading.list_of.Goals as goal

pub loop-place-init : goal.loop-place-init
loop-place-init c = (omega arith, rw c.new-actions.ensures.items (begins c.args.bytes.now))

pub returns-in_err-action : goal.returns-in_err-action
returns-in_err-action c =
    let p = err_from_is_err_and c.from_residual.result c.from_residual.ensures.1 in
    rw (p.1, p.2) (gives_end c.loop-place.actions.items c.loop-place.place c.args.bytes.now c.in_err-action.field-0.0 (actions_of c.args.bytes.now) c.loop-place-test.true c.in_err-action.ensures.exact c.loop-place.invariant.1)

pub loop-place-preserved : goal.loop-place-preserved
loop-place-preserved c =
    (c.in_ok-action.ensures.within.1, rw c.in_ok-push.ensures.items (goes_on c.loop-place.actions.items c.loop-place.place c.in_ok-action.len c.args.bytes.now c.in_ok-action.action (actions_of c.args.bytes.now) c.loop-place-test.true c.in_ok-action.ensures.exact c.loop-place.invariant.1))

pub returns : goal.returns
returns c = rw c.from_vec.ensures (is_done c.loop-place.actions.items c.loop-place.place c.args.bytes.now (actions_of c.args.bytes.now) c.loop-place-test.false c.loop-place.invariant.1)
