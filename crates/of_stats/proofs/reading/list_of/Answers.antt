use Rattle.std.proofs.Common.{arith}
use Rattle.std.proofs.lemmas.Result.{err_from_is_err_and}
use Rattle.of_stats.specs.Reading.{rows_of}
use Rattle.of_stats.proofs.Loop.{begins, goes_on, gives_end, is_done}
use Rattle.of_stats.proofs.reading.list_of.Goals as goal

pub loop-place-init : goal.loop-place-init
loop-place-init c = record { within = omega arith; read = rw c.new-rows.ensures.items (begins c.args.bytes.now) }

pub returns-in_err-row : goal.returns-in_err-row
returns-in_err-row c =
    let p = err_from_is_err_and c.from_residual.result c.from_residual.ensures.1 in
    rw (p.1, p.2) (gives_end c.loop-place.rows.items c.loop-place.place c.args.bytes.now c.in_err-row.field-0.0 (rows_of c.args.bytes.now) c.loop-place-test.true c.in_err-row.ensures.exact c.loop-place.invariant.read)

pub loop-place-preserved : goal.loop-place-preserved
loop-place-preserved c = record {
  within = c.in_ok-row.ensures.within.1;
  read = rw c.in_ok-push.ensures.items (goes_on c.loop-place.rows.items c.loop-place.place c.in_ok-row.len c.args.bytes.now c.in_ok-row.row (rows_of c.args.bytes.now) c.loop-place-test.true c.in_ok-row.ensures.exact c.loop-place.invariant.read);
}

pub returns : goal.returns
returns c = rw c.from_vec.ensures (is_done c.loop-place.rows.items c.loop-place.place c.args.bytes.now (rows_of c.args.bytes.now) c.loop-place-test.false c.loop-place.invariant.read)
