use Rattle.std.proofs.lemmas.Result.{err_from_is_err_and}
use Rattle.lego_io.proofs.Reading.{Came-more}
use Rattle.lego_io.proofs.transfer.read_in_pieces.Goals as goal

pub returns-in_err-append-in-Ok-clause-part : goal.returns-in_err-append-in-Ok-clause-part
returns-in_err-append-in-Ok-clause-part g c =
    let p = err_from_is_err_and c.from_residual.result c.from_residual.ensures.1 in
    rw p.1 (Came-more _ _ _ c.loop-bytes.bytes.items _ c.loop-bytes.invariant.front c.in-Ok.ensures.front)
