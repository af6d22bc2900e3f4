use Rattle.rehearse.proofs.rehearsal.RehearsalWorld.take.Goals as goal

pub returns-in-Err : goal.returns-in-Err
returns-in-Err g c = c.take_short.ensures.seen c.take_from.new.buf
