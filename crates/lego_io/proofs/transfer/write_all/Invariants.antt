use Rattle.std.proofs.Common.{length}
use Rattle.lego_io.specs.Count.{NeverFell}
use Rattle.lego_io.proofs.Writing.{Written}
use Rattle.lego_io.proofs.transfer.write_all.Given as goal

abbrev pub invariant-loop-rest : goal.invariant-loop-rest
invariant-loop-rest g l = Written (g.K.Sink.contents l.fn.sink) (g.K.Sink.contents l.sink) l.bytes l.rest × NeverFell (g.K.Sink.faults l.fn.sink) (g.K.Sink.faults l.sink)

abbrev pub decreases-loop-rest : goal.decreases-loop-rest
decreases-loop-rest g l = length l.rest
