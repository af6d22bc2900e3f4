use Rattle.std.proofs.Common.{◌-◌, length}
use Rattle.lego_io.proofs.Reading.{Came}
use Rattle.lego_io.proofs.transfer.read_in_pieces.Given as goal

abbrev pub invariant-loop-bytes : goal.invariant-loop-bytes
invariant-loop-bytes g l = Came (g.S.Source.remaining l.fn.source) (g.S.Source.remaining l.source) l.bytes.items l.most (g.S.Source.faults l.fn.source) (g.S.Source.faults l.source)

abbrev pub decreases-loop-bytes : goal.decreases-loop-bytes
decreases-loop-bytes g l = l.most - length l.bytes.items
