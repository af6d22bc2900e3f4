use Rattle.std.proofs.Common.{◌≡◌, ◌+◌, ◌*◌, ◌≤◌, length}
use Rattle.frame_edit.specs.Checksum.{word_sum}
use Rattle.frame_edit.proofs.checksum.word_sum.Given as goal

abbrev pub invariant-loop-rest : goal.invariant-loop-rest
invariant-loop-rest l = record {
  value : l.sum + word_sum l.rest ≡ word_sum l.bytes;
  small : 2 * l.sum + 65535 * length l.rest ≤ 65535 * length l.bytes;
}

abbrev pub decreases-loop-rest : goal.decreases-loop-rest
decreases-loop-rest l = length l.rest
