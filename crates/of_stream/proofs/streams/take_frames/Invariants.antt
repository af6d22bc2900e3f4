use Rattle.std.proofs.Common.{◌≡◌, length}
use Rattle.std.specs.Prelude.{All}
use Rattle.of_stream.specs.Frames.{IsFrame, stream_of}
use Rattle.of_stream.proofs.streams.take_frames.Given as goal

abbrev pub invariant-loop-frame : goal.invariant-loop-frame
invariant-loop-frame l = record {
  stream : stream_of l.frames.items l.cutter ≡ stream_of l.fn.frames.items l.fn.cutter;
  each : All IsFrame l.fn.frames.items → All IsFrame l.frames.items;
}

abbrev pub decreases-loop-frame : goal.decreases-loop-frame
decreases-loop-frame l = length l.cutter
