use Rattle.std.proofs.Common.{◌≡◌, ◌⊎◌, take}
use Rattle.std.specs.Prelude.{All}
use Rattle.std.specs.List.{concat}
use Rattle.of_stream.specs.Frames.{IsFrame, IsPartial, IsBroken, stream_of}
use Rattle.of_stream.proofs.streams.cut_pieces.Given as goal

abbrev pub invariant-loop-piece : goal.invariant-loop-piece
invariant-loop-piece l = record {
  stream : stream_of l.frames.items l.cutter ≡ concat (take l.piece-index l.pieces);
  each : All IsFrame l.frames.items;
  over : IsPartial l.cutter ⊎ IsBroken l.cutter;
}
