use Rattle.std.proofs.Common.{take}
use Rattle.telling_world.specs.Story.{Spelled}
use Rattle.telling_world.proofs.story.spell.Given as goal

abbrev pub invariant-loop-byte : goal.invariant-loop-byte
invariant-loop-byte l = Spelled (take l.byte-index l.bytes) l.fn.notes.items l.notes.items
