use Rattle.telling_world.specs.laws.NoteLaws.{spelled_next, spelled_all}
use Rattle.telling_world.proofs.story.spell.Goals as goal

pub loop-byte-preserved : goal.loop-byte-preserved
loop-byte-preserved c =
    rw c.and.ensures (spelled_next c.args.bytes.now c.loop-byte.byte-index _ c.args.notes.now.items c.loop-byte.notes.items _ c.loop-byte-test.true c.loop-byte.invariant)

pub returns : goal.returns
returns c = spelled_all c.args.bytes.now c.loop-byte.byte-index c.args.notes.now.items c.loop-byte.notes.items c.loop-byte-test.false c.loop-byte.invariant
