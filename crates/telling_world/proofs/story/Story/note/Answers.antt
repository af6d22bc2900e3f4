use Rattle.telling_world.specs.laws.NoteLaws.{note_kept}
use Rattle.telling_world.proofs.story.Story.note.Goals as goal

pub invariant_of-self : goal.invariant_of-self
invariant_of-self c =
    rw c.and-self-inside.ensures (note_kept c.self.inside.notes.items c.spell.new.notes.items c.args.bytes.now c.args.note _ c.self.invariant c.spell.ensures c.requires).1

pub returns : goal.returns
returns c =
    rw (c.and-self-inside.ensures, ← c.self.view_is)
    (note_kept c.self.inside.notes.items c.spell.new.notes.items c.args.bytes.now c.args.note _ c.self.invariant c.spell.ensures c.requires).0
