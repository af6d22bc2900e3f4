use Rattle.vote_world.specs.laws.BackedLaws.{hears_some, hears_no_more, hears_fails}
use Rattle.vote_world.proofs.polling.hear.Goals as goal

pub returns-in-Ok-Some-clause-goes : goal.returns-in-Ok-Some-clause-goes
returns-in-Ok-Some-clause-goes g c = hears_some g.W.World.Tells g.W.World.seen c.args.place c.args.first c.copy_number.result c.in-Ok-Some.n c.piece.new.buf c.in-Ok-Some.field-0 _ _ _ _ _ c.copy_number.ensures c.in-Ok-Some.field-0-is c.in-Ok-Some.ensures.goes c.keep.ensures.keeps c.keep.ensures.rests

pub returns-in-Ok-None-clause-goes : goal.returns-in-Ok-None-clause-goes
returns-in-Ok-None-clause-goes g c = hears_no_more g.W.World.Tells g.W.World.seen _ c.copy_number.result c.piece.new.buf c.in-Ok-None.field-0 _ _ _ c.in-Ok-None.field-0-is c.in-Ok-None.ensures.goes

pub returns-in-Err-clause-goes : goal.returns-in-Err-clause-goes
returns-in-Err-clause-goes g c = hears_fails g.W.World.Tells g.W.World.seen _ c.copy_number.result c.piece.new.buf _ _ _ _ c.in-Err.ensures.goes
