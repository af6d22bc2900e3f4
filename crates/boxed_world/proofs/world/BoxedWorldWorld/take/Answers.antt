use Rattle.boxed_world.proofs.world.BoxedWorldWorld.take.Goals as goal

pub returns-in_default-clause-seen : goal.returns-in_default-clause-seen
returns-in_default-clause-seen g c = c.take_short.ensures.seen c.args.buf.now
