use Rattle.sim_world.proofs.Batches.{AreWaits-push, some_of}
use Rattle.sim_world.proofs.waits.Waits.push_batch.Goals as goal

pub invariant_of-self : goal.invariant_of-self
invariant_of-self c =
    let s = c.self.inside in
    rw c.push_back_reserved.ensures.items
    (AreWaits-push s.current.items s.later.items c.args.batch c.self.invariant (some_of c.args.batch c.is_empty.result c.is_empty.ensures c.if-not-is_empty.true) c.requires.short)
