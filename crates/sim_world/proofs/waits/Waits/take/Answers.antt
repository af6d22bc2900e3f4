use Rattle.sim_world.proofs.Batches.{AreWaits-taken}
use Rattle.sim_world.proofs.waits.Waits.take.Goals as goal

pub invariant_of-self-2 : goal.invariant_of-self-2
invariant_of-self-2 c =
    let s = c.self.inside in
    let t = c.take_next.new in
    AreWaits-taken s.current.items t.current.items s.later.items t.later.items c.in_ok-message.message c.self.invariant c.take_next.ensures.filled c.in_ok-message.ensures.some
