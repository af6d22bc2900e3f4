use Rattle.switch_sim.specs.laws.SoundLaws.{IsSound-counts}
use Rattle.switch_sim.proofs.switch.SimSwitch.add_counts.Goals as goal

pub invariant_of-self : goal.invariant_of-self
invariant_of-self c =
    let s = c.self.inside in
    rw c.add_counts.ensures.entries (IsSound-counts s.cap s.moment c.args.priority c.args.packets c.args.bytes s.table.entries s.ports.items c.self.invariant)
