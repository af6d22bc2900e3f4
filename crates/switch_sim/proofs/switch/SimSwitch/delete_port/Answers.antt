use Rattle.std.proofs.Common.{ap, length, arith}
use Rattle.switch_sim.specs.laws.SoundLaws.{IsSound-ports}
use Rattle.switch_sim.specs.laws.PortLaws.{length-without_port}
use Rattle.switch_sim.proofs.switch.SimSwitch.delete_port.Goals as goal

pub invariant_of-self : goal.invariant_of-self
invariant_of-self c =
    let s = c.self.inside in
    IsSound-ports s.cap s.moment s.table.entries s.ports.items c.remove_port.new.all.items (omega (arith, ap length c.remove_port.ensures, length-without_port c.args.number s.ports.items, c.self.invariant.ports)) c.self.invariant
