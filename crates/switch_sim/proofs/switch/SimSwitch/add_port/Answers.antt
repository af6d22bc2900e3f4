use Rattle.std.proofs.Common.{◌∙◌, ap, length, arith}
use Rattle.switch_sim.specs.laws.SoundLaws.{IsSound-ports}
use Rattle.switch_sim.specs.laws.PortLaws.{length-insert_port}
use Rattle.switch_sim.proofs.switch.SimSwitch.add_port.Goals as goal

pub invariant_of-self-2 : goal.invariant_of-self-2
invariant_of-self-2 c =
    let s = c.self.inside in
    let longer = ap length c.in_ok-insert_port.ensures.ok ∙ length-insert_port c.new-port.result s.ports.items in
    let room = rw c.deref.ensures.value at (c.can_add.ensures.room c.if-not-can_add.false) in
    IsSound-ports s.cap s.moment s.table.entries s.ports.items c.insert_port.new.all.items (omega (arith, longer, room)) c.self.invariant
