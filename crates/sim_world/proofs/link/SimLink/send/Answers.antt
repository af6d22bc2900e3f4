use Rattle.std.proofs.Common.{sym, subst}
use Rattle.of_wire.specs.Reading.{reading_of}
use Rattle.flow_table.specs.Switch.{Declared}
use Rattle.sim_world.specs.Links.{IsDeclaredAs}
use Rattle.sim_world.specs.laws.LinkLaws.{IsDeclaredAs-told}
use Rattle.sim_world.proofs.link.SimLink.send.Goals as goal

pub invariant_of-self-2 : goal.invariant_of-self-2
invariant_of-self-2 c =
    let s = c.self.inside in
    let d : Declared = record { dpid = s.dpid; cap = s.cap; ports = s.ports.items } in
    (c.self.invariant.0, subst (IsDeclaredAs d) (sym c.in_ok-sent.ensures.ok) (IsDeclaredAs-told (reading_of c.args.frame.now) d s.switch c.self.invariant.1))
