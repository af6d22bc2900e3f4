use Rattle.std.proofs.Common.{sym, subst}
use Rattle.flow_table.specs.Switch.{Declared}
use Rattle.sim_world.specs.Links.{IsDeclaredAs}
use Rattle.sim_world.specs.laws.LinkLaws.{IsDeclaredAs-happened}
use Rattle.sim_world.proofs.link.SimLink.stimulate.Goals as goal

pub invariant_of-self-2 : goal.invariant_of-self-2
invariant_of-self-2 c =
    let s = c.self.inside in
    let d : Declared = record { dpid = s.dpid; cap = s.cap; ports = s.ports.items } in
    (c.self.invariant.0, subst (IsDeclaredAs d) (sym c.in_ok-sent.ensures.ok) (IsDeclaredAs-happened c.args.x.now d s.switch c.self.invariant.1))
