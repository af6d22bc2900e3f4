use Rattle.std.proofs.Common.{sym, subst}
use Rattle.of_types.specs.declared.journal.Stimulus.TheVariants.{Advance}
use Rattle.flow_table.specs.Switch.{Declared}
use Rattle.sim_world.specs.Links.{IsDeclaredAs}
use Rattle.sim_world.specs.laws.LinkLaws.{IsDeclaredAs-happened}
use Rattle.sim_world.proofs.link.SimLink.pass.Goals as goal

pub invariant_of-self : goal.invariant_of-self
invariant_of-self c =
    let s = c.self.inside in
    let d : Declared = record { dpid = s.dpid; cap = s.cap; ports = s.ports.items } in
    (c.self.invariant.0, subst (IsDeclaredAs d) (sym c.pass_to.ensures) (IsDeclaredAs-happened (Advance c.args.moment) d s.switch c.self.invariant.1))
