use Rattle.std.proofs.Common.{◌≡◌, ◌∙◌, List, [], map, drop, sym, ap, subst}
use Rattle.std.proofs.lemmas.List.{drop_all}
use Rattle.flow_table.specs.Switch.{SwitchState}
use Rattle.flow_table.specs.Frames.{after_packet_outputs}
use Rattle.switch_sim.specs.declared.packet_out.Planned.{Planned}
use Rattle.switch_sim.specs.laws.LookLaws.{LooksLike, LooksLike-packet_output}
use Rattle.switch_sim.specs.Plan.{planned_output}
use Rattle.switch_sim.specs.laws.PlanLaws.{performed_more}
use Rattle.switch_sim.proofs.switch.SimSwitch.perform_all.Goals as goal

pub loop-step-preserved : goal.loop-step-preserved
loop-step-preserved c =
    let step = c.step-item.result in
    record {
      like = subst (λ (u : SwitchState). LooksLike u c.args.self.now) (sym c.perform.ensures) (LooksLike-packet_output c.args.in_port (planned_output step) c.loop-step.self c.args.self.now c.loop-step.invariant.like);
      so_far = performed_more c.args.in_port c.args.steps.now c.loop-step.step-index step c.loop-step.self c.perform.new.self (after_packet_outputs c.args.in_port (map planned_output c.args.steps.now) c.args.self.now) c.loop-step-test.true c.step-item.is c.perform.ensures c.loop-step.invariant.so_far;
    }

pub returns : goal.returns
unfolding after_packet_outputs
returns c =
    let none : drop c.loop-step.step-index c.args.steps.now ≡ [] = drop_all c.loop-step.step-index c.args.steps.now c.loop-step-test.false in
    sym (ap (λ (xs : List Planned). after_packet_outputs c.args.in_port (map planned_output xs) c.loop-step.self) none) ∙ c.loop-step.invariant.so_far
