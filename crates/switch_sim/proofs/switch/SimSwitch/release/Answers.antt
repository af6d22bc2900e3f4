use Rattle.std.proofs.Common.{◌∙◌, sym}
use Rattle.switch_sim.specs.laws.LookLaws.{LooksLike-itself, sent_from_the_start}
use Rattle.switch_sim.specs.laws.PlanLaws.{short_steps}
use Rattle.switch_sim.proofs.switch.SimSwitch.release.Goals as goal

pub perform_all-requires-clause-len : goal.perform_all-requires-clause-len
perform_all-requires-clause-len c = rw c.deref.ensures.value (short_steps c.in_ok-plan.plan.steps.items c.args.outputs.now c.in_ok-plan.ensures.outputs c.requires)

pub returns-clause-sent : goal.returns-clause-sent
returns-clause-sent c =
    let s = c.args.self.now in
    c.from_vec.ensures ∙ c.in_ok-plan.ensures.sent ∙ sym (sent_from_the_start c.args.in_port c.args.outputs.now s s (LooksLike-itself s c.is_in_order.ensures))
