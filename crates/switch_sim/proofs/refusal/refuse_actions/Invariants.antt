use Rattle.std.proofs.Common.{◌≡◌, drop}
use Rattle.flow_table.specs.Refusals.{actions_refusal}
use Rattle.switch_sim.proofs.refusal.refuse_actions.Given as goal

abbrev pub invariant-loop-action : goal.invariant-loop-action
invariant-loop-action l = actions_refusal l.takes_table l.had (drop l.action-index l.actions) ≡ actions_refusal l.takes_table l.had l.actions
