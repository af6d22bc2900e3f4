use Rattle.std.proofs.Common.{sym, ◌∙◌, ap, Some}
use Rattle.session_lists.specs.Steps.{step_of}
use Rattle.sim_world.specs.Lives.{begins_empty}
use Rattle.sim_world.specs.laws.LifeLaws.{bytes_empty, from_position-closed, from_position-silent}
use Rattle.sim_world.proofs.life.is_used_up.Goals as goal

pub returns-in-Bytes-clause-same : goal.returns-in-Bytes-clause-same
returns-in-Bytes-clause-same c = bytes_empty c.args.steps.now c.args.at c.in-Bytes.bytes.now (c.get.ensures ∙ ap (λ step. Some (step_of step)) c.in-Bytes.is)

pub returns-in-Closed-clause-same : goal.returns-in-Closed-clause-same
returns-in-Closed-clause-same c = sym (ap begins_empty (from_position-closed c.args.steps.now c.args.at (c.get.ensures ∙ ap (λ step. Some (step_of step)) c.in-Closed.is)))

pub returns-in-Silent-clause-same : goal.returns-in-Silent-clause-same
returns-in-Silent-clause-same c = sym (ap begins_empty (from_position-silent c.args.steps.now c.args.at (c.get.ensures ∙ ap (λ step. Some (step_of step)) c.in-Silent.is)))
