use Rattle.std.proofs.Common.{sym, ◌∙◌, ap, arith, Some, length}
use Rattle.session_lists.specs.Steps.{step_of}
use Rattle.sim_world.specs.Scripts.{first_given, taken_bytes}
use Rattle.sim_world.specs.laws.LifeLaws.{offset_within, bytes_count, from_position-closed, from_position-silent}
use Rattle.sim_world.proofs.life.len_first.Goals as goal

pub overflow_sub-bytes : goal.overflow_sub-bytes
overflow_sub-bytes c =
    omega (arith, offset_within c.args.steps.now c.args.at c.in-Bytes.bytes.now (c.get.ensures ∙ ap (λ step. Some (step_of step)) c.in-Bytes.is) c.requires)

pub returns-in-Bytes : goal.returns-in-Bytes
returns-in-Bytes c =
    c.min.ensures ∙ bytes_count c.args.steps.now c.args.at c.in-Bytes.bytes.now c.args.room (c.get.ensures ∙ ap (λ step. Some (step_of step)) c.in-Bytes.is)

pub returns-in-Closed : goal.returns-in-Closed
returns-in-Closed c =
    sym (ap (λ steps. length (taken_bytes (first_given c.args.room steps))) (from_position-closed c.args.steps.now c.args.at (c.get.ensures ∙ ap (λ step. Some (step_of step)) c.in-Closed.is)))

pub returns-in-Silent : goal.returns-in-Silent
returns-in-Silent c =
    sym (ap (λ steps. length (taken_bytes (first_given c.args.room steps))) (from_position-silent c.args.steps.now c.args.at (c.get.ensures ∙ ap (λ step. Some (step_of step)) c.in-Silent.is)))
