use Rattle.std.proofs.Common.{sym, ◌∙◌, ap, arith, Some, length, ◌-◌}
use Rattle.std.proofs.Math.Nat.{min-le_left}
use Rattle.of_types.specs.declared.journal.TookWhat.TheVariants as took
use Rattle.session_lists.specs.Steps.{step_of}
use Rattle.sim_world.specs.Scripts.{first_given}
use Rattle.sim_world.specs.laws.LifeLaws.{offset_within, some_taken, bytes_given, bytes_left, closed_left, silent_left, from_position-closed, from_position-silent}
use Rattle.sim_world.proofs.life.take_first.Goals as goal

pub take_bytes-count-requires : goal.take_bytes-count-requires
take_bytes-count-requires c =
    offset_within c.args.steps.now c.args.at c.in-Bytes.bytes.now (c.get.ensures ∙ ap (λ step. Some (step_of step)) c.in-Bytes.is) c.requires.begun

pub returns-in-Bytes-clause-what : goal.returns-in-Bytes-clause-what
returns-in-Bytes-clause-what c =
    ap took.Bytes c.take_bytes-count.ensures.front
    ∙ sym (bytes_given c.args.steps.now c.args.at c.in-Bytes.bytes.now (length c.args.buf.now) (c.get.ensures ∙ ap (λ step. Some (step_of step)) c.in-Bytes.is))

pub returns-in-Bytes-clause-left : goal.returns-in-Bytes-clause-left
returns-in-Bytes-clause-left c =
    let few = min-le_left (length c.args.buf.now) (length c.in-Bytes.bytes.now - c.args.at.offset) in
    bytes_left c.args.steps.now c.args.at c.in-Bytes.bytes.now c.take_bytes-count.new.buf c.take_bytes-count.result
    (c.get.ensures ∙ ap (λ step. Some (step_of step)) c.in-Bytes.is)
    (omega (arith, few, c.take_bytes-count.ensures.count, c.take_bytes-count.auto.buf))

pub returns-in-Bytes-clause-taken : goal.returns-in-Bytes-clause-taken
returns-in-Bytes-clause-taken c =
    let within = offset_within c.args.steps.now c.args.at c.in-Bytes.bytes.now (c.get.ensures ∙ ap (λ step. Some (step_of step)) c.in-Bytes.is) c.requires.begun in
    let some = some_taken c.take_bytes-count.result (length c.args.buf.now) (length c.in-Bytes.bytes.now - c.args.at.offset) c.take_bytes-count.ensures.count c.requires.room (omega (arith, within)) in
    (some.0, omega (arith, some.1, c.take_bytes-count.auto.buf))

pub returns-in-Closed-clause-what : goal.returns-in-Closed-clause-what
returns-in-Closed-clause-what c =
    sym (ap (first_given (length c.args.buf.now)) (from_position-closed c.args.steps.now c.args.at (c.get.ensures ∙ ap (λ step. Some (step_of step)) c.in-Closed.is)))

pub returns-in-Closed-clause-left : goal.returns-in-Closed-clause-left
returns-in-Closed-clause-left c = closed_left c.args.steps.now c.args.at (c.get.ensures ∙ ap (λ step. Some (step_of step)) c.in-Closed.is)

pub returns-in-Silent-clause-what : goal.returns-in-Silent-clause-what
returns-in-Silent-clause-what c =
    sym (ap (first_given (length c.args.buf.now)) (from_position-silent c.args.steps.now c.args.at (c.get.ensures ∙ ap (λ step. Some (step_of step)) c.in-Silent.is)))

pub returns-in-Silent-clause-left : goal.returns-in-Silent-clause-left
returns-in-Silent-clause-left c = silent_left c.args.steps.now c.args.at (c.get.ensures ∙ ap (λ step. Some (step_of step)) c.in-Silent.is)
