use Rattle.std.proofs.Common.{sym, subst}
use Rattle.legosdn.specs.Input.{program_value}
use Rattle.legosdn.specs.Live.{Taken}
use Rattle.legosdn.proofs.Policies.{app_causes, command_causes, takes}
use Rattle.legosdn.proofs.policy.read_program.Goals as goal

pub returns-in_err-program-clause-why : goal.returns-in_err-program-clause-why
returns-in_err-program-clause-why g c =
    app_causes _ _ _ c.in_ok-input.input.items c.deref.result.now c.in_err-program.field-0.0 c.from_residual-in_err-program.result c.from_residual-in_err-program.ensures.1
    (record { whole = c.in_ok-input.ensures.all; within = c.in_ok-input.ensures.at_most; text_is = c.deref.ensures.value })
    c.in_err-program.ensures.why

pub returns-in_err-with_commands-clause-why : goal.returns-in_err-with_commands-clause-why
returns-in_err-with_commands-clause-why g c =
    command_causes _ _ _ c.in_ok-input.input.items c.deref.result.now (program_value c.in_ok-program.program) c.in_err-with_commands.field-0.0 c.from_residual-in_err-with_commands.result c.from_residual-in_err-with_commands.ensures.1
    (record { whole = c.in_ok-input.ensures.all; within = c.in_ok-input.ensures.at_most; text_is = c.deref.ensures.value })
    c.in_ok-program.ensures.taken c.in_err-with_commands.ensures.refused

pub returns-clause-taken : goal.returns-clause-taken
returns-clause-taken g c =
    subst (λ program. Taken (program_value program) (g.S.Source.remaining c.args.source.now) (g.S.Source.remaining c.read_input.new.source)) (sym c.in_ok-with_commands.ensures.taken.0)
    (takes _ _ c.in_ok-input.input.items c.deref.result.now (program_value c.in_ok-program.program)
    (record { whole = c.in_ok-input.ensures.all; within = c.in_ok-input.ensures.at_most; text_is = c.deref.ensures.value })
    c.in_ok-input.ensures.end c.in_ok-program.ensures.taken c.in_ok-with_commands.ensures.taken.1)
