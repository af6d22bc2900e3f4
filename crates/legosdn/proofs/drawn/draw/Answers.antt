use Rattle.legosdn.specs.Input.{program_value}
use Rattle.legosdn.proofs.Generated.{drawn_loads, drawn_few, draw_causes}
use Rattle.legosdn.proofs.drawn.draw.Goals as goal

pub returns-in_err-program-clause-why : goal.returns-in_err-program-clause-why
returns-in_err-program-clause-why c = draw_causes c.args.start c.args.count c.in_err-program.field-0.0 c.from_residual.result c.from_residual.ensures.1 c.in_err-program.ensures.why

pub returns-clause-loaded : goal.returns-clause-loaded
returns-clause-loaded c = drawn_loads c.args.start c.args.count _ (program_value c.in_ok-program.program) c.in_ok-program.ensures.taken c.in_ok-generate.ensures.exact

pub returns-clause-few : goal.returns-clause-few
returns-clause-few c = drawn_few c.args.start c.args.count _ c.requires.rounds c.in_ok-generate.ensures.exact
