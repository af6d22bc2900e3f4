use Rattle.std.proofs.Common.{◌∙◌, arith, sym}
use Rattle.sim_world.specs.laws.LifeLaws.{line_of_app, lines_of-same, lines_of-other, lines_of-end}
use Rattle.sim_world.proofs.scripts.find_turn.Goals as goal

pub returns-then-app : goal.returns-then-app
returns-then-app c =
    let found = line_of_app _ c.app.result c.app.ensures in
    (found.0, found.1, c.loop-i.invariant ∙ lines_of-same c.args.app c.args.replies.now c.loop-i.i found.0 found.1 (found.2 ∙ c.if-app.true))

pub loop-i-preserved : goal.loop-i-preserved
loop-i-preserved c =
    let found = line_of_app _ c.app.result c.app.ensures in
    c.loop-i.invariant ∙ lines_of-other c.args.app c.args.replies.now c.loop-i.i found.0 found.1 (λ same. c.if-app.false (sym found.2 ∙ same))

pub returns : goal.returns
returns c = c.loop-i.invariant ∙ lines_of-end c.args.app c.args.replies.now c.loop-i.i (omega arith)
