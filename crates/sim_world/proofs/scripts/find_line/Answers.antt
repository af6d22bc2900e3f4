use Rattle.std.proofs.Common.{◌∙◌, arith, get_or}
use Rattle.std.proofs.lemmas.Option.{slice_get-get_or}
use Rattle.sim_world.specs.laws.LifeLaws.{lines_of-same, lines_of-other, lines_of-end}
use Rattle.sim_world.proofs.scripts.find_line.Goals as goal

pub returns-then-lines-i : goal.returns-then-lines-i
returns-then-lines-i g c =
    let line = get_or c.args.lines.now c.loop-i.i c.index-lines-i.result in
    let at = slice_get-get_or c.args.lines.now c.loop-i.i c.index-lines-i.result (omega arith) in
    (line, at, c.loop-i.invariant ∙ lines_of-same c.args.app c.args.lines.now c.loop-i.i line at c.if-lines-i.true)

pub loop-i-preserved : goal.loop-i-preserved
loop-i-preserved g c =
    let line = get_or c.args.lines.now c.loop-i.i c.index-lines-i.result in
    let at = slice_get-get_or c.args.lines.now c.loop-i.i c.index-lines-i.result (omega arith) in
    c.loop-i.invariant ∙ lines_of-other c.args.app c.args.lines.now c.loop-i.i line at c.if-lines-i.false

pub returns : goal.returns
returns g c = c.loop-i.invariant ∙ lines_of-end c.args.app c.args.lines.now c.loop-i.i (omega arith)
