use Rattle.std.proofs.Common.{sym, ◌∙◌}
use Rattle.lego_io.specs.laws.LinesLaws.{lines_of-some, lines_of-none}
use Rattle.lego_io.proofs.lines.first_line.Goals as goal

pub returns-in-Some : goal.returns-in-Some
returns-in-Some c = rw c.drop_cr.ensures (lines_of-some c.args.text.now c.in-Some.end (sym c.find_lf.ensures ∙ c.in-Some.is))

pub returns-in-None : goal.returns-in-None
returns-in-None c = rw c.drop_cr-in-None.ensures (lines_of-none c.args.text.now c.requires (sym c.find_lf.ensures ∙ c.in-None.is))
