use Rattle.std.proofs.Common.{sym, ◌∙◌, inr}
use Rattle.lego_io.specs.laws.LinesLaws.{lines_of-some, lines_of-none}
use Rattle.legosdn.proofs.Cutting.{first_line}
use Rattle.legosdn.proofs.input.behind_line.Goals as goal

pub returns-in-Some-clause-lines : goal.returns-in-Some-clause-lines
returns-in-Some-clause-lines c = (_, lines_of-some c.args.text.now c.in-Some.end (sym c.find_lf.ensures ∙ c.in-Some.is))

pub returns-in-Some-clause-behind : goal.returns-in-Some-clause-behind
returns-in-Some-clause-behind c = inr (first_line c.args.text.now c.in-Some.end (sym c.find_lf.ensures ∙ c.in-Some.is))

pub returns-in-None-clause-lines : goal.returns-in-None-clause-lines
returns-in-None-clause-lines c = (_, lines_of-none c.args.text.now c.requires (sym c.find_lf.ensures ∙ c.in-None.is))
