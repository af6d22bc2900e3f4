use Rattle.std.proofs.Common.{sym, subst}
use Rattle.session_text.specs.TextGives.{Gives}
use Rattle.session_text.specs.SessionView.{view_so_far}
use Rattle.session_text.proofs.FixedLines.{three_words, four_words, five_words, more_words}
use Rattle.session_text.proofs.text_lines.fixed_line.Goals as goal

pub returns-in-len3 : goal.returns-in-len3
returns-in-len3 c = subst (λ read. Gives view_so_far c.line_of_three.result read) (sym (three_words _ _ c.args.words.now _ c.in-len3.len_at_least c.in-len3.len_below)) c.line_of_three.ensures

pub returns-in-len4 : goal.returns-in-len4
returns-in-len4 c = subst (λ read. Gives view_so_far c.line_of_four.result read) (sym (four_words _ _ c.args.words.now _ c.in-len4.len_at_least c.in-len4.len_below)) c.line_of_four.ensures

pub returns-in-len5 : goal.returns-in-len5
returns-in-len5 c = subst (λ read. Gives view_so_far c.line_of_five.result read) (sym (five_words _ _ c.args.words.now _ c.in-len5.len_at_least c.in-len5.len_below)) c.line_of_five.ensures

pub returns-in-len6-up : goal.returns-in-len6-up
returns-in-len6-up c = more_words _ _ c.args.words.now c.in-len6-up.len_at_least
