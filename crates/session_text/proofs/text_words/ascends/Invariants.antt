use Rattle.std.proofs.Common.{◌≡◌, ◌-◌, drop}
use Rattle.lego_model.specs.SessionWords.{ascends}
use Rattle.session_text.proofs.text_words.ascends.Given as goal

abbrev pub invariant-loop-at : goal.invariant-loop-at
invariant-loop-at l = ascends (drop (l.at - 1) l.ports) ≡ ascends l.ports
