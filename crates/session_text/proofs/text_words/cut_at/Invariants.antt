use Rattle.std.proofs.Common.{◌≡◌, ◌++◌, drop, take}
use Rattle.lego_model.specs.SessionWords.{before, behind}
use Rattle.of_types.specs.Membership.{is_among}
use Rattle.session_text.proofs.text_words.cut_at.Given as goal

abbrev pub invariant-loop-at : goal.invariant-loop-at
invariant-loop-at l = record {
  marked : is_among l.mark (drop l.at l.word) ≡ is_among l.mark l.word;
  front : take l.at l.word ++ before l.mark (drop l.at l.word) ≡ before l.mark l.word;
  back : behind l.mark (drop l.at l.word) ≡ behind l.mark l.word;
}
