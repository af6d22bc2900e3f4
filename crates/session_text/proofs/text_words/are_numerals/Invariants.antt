use Rattle.std.proofs.Common.{◌≡◌, map, drop}
use Rattle.std.specs.List.{list_all}
use Rattle.of_types.specs.Numerals.{is_numeral}
use Rattle.session_text.proofs.text_words.are_numerals.Given as goal

abbrev pub invariant-loop-word : goal.invariant-loop-word
invariant-loop-word l = list_all is_numeral (map (λ w. w.now) (drop l.word-index l.words)) ≡ list_all is_numeral (map (λ w. w.now) l.words)
