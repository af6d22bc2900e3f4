use Rattle.std.proofs.Common.{◌≡◌, map, drop}
use Rattle.session_text.specs.TextGives.{with_front, numbers}
use Rattle.session_text.proofs.text_words.port_numbers.Given as goal

abbrev pub invariant-loop-word : goal.invariant-loop-word
invariant-loop-word l =
    with_front l.ports.items (numbers 1 65280 (map (λ w. w.now) (drop l.word-index l.words))) ≡ numbers 1 65280 (map (λ w. w.now) l.words)
