use Rattle.std.proofs.Common.{◌≡◌, ◌%◌, ◌^◌, drop}
use Rattle.lego_model.specs.Words.{value_after}
use Rattle.session_gen.proofs.summary.number_in.Given as goal

abbrev pub invariant-loop-digit : goal.invariant-loop-digit
invariant-loop-digit l = value_after l.value (drop l.digit-index l.word) % 2 ^ 64 ≡ value_after 0 l.word % 2 ^ 64
