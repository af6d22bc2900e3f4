use Rattle.std.proofs.Common.{◌≡◌, ◌%◌, ◌^◌, ◌+◌, ◌-◌, ◌*◌, ℕ, get_or, drop, sym, ap, ◌∙◌, arith}
use Rattle.std.proofs.lemmas.List.{at_drop_more}
use Rattle.lego_model.specs.Words.{value_after}
use Rattle.session_gen.proofs.Sum.{value_after-mod}
use Rattle.session_gen.proofs.summary.number_in.Goals as goal

pub loop-digit-preserved : goal.loop-digit-preserved
loop-digit-preserved c =
    let word = c.args.word.now in
    let i = c.loop-digit.digit-index in
    let v = c.loop-digit.value in
    let digit = get_or word i 0 - 48 in
    let same : ((v * 10 % 2 ^ 64 + c.from.result) % 2 ^ 64) % 2 ^ 64 ≡ (10 * v + digit) % 2 ^ 64 = omega arith in
    value_after-mod (drop (i + 1) word) _ (10 * v + digit) same
    ∙ sym (ap (λ (n : ℕ). n % 2 ^ 64) (at_drop_more (value_after v) word i 0 (omega arith)))
    ∙ c.loop-digit.invariant
