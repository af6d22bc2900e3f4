use Rattle.std.proofs.Common.{◌≡◌, true, false, sym, ap, refl, ◌∙◌}
use Rattle.of_types.specs.Numerals.{is_numeral}
use Rattle.crash_policy.specs.LinkText.{number_in}
use Rattle.crash_policy.proofs.Values.{number_read}
use Rattle.crash_policy.proofs.link_text.number_in.Goals as goal

pub returns-then-is_numeral : goal.returns-then-is_numeral
returns-then-is_numeral c =
    let numeral : is_numeral c.args.text.now ≡ true = ap is_numeral (sym c.as_bytes.ensures.value) ∙ sym c.is_numeral.ensures ∙ c.if-is_numeral.true in
    c.ok.ensures.value ∙ number_read c.args.text.now c.parse.result c.parse.ensures.value.0 numeral

pub returns-else-is_numeral : goal.returns-else-is_numeral
unfolding number_in
returns-else-is_numeral c =
    let none : is_numeral c.args.text.now ≡ false = ap is_numeral (sym c.as_bytes.ensures.value) ∙ sym c.is_numeral.ensures ∙ c.if-is_numeral.false in
    rw none refl
