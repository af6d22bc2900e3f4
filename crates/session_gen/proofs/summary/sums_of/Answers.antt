use Rattle.std.proofs.Common.{◌+◌, map, drop, sym, ap, ◌∙◌, arith}
use Rattle.std.proofs.lemmas.List.{at_drop_more, at_drop_all}
use Rattle.session_gen.specs.Summary.{with_words, with_lines, nothing}
use Rattle.session_gen.proofs.summary.sums_of.Goals as goal

pub loop-line-init : goal.loop-line-init
loop-line-init c = ap (λ lines. with_lines (map (λ p. p.now) lines) nothing) c.deref-line-items.ensures.value ∙ ap (λ lines. with_lines lines nothing) c.in_ok-split.ensures

pub loop-line-preserved : goal.loop-line-preserved
loop-line-preserved c =
    let sums = c.loop-line.sums in
    ap (λ s. with_lines (map (λ p. p.now) (drop (c.loop-line.line-index + 1) c.deref-line-items.result.now)) s)
    (c.add.ensures ∙ ap (λ words. with_words (map (λ w. w.now) words) sums) c.deref.ensures.value ∙ ap (λ words. with_words words sums) c.in_ok-words_of.ensures)
    ∙ sym (at_drop_more (λ lines. with_lines (map (λ p. p.now) lines) sums) c.deref-line-items.result.now c.loop-line.line-index _ (omega arith))
    ∙ c.loop-line.invariant

pub returns : goal.returns
unfolding Rattle.session_gen.specs.Summary.sums_of
returns c = sym (at_drop_all (λ lines. with_lines (map (λ p. p.now) lines) c.loop-line.sums) c.deref-line-items.result.now c.loop-line.line-index c.loop-line-test.false) ∙ c.loop-line.invariant
