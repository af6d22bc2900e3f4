use Rattle.std.proofs.Common.{◌++◌, ℕ, List, sym, ap, ◌∙◌, arith}
use Rattle.of_stats.specs.laws.PartLaws.{concat_more}
use Rattle.of_stats.proofs.parts.concat_rows.Goals as goal

pub loop-row-preserved : goal.loop-row-preserved
loop-row-preserved c =
    let row = c.row-item.result in
    c.in_ok-extend_from_slice.ensures.items ∙ ap (λ (xs : List ℕ). c.loop-row.bytes.items ++ xs) c.as_slice.ensures ∙ ap (λ (xs : List ℕ). xs ++ row) c.loop-row.invariant ∙ sym (concat_more c.args.rows.now c.loop-row.row-index row (omega arith) c.row-item.is)
