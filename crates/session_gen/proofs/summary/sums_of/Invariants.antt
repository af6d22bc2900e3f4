use Rattle.std.proofs.Common.{◌≡◌, ◌==◌, map, drop}
use Rattle.std.specs.List.{slice_split}
use Rattle.session_gen.specs.Summary.{with_lines, nothing}
use Rattle.session_gen.proofs.summary.sums_of.Given as goal

abbrev pub invariant-loop-line : goal.invariant-loop-line
invariant-loop-line l =
    with_lines (map (λ p. p.now) (drop l.line-index l.line-items)) l.sums ≡ with_lines (slice_split (λ b. b == 10) l.report) nothing
