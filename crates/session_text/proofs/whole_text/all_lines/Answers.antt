use Rattle.std.proofs.Common.{◌≡◌, ℕ, ◌<◌, true, List, ◌∷◌, length, nat_lt, Err, refl, sym, ap, ◌∙◌, arith}
use Rattle.std.proofs.lemmas.Result.{err_from_is_err_and}
use Rattle.lego_model.specs.declared.session.SessionKind.TheVariants.{Long}
use Rattle.lego_io.specs.Lines.{most_line}
use Rattle.lego_model.specs.SessionText.{Progress, next_line, lines_from}
use Rattle.session_text.proofs.whole_text.all_lines.Goals as goal

-- a line that is too long is the fault
too_long : (names : List (List ℕ)) (n : ℕ) (p : Progress) (line : List ℕ) (lines : List (List ℕ)) → most_line < length line
    → lines_from names n p (line ∷ lines) ≡ Err (record { line = n; kind = Long })
unfolding next_line
too_long names n p line lines long = let test : nat_lt most_line (length line) ≡ true = grind arith in rw test refl

pub returns-in_err-line : goal.returns-in_err-line
returns-in_err-line c =
    let found = c.in_err-line.ensures.long in
    let p = err_from_is_err_and c.from_residual.result c.from_residual.ensures.1 in
    rw (p.1, p.2, found.0)
    (sym c.loop-progress.invariant.same ∙ ap (lines_from _ _ _) found.1.1 ∙ too_long _ _ _ found.1.0 _ found.1.2)
