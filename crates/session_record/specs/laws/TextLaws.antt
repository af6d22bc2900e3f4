-- A text of lines, each of which is read, is read as a whole.
use Rattle.std.specs.Prelude.{◌≡◌, ◌≢◌, ◌==◌, ℕ, zero, suc, ◌+◌, ◌-◌, ◌≤◌, Bool, true, false, ◌&&◌, List, [], ◌∷◌, ◌++◌, length, All, codes, Ok, nat_lt, slice_index, refl}
use Rattle.std.specs.List.{list_all}
use Rattle.std.proofs.Common.{ap, ◌∙◌, arith, append_assoc}
use Rattle.std.proofs.lemmas.List.Elements.{All-nil, All-cons}
use Rattle.lego_io.specs.Lines.{lines_of, without_cr, most_line}
use Rattle.lego_io.specs.laws.LinesLaws.{lines_of-line, lines_of-nil}
use Rattle.lego_model.specs.RunReport as report
use Rattle.lego_model.specs.Words.{words_of, is_word}
use Rattle.lego_model.specs.SessionLines.{SoFar, line_of}
use Rattle.lego_model.specs.SessionText.{at_first, is_printable, plain_line, next_line, lines_from, session_text, ◌>>=◌}
use Rattle.session_record.specs.Lines.{SessionLine, lines_text, session_spelled}
use Rattle.session_record.specs.Readings.{nothing_read, IsPlain, AreRead, TextIsRead}

-- ---- A line of printable characters has neither LF nor CR

pub both : (b rest : Bool) → (b && rest) ≡ true → (b ≡ true) × (rest ≡ true)
both true rest e = (refl, e)
both false rest e = absurd cc

no_lf : (b : ℕ) → is_printable b ≡ true → b ≢ 10
no_lf b is same = absurd (grind (arith, is, same))

no_cr : (b : ℕ) → is_printable b ≡ true → (b == 13) ≡ false
no_cr b is = grind (arith, is)

without_lf : (line : List ℕ) → list_all is_printable line ≡ true → All (λ b. b ≢ 10) line
without_lf [] each = All-nil (λ b. b ≢ 10)
without_lf (b ∷ line) each =
    All-cons (λ b. b ≢ 10) b line (no_lf b (both (is_printable b) (list_all is_printable line) each).0)
    (without_lf line (both (is_printable b) (list_all is_printable line) each).1)

none_there : (line : List ℕ) (k : ℕ) → list_all is_printable line ≡ true → (slice_index line k == 13) ≡ false
none_there [] k each = refl
none_there (b ∷ line) zero each = no_cr b (both (is_printable b) (list_all is_printable line) each).0
none_there (b ∷ line) (suc k) each = none_there line k (both (is_printable b) (list_all is_printable line) each).1

as_it_is : (line : List ℕ) → list_all is_printable line ≡ true → without_cr line ≡ line
unfolding without_cr
as_it_is line each = rw (none_there line (length line - 1) each) refl

-- ---- One line, and many

within_line : (n : ℕ) → n ≤ most_line → nat_lt most_line n ≡ false
within_line n few = grind (arith, few)

line_next : (names : List (List ℕ)) (s t : SoFar) (line : List ℕ) → IsPlain line → line_of names s (words_of line) ≡ Ok t
    → next_line names (record { opened = true; so_far = s }) line ≡ Ok (record { opened = true; so_far = t })
unfolding next_line plain_line
line_next names s t line plain is = rw (within_line (length line) plain.few, plain.seen, plain.printable, plain.other, is) refl

lines_next : (names : List (List ℕ)) (n : ℕ) (s t : SoFar) (lines : List SessionLine) → AreRead names s lines t
    → lines_from names n (record { opened = true; so_far = s }) (lines_of (lines_text lines)) ≡ Ok (record { opened = true; so_far = t })
lines_next names n s t [] same = rw (lines_of-nil, same) refl
lines_next names n s t (line ∷ lines) (next, first, others) =
    ap (λ (text : List ℕ). lines_from names n (record { opened = true; so_far = s }) (lines_of text)) (ap (λ (r : List ℕ). r ++ lines_text lines) first.spelled ∙ append_assoc first.line (10 ∷ []) (lines_text lines))
    ∙ ap (λ (ls : List (List ℕ)). lines_from names n (record { opened = true; so_far = s }) ls)
    (lines_of-line first.line (lines_text lines) (without_lf first.line first.plain.printable) ∙ ap (λ (l : List ℕ). l ∷ lines_of (lines_text lines)) (as_it_is first.line first.plain.printable))
    ∙ rw (line_next names s next first.line first.plain first.read) (lines_next names (n + 1) next t lines others)

-- ---- The whole text

opening_printable : list_all is_printable (codes "session 1") ≡ true
opening_printable = refl

opens : (names : List (List ℕ)) → next_line names at_first (codes "session 1") ≡ Ok (record { opened = true; so_far = nothing_read })
unfolding next_line plain_line is_word
opens names = refl

pub text_read : TextIsRead
unfolding session_text session_spelled report.line_of
text_read names n lines t are =
    ap (λ (text : List ℕ). lines_from names n at_first (lines_of text) >>= λ p. Ok p.so_far.session) (append_assoc (codes "session 1") (10 ∷ []) (lines_text lines))
    ∙ rw (lines_of-line (codes "session 1") (lines_text lines) (without_lf (codes "session 1") opening_printable), as_it_is (codes "session 1") opening_printable, opens names, lines_next names (n + 1) nothing_read t lines are) refl
