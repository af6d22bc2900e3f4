-- What follows about the lines of a text: its lines are known where the text is put together of lines.
use Rattle.std.specs.Prelude.{◌≡◌, ◌≢◌, ℕ, suc, ◌<◌, false, List, [], ◌∷◌, ◌++◌, length, All, refl}
use Rattle.std.proofs.Common.{inl, inr, arith, eqb, ◌+◌, ◌-◌, ◌≤◌, Bool, true, get_or, take, drop, None, Some, sym, ap, ◌∙◌, take-append-drop, drop-cons, add-one}
use Rattle.std.proofs.lemmas.Bool.Decides.{eqb_tells}
use Rattle.lego_io.specs.Lines.{cut_at_lf, without_cr, lines_of}
use Rattle.std.specs.List.{position, position_or_len}
use Rattle.std.proofs.lemmas.Grind.{common_steps, get_or_default_zero}
use Rattle.std.proofs.lemmas.List.{get_or-take, length-take, take_rest}
use Rattle.std.proofs.lemmas.List.Quantifiers.{position-Some}
use Rattle.std.proofs.lemmas.List.Sums.{fails_before_first}
use Rattle.std.proofs.lemmas.Bool.{eqb-true, eqb-false}

eqb-no : (a b : ℕ) → a ≢ b → eqb a b ≡ false
eqb-no a b ne = elim (eqb_tells a b) [ inl same ↦ absurd (ne same.1) | inr other ↦ other.0 ]

All-rest : (P : ℕ → Type 0) (byte : ℕ) (line : List ℕ) → All P (byte ∷ line) → All P line
All-rest P byte line each k d lt = each (suc k) d (omega arith)

All-first : (P : ℕ → Type 0) (byte : ℕ) (line : List ℕ) → All P (byte ∷ line) → P byte
All-first P byte line each = each 0 0 (omega arith)

-- ---- cutting

pub cut_at_lf-line : (line rest : List ℕ) → All (λ byte. byte ≢ 10) line → cut_at_lf (line ++ 10 ∷ rest) ≡ line ∷ cut_at_lf rest
unfolding cut_at_lf
cut_at_lf-line [] rest each = refl
cut_at_lf-line (byte ∷ line) rest each =
    rw (eqb-no byte 10 (All-first (λ b. b ≢ 10) byte line each), cut_at_lf-line line rest (All-rest (λ b. b ≢ 10) byte line each)) refl

pub cut_at_lf-last : (line : List ℕ) → 0 < length line → All (λ byte. byte ≢ 10) line → cut_at_lf line ≡ line ∷ []
unfolding cut_at_lf
cut_at_lf-last [] some each = absurd (omega arith)
cut_at_lf-last (byte ∷ []) some each = rw (eqb-no byte 10 (All-first (λ b. b ≢ 10) byte [] each)) refl
cut_at_lf-last (byte ∷ next ∷ line) some each =
    rw (eqb-no byte 10 (All-first (λ b. b ≢ 10) byte (next ∷ line) each), cut_at_lf-last (next ∷ line) (omega arith) (All-rest (λ b. b ≢ 10) byte (next ∷ line) each)) refl

-- ---- the lines

pub lines_of-nil : lines_of [] ≡ []
unfolding lines_of cut_at_lf
lines_of-nil = refl

-- a line that LF ends
pub lines_of-line : (line rest : List ℕ) → All (λ byte. byte ≢ 10) line → lines_of (line ++ 10 ∷ rest) ≡ without_cr line ∷ lines_of rest
unfolding lines_of
lines_of-line line rest each = rw (cut_at_lf-line line rest each) refl

-- a line that the text's end ends
pub lines_of-last : (line : List ℕ) → 0 < length line → All (λ byte. byte ≢ 10) line → lines_of line ≡ without_cr line ∷ []
unfolding lines_of
lines_of-last line some each = rw (cut_at_lf-last line some each) refl

-- ---- where the first LF stands

abbrev pub is_lf : ℕ → Bool
is_lf byte = eqb byte 10

is_other : (text : List ℕ) (k d : ℕ) → k < length text → is_lf (get_or text k 0) ≡ false → get_or text k d ≢ 10
is_other text k d lt other e = eqb-false (get_or text k 0) 10 other (sym (get_or_default_zero text k d lt) ∙ e)

pub no_lf_before : (text : List ℕ) (end : ℕ) → end ≤ length text → ((k : ℕ) → k < end → is_lf (get_or text k 0) ≡ false) → All (λ byte. byte ≢ 10) (take end text)
no_lf_before text end within before k d lt =
    let below : k < end = omega (arith, length-take end text) in
    rw (get_or-take end text k d below) (is_other text k d (omega arith) (before k below))

pub cut_there : (text : List ℕ) (end : ℕ) → end < length text → is_lf (get_or text end 0) ≡ true → text ≡ take end text ++ 10 ∷ drop (end + 1) text
cut_there text end within here =
    rw add-one (sym (take-append-drop end text) ∙ ap (λ (rest : List ℕ). take end text ++ rest) (drop-cons text end 0 within ∙ ap (λ (byte : ℕ). byte ∷ drop (suc end) text) (eqb-true _ _ here)))

pub lines_of-some : (text : List ℕ) (end : ℕ) → position is_lf text ≡ Some end → lines_of text ≡ without_cr (take end text) ∷ lines_of (take (length text - (end + 1)) (drop (end + 1) text))
lines_of-some text end found =
    let at = position-Some is_lf text end 0 found in
    ap lines_of (cut_there text end at.0 at.1) ∙ lines_of-line (take end text) (drop (end + 1) text) (no_lf_before text end (omega (arith, at.0)) at.2)
    ∙ ap (λ (rest : List ℕ). without_cr (take end text) ∷ lines_of rest) (sym (take_rest text (end + 1)))

pub lines_of-none : (text : List ℕ) → 0 < length text → position is_lf text ≡ None → lines_of text ≡ without_cr text ∷ lines_of []
lines_of-none text some none =
    let past : length text ≤ position_or_len is_lf text = grind (arith, common_steps) in
    lines_of-last text some (λ k d lt. is_other text k d lt (fails_before_first is_lf text k 0 (omega arith))) ∙ ap (λ (ls : List (List ℕ)). without_cr text ∷ ls) (sym lines_of-nil)
