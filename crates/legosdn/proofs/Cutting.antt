-- The first separator of a text.
use Rattle.std.proofs.Common.{◌≡◌, ◌⊎◌, ℕ, ◌+◌, ◌-◌, ◌<◌, ◌≤◌, Bool, true, false, List, [], ◌∷◌, ◌++◌, length, map, take, drop, Some, refl, sym, ap, ◌∙◌, arith, codes, inl, inr, append_assoc, append-nil, length-append}
use Rattle.std.specs.Str.{bytes_eq}
use Rattle.std.specs.List.{position}
use Rattle.std.proofs.lemmas.Bool.{cases_Bool, le-ltb}
use Rattle.std.proofs.lemmas.List.{take_rest}
use Rattle.std.proofs.lemmas.Slice.Eq.{bytes_eq-Decides}
use Rattle.std.proofs.lemmas.List.Quantifiers.{position-Some}
use Rattle.std.proofs.Math.Seq.{take-append_seam}
use Rattle.lego_io.specs.Lines.{cut_at_lf, without_cr, lines_of, most_line}
use Rattle.lego_io.specs.laws.LinesLaws.{cut_at_lf-line, is_lf, no_lf_before, cut_there}
use Rattle.lego_model.specs.Words.{is_word}
use Rattle.legosdn.specs.Input.{most_input, is_separator, before_separator, policy_text, behind_separator, session_behind, session_of}

-- ---- The separator

three : (line : List ℕ) → most_line < length line → line ≡ codes "---" → ⊥
three line long e = let few : length line ≡ 3 = ap length e in omega arith

pub long_is_none : (line : List ℕ) → most_line < length line → is_separator line ≡ false
unfolding is_word
long_is_none line long = elim (cases_Bool (bytes_eq line (codes "---"))) [ inl same ↦ absurd (three line long ((bytes_eq-Decides line (codes "---")).0 same)) | inr other ↦ other ]

-- ---- A line that LF ends, and what stands behind it

abbrev pub FirstLine : List ℕ → List ℕ → Type 0
FirstLine text rest = (line : List ℕ) × (text ≡ line ++ 10 ∷ rest) × (cut_at_lf text ≡ line ∷ cut_at_lf rest)

pub first_line : (text : List ℕ) (end : ℕ) → position is_lf text ≡ Some end → FirstLine text (take (length text - (end + 1)) (drop (end + 1) text))
first_line text end found =
    let at = position-Some is_lf text end 0 found in
    let whole = cut_there text end at.0 at.1 in
    let rest = sym (take_rest text (end + 1)) in (
      take end text,
      whole ∙ ap (λ (bytes : List ℕ). take end text ++ 10 ∷ bytes) rest,
      ap cut_at_lf whole ∙ cut_at_lf-line (take end text) (drop (end + 1) text) (no_lf_before text end (omega (arith, at.0)) at.2) ∙ ap (λ (bytes : List ℕ). take end text ∷ cut_at_lf bytes) rest,
    )

-- ---- How far the search for the separator has come

-- the text before what is left, of which no line is the separator
pub record Passed (input rest : List ℕ) : Type 0 where
  pub front : List ℕ
  pub whole : input ≡ front ++ rest
  pub before : before_separator (cut_at_lf input) ≡ front ++ before_separator (cut_at_lf rest)

-- the lines left are numbered from here
pub record Reached (input rest : List ℕ) (number : ℕ) : Type 0 where
  pub left : behind_separator 1 (lines_of input) ≡ behind_separator number (lines_of rest)
  pub counted : 1 ≤ number
  pub within : number + length rest ≤ length input + 1
  pub first : number ≡ 1 → length rest ≡ length input
  pub passed : (rest ≡ []) ⊎ Passed input rest

-- what a test of the first line says, where there is one
abbrev pub Tells : Bool → List ℕ → Type 0
Tells answer text = (line : List ℕ) → (lines : List (List ℕ)) → lines_of text ≡ line ∷ lines → answer ≡ is_separator line

line_before : (line : List ℕ) (cuts : List (List ℕ)) → is_separator (without_cr line) ≡ false → before_separator (line ∷ cuts) ≡ line ++ 10 ∷ before_separator cuts
line_before line cuts other = rw other refl

line_passed : (input rest behind : List ℕ) → Passed input rest → FirstLine rest behind → Tells false rest → Passed input behind
unfolding lines_of
line_passed input rest behind p (line, whole, cut) tells =
    let other = sym (tells (without_cr line) (lines_of behind) (ap (map without_cr) cut)) in
    let joined = λ (bytes : List ℕ). append_assoc p.front (line ++ 10 ∷ []) bytes ∙ ap (λ (xs : List ℕ). p.front ++ xs) (append_assoc line (10 ∷ []) bytes) in
    record {
      front = p.front ++ (line ++ 10 ∷ []);
      whole = p.whole ∙ ap (λ (xs : List ℕ). p.front ++ xs) whole ∙ sym (joined behind);
      before = p.before ∙ ap (λ (cuts : List (List ℕ)). p.front ++ before_separator cuts) cut ∙ ap (λ (xs : List ℕ). p.front ++ xs) (line_before line (cut_at_lf behind) other) ∙ sym (joined (before_separator (cut_at_lf behind)));
    }

passes_on : (input rest behind : List ℕ) → 0 < length rest → (rest ≡ []) ⊎ Passed input rest → (behind ≡ []) ⊎ FirstLine rest behind → Tells false rest → (behind ≡ []) ⊎ Passed input behind
passes_on input rest behind some (inl none) found tells = absurd (let few : length rest ≡ 0 = ap length none in omega (arith, some, few))
passes_on input rest behind some (inr p) (inl none) tells = inl none
passes_on input rest behind some (inr p) (inr first) tells = inr (line_passed input rest behind p first tells)

line_left : (number : ℕ) (line : List ℕ) (lines : List (List ℕ)) → is_separator line ≡ false → behind_separator number (line ∷ lines) ≡ behind_separator (number + 1) lines
line_left number line lines other = rw other refl

-- past a line that is none
pub goes_on : (input rest behind : List ℕ) (number : ℕ) → Reached input rest number → 0 < length rest → length behind < length rest → (behind ≡ []) ⊎ FirstLine rest behind → (line : List ℕ) × (lines_of rest ≡ line ∷ lines_of behind) → Tells false rest
    → Reached input behind (number + 1)
goes_on input rest behind number reached some shorter found first tells = record {
  left = reached.left ∙ ap (behind_separator number) first.1 ∙ line_left number first.0 (lines_of behind) (sym (tells first.0 (lines_of behind) first.1));
  counted = omega (arith, reached.counted);
  within = omega (arith, reached.within, shorter);
  first = λ one. absurd (let counted = reached.counted in omega (arith, counted, one));
  passed = passes_on input rest behind some reached.passed found tells;
}

-- ---- What stands before it

none_before : (cuts : List (List ℕ)) → ((line : List ℕ) → (lines : List (List ℕ)) → map without_cr cuts ≡ line ∷ lines → true ≡ is_separator line) → before_separator cuts ≡ []
none_before [] tells = refl
none_before (cut ∷ cuts) tells = rw (sym (tells (without_cr cut) (map without_cr cuts) refl)) refl

passed_is : (input rest : List ℕ) → Passed input rest → Tells true rest → take (length input - length rest) input ≡ policy_text input
unfolding lines_of policy_text
passed_is input rest p tells =
    let few : length input ≡ length p.front + length rest = ap length p.whole ∙ length-append p.front rest in
    let count : length input - length rest ≡ length p.front = omega (arith, few) in
    ap (λ (n : ℕ). take n input) count ∙ ap (take (length p.front)) p.whole ∙ take-append_seam p.front rest
    ∙ sym (p.before ∙ ap (λ (xs : List ℕ). p.front ++ xs) (none_before (cut_at_lf rest) tells) ∙ append-nil p.front)

pub policy_before : (input rest : List ℕ) → 0 < length rest → (rest ≡ []) ⊎ Passed input rest → Tells true rest → take (length input - length rest) input ≡ policy_text input
policy_before input rest some (inl none) tells = absurd (let few : length rest ≡ 0 = ap length none in omega (arith, some, few))
policy_before input rest some (inr p) tells = passed_is input rest p tells

-- ---- What an input spells

pub session_is : (input : List ℕ) → length input ≤ most_input → session_of input ≡ session_behind (policy_text input) (behind_separator 1 (lines_of input))
unfolding session_of
session_is input within = rw (le-ltb most_input (length input) within) refl
