-- The line of a reply is read as what it says.
use Rattle.std.specs.Prelude.{◌≡◌, ◌==◌, ℕ, suc, true, false, List, [], ◌∷◌, ◌++◌, length, map, All, codes, Ok, refl}
use Rattle.std.proofs.Common.{ap, ◌∙◌, arith, append_assoc}
use Rattle.std.proofs.lemmas.List.{append-nil}
use Rattle.std.proofs.lemmas.List.Elements.{All-cons}
use Rattle.hex.specs.Hex.{encode_lower}
use Rattle.app_frames.specs.declared.script.ScriptStep.{ScriptStep}
use Rattle.app_frames.specs.declared.script.ScriptStep.TheVariants.{Bytes, Closed, Silent}
use Rattle.lego_model.specs.Words.{words_of, is_word}
use Rattle.lego_model.specs.SessionWords.{last_number, an_app}
use Rattle.lego_model.specs.SessionSteps.{is_end, is_step, are_steps, step_of, word_step, headed_step, bytes_step, steps_of}
use Rattle.lego_model.specs.SessionLines.{SoFar, line_of, reply_line, with_reply}
use Rattle.session_record.specs.Lines.{step_text, steps_text}
use Rattle.session_record.specs.Readings.{IsInk, IsOneStep, AreSteps, ReplyIsRead}
use Rattle.session_record.specs.laws.ReadLaws.{spaced, last_word, hex_ink, bytes_read}
use Rattle.session_record.specs.laws.MoreReadLaws.{inked}

-- ---- The words

abbrev word_of : ScriptStep → List ℕ
word_of (Bytes bytes) = codes "x:" ++ encode_lower bytes
word_of Closed = codes "closed"
word_of Silent = codes "silent"

behind_space : (step : ScriptStep) (rest : List ℕ) → step_text step ++ rest ≡ 32 ∷ (word_of step ++ rest)
unfolding step_text
behind_space (Bytes bytes) rest = refl
behind_space Closed rest = refl
behind_space Silent rest = refl

step_ink : (step : ScriptStep) → IsOneStep step → All IsInk (word_of step)
step_ink (Bytes bytes) is = All-cons IsInk 120 (58 ∷ encode_lower bytes) refl (All-cons IsInk 58 (encode_lower bytes) refl (hex_ink bytes is.0))
step_ink Closed is = inked (codes "closed") refl
step_ink Silent is = inked (codes "silent") refl

-- behind a word
words_behind : (word : List ℕ) (steps : List ScriptStep) → All IsInk word → AreSteps steps → words_of (word ++ steps_text steps) ≡ word ∷ map word_of steps
words_behind word [] ink are = ap (λ (text : List ℕ). words_of text) (append-nil word) ∙ last_word word ink
words_behind word (step ∷ []) ink are =
    ap (λ (text : List ℕ). words_of (word ++ text)) (behind_space step [])
    ∙ spaced word (word_of step ++ []) ink
    ∙ ap (λ (ws : List (List ℕ)). word ∷ ws) (ap (λ (text : List ℕ). words_of text) (append-nil (word_of step)) ∙ last_word (word_of step) (step_ink step are))
words_behind word (Bytes bytes ∷ next ∷ steps) ink are =
    ap (λ (text : List ℕ). words_of (word ++ text)) (behind_space (Bytes bytes) (steps_text (next ∷ steps)))
    ∙ spaced word (word_of (Bytes bytes) ++ steps_text (next ∷ steps)) ink
    ∙ ap (λ (ws : List (List ℕ)). word ∷ ws) (words_behind (word_of (Bytes bytes)) (next ∷ steps) (step_ink (Bytes bytes) are.0) are.1)
words_behind word (Closed ∷ next ∷ steps) ink are = absurd are
words_behind word (Silent ∷ next ∷ steps) ink are = absurd are

-- ---- They are steps

bytes_are_step : (digits : List ℕ) → is_step (120 ∷ 58 ∷ digits) ≡ true
unfolding is_step is_end is_word
bytes_are_step digits = refl

bytes_are_no_end : (digits : List ℕ) → is_end (120 ∷ 58 ∷ digits) ≡ false
unfolding is_end is_word
bytes_are_no_end digits = refl

one_step : (step : ScriptStep) → is_step (word_of step) ≡ true
unfolding is_step is_end is_word
one_step (Bytes bytes) = bytes_are_step (encode_lower bytes)
one_step Closed = refl
one_step Silent = refl

all_steps : (steps : List ScriptStep) → AreSteps steps → are_steps (map word_of steps) ≡ true
all_steps [] are = refl
all_steps (step ∷ []) are = one_step step
all_steps (Bytes bytes ∷ next ∷ steps) are = rw (bytes_are_step (encode_lower bytes), bytes_are_no_end (encode_lower bytes)) (all_steps (next ∷ steps) are.1)
all_steps (Closed ∷ next ∷ steps) are = absurd are
all_steps (Silent ∷ next ∷ steps) are = absurd are

-- ---- What they give

headed : (digits : List ℕ) → step_of (120 ∷ 58 ∷ digits) ≡ bytes_step digits
unfolding step_of headed_step is_word
headed digits = refl

bytes_given : (bytes : List ℕ) → IsOneStep (Bytes bytes) → step_of (120 ∷ 58 ∷ encode_lower bytes) ≡ Ok (Bytes bytes)
unfolding bytes_step
bytes_given bytes is = headed (encode_lower bytes) ∙ rw (bytes_read 0 last_number bytes is.0 is.1 (omega arith) is.2) refl

given : (step : ScriptStep) → IsOneStep step → step_of (word_of step) ≡ Ok step
unfolding step_of word_step is_word
given (Bytes bytes) is = bytes_given bytes is
given Closed is = refl
given Silent is = refl

all_given : (steps : List ScriptStep) → AreSteps steps → steps_of (map word_of steps) ≡ Ok steps
all_given [] are = refl
all_given (step ∷ []) are = rw (given step are) refl
all_given (Bytes bytes ∷ next ∷ steps) are = rw (bytes_given bytes are.0, all_given (next ∷ steps) are.1) refl
all_given (Closed ∷ next ∷ steps) are = absurd are
all_given (Silent ∷ next ∷ steps) are = absurd are

-- ---- The line

reply_words : (rest : List ℕ) → words_of (codes "reply " ++ rest) ≡ codes "reply" ∷ words_of rest
unfolding words_of
reply_words rest = refl

reply_as : (names : List (List ℕ)) (s : SoFar) (app : List ℕ) (steps : List (List ℕ)) → line_of names s (codes "reply" ∷ app ∷ steps) ≡ reply_line names s app steps
unfolding line_of is_word
reply_as names s app steps = refl

reply_taken : (names : List (List ℕ)) (s : SoFar) (app : List ℕ) (i : ℕ) (step : ScriptStep) (steps : List ScriptStep) → an_app names app ≡ Ok i → AreSteps (step ∷ steps) → reply_line names s app (map word_of (step ∷ steps)) ≡ Ok (with_reply s (i, step ∷ steps))
unfolding reply_line
reply_taken names s app i step steps named are =
    let some : (suc (length (map word_of steps)) == 0) ≡ false = grind arith in
    rw (some, all_steps (step ∷ steps) are, named, all_given (step ∷ steps) are) refl

pub reply_read : ReplyIsRead
reply_read names s app i step steps ink named are =
    ap (λ (text : List ℕ). line_of names s (words_of text)) (append_assoc (codes "reply ") app (steps_text (step ∷ steps)))
    ∙ ap (λ (ws : List (List ℕ)). line_of names s ws) (reply_words (app ++ steps_text (step ∷ steps)) ∙ ap (λ (ws : List (List ℕ)). codes "reply" ∷ ws) (words_behind app (step ∷ steps) ink are))
    ∙ reply_as names s app (map word_of (step ∷ steps))
    ∙ reply_taken names s app i step steps named are
