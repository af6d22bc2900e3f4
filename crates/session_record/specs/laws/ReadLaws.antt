-- Each line of a stimulus or of a loss is read as what it says: it adds that to the session so far.
use Rattle.std.specs.Prelude.{◌≡◌, ◌==◌, ℕ, ◌^◌, ◌<◌, ◌≤◌, ◌*◌, ◌%◌, Bool, true, false, ◌&&◌, List, [], ◌∷◌, ◌++◌, length, All, codes, Ok, refl}
use Rattle.std.specs.Fmt.{decimal}
use Rattle.std.specs.Str.Parse.{AllDigits}
use Rattle.std.proofs.Common.{ap, ◌∙◌, subst, inl, inr, arith, append_assoc}
use Rattle.std.proofs.lemmas.Bool.Decides.{eqb_tells}
use Rattle.std.proofs.lemmas.Bool.{le-leb, le-ltb}
use Rattle.std.proofs.lemmas.Fmt.{decimal_is_IsNumeral}
use Rattle.std.proofs.lemmas.List.Elements.{All-nil, All-cons}
use Rattle.std.proofs.lemmas.List.Splits.{slice_split_none, slice_split_at}
use Rattle.std.proofs.lemmas.Str.Parse.{digit_from_value}
use Rattle.hex.specs.Hex.{encode_lower, is_hex_digit, IsBytes}
use Rattle.hex.proofs.HexLemmas.{decode_of-encode_lower, decode_of-ok}
use Rattle.lego_model.specs.Words.{words_of, is_word}
use Rattle.lego_model.specs.SessionWords.{last_number, some_bytes}
use Rattle.lego_model.specs.SessionLines.{SoFar, is_declared, a_switch, line_of, fixed_line, join_line, leave_line, at_line, frame_line, raw_line, fault_line}
use Rattle.session_record.specs.Readings.{IsInk, JoinIsRead, LeaveIsRead, MomentIsRead, RawIsRead, LossIsRead, FrameIsRead}
use Rattle.session_record.specs.laws.NumberLaws.{number_read}

-- ---- Words without a space

digit_ink : (d : ℕ) → 48 ≤ d → IsInk d
digit_ink d above = grind arith

digits_ink : (digits : List ℕ) → AllDigits 10 digits → All IsInk digits
digits_ink [] each = All-nil IsInk
digits_ink (d ∷ digits) each = All-cons IsInk d digits (digit_ink d (digit_from_value d each.0).0) (digits_ink digits each.1)

pub decimal_ink : (n : ℕ) → n < 2 ^ 64 → All IsInk (decimal n)
decimal_ink n fits = digits_ink (decimal n) (decimal_is_IsNumeral n fits).0.1

hex_digit_ink : (c : ℕ) → is_hex_digit c ≡ true → IsInk c
hex_digit_ink c digit = elim (eqb_tells c 32) [
  | inl same ↦ absurd (is_none (subst (λ (x : ℕ). is_hex_digit x ≡ true) same.1 digit))
  | inr other ↦ other.0
]
  where
    is_none : is_hex_digit 32 ≡ true → ⊥
    is_none digit = cc

pub hex_ink : (bytes : List ℕ) → IsBytes bytes → All IsInk (encode_lower bytes)
hex_ink bytes are k d less = hex_digit_ink _ ((decode_of-ok (encode_lower bytes) bytes (decode_of-encode_lower bytes are)).1 k d less)

-- a word, and a space behind it
pub spaced : (word rest : List ℕ) → All IsInk word → words_of (word ++ 32 ∷ rest) ≡ word ∷ words_of rest
unfolding words_of
spaced word rest ink = slice_split_at (λ b. b == 32) word 32 rest ink refl

pub last_word : (word : List ℕ) → All IsInk word → words_of word ≡ word ∷ []
unfolding words_of
last_word word ink = slice_split_none (λ b. b == 32) word ink

-- ---- Bytes

pub bytes_read : (least most : ℕ) (bytes : List ℕ) → IsBytes bytes → 1 ≤ length bytes → least ≤ length bytes → length bytes ≤ most → some_bytes least most (encode_lower bytes) ≡ Ok bytes
unfolding some_bytes
bytes_read least most bytes are some above below =
    let ok = decode_of-ok (encode_lower bytes) bytes (decode_of-encode_lower bytes are) in
    rw (decode_of-encode_lower bytes are, ok.2, le-leb (2 * least) (2 * length bytes) (omega arith), le-leb (2 * length bytes) (2 * most) (omega arith), both_false (2 * length bytes % 2 == 0), not_none (length bytes) some) refl
  where
    not_none : (n : ℕ) → 1 ≤ n → (2 * n == 0) ≡ false
    not_none n some = grind arith

    both_false : (b : Bool) → (b && false) ≡ false
    both_false true = refl
    both_false false = refl

-- ---- Switches and room

pub switch_read : (s : SoFar) (d : ℕ) → 1 ≤ d → d ≤ last_number → is_declared s d ≡ true → a_switch s (decimal d) ≡ Ok d
unfolding a_switch
switch_read s d above below named = rw (number_read 1 last_number d (omega (arith, below)) above below, named) refl

-- ---- Lines

join_words : (rest : List ℕ) → words_of (codes "join " ++ rest) ≡ codes "join" ∷ words_of rest
unfolding words_of
join_words rest = refl

join_as : (names : List (List ℕ)) (s : SoFar) (word : List ℕ) → line_of names s (codes "join" ∷ word ∷ []) ≡ join_line s word
unfolding line_of fixed_line is_word
join_as names s word = refl

pub join_read : JoinIsRead
unfolding join_line
join_read names s d above below named room =
    ap (λ (ws : List (List ℕ)). line_of names s ws) (join_words (decimal d) ∙ ap (λ (ws : List (List ℕ)). codes "join" ∷ ws) (last_word (decimal d) (decimal_ink d (omega (arith, below)))))
    ∙ join_as names s (decimal d)
    ∙ rw (switch_read s d above below named, room) refl

leave_words : (rest : List ℕ) → words_of (codes "leave " ++ rest) ≡ codes "leave" ∷ words_of rest
unfolding words_of
leave_words rest = refl

leave_as : (names : List (List ℕ)) (s : SoFar) (word : List ℕ) → line_of names s (codes "leave" ∷ word ∷ []) ≡ leave_line s word
unfolding line_of fixed_line is_word
leave_as names s word = refl

pub leave_read : LeaveIsRead
unfolding leave_line
leave_read names s d above below named room =
    ap (λ (ws : List (List ℕ)). line_of names s ws) (leave_words (decimal d) ∙ ap (λ (ws : List (List ℕ)). codes "leave" ∷ ws) (last_word (decimal d) (decimal_ink d (omega (arith, below)))))
    ∙ leave_as names s (decimal d)
    ∙ rw (switch_read s d above below named, room) refl

at_words : (rest : List ℕ) → words_of (codes "at " ++ rest) ≡ codes "at" ∷ words_of rest
unfolding words_of
at_words rest = refl

at_as : (names : List (List ℕ)) (s : SoFar) (word : List ℕ) → line_of names s (codes "at" ∷ word ∷ []) ≡ at_line s word
unfolding line_of fixed_line is_word
at_as names s word = refl

pub at_read : MomentIsRead
unfolding at_line
at_read names s moment below later room =
    let fits : moment < 2 ^ 64 = omega (arith, below) in
    ap (λ (ws : List (List ℕ)). line_of names s ws) (at_words (decimal moment) ∙ ap (λ (ws : List (List ℕ)). codes "at" ∷ ws) (last_word (decimal moment) (decimal_ink moment fits)))
    ∙ at_as names s (decimal moment)
    ∙ rw (number_read 0 4294967295 moment fits (omega arith) below, room, le-ltb moment s.moment later) refl

-- ---- Lines of more words

pub two_words : (one two : List ℕ) → All IsInk one → All IsInk two → words_of (one ++ 32 ∷ two) ≡ one ∷ two ∷ []
two_words one two first second = spaced one two first ∙ ap (λ (ws : List (List ℕ)). one ∷ ws) (last_word two second)

pub three_words : (one two three : List ℕ) → All IsInk one → All IsInk two → All IsInk three → words_of (one ++ 32 ∷ (two ++ 32 ∷ three)) ≡ one ∷ two ∷ three ∷ []
three_words one two three first second third = spaced one (two ++ 32 ∷ three) first ∙ ap (λ (ws : List (List ℕ)). one ∷ ws) (two_words two three second third)

-- what is written with a space between each two, in the order in which it is written
pub in_two : (head one two : List ℕ) → head ++ one ++ codes " " ++ two ≡ head ++ (one ++ 32 ∷ two)
in_two head one two = append_assoc (head ++ one) (codes " ") two ∙ append_assoc head one (32 ∷ two)

pub in_three : (head one two three : List ℕ) → head ++ one ++ codes " " ++ two ++ codes " " ++ three ≡ head ++ (one ++ 32 ∷ (two ++ 32 ∷ three))
in_three head one two three =
    append_assoc (head ++ one ++ codes " " ++ two) (codes " ") three
    ∙ ap (λ (r : List ℕ). r ++ 32 ∷ three) (in_two head one two)
    ∙ append_assoc head (one ++ 32 ∷ two) (32 ∷ three)
    ∙ ap (λ (r : List ℕ). head ++ r) (append_assoc one (32 ∷ two) (32 ∷ three))

raw_words : (rest : List ℕ) → words_of (codes "raw " ++ rest) ≡ codes "raw" ∷ words_of rest
unfolding words_of
raw_words rest = refl

raw_as : (names : List (List ℕ)) (s : SoFar) (one two : List ℕ) → line_of names s (codes "raw" ∷ one ∷ two ∷ []) ≡ raw_line s one two
unfolding line_of fixed_line is_word
raw_as names s one two = refl

pub raw_read : RawIsRead
unfolding raw_line
raw_read names s d bytes above below named room are some few may =
    ap (λ (line : List ℕ). line_of names s (words_of line)) (in_two (codes "raw ") (decimal d) (encode_lower bytes))
    ∙ ap (λ (ws : List (List ℕ)). line_of names s ws)
    (raw_words (decimal d ++ 32 ∷ encode_lower bytes) ∙ ap (λ (ws : List (List ℕ)). codes "raw" ∷ ws) (two_words (decimal d) (encode_lower bytes) (decimal_ink d (omega (arith, below))) (hex_ink bytes are)))
    ∙ raw_as names s (decimal d) (encode_lower bytes)
    ∙ rw (switch_read s d above below named, bytes_read 0 65535 bytes are some (omega arith) few, may, room) refl

fault_words : (rest : List ℕ) → words_of (codes "fault link " ++ rest) ≡ codes "fault" ∷ codes "link" ∷ words_of rest
unfolding words_of
fault_words rest = refl

fault_as : (names : List (List ℕ)) (s : SoFar) (one two : List ℕ) → line_of names s (codes "fault" ∷ codes "link" ∷ one ∷ two ∷ []) ≡ fault_line s (codes "link") one two
unfolding line_of fixed_line is_word
fault_as names s one two = refl

pub fault_read : LossIsRead
unfolding fault_line is_word
fault_read names s d call above below named first last =
    let fits : d < 2 ^ 64 = omega (arith, below) in
    let call_fits : call < 2 ^ 64 = omega (arith, last) in
    ap (λ (line : List ℕ). line_of names s (words_of line)) (in_two (codes "fault link ") (decimal d) (decimal call))
    ∙ ap (λ (ws : List (List ℕ)). line_of names s ws)
    (fault_words (decimal d ++ 32 ∷ decimal call) ∙ ap (λ (ws : List (List ℕ)). codes "fault" ∷ codes "link" ∷ ws) (two_words (decimal d) (decimal call) (decimal_ink d fits) (decimal_ink call call_fits)))
    ∙ fault_as names s (decimal d) (decimal call)
    ∙ rw (switch_read s d above below named, number_read 1 last_number call call_fits first last) refl

frame_words : (rest : List ℕ) → words_of (codes "frame " ++ rest) ≡ codes "frame" ∷ words_of rest
unfolding words_of
frame_words rest = refl

frame_as : (names : List (List ℕ)) (s : SoFar) (one two three : List ℕ) → line_of names s (codes "frame" ∷ one ∷ two ∷ three ∷ []) ≡ frame_line s one two three
unfolding line_of fixed_line is_word
frame_as names s one two three = refl

pub frame_read : FrameIsRead
unfolding frame_line
frame_read names s d port bytes above below named room small are some few =
    let fits : d < 2 ^ 64 = omega (arith, below) in
    let port_fits : port < 2 ^ 64 = omega (arith, small) in
    ap (λ (line : List ℕ). line_of names s (words_of line)) (in_three (codes "frame ") (decimal d) (decimal port) (encode_lower bytes))
    ∙ ap (λ (ws : List (List ℕ)). line_of names s ws)
    (frame_words (decimal d ++ 32 ∷ (decimal port ++ 32 ∷ encode_lower bytes))
    ∙ ap (λ (ws : List (List ℕ)). codes "frame" ∷ ws) (three_words (decimal d) (decimal port) (encode_lower bytes) (decimal_ink d fits) (decimal_ink port port_fits) (hex_ink bytes are)))
    ∙ frame_as names s (decimal d) (decimal port) (encode_lower bytes)
    ∙ rw (switch_read s d above below named, number_read 0 65535 port port_fits (omega arith) small, bytes_read 14 9216 bytes are (omega arith) some few, room) refl
