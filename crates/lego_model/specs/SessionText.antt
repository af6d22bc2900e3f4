-- The text of a session: lines, of which the empty ones and those that begin with `#` are passed over. The first of the others
-- is `session 1`. This text form is our own.
use Rattle.std.specs.Prelude.{◌==◌, ℕ, ◌+◌, Bool, true, false, not, ◌&&◌, List, [], ◌∷◌, length, Result, Ok, Err, nat_le, nat_lt, if◌then◌else◌, codes}
use Rattle.std.specs.List.{list_all}
use Rattle.lego_io.specs.Lines.{lines_of, most_line}
use Rattle.lego_model.specs.declared.session.SessionKind.{SessionKind}
use Rattle.lego_model.specs.declared.session.SessionKind.TheVariants.{Long, Text, Order}
use Rattle.lego_model.specs.declared.session.SessionFault.{SessionFault}
use Rattle.lego_model.specs.Words.{words_of, is_word}
use Rattle.lego_model.specs.SessionWords.{unless}
use Rattle.lego_model.specs.SessionLines.{SessionValue, SoFar, no_session, line_of}

-- what has been read, and whether the line `session 1` was
pub record Progress : Type 0 where
  pub opened : Bool
  pub so_far : SoFar

abbrev pub at_first : Progress
at_first = record { opened = false; so_far = record { session = no_session; moment = 0 } }

abbrev pub is_skipped : List ℕ → Bool
is_skipped [] = true
is_skipped (b ∷ bytes) = b == 35

-- a character that is seen, or a space
abbrev pub is_printable : ℕ → Bool
is_printable b = nat_le 0x20 b && nat_le b 0x7e

abbrev pub going_on : Result SoFar SessionKind → Result Progress SessionKind
going_on (Ok s) = Ok (record { opened = true; so_far = s })
going_on (Err kind) = Err kind

abbrev pub is_opening : List ℕ → Bool
is_opening line = is_word (codes "session 1") line

-- a line that is neither too long nor passed over, with printable characters alone
unfoldable pub plain_line : List (List ℕ) → Progress → List ℕ → Result Progress SessionKind
plain_line names p line =
    if p.opened
    then unless (is_opening line) Order (going_on (line_of names p.so_far (words_of line)))
    else unless (not (is_opening line)) Order (Ok (record p { opened = true }))

unfoldable pub next_line : List (List ℕ) → Progress → List ℕ → Result Progress SessionKind
next_line names p line =
    unless (nat_lt most_line (length line)) Long
    (if is_skipped line then Ok p
    else unless (not (list_all is_printable line)) Text (plain_line names p line))

-- ---- The whole text

infixl 10 ◌>>=◌
abbrev pub ◌>>=◌ : {A B : Type 0} → Result A SessionFault → (A → Result B SessionFault) → Result B SessionFault
(Ok x) >>= f = f x
(Err fault) >>= f = Err fault

abbrev pub in_line : {A : Type 0} → ℕ → Result A SessionKind → Result A SessionFault
in_line n (Ok x) = Ok x
in_line n (Err kind) = Err (record { line = n; kind = kind })

-- lines, the first of which is the n-th of the input
abbrev pub lines_from : List (List ℕ) → ℕ → Progress → List (List ℕ) → Result Progress SessionFault
lines_from names n p [] = Ok p
lines_from names n p (line ∷ lines) = in_line n (next_line names p line) >>= λ q. lines_from names (n + 1) q lines

-- The session that a text spells, or its first fault. The names are those of the applications; the first line is the n-th of
-- the input.
unfoldable pub session_text : List (List ℕ) → ℕ → List ℕ → Result SessionValue SessionFault
session_text names n text = lines_from names n at_first (lines_of text) >>= λ p. Ok p.so_far.session
