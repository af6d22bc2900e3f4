-- The words of a session line. For one word the kinds of fault are tested in the order number, range, hex, switch, app, raw.
-- This text form is our own.
use Rattle.std.specs.Prelude.{◌==◌, ℕ, ◌+◌, ◌*◌, ◌%◌, Bool, true, not, ◌&&◌, ◌||◌, List, [], ◌∷◌, length, Result, Ok, Err, nat_le, nat_lt, if◌then◌else◌, codes}
use Rattle.std.specs.List.{list_all, slice_split}
use Rattle.hex.specs.Hex.{decode_of}
use Rattle.hex.specs.declared.error.FromHexError.{FromHexError}
use Rattle.lego_model.specs.declared.session.SessionKind.{SessionKind}
use Rattle.lego_model.specs.declared.session.SessionKind.TheVariants.{Number, Range, Hex, App}
use Rattle.of_types.specs.Numerals.{is_numeral}
use Rattle.lego_model.specs.Words.{is_word, value_after}

-- the first of several results that is a fault stops the rest
infixl 10 ◌>>=◌
abbrev pub ◌>>=◌ : {A B : Type 0} → Result A SessionKind → (A → Result B SessionKind) → Result B SessionKind
(Ok x) >>= f = f x
(Err kind) >>= f = Err kind

-- a test that a line has to pass
abbrev pub unless : {A : Type 0} → Bool → SessionKind → Result A SessionKind → Result A SessionKind
unless failed kind next = if failed then Err kind else next

-- ---- Numbers: decimal, without a leading zero but for `0` itself, of any length

unfoldable pub a_number : ℕ → ℕ → List ℕ → Result ℕ SessionKind
a_number least most word =
    unless (not (is_numeral word)) Number
    (unless (nat_lt (value_after 0 word) least || nat_lt most (value_after 0 word)) Range
    (Ok (value_after 0 word)))

abbrev pub last_number : ℕ
last_number = 18446744073709551615

-- ---- Bytes in hexadecimal digits of either case. Where the number of digits is even, the number of bytes is tested first.

abbrev pub digits_read : Result (List ℕ) FromHexError → Result (List ℕ) SessionKind
digits_read (Ok bytes) = Ok bytes
digits_read (Err _) = Err Hex

abbrev pub is_sized : ℕ → ℕ → ℕ → Bool
is_sized least most digits = nat_le (2 * least) digits && nat_le digits (2 * most)

unfoldable pub some_bytes : ℕ → ℕ → List ℕ → Result (List ℕ) SessionKind
some_bytes least most word =
    unless (length word % 2 == 0 && not (is_sized least most (length word))) Range
    (unless (length word == 0) Hex
    (digits_read (decode_of word)))

-- ---- Ports: `-`, or at most 64 numbers from 1 to 65,280 joined by `,`, strictly ascending

abbrev pub ascends : List ℕ → Bool
ascends [] = true
ascends (port ∷ []) = true
ascends (port ∷ next ∷ more) = nat_lt port next && ascends (next ∷ more)

abbrev pub values_of : List (List ℕ) → List ℕ
values_of [] = []
values_of (piece ∷ pieces) = value_after 0 piece ∷ values_of pieces

abbrev pub is_port : ℕ → Bool
is_port port = nat_le 1 port && nat_le port 65280

abbrev pub are_ports : List ℕ → Bool
are_ports ports = list_all is_port ports && (ascends ports && nat_le (length ports) 64)

unfoldable pub listed_ports : List (List ℕ) → Result (List ℕ) SessionKind
listed_ports pieces =
    unless (not (list_all is_numeral pieces)) Number
    (unless (not (are_ports (values_of pieces))) Range
    (Ok (values_of pieces)))

unfoldable pub some_ports : List ℕ → Result (List ℕ) SessionKind
some_ports word = if is_word (codes "-") word then Ok [] else listed_ports (slice_split (λ b. b == 44) word)

-- ---- Applications, by their place among the names

abbrev pub place_among : ℕ → List (List ℕ) → List ℕ → Result ℕ SessionKind
place_among i [] word = Err App
place_among i (name ∷ names) word = if is_word name word then Ok i else place_among (i + 1) names word

unfoldable pub an_app : List (List ℕ) → List ℕ → Result ℕ SessionKind
an_app names word = place_among 0 names word

-- ---- Words that stand before or behind a byte

abbrev pub before : ℕ → List ℕ → List ℕ
before mark [] = []
before mark (b ∷ bytes) = if b == mark then [] else b ∷ before mark bytes

abbrev pub behind : ℕ → List ℕ → List ℕ
behind mark [] = []
behind mark (b ∷ bytes) = if b == mark then bytes else behind mark bytes
