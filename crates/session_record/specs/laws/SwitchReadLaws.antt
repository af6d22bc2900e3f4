-- The line of a switch is read as what it says.
use Rattle.std.specs.Prelude.{◌≡◌, ◌==◌, ℕ, ◌^◌, ◌<◌, ◌≤◌, true, false, ◌&&◌, List, [], ◌∷◌, ◌++◌, length, map, All, codes, Ok, refl, nat_le}
use Rattle.std.specs.Fmt.{decimal}
use Rattle.std.specs.List.{list_all, slice_split}
use Rattle.std.specs.Str.Parse.{AllDigits}
use Rattle.std.proofs.Common.{ap, ◌∙◌, arith}
use Rattle.std.proofs.lemmas.Bool.{leb-true}
use Rattle.std.proofs.lemmas.Fmt.{decimal_is_IsNumeral}
use Rattle.std.proofs.lemmas.List.{append-nil}
use Rattle.std.proofs.lemmas.List.Elements.{All-nil, All-cons, All-append}
use Rattle.std.proofs.lemmas.List.Splits.{slice_split_none, slice_split_at}
use Rattle.std.proofs.lemmas.Str.Parse.{digit_from_value}
use Rattle.of_types.specs.Numerals.{is_numeral}
use Rattle.lego_model.specs.Words.{words_of, is_word}
use Rattle.lego_model.specs.SessionWords.{last_number, is_port, ascends, are_ports, values_of, listed_ports, some_ports}
use Rattle.lego_model.specs.SessionLines.{SoFar, is_declared, a_new_switch, switch_line, line_of, fixed_line}
use Rattle.session_record.specs.Lines.{ports_behind, ports_text}
use Rattle.session_record.specs.Readings.{IsInk, SwitchIsRead}
use Rattle.session_record.specs.laws.NumberLaws.{number_read, decimal_value, decimal_is_numeral}
use Rattle.session_record.specs.laws.TextLaws.{both}
use Rattle.session_record.specs.laws.ReadLaws.{decimal_ink, three_words, in_three}

-- ---- Bytes that no number has

abbrev IsOther : ℕ → ℕ → Type 0
IsOther mark b = (b == mark) ≡ false

other_digit : (mark d : ℕ) → mark < 48 → 48 ≤ d → IsOther mark d
other_digit mark d below above = grind arith

other_digits : (mark : ℕ) (digits : List ℕ) → mark < 48 → AllDigits 10 digits → All (IsOther mark) digits
other_digits mark [] below each = All-nil (IsOther mark)
other_digits mark (d ∷ digits) below each = All-cons (IsOther mark) d digits (other_digit mark d below (digit_from_value d each.0).0) (other_digits mark digits below each.1)

-- ---- Ports

abbrev AreFit : List ℕ → Type 0
AreFit ports = list_all is_port ports ≡ true

fits : (port : ℕ) → is_port port ≡ true → port < 2 ^ 64
fits port is = omega (arith, leb-true port 65280 (both (nat_le 1 port) (nat_le port 65280) is).1)

-- the pieces between commas (44) are the ports
split : (port : ℕ) (ports : List ℕ) → is_port port ≡ true → AreFit ports → slice_split (λ b. b == 44) (decimal port ++ ports_behind ports) ≡ decimal port ∷ map decimal ports
split port [] is are =
    ap (λ (text : List ℕ). slice_split (λ b. b == 44) text) (append-nil (decimal port))
    ∙ slice_split_none (λ b. b == 44) (decimal port) (other_digits 44 (decimal port) (omega arith) (decimal_is_IsNumeral port (fits port is)).0.1)
split port (next ∷ ports) is are =
    let parts = both (is_port next) (list_all is_port ports) are in
    slice_split_at (λ b. b == 44) (decimal port) 44 (decimal next ++ ports_behind ports) (other_digits 44 (decimal port) (omega arith) (decimal_is_IsNumeral port (fits port is)).0.1) refl
    ∙ ap (λ (pieces : List (List ℕ)). decimal port ∷ pieces) (split next ports parts.0 parts.1)

are_numerals : (ports : List ℕ) → AreFit ports → list_all is_numeral (map decimal ports) ≡ true
are_numerals [] are = refl
are_numerals (port ∷ ports) are =
    let parts = both (is_port port) (list_all is_port ports) are in
    rw (decimal_is_numeral port (fits port parts.0)) (are_numerals ports parts.1)

values : (ports : List ℕ) → AreFit ports → values_of (map decimal ports) ≡ ports
values [] are = refl
values (port ∷ ports) are =
    let parts = both (is_port port) (list_all is_port ports) are in
    ap (λ (p : ℕ). p ∷ values_of (map decimal ports)) (decimal_value port (fits port parts.0)) ∙ ap (λ (ps : List ℕ). port ∷ ps) (values ports parts.1)

listed : (ports : List ℕ) → are_ports ports ≡ true → listed_ports (map decimal ports) ≡ Ok ports
unfolding listed_ports
listed ports are =
    let fit : AreFit ports = (both (list_all is_port ports) (ascends ports && nat_le (length ports) 64) are).0 in
    rw (are_numerals ports fit, values ports fit, are) refl

no_dash : (word rest : List ℕ) → 0 < length word → AllDigits 10 word → is_word (codes "-") (word ++ rest) ≡ false
unfolding is_word
no_dash [] rest some each = absurd (omega (arith, some))
no_dash (d ∷ word) rest some each = rw (other_digit 45 d (omega arith) (digit_from_value d each.0).0) refl

first_read : (port : ℕ) (ports : List ℕ) → are_ports (port ∷ ports) ≡ true → some_ports (decimal port ++ ports_behind ports) ≡ Ok (port ∷ ports)
unfolding some_ports
first_read port ports are =
    let parts = both (is_port port) (list_all is_port ports) (both (list_all is_port (port ∷ ports)) (ascends (port ∷ ports) && nat_le (length (port ∷ ports)) 64) are).0 in
    let is = decimal_is_IsNumeral port (fits port parts.0) in
    rw (no_dash (decimal port) (ports_behind ports) is.0.0 is.0.1, split port ports parts.0 parts.1) (listed (port ∷ ports) are)

none_read : some_ports (codes "-") ≡ Ok []
unfolding some_ports is_word
none_read = refl

ports_read : (ports : List ℕ) → are_ports ports ≡ true → some_ports (ports_text ports) ≡ Ok ports
unfolding ports_text
ports_read [] are = none_read
ports_read (port ∷ ports) are = first_read port ports are

behind_ink : (ports : List ℕ) → AreFit ports → All IsInk (ports_behind ports)
behind_ink [] are = All-nil IsInk
behind_ink (port ∷ ports) are =
    let parts = both (is_port port) (list_all is_port ports) are in
    All-cons IsInk 44 (decimal port ++ ports_behind ports) refl (All-append IsInk (decimal port) (ports_behind ports) (decimal_ink port (fits port parts.0)) (behind_ink ports parts.1))

ports_ink : (ports : List ℕ) → AreFit ports → All IsInk (ports_text ports)
unfolding ports_text
ports_ink [] are = All-cons IsInk 45 [] refl (All-nil IsInk)
ports_ink (port ∷ ports) are =
    let parts = both (is_port port) (list_all is_port ports) are in
    All-append IsInk (decimal port) (ports_behind ports) (decimal_ink port (fits port parts.0)) (behind_ink ports parts.1)

-- ---- The line

new_read : (s : SoFar) (d : ℕ) → 1 ≤ d → d ≤ last_number → is_declared s d ≡ false → a_new_switch s (decimal d) ≡ Ok d
unfolding a_new_switch
new_read s d above below named = rw (number_read 1 last_number d (omega (arith, below)) above below, named) refl

switch_words : (rest : List ℕ) → words_of (codes "switch " ++ rest) ≡ codes "switch" ∷ words_of rest
unfolding words_of
switch_words rest = refl

switch_as : (names : List (List ℕ)) (s : SoFar) (one two three : List ℕ) → line_of names s (codes "switch" ∷ one ∷ two ∷ three ∷ []) ≡ switch_line s one two three
unfolding line_of fixed_line is_word
switch_as names s one two three = refl

pub switch_is_read : SwitchIsRead
unfolding switch_line
switch_is_read names s d above below named few some most are =
    let number_fits : d.dpid < 2 ^ 64 = omega (arith, below) in
    let cap_fits : d.cap < 2 ^ 64 = omega (arith, most) in
    let fit : AreFit d.ports = (both (list_all is_port d.ports) (ascends d.ports && nat_le (length d.ports) 64) are).0 in
    ap (λ (line : List ℕ). line_of names s (words_of line)) (in_three (codes "switch ") (decimal d.dpid) (decimal d.cap) (ports_text d.ports))
    ∙ ap (λ (ws : List (List ℕ)). line_of names s ws)
    (switch_words (decimal d.dpid ++ 32 ∷ (decimal d.cap ++ 32 ∷ ports_text d.ports))
    ∙ ap (λ (ws : List (List ℕ)). codes "switch" ∷ ws) (three_words (decimal d.dpid) (decimal d.cap) (ports_text d.ports) (decimal_ink d.dpid number_fits) (decimal_ink d.cap cap_fits) (ports_ink d.ports fit)))
    ∙ switch_as names s (decimal d.dpid) (decimal d.cap) (ports_text d.ports)
    ∙ rw (new_read s d.dpid above below named, number_read 1 4096 d.cap cap_fits some most, ports_read d.ports are, few) refl
