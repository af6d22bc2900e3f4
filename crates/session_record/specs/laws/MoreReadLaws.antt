-- The lines of ports, counts and starts are read as what they say.
use Rattle.std.specs.Prelude.{◌≡◌, ◌==◌, ℕ, ◌^◌, ◌<◌, true, not, List, [], ◌∷◌, ◌++◌, All, codes, Some, refl}
use Rattle.std.specs.Fmt.{decimal}
use Rattle.std.specs.List.{list_all}
use Rattle.std.proofs.Common.{ap, ◌∙◌, arith, append_assoc}
use Rattle.std.proofs.lemmas.Bool.{not-true}
use Rattle.std.proofs.lemmas.List.Elements.{All-nil, All-cons}
use Rattle.of_types.specs.declared.journal.PortChange.{PortChange}
use Rattle.of_types.specs.declared.journal.PortChange.TheVariants.{Up, Down, Add, Delete}
use Rattle.app_frames.specs.declared.cause.Tried.{Tried}
use Rattle.app_frames.specs.declared.cause.Tried.TheVariants as tried
use Rattle.lego_model.specs.RunReport.{tried_word}
use Rattle.lego_model.specs.Words.{words_of, is_word}
use Rattle.lego_model.specs.SessionWords.{last_number}
use Rattle.lego_model.specs.SessionLines as session
use Rattle.lego_model.specs.SessionLines.{SoFar, line_of, fixed_line, port_line, count_line, start_line, start_word}
use Rattle.session_record.specs.Lines.{change_word}
use Rattle.session_record.specs.Readings.{IsInk, script_of, PortIsRead, CountIsRead, StartIsRead}
use Rattle.session_record.specs.laws.NumberLaws.{number_read}
use Rattle.session_record.specs.laws.TextLaws.{both}
use Rattle.session_record.specs.laws.ReadLaws.{decimal_ink, spaced, two_words, three_words, in_two, in_three, switch_read}

-- ---- Fixed words

pub inked : (word : List ℕ) → list_all (λ b. not (b == 32)) word ≡ true → All IsInk word
inked [] each = All-nil IsInk
inked (b ∷ word) each =
    let parts = both (not (b == 32)) (list_all (λ b. not (b == 32)) word) each in
    All-cons IsInk b word (not-true (b == 32) parts.0) (inked word parts.1)

change_ink : (change : PortChange) → All IsInk (change_word change)
change_ink Up = inked (codes "up") refl
change_ink Down = inked (codes "down") refl
change_ink Add = inked (codes "add") refl
change_ink Delete = inked (codes "delete") refl

change_read : (change : PortChange) → session.change_word (change_word change) ≡ Some change
unfolding session.change_word is_word
change_read Up = refl
change_read Down = refl
change_read Add = refl
change_read Delete = refl

tried_ink : (how : Tried) → All IsInk (tried_word how)
tried_ink tried.Ready = inked (codes "ready") refl
tried_ink tried.Refused = inked (codes "refused") refl
tried_ink tried.Closed = inked (codes "closed") refl
tried_ink tried.Silent = inked (codes "silent") refl
tried_ink tried.Garbled = inked (codes "garbled") refl

tried_read : (how : Tried) → start_word (tried_word how) ≡ Some (script_of how)
unfolding start_word is_word
tried_read tried.Ready = refl
tried_read tried.Refused = refl
tried_read tried.Closed = refl
tried_read tried.Silent = refl
tried_read tried.Garbled = refl

-- ---- Ports

port_words : (rest : List ℕ) → words_of (codes "port " ++ rest) ≡ codes "port" ∷ words_of rest
unfolding words_of
port_words rest = refl

port_as : (names : List (List ℕ)) (s : SoFar) (one two three : List ℕ) → line_of names s (codes "port" ∷ one ∷ two ∷ three ∷ []) ≡ port_line s one two three
unfolding line_of fixed_line is_word
port_as names s one two three = refl

pub port_read : PortIsRead
unfolding port_line
port_read names s d port change above below named room least most =
    let fits : d < 2 ^ 64 = omega (arith, below) in
    let port_fits : port < 2 ^ 64 = omega (arith, most) in
    ap (λ (line : List ℕ). line_of names s (words_of line)) (in_three (codes "port ") (decimal d) (decimal port) (change_word change))
    ∙ ap (λ (ws : List (List ℕ)). line_of names s ws)
    (port_words (decimal d ++ 32 ∷ (decimal port ++ 32 ∷ change_word change))
    ∙ ap (λ (ws : List (List ℕ)). codes "port" ∷ ws) (three_words (decimal d) (decimal port) (change_word change) (decimal_ink d fits) (decimal_ink port port_fits) (change_ink change)))
    ∙ port_as names s (decimal d) (decimal port) (change_word change)
    ∙ rw (change_read change, switch_read s d above below named, number_read 1 65280 port port_fits least most, room) refl

-- ---- Counts

in_four : (head one two three four : List ℕ) → head ++ one ++ codes " " ++ two ++ codes " " ++ three ++ codes " " ++ four ≡ head ++ (one ++ 32 ∷ (two ++ 32 ∷ (three ++ 32 ∷ four)))
in_four head one two three four =
    append_assoc (head ++ one ++ codes " " ++ two ++ codes " " ++ three) (codes " ") four
    ∙ ap (λ (r : List ℕ). r ++ 32 ∷ four) (in_three head one two three)
    ∙ append_assoc head (one ++ 32 ∷ (two ++ 32 ∷ three)) (32 ∷ four)
    ∙ ap (λ (r : List ℕ). head ++ r) (append_assoc one (32 ∷ (two ++ 32 ∷ three)) (32 ∷ four))
    ∙ ap (λ (r : List ℕ). head ++ (one ++ 32 ∷ r)) (append_assoc two (32 ∷ three) (32 ∷ four))

four_words : (one two three four : List ℕ) → All IsInk one → All IsInk two → All IsInk three → All IsInk four → words_of (one ++ 32 ∷ (two ++ 32 ∷ (three ++ 32 ∷ four))) ≡ one ∷ two ∷ three ∷ four ∷ []
four_words one two three four first second third fourth =
    spaced one (two ++ 32 ∷ (three ++ 32 ∷ four)) first ∙ ap (λ (ws : List (List ℕ)). one ∷ ws) (three_words two three four second third fourth)

count_words : (rest : List ℕ) → words_of (codes "count " ++ rest) ≡ codes "count" ∷ words_of rest
unfolding words_of
count_words rest = refl

count_as : (names : List (List ℕ)) (s : SoFar) (one two three four : List ℕ) → line_of names s (codes "count" ∷ one ∷ two ∷ three ∷ four ∷ []) ≡ count_line s one two three four
unfolding line_of fixed_line is_word
count_as names s one two three four = refl

pub count_read : CountIsRead
unfolding count_line
count_read names s d priority packets bytes above below named room small few light =
    let fits : d < 2 ^ 64 = omega (arith, below) in
    let priority_fits : priority < 2 ^ 64 = omega (arith, small) in
    let packets_fit : packets < 2 ^ 64 = omega (arith, few) in
    let bytes_fit : bytes < 2 ^ 64 = omega (arith, light) in
    ap (λ (line : List ℕ). line_of names s (words_of line)) (in_four (codes "count ") (decimal d) (decimal priority) (decimal packets) (decimal bytes))
    ∙ ap (λ (ws : List (List ℕ)). line_of names s ws)
    (count_words (decimal d ++ 32 ∷ (decimal priority ++ 32 ∷ (decimal packets ++ 32 ∷ decimal bytes)))
    ∙ ap (λ (ws : List (List ℕ)). codes "count" ∷ ws)
    (four_words (decimal d) (decimal priority) (decimal packets) (decimal bytes) (decimal_ink d fits) (decimal_ink priority priority_fits) (decimal_ink packets packets_fit) (decimal_ink bytes bytes_fit)))
    ∙ count_as names s (decimal d) (decimal priority) (decimal packets) (decimal bytes)
    ∙ rw (switch_read s d above below named, number_read 0 65535 priority priority_fits (omega arith) small, number_read 0 last_number packets packets_fit (omega arith) few, number_read 0 last_number bytes bytes_fit (omega arith) light, room) refl

-- ---- Starts

start_words : (rest : List ℕ) → words_of (codes "start " ++ rest) ≡ codes "start" ∷ words_of rest
unfolding words_of
start_words rest = refl

start_as : (names : List (List ℕ)) (s : SoFar) (one two : List ℕ) → line_of names s (codes "start" ∷ one ∷ two ∷ []) ≡ start_line names s one two
unfolding line_of fixed_line is_word
start_as names s one two = refl

pub start_read : StartIsRead
unfolding start_line
start_read names s app i how ink named =
    ap (λ (line : List ℕ). line_of names s (words_of line)) (in_two (codes "start ") app (tried_word how))
    ∙ ap (λ (ws : List (List ℕ)). line_of names s ws) (start_words (app ++ 32 ∷ tried_word how) ∙ ap (λ (ws : List (List ℕ)). codes "start" ∷ ws) (two_words app (tried_word how) ink (tried_ink how)))
    ∙ start_as names s app (tried_word how)
    ∙ rw (tried_read how, named) refl
