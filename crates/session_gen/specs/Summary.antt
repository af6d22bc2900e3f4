-- The line that sums up the report of a session that is drawn. This text form is our own.
use Rattle.std.specs.Prelude.{◌==◌, ℕ, ◌+◌, ◌%◌, ◌^◌, List, [], ◌∷◌, ◌++◌, codes, drop, get_or, if◌then◌else◌}
use Rattle.std.specs.List.{slice_split}
use Rattle.std.specs.Fmt.{decimal}
use Rattle.lego_model.specs.Words.{words_of, is_word, value_after}
use Rattle.lego_model.specs.RunReport.{line_of}
use Rattle.session_gen.specs.declared.summary.Sums.{Sums}

-- ---- What the lines of a report add up to, modulo 2^64

-- the word of a line at a place, from 0 on
abbrev pub word_at : ℕ → List (List ℕ) → List ℕ
word_at k words = get_or words k []

-- the number that a word spells
unfoldable pub number_in : List ℕ → ℕ
number_in word = value_after 0 word % 2 ^ 64

abbrev pub in_64_bits : ℕ → ℕ
in_64_bits n = n % 2 ^ 64

-- how many packets hit the entry of a line `flow ..`: its word at 7 is `packets=P`
unfoldable pub packets_in : List (List ℕ) → ℕ
packets_in words = number_in (drop 8 (word_at 7 words))

-- a line `flow ..` is an entry, a line `app NAME alive done D failed F` the turns of an application, and the line `end MOMENT events E` the last
unfoldable pub with_words : List (List ℕ) → Sums → Sums
with_words words s =
    if is_word (codes "flow") (word_at 0 words) then record s { flows = in_64_bits (s.flows + 1); packets = in_64_bits (s.packets + packets_in words) }
    else if is_word (codes "app") (word_at 0 words) then record s { done = in_64_bits (s.done + number_in (word_at 4 words)); failed = in_64_bits (s.failed + number_in (word_at 6 words)) }
    else if is_word (codes "end") (word_at 0 words) then record s { events = number_in (word_at 3 words) }
    else s

abbrev pub with_lines : List (List ℕ) → Sums → Sums
with_lines [] s = s
with_lines (line ∷ lines) s = with_lines lines (with_words (words_of line) s)

abbrev pub nothing : Sums
nothing = record { events = 0; done = 0; failed = 0; flows = 0; packets = 0 }

-- all lines, of which each ends by one LF (10)
unfoldable pub sums_of : List ℕ → Sums
sums_of report = with_lines (slice_split (λ b. b == 10) report) nothing

-- ---- The line

-- `gen START COUNT events E`
unfoldable pub head_text : ℕ → ℕ → Sums → List ℕ
head_text start count s = codes "gen " ++ decimal start ++ codes " " ++ decimal count ++ codes " events " ++ decimal s.events

-- ` done D failed F`
unfoldable pub turns_text : Sums → List ℕ
turns_text s = codes " done " ++ decimal s.done ++ codes " failed " ++ decimal s.failed

-- ` flows N packets P`
unfoldable pub flows_text : Sums → List ℕ
flows_text s = codes " flows " ++ decimal s.flows ++ codes " packets " ++ decimal s.packets

-- `gen START COUNT events E done D failed F flows N packets P` of a report
unfoldable pub summary_line : ℕ → ℕ → List ℕ → List ℕ
summary_line start count report = let s = sums_of report in line_of (head_text start count s ++ turns_text s ++ flows_text s)
