-- The lines of a text. A line ends at LF, or at the text's end where bytes remain. One CR before its
-- end is dropped. Our own choice.
use Rattle.std.specs.Prelude.{ℕ, ◌-◌, List, [], ◌∷◌, length, take, slice_index, map, ◌==◌, if◌then◌else◌}

-- how many bytes a line may have, without its end and the dropped CR
abbrev pub most_line : ℕ
most_line = 4194304

-- a byte in front of these lines: of the first of them, or of a line of its own where there is none
abbrev pub with_byte : ℕ → List (List ℕ) → List (List ℕ)
with_byte byte [] = (byte ∷ []) ∷ []
with_byte byte (line ∷ lines) = (byte ∷ line) ∷ lines

-- the text cut at each LF (10)
unfoldable pub cut_at_lf : List ℕ → List (List ℕ)
cut_at_lf [] = []
cut_at_lf (byte ∷ text) = if byte == 10 then [] ∷ cut_at_lf text else with_byte byte (cut_at_lf text)

-- the line without one CR (13) at its end
unfoldable pub without_cr : List ℕ → List ℕ
without_cr line = if slice_index line (length line - 1) == 13 then take (length line - 1) line else line

unfoldable pub lines_of : List ℕ → List (List ℕ)
lines_of text = map without_cr (cut_at_lf text)
