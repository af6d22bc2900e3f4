-- How many lines a text has.
use Rattle.std.proofs.Common.{ℕ, ◌+◌, ◌≤◌, List, [], ◌∷◌, length, arith}
use Rattle.std.proofs.lemmas.List.{length-map}
use Rattle.lego_io.specs.Lines.{with_byte, cut_at_lf, without_cr, lines_of}

length-with_byte-le : (byte : ℕ) (lines : List (List ℕ)) → length (with_byte byte lines) ≤ length lines + 1
length-with_byte-le byte [] = omega arith
length-with_byte-le byte (line ∷ lines) = omega arith

cut-le : (text : List ℕ) → length (cut_at_lf text) ≤ length text
unfolding cut_at_lf
cut-le [] = omega arith
cut-le (byte ∷ text) = let rest = cut-le text in let more = length-with_byte-le byte (cut_at_lf text) in grind arith

-- no more than bytes
pub length_of_lines : (text : List ℕ) → length (lines_of text) ≤ length text
unfolding lines_of
length_of_lines text = let cut = cut-le text in rw (length-map (cut_at_lf text) without_cr) cut
