-- The number of bytes that were read of hexadecimal digits.
use Rattle.std.proofs.Common.{◌≡◌, ◌==◌, ℕ, ◌*◌, ◌%◌, ◌≤◌, false, not, ◌&&◌, List, length, Ok, arith}
use Rattle.hex.specs.Hex.{decode_of}
use Rattle.hex.proofs.HexLemmas.{decode_of-ok}
use Rattle.lego_model.specs.SessionWords.{is_sized}

pub sized : (least most : ℕ) (word bytes : List ℕ) → decode_of word ≡ Ok bytes → (length word % 2 == 0 && not (is_sized least most (length word))) ≡ false
    → (least ≤ length bytes) × (length bytes ≤ most)
sized least most word bytes read fits =
    let ok = decode_of-ok word bytes read in
    let even : length word % 2 ≡ 0 = ok.0 in
    let twice : length word ≡ 2 * length bytes = ok.2 in
    (grind arith, grind arith)
