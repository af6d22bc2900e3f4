-- Bytes that come from a source piece by piece.
use Rattle.std.proofs.Common.{◌≡◌, ℕ, ◌≤◌, List, ◌++◌, length, Option, sym, ap, ◌∙◌}
use Rattle.std.specs.Io.KnownBytes.{prepend_known}
use Rattle.lego_io.specs.Source.{GavePart}
use Rattle.lego_io.specs.laws.ToldLaws.{prepend_known-append}

-- what came is the front of what was left, and is not too much
pub record Came (old new : Option (List ℕ)) (bytes : List ℕ) (most : ℕ) (faults_old faults_new : ℕ) : Type 0 where
  pub front : old ≡ prepend_known bytes new
  pub at_most : length bytes ≤ most
  pub never_fell : faults_old ≤ faults_new

-- what came and then the bytes of one read more
pub Came-more : (old mid new : Option (List ℕ)) (bytes : List ℕ) (next : List ℕ) → old ≡ prepend_known bytes mid → mid ≡ prepend_known next new → GavePart old new
Came-more old mid new bytes next so_far e = (bytes ++ next, so_far ∙ ap (prepend_known bytes) e ∙ sym (prepend_known-append bytes next new))
