-- Bytes that go to a sink piece by piece.
use Rattle.std.proofs.Common.{◌≡◌, ℕ, ◌+◌, ◌-◌, ◌<◌, List, ◌++◌, length, take, drop, Option, refl, sym, ap, ◌∙◌, append_assoc, arith, length-append}
use Rattle.std.proofs.lemmas.List.{take_at, take-append-drop, take_rest}
use Rattle.std.specs.Io.KnownBytes.{append_known}
use Rattle.lego_io.specs.Sink.{TookPart}
use Rattle.lego_io.specs.laws.ToldLaws.{append_known-append}

-- of these bytes all but the rest was taken
pub record Written (old new : Option (List ℕ)) (bytes rest : List ℕ) : Type 0 where
  pub taken : List ℕ
  pub parts : bytes ≡ taken ++ rest
  pub holds : new ≡ append_known old taken

pub Written-more : (old mid new : Option (List ℕ)) (bytes rest : List ℕ) (n : ℕ) → Written old mid bytes rest → new ≡ append_known mid (take n rest) → Written old new bytes (take (length rest - n) (drop n rest))
Written-more old mid new bytes rest n so_far e = record {
  taken = so_far.taken ++ take n rest;
  parts = rw take_rest (so_far.parts ∙ ap (λ (r : List ℕ). so_far.taken ++ r) (sym (take-append-drop n rest)) ∙ sym (append_assoc so_far.taken (take n rest) (drop n rest)));
  holds = e ∙ ap (λ (t : Option (List ℕ)). append_known t (take n rest)) so_far.holds ∙ sym (append_known-append old so_far.taken (take n rest));
}

pub Written-part : (old mid new : Option (List ℕ)) (bytes rest : List ℕ) → 0 < length rest → Written old mid bytes rest → new ≡ mid → TookPart old new bytes
Written-part old mid new bytes rest some so_far e =
    let front : take (length so_far.taken) bytes ≡ so_far.taken = rw so_far.parts (take_at so_far.taken rest (length so_far.taken) refl) in
    let len : length bytes ≡ length so_far.taken + length rest = rw so_far.parts (length-append so_far.taken rest) in
    (length so_far.taken, omega arith, rw front (e ∙ so_far.holds))
