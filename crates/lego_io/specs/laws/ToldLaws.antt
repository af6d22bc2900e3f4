-- What follows about the bytes that a source or a sink tells.
use Rattle.std.specs.Prelude.{◌≡◌, List, [], ◌++◌, ℕ, Option, Some, None, refl}
use Rattle.std.specs.Io.KnownBytes.{prepend_known, append_known}
use Rattle.std.proofs.Common.{ap, sym, append_assoc, append-nil}

pub prepend_known-append : (a b : List ℕ) (told : Option (List ℕ)) → prepend_known (a ++ b) told ≡ prepend_known a (prepend_known b told)
prepend_known-append a b None = refl
prepend_known-append a b (Some bytes) = ap (λ (all : List ℕ). Some all) (append_assoc a b bytes)

pub append_known-nil : (told : Option (List ℕ)) → append_known told [] ≡ told
append_known-nil None = refl
append_known-nil (Some bytes) = ap (λ (all : List ℕ). Some all) (append-nil bytes)

pub append_known-append : (told : Option (List ℕ)) (a b : List ℕ) → append_known told (a ++ b) ≡ append_known (append_known told a) b
append_known-append None a b = refl
append_known-append (Some bytes) a b = ap (λ (all : List ℕ). Some all) (sym (append_assoc bytes a b))
