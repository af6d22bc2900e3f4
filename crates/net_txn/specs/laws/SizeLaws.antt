-- How many bytes a message has at least that is read, by its type.
use Rattle.std.proofs.Common.{◌≡◌, ℕ, ◌≤◌, true, cond, eqb, ltb, List, length, Option, Some, None, Result, Ok, Err, refl, ap, sym, ◌∙◌}
use Rattle.std.specs.Prelude.{IsOk}
use Rattle.std.proofs.lemmas.Bool.{ltb-false, leb-true, eqb-true}
use Rattle.of_types.specs.Fields.{number_at}
use Rattle.of_action.specs.Reading.{◌>>=◌}
use Rattle.of_action.specs.laws.ReadingLaws.{guard_ok}
use Rattle.of_wire.specs.declared.kind.MessageKind.{MessageKind}
use Rattle.of_wire.specs.declared.kind.MessageKind.TheVariants as kinds
use Rattle.of_wire.specs.declared.fault.WireFault.TheVariants.{BadVersion, BadLength}
use Rattle.of_wire.specs.Kinds.{kind_of_number}
use Rattle.of_wire.specs.Reading.{has_length, if_sized, front_of, reading_of}
use Rattle.of_wire.specs.laws.GrammarLaws.{guard_then}

some_step : {A B F : Type 0} (r : Result A F) (f : A → Result B F) → IsOk (r >>= f) → (x : A) × (r ≡ Ok x)
some_step (Ok x) f is = (x, refl)
some_step (Err e) f is = absurd cc

-- the front of bytes that are read
pub front-reading_of : (bytes : List ℕ) → IsOk (reading_of bytes) → (kind : MessageKind) × (front_of bytes ≡ Ok kind)
unfolding reading_of
front-reading_of bytes is = some_step (front_of bytes) _ is

record IsFront (bytes : List ℕ) (kind : MessageKind) : Type 0 where
  least : 8 ≤ length bytes
  version : number_at 1 0 bytes ≡ 1
  rest : if_sized bytes (kind_of_number (number_at 1 1 bytes)) ≡ Ok kind

IsFront-front_of : (bytes : List ℕ) (kind : MessageKind) → front_of bytes ≡ Ok kind → IsFront bytes kind
unfolding front_of
IsFront-front_of bytes kind e =
    let sized = if_sized bytes (kind_of_number (number_at 1 1 bytes)) in
    let a = guard_ok (ltb (length bytes) 8) BadLength (cond (eqb (number_at 1 0 bytes) 1) sized (Err BadVersion)) kind e in
    let b = guard_then (eqb (number_at 1 0 bytes) 1) BadVersion sized kind a.1 in
    record { least = ltb-false _ _ a.0; version = eqb-true _ _ b.0; rest = b.1 }

sized_has : (bytes : List ℕ) (o : Option MessageKind) (k kind : MessageKind) → o ≡ Some k → if_sized bytes o ≡ Ok kind → has_length k (length bytes) ≡ true
sized_has bytes None k kind is e = absurd cc
sized_has bytes (Some j) k kind is e =
    let a = guard_then (eqb (number_at 2 2 bytes) (length bytes)) BadLength (cond (has_length j (length bytes)) (Ok j) (Err BadLength)) kind e in
    let b = guard_then (has_length j (length bytes)) BadLength (Ok j) kind a.1 in
    let same : j ≡ k = cc in
    ap (λ (x : MessageKind). has_length x (length bytes)) (sym same) ∙ b.0

pub header-read : (bytes : List ℕ) → IsOk (reading_of bytes) → 8 ≤ length bytes
header-read bytes is = let f = front-reading_of bytes is in (IsFront-front_of bytes f.0 f.1).least

pub version-read : (bytes : List ℕ) → IsOk (reading_of bytes) → number_at 1 0 bytes ≡ 1
version-read bytes is = let f = front-reading_of bytes is in (IsFront-front_of bytes f.0 f.1).version

size_is : (bytes : List ℕ) (o : Option MessageKind) (kind : MessageKind) → if_sized bytes o ≡ Ok kind → number_at 2 2 bytes ≡ length bytes
size_is bytes None kind e = absurd cc
size_is bytes (Some k) kind e =
    eqb-true _ _ (guard_then (eqb (number_at 2 2 bytes) (length bytes)) BadLength (cond (has_length k (length bytes)) (Ok k) (Err BadLength)) kind e).0

pub size-read : (bytes : List ℕ) → IsOk (reading_of bytes) → number_at 2 2 bytes ≡ length bytes
size-read bytes is = let f = front-reading_of bytes is in size_is bytes (kind_of_number (number_at 1 1 bytes)) f.0 (IsFront-front_of bytes f.0 f.1).rest

pub error-read : (bytes : List ℕ) → IsOk (reading_of bytes) → number_at 1 1 bytes ≡ 1 → 12 ≤ length bytes
unfolding kind_of_number
error-read bytes is kind =
    let f = front-reading_of bytes is in
    let named : kind_of_number (number_at 1 1 bytes) ≡ Some kinds.Error = rw kind refl in
    leb-true _ _ (sized_has bytes (kind_of_number (number_at 1 1 bytes)) kinds.Error f.0 named (IsFront-front_of bytes f.0 f.1).rest)

pub removed-read : (bytes : List ℕ) → IsOk (reading_of bytes) → number_at 1 1 bytes ≡ 11 → length bytes ≡ 88
unfolding kind_of_number
removed-read bytes is kind =
    let f = front-reading_of bytes is in
    let named : kind_of_number (number_at 1 1 bytes) ≡ Some kinds.FlowRemoved = rw kind refl in
    eqb-true _ _ (sized_has bytes (kind_of_number (number_at 1 1 bytes)) kinds.FlowRemoved f.0 named (IsFront-front_of bytes f.0 f.1).rest)

pub ruleset sizes = (header-read, error-read, removed-read)
