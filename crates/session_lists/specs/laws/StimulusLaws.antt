-- Laws of stimuli as records: what is spelled is read again.
use Rattle.std.specs.Prelude.{◌≡◌, ℕ, Result, Ok, Err, OnOk, ◌+◌, ◌<◌, ◌≤◌, ◌^◌, List, [], ◌∷◌, ◌++◌, length, drop, refl}
use Rattle.std.proofs.Common.{ap, ◌∙◌, subst, arith, length-append, append_assoc}
use Rattle.std.proofs.lemmas.List.{map-append, drop_at}
use Rattle.std.proofs.lemmas.List.Elements.{All-append, All-nil, All-cons}
use Rattle.of_types.specs.declared.journal.PortChange.{PortChange}
use Rattle.of_types.specs.declared.journal.Stimulus.TheVariants as of
use Rattle.of_types.specs.declared.journal.WorldStim.{WorldStim}
use Rattle.of_types.specs.declared.journal.WorldStim.TheVariants as world
use Rattle.of_types.specs.Fields.{number_at, number_bytes}
use Rattle.of_types.specs.laws.FieldLaws.{length-number_bytes, number_at-number_bytes}
use Rattle.session_lists.specs.declared.kinds.StimulusKind.{StimulusKind}
use Rattle.session_lists.specs.declared.kinds.StimulusKind.TheVariants.{Join, Leave, At, LateAt, Frame, Advance, Port, Counts, Raw}
use Rattle.session_lists.specs.Stimuli.{size_of, stimulus_in, stimuli_in, AreWhole}

-- the first number, and one behind other bytes
first_number : (n x : ℕ) (rest : List ℕ) → x < 256 ^ n → number_at n 0 (number_bytes n x ++ rest) ≡ x
first_number n x rest fits = number_at-number_bytes n 0 x [] rest refl fits

pub joins : (d : ℕ) → d < 2 ^ 64 → stimulus_in Join (number_bytes 8 d ++ []) ≡ world.Join d
unfolding stimulus_in
joins d fits = ap world.Join (first_number 8 d [] fits)

pub leaves : (d : ℕ) → d < 2 ^ 64 → stimulus_in Leave (number_bytes 8 d ++ []) ≡ world.Leave d
unfolding stimulus_in
leaves d fits = ap world.Leave (first_number 8 d [] fits)

pub is_at : (t : ℕ) → t < 2 ^ 32 → stimulus_in At (number_bytes 4 t ++ []) ≡ world.At t
unfolding stimulus_in
is_at t fits = ap world.At (first_number 4 t [] fits)

pub is_late : (t : ℕ) → t < 2 ^ 64 → stimulus_in LateAt (number_bytes 8 t ++ []) ≡ world.At t
unfolding stimulus_in
is_late t fits = ap world.At (first_number 8 t [] fits)

-- two numbers and a rest
record TwoNumbers (n m x y : ℕ) (rest bytes : List ℕ) : Type 0 where
  first : number_at n 0 bytes ≡ x
  second : number_at m n bytes ≡ y
  behind : drop (n + m) bytes ≡ rest

two_numbers : (n m x y : ℕ) (rest : List ℕ) → x < 256 ^ n → y < 256 ^ m → TwoNumbers n m x y rest ((number_bytes n x ++ number_bytes m y) ++ rest)
two_numbers n m x y rest fits small = record {
  first = rw (append_assoc (number_bytes n x) (number_bytes m y) rest) (first_number n x (number_bytes m y ++ rest) fits);
  second = rw (append_assoc (number_bytes n x) (number_bytes m y) rest) (number_at-number_bytes m n y (number_bytes n x) rest (length-number_bytes n x) small);
  behind = drop_at (number_bytes n x ++ number_bytes m y) rest (n + m) (omega (arith, length-append (number_bytes n x) (number_bytes m y), length-number_bytes n x, length-number_bytes m y));
}

pub is_frame : (d p : ℕ) (bytes : List ℕ) → d < 2 ^ 64 → p < 2 ^ 16 → stimulus_in Frame ((number_bytes 8 d ++ number_bytes 2 p) ++ bytes) ≡ world.Of d (of.Frame p bytes)
unfolding stimulus_in
is_frame d p bytes fits small =
    let two = two_numbers 8 2 d p bytes fits small in
    rw (two.first, two.second, two.behind) refl

pub is_port : (d p : ℕ) (change : PortChange) → d < 2 ^ 64 → p < 2 ^ 16 → stimulus_in (Port change) ((number_bytes 8 d ++ number_bytes 2 p) ++ []) ≡ world.Of d (of.Port p change)
unfolding stimulus_in
is_port d p change fits small =
    let two = two_numbers 8 2 d p [] fits small in
    rw (two.first, two.second) refl

pub advances : (d t : ℕ) → d < 2 ^ 64 → t < 2 ^ 64 → stimulus_in Advance ((number_bytes 8 d ++ number_bytes 8 t) ++ []) ≡ world.Of d (of.Advance t)
unfolding stimulus_in
advances d t fits small =
    let two = two_numbers 8 8 d t [] fits small in
    rw (two.first, two.second) refl

pub is_raw : (d : ℕ) (bytes : List ℕ) → d < 2 ^ 64 → stimulus_in Raw (number_bytes 8 d ++ bytes) ≡ world.Of d (of.Raw bytes)
unfolding stimulus_in
is_raw d bytes fits = rw (first_number 8 d bytes fits, drop_at (number_bytes 8 d) bytes 8 (length-number_bytes 8 d)) refl

-- four numbers, the last two behind two others
counted : (d p n m : ℕ) → n < 2 ^ 64 → m < 2 ^ 64 → (number_at 8 10 ((number_bytes 8 d ++ number_bytes 2 p) ++ (number_bytes 8 n ++ number_bytes 8 m)) ≡ n)
    × (number_at 8 18 ((number_bytes 8 d ++ number_bytes 2 p) ++ (number_bytes 8 n ++ number_bytes 8 m)) ≡ m)
counted d p n m fits small =
    let front = number_bytes 8 d ++ number_bytes 2 p in
    let ten : length front ≡ 10 = omega (arith, length-append (number_bytes 8 d) (number_bytes 2 p), length-number_bytes 8 d, length-number_bytes 2 p) in
    let eighteen : length (front ++ number_bytes 8 n) ≡ 18 = omega (arith, ten, length-append front (number_bytes 8 n), length-number_bytes 8 n) in
    let last : number_at 8 18 ((front ++ number_bytes 8 n) ++ (number_bytes 8 m ++ [])) ≡ m = number_at-number_bytes 8 18 m (front ++ number_bytes 8 n) [] eighteen small in
    (number_at-number_bytes 8 10 n front (number_bytes 8 m) ten fits, subst (λ (xs : List ℕ). number_at 8 18 xs ≡ m) (regrouped front (number_bytes 8 n) (number_bytes 8 m)) last)
  where
    all_of : (xs : List ℕ) → xs ++ [] ≡ xs
    all_of [] = refl
    all_of (x ∷ xs) = ap (λ (ys : List ℕ). x ∷ ys) (all_of xs)

    regrouped : (xs ys zs : List ℕ) → (xs ++ ys) ++ (zs ++ []) ≡ xs ++ (ys ++ zs)
    regrouped xs ys zs = ap (λ (ws : List ℕ). (xs ++ ys) ++ ws) (all_of zs) ∙ append_assoc xs ys zs

pub counts : (d p n m : ℕ) → d < 2 ^ 64 → p < 2 ^ 16 → n < 2 ^ 64 → m < 2 ^ 64
    → stimulus_in Counts ((number_bytes 8 d ++ number_bytes 2 p) ++ (number_bytes 8 n ++ number_bytes 8 m)) ≡ world.Of d (of.Counts p n m)
unfolding stimulus_in
counts d p n m d_fits p_fits n_fits m_fits =
    let two = two_numbers 8 2 d p (number_bytes 8 n ++ number_bytes 8 m) d_fits p_fits in
    let more = counted d p n m n_fits m_fits in
    rw (two.first, two.second, more.0, more.1) refl

-- one record more
pub stimuli_more : (records : List (StimulusKind × List ℕ)) (kind : StimulusKind) (bytes : List ℕ) → stimuli_in (records ++ (kind, bytes) ∷ []) ≡ stimuli_in records ++ stimulus_in kind bytes ∷ []
stimuli_more records kind bytes = map-append (λ (entry : StimulusKind × List ℕ). stimulus_in entry.0 entry.1) records ((kind, bytes) ∷ [])

pub whole_more : (records : List (StimulusKind × List ℕ)) (kind : StimulusKind) (bytes : List ℕ) → AreWhole records → size_of kind ≤ length bytes → AreWhole (records ++ (kind, bytes) ∷ [])
whole_more records kind bytes are is =
    let Whole = λ (entry : StimulusKind × List ℕ). size_of entry.0 ≤ length entry.1 in
    All-append Whole records ((kind, bytes) ∷ []) are (All-cons Whole (kind, bytes) [] is (All-nil Whole))

-- the same stimulus, said otherwise
pub put_same : {T E : Type 0} (r : Result T E) (old new : List WorldStim) (x y : WorldStim) → x ≡ y → OnOk r (new ≡ old ++ x ∷ []) → OnOk r (new ≡ old ++ y ∷ [])
put_same (Ok t) old new x y same is = is ∙ ap (λ (z : WorldStim). old ++ z ∷ []) same
put_same (Err e) old new x y same is = tt
