-- What is spelled by a layout is laid out so.
use Rattle.std.proofs.Common.{◌≡◌, ℕ, ◌+◌, ◌≤◌, List, [], ◌∷◌, ◌++◌, length, replicate, refl, sym, ap, ◌∙◌, append_assoc, arith}
use Rattle.std.proofs.Common.{◌-◌, ◌<◌, get_or, drop, inl, inr}
use Rattle.std.proofs.lemmas.Bool.{cases_lt}
use Rattle.std.proofs.lemmas.List.{get_or-take, get_or-drop, get_or-append_right, get_or_append_left, drop_at, take_at, length-append, length-replicate}
use Rattle.of_types.specs.Fields.{number_at, number_bytes, piece, IsBytes}
use Rattle.of_types.specs.laws.FieldLaws.{length-number_bytes, number_at-number_bytes, number_bytes-number_at, piece-append}
use Rattle.of_types.specs.Layout.{Field, number, raw, pad, spelled, width, AreFields, IsLaidOut, HasNoPads, InPad}

regroup : (front field fields rest : List ℕ) → front ++ ((field ++ fields) ++ rest) ≡ (front ++ field) ++ (fields ++ rest)
regroup front field fields rest = simp append_assoc

pub IsLaidOut-spelled : (at : ℕ) (fields : List Field) (front rest : List ℕ) → length front ≡ at → AreFields fields → IsLaidOut at fields rest (front ++ (spelled fields ++ rest))
IsLaidOut-spelled at [] front rest len fits = drop_at front rest at len
IsLaidOut-spelled at (number n x ∷ fields) front rest len fits =
    let e = regroup front (number_bytes n x) (spelled fields) rest in
    let longer : length (front ++ number_bytes n x) ≡ at + n = omega (arith, length-append front (number_bytes n x), length-number_bytes n x) in
    let here : number_at n at (front ++ ((number_bytes n x ++ spelled fields) ++ rest)) ≡ x = rw append_assoc (number_at-number_bytes n at x front (spelled fields ++ rest) len fits.0) in
    (here, rw e (IsLaidOut-spelled (at + n) fields (front ++ number_bytes n x) rest longer fits.1))
IsLaidOut-spelled at (raw n bytes ∷ fields) front rest len fits =
    let e = regroup front bytes (spelled fields) rest in
    let longer : length (front ++ bytes) ≡ at + n = omega (arith, length-append front bytes, fits.0) in
    let here : piece n at (front ++ ((bytes ++ spelled fields) ++ rest)) ≡ bytes = rw (append_assoc, drop_at front (bytes ++ (spelled fields ++ rest)) at len, take_at bytes (spelled fields ++ rest) n fits.0) refl in
    (here, rw e (IsLaidOut-spelled (at + n) fields (front ++ bytes) rest longer fits.1))
IsLaidOut-spelled at (pad n ∷ fields) front rest len fits =
    let e = regroup front (replicate n 0) (spelled fields) rest in
    let longer : length (front ++ replicate n 0) ≡ at + n = omega (arith, length-append front (replicate n 0), length-replicate {A = ℕ} n 0) in
    rw e (IsLaidOut-spelled (at + n) fields (front ++ replicate n 0) rest longer fits)

pub length-spelled : (fields : List Field) → AreFields fields → length (spelled fields) ≡ width fields
length-spelled [] fits = refl
length-spelled (number n x ∷ fields) fits = omega (arith, length-append (number_bytes n x) (spelled fields), length-number_bytes n x, length-spelled fields fits.1)
length-spelled (raw n bytes ∷ fields) fits = omega (arith, length-append bytes (spelled fields), fits.0, length-spelled fields fits.1)
length-spelled (pad n ∷ fields) fits = omega (arith, length-append (replicate n 0) (spelled fields), length-replicate {A = ℕ} n 0, length-spelled fields fits)

-- bytes that are laid out with no pads are what is spelled
pub spelled-IsLaidOut : (at : ℕ) (fields : List Field) (rest bytes : List ℕ) → IsBytes bytes → at + width fields ≤ length bytes → HasNoPads fields → IsLaidOut at fields rest bytes → spelled fields ≡ piece (width fields) at bytes
spelled-IsLaidOut at [] rest bytes fit within none h = refl
spelled-IsLaidOut at (number n x ∷ fields) rest bytes fit within none h =
    let here : number_bytes n x ≡ piece n at bytes = ap (number_bytes n) (sym h.0) ∙ number_bytes-number_at n at bytes fit (omega arith) in
    let others = spelled-IsLaidOut (at + n) fields rest bytes fit (omega arith) none h.1 in
    ap (λ (xs : List ℕ). xs ++ spelled fields) here ∙ ap (λ (xs : List ℕ). piece n at bytes ++ xs) others ∙ piece-append n (width fields) at bytes
spelled-IsLaidOut at (raw n xs ∷ fields) rest bytes fit within none h =
    let others = spelled-IsLaidOut (at + n) fields rest bytes fit (omega arith) none h.1 in
    ap (λ (ys : List ℕ). ys ++ spelled fields) (sym h.0) ∙ ap (λ (ys : List ℕ). piece n at bytes ++ ys) others ∙ piece-append n (width fields) at bytes
spelled-IsLaidOut at (pad n ∷ fields) rest bytes fit within none h = absurd none

-- an offset within a piece, and one behind it
piece_at : (n at i : ℕ) (bytes : List ℕ) → at ≤ i → i < at + n → get_or (piece n at bytes) (i - at) 0 ≡ get_or bytes i 0
piece_at n at i bytes le lt =
    let there : at + (i - at) ≡ i = omega arith in
    get_or-take n (drop at bytes) (i - at) 0 (omega arith) ∙ get_or-drop at bytes (i - at) 0 ∙ ap (λ (k : ℕ). get_or bytes k 0) there

written_at : (front field more : List ℕ) (n at i : ℕ) → length front ≡ at → length field ≡ n → at ≤ i → i < at + n → get_or (front ++ (field ++ more)) i 0 ≡ get_or field (i - at) 0
written_at front field more n at i len size le lt =
    get_or-append_right front (field ++ more) at i 0 len le ∙ get_or_append_left field more 0 (i - at) (omega (arith, size))

-- What is written and what is laid out so are the same, but in pads.
pub same_but_pads : (at : ℕ) (fields : List Field) (front rest bytes other : List ℕ) (i : ℕ) → length front ≡ at → AreFields fields → IsBytes bytes → at + width fields ≤ length bytes → IsLaidOut at fields other bytes
    → at ≤ i → i < at + width fields → ¬ InPad at fields i → get_or (front ++ (spelled fields ++ rest)) i 0 ≡ get_or bytes i 0
same_but_pads at [] front rest bytes other i len fits fit within h le lt says = absurd (omega arith)
same_but_pads at (number n x ∷ fields) front rest bytes other i len fits fit within h le lt says =
    let e = regroup front (number_bytes n x) (spelled fields) rest in
    let longer : length (front ++ number_bytes n x) ≡ at + n = omega (arith, length-append front (number_bytes n x), length-number_bytes n x) in
    let same : number_bytes n x ≡ piece n at bytes = ap (number_bytes n) (sym h.0) ∙ number_bytes-number_at n at bytes fit (omega arith) in
    elim (cases_lt i (at + n)) [
      | inl here ↦ ap (λ (b : List ℕ). get_or (front ++ b) i 0) (append_assoc (number_bytes n x) (spelled fields) rest)
          ∙ written_at front (number_bytes n x) (spelled fields ++ rest) n at i len (length-number_bytes n x) le here ∙ ap (λ (b : List ℕ). get_or b (i - at) 0) same ∙ piece_at n at i bytes le here
      | inr later ↦ ap (λ (b : List ℕ). get_or b i 0) e ∙ same_but_pads (at + n) fields (front ++ number_bytes n x) rest bytes other i longer fits.1 fit (omega arith) h.1 later (omega arith) says
    ]
same_but_pads at (raw n xs ∷ fields) front rest bytes other i len fits fit within h le lt says =
    let e = regroup front xs (spelled fields) rest in
    let longer : length (front ++ xs) ≡ at + n = omega (arith, length-append front xs, fits.0) in
    elim (cases_lt i (at + n)) [
      | inl here ↦ ap (λ (b : List ℕ). get_or (front ++ b) i 0) (append_assoc xs (spelled fields) rest)
          ∙ written_at front xs (spelled fields ++ rest) n at i len fits.0 le here ∙ ap (λ (b : List ℕ). get_or b (i - at) 0) (sym h.0) ∙ piece_at n at i bytes le here
      | inr later ↦ ap (λ (b : List ℕ). get_or b i 0) e ∙ same_but_pads (at + n) fields (front ++ xs) rest bytes other i longer fits.1 fit (omega arith) h.1 later (omega arith) says
    ]
same_but_pads at (pad n ∷ fields) front rest bytes other i len fits fit within h le lt says =
    let e = regroup front (replicate n 0) (spelled fields) rest in
    let longer : length (front ++ replicate n 0) ≡ at + n = omega (arith, length-append front (replicate n 0), length-replicate {A = ℕ} n 0) in
    elim (cases_lt i (at + n)) [
      | inl here ↦ absurd (says (inl (le, here)))
      | inr later ↦ ap (λ (b : List ℕ). get_or b i 0) e ∙ same_but_pads (at + n) fields (front ++ replicate n 0) rest bytes other i longer fits fit (omega arith) h later (omega arith) (λ p. says (inr p))
    ]
