-- Laws of records in one block: how many there are, one more, and each by its number.
use Rattle.std.specs.Prelude.{◌≡◌, ℕ, ◌+◌, ◌-◌, ◌<◌, ◌≤◌, List, [], ◌∷◌, ◌++◌, length, take, drop, Some, refl, slice_get}
use Rattle.std.proofs.Common.{zero, suc, sym, ap, ◌∙◌, arith, length-append, get_or}
use Rattle.std.proofs.lemmas.List.{drop-append-le, take-append-le, drop_at, take_at, length-drop}
use Rattle.session_lists.specs.Records.{records_in, IsCut}

-- no place lies behind the bytes
pub cut_within : {K : Type 0} (at : ℕ) (kinds : List K) (ends : List ℕ) (size : ℕ) → IsCut at kinds ends size → at ≤ size
cut_within at [] [] size cut = omega (arith, cut)
cut_within at [] (end ∷ ends) size cut = absurd cut
cut_within at (kind ∷ kinds) [] size cut = absurd cut
cut_within at (kind ∷ kinds) (end ∷ ends) size cut = omega (arith, cut.0, cut_within end kinds ends size cut.1)

pub records_count : {K : Type 0} (at : ℕ) (kinds : List K) (ends bytes : List ℕ) (size : ℕ) → IsCut at kinds ends size → length (records_in at kinds ends bytes) ≡ length kinds
records_count at [] ends bytes size cut = refl
records_count at (kind ∷ kinds) [] bytes size cut = absurd cut
records_count at (kind ∷ kinds) (end ∷ ends) bytes size cut = ap (λ (n : ℕ). suc n) (records_count end kinds ends bytes size cut.1)

pub ends_count : {K : Type 0} (at : ℕ) (kinds : List K) (ends : List ℕ) (size : ℕ) → IsCut at kinds ends size → length ends ≡ length kinds
ends_count at [] [] size cut = refl
ends_count at [] (end ∷ ends) size cut = absurd cut
ends_count at (kind ∷ kinds) [] size cut = absurd cut
ends_count at (kind ∷ kinds) (end ∷ ends) size cut = ap (λ (n : ℕ). suc n) (ends_count end kinds ends size cut.1)

-- one record more
pub cut_more : {K : Type 0} (at : ℕ) (kinds : List K) (ends : List ℕ) (kind : K) (size more : ℕ) → IsCut at kinds ends size → IsCut at (kinds ++ kind ∷ []) (ends ++ (size + more) ∷ []) (size + more)
cut_more at [] [] kind size more cut = (omega (arith, cut), refl)
cut_more at [] (end ∷ ends) kind size more cut = absurd cut
cut_more at (first ∷ kinds) [] kind size more cut = absurd cut
cut_more at (first ∷ kinds) (end ∷ ends) kind size more cut = (cut.0, cut_more end kinds ends kind size more cut.1)

piece_stays : (at end : ℕ) (bytes more : List ℕ) → at ≤ end → end ≤ length bytes → take (end - at) (drop at (bytes ++ more)) ≡ take (end - at) (drop at bytes)
piece_stays at end bytes more rises within =
    ap (λ (xs : List ℕ). take (end - at) xs) (drop-append-le at bytes more (omega arith))
    ∙ take-append-le (end - at) (drop at bytes) more (omega (arith, length-drop at bytes))

piece_behind : (at : ℕ) (bytes more : List ℕ) → at ≡ length bytes → take (length bytes + length more - at) (drop at (bytes ++ more)) ≡ more
piece_behind at bytes more is =
    ap (λ (xs : List ℕ). take (length bytes + length more - at) xs) (drop_at bytes more at (sym is))
    ∙ all_taken (length bytes + length more - at) more (omega (arith, is))
  where
    all_taken : (n : ℕ) (xs : List ℕ) → n ≡ length xs → take n xs ≡ xs
    all_taken n xs same = grind (arith, take_at xs [] n (sym same), append_nil xs)
      where
        append_nil : (xs : List ℕ) → xs ++ [] ≡ xs
        append_nil [] = refl
        append_nil (x ∷ xs) = ap (λ (ys : List ℕ). x ∷ ys) (append_nil xs)

pub records_more : {K : Type 0} (at : ℕ) (kinds : List K) (ends bytes : List ℕ) (kind : K) (more : List ℕ) → IsCut at kinds ends (length bytes)
    → records_in at (kinds ++ kind ∷ []) (ends ++ (length bytes + length more) ∷ []) (bytes ++ more) ≡ records_in at kinds ends bytes ++ (kind, more) ∷ []
records_more at [] [] bytes kind more cut = ap (λ (xs : List ℕ). (kind, xs) ∷ []) (piece_behind at bytes more cut)
records_more at [] (end ∷ ends) bytes kind more cut = absurd cut
records_more at (first ∷ kinds) [] bytes kind more cut = absurd cut
records_more {K} at (first ∷ kinds) (end ∷ ends) bytes kind more cut =
    let head : take (end - at) (drop at (bytes ++ more)) ≡ take (end - at) (drop at bytes) = piece_stays at end bytes more cut.0 (cut_within end kinds ends (length bytes) cut.1) in
    ap (λ (xs : List ℕ). (first, xs) ∷ records_in end (kinds ++ kind ∷ []) (ends ++ (length bytes + length more) ∷ []) (bytes ++ more)) head
    ∙ ap (λ (rs : List (K × List ℕ)). (first, take (end - at) (drop at bytes)) ∷ rs) (records_more end kinds ends bytes kind more cut.1)

-- where the record of a number begins
abbrev pub start_of : ℕ → List ℕ → ℕ → ℕ
start_of at ends zero = at
start_of at ends (suc i) = get_or ends i 0

-- a record by its number
pub record_at : {K : Type 0} (at : ℕ) (kinds : List K) (ends bytes : List ℕ) (size i : ℕ) (kind : K) → IsCut at kinds ends size → slice_get kinds i ≡ Some kind
    → slice_get (records_in at kinds ends bytes) i ≡ Some (kind, take (get_or ends i 0 - start_of at ends i) (drop (start_of at ends i) bytes))
record_at at [] ends bytes size i kind cut is = cc
record_at at (first ∷ kinds) [] bytes size i kind cut is = absurd cut
record_at at (first ∷ kinds) (end ∷ ends) bytes size zero kind cut is = cc
record_at at (first ∷ kinds) (end ∷ ends) bytes size (suc zero) kind cut is = record_at end kinds ends bytes size zero kind cut.1 is
record_at at (first ∷ kinds) (end ∷ ends) bytes size (suc (suc i)) kind cut is = record_at end kinds ends bytes size (suc i) kind cut.1 is

-- and where it lies
pub record_within : {K : Type 0} (at : ℕ) (kinds : List K) (ends : List ℕ) (size i : ℕ) → IsCut at kinds ends size → i < length kinds
    → (start_of at ends i ≤ get_or ends i 0) × (get_or ends i 0 ≤ size)
record_within at [] ends size i cut less = absurd (omega (arith, less))
record_within at (first ∷ kinds) [] size i cut less = absurd cut
record_within at (first ∷ kinds) (end ∷ ends) size zero cut less = (cut.0, cut_within end kinds ends size cut.1)
record_within at (first ∷ kinds) (end ∷ ends) size (suc zero) cut less = record_within end kinds ends size zero cut.1 (omega (arith, less))
record_within at (first ∷ kinds) (end ∷ ends) size (suc (suc i)) cut less = record_within end kinds ends size (suc i) cut.1 (omega (arith, less))

-- one record more, where its parts were put behind the others
pub cut_pushed : {K : Type 0} (kinds all : List K) (ends more_ends bytes more_bytes more : List ℕ) (kind : K) (end : ℕ) → IsCut 0 kinds ends (length bytes)
    → all ≡ kinds ++ kind ∷ [] → more_ends ≡ ends ++ end ∷ [] → more_bytes ≡ bytes ++ more → end ≡ length bytes + length more → IsCut 0 all more_ends (length more_bytes)
cut_pushed kinds all ends more_ends bytes more_bytes more kind end cut is_all is_ends is_bytes is_end =
    rw (is_all, is_ends, is_bytes, is_end, length-append bytes more) (cut_more 0 kinds ends kind (length bytes) (length more) cut)

pub records_pushed : {K : Type 0} (kinds all : List K) (ends more_ends bytes more_bytes more : List ℕ) (kind : K) (end : ℕ) → IsCut 0 kinds ends (length bytes)
    → all ≡ kinds ++ kind ∷ [] → more_ends ≡ ends ++ end ∷ [] → more_bytes ≡ bytes ++ more → end ≡ length bytes + length more
    → records_in 0 all more_ends more_bytes ≡ records_in 0 kinds ends bytes ++ (kind, more) ∷ []
records_pushed kinds all ends more_ends bytes more_bytes more kind end cut is_all is_ends is_bytes is_end =
    rw (is_all, is_ends, is_bytes, is_end) (records_more 0 kinds ends bytes kind more cut)
