-- Laws of deeds in one block of bytes: one more, and those that pass a test.
use Rattle.std.specs.Prelude.{◌≡◌, ℕ, ◌+◌, ◌-◌, ◌≤◌, Bool, true, false, cond, List, [], ◌∷◌, ◌++◌, length, take, drop, map, filter, refl, ◌==◌, ◌||◌, suc}
use Rattle.std.specs.List.{slice_split, onto_first, list_any}
use Rattle.std.proofs.Common.{sym, ap, ◌∙◌, arith, length-append}
use Rattle.std.proofs.lemmas.List.{map-append, drop-append-le, take-append-le, drop_at, take_at, length-drop, append-nil}
use Rattle.std.proofs.lemmas.List.Elements.{All-head, All-tail, All-append, All-nil, All-cons}
use Rattle.session_record.specs.declared.deed.DeedKind.{DeedKind}
use Rattle.session_record.specs.declared.log.Kept.{Kept}
use Rattle.session_record.specs.Deeds.{Deed, deed_in, deeds_in, IsWithin, AreWithin, of_app}

-- ---- One deed more

within_longer : (size more : ℕ) (all : List Kept) → AreWithin size all → AreWithin (size + more) all
within_longer size more [] within = All-nil (IsWithin (size + more))
within_longer size more (k ∷ all) within =
    let first = All-head (IsWithin size) k all within in
    All-cons (IsWithin (size + more)) k all (first.0, omega (arith, first.1)) (within_longer size more all (All-tail (IsWithin size) k all within))

pub within_more : (size more : ℕ) (all : List Kept) (app : ℕ) (kind : DeedKind) → AreWithin size all
    → AreWithin (size + more) (all ++ record { app = app; kind = kind; start = size; end = size + more } ∷ [])
within_more size more all app kind within =
    let one : Kept = record { app = app; kind = kind; start = size; end = size + more } in
    All-append (IsWithin (size + more)) all (one ∷ []) (within_longer size more all within)
    (All-cons (IsWithin (size + more)) one [] (omega arith, omega arith) (All-nil (IsWithin (size + more))))

piece_stays : (k : Kept) (bytes more : List ℕ) → IsWithin (length bytes) k → take (k.end - k.start) (drop k.start (bytes ++ more)) ≡ take (k.end - k.start) (drop k.start bytes)
piece_stays k bytes more within =
    ap (λ (xs : List ℕ). take (k.end - k.start) xs) (drop-append-le k.start bytes more (omega (arith, within.0, within.1)))
    ∙ take-append-le (k.end - k.start) (drop k.start bytes) more (omega (arith, within.0, within.1, length-drop k.start bytes))

piece_behind : (bytes more : List ℕ) → take (length bytes + length more - length bytes) (drop (length bytes) (bytes ++ more)) ≡ more
piece_behind bytes more =
    ap (λ (xs : List ℕ). take (length bytes + length more - length bytes) xs) (drop_at bytes more (length bytes) refl)
    ∙ ap (λ (xs : List ℕ). take (length bytes + length more - length bytes) xs) (sym (append-nil more))
    ∙ take_at more [] (length bytes + length more - length bytes) (omega arith)

deeds_stay : (bytes more : List ℕ) (all : List Kept) → AreWithin (length bytes) all → deeds_in (bytes ++ more) all ≡ deeds_in bytes all
deeds_stay bytes more [] within = refl
deeds_stay bytes more (k ∷ all) within =
    ap (λ (xs : List ℕ). record { app = k.app; kind = k.kind; bytes = xs } ∷ deeds_in (bytes ++ more) all) (piece_stays k bytes more (All-head (IsWithin (length bytes)) k all within))
    ∙ ap (λ (ds : List Deed). deed_in bytes k ∷ ds) (deeds_stay bytes more all (All-tail (IsWithin (length bytes)) k all within))

pub deeds_more : (bytes more : List ℕ) (all : List Kept) (app : ℕ) (kind : DeedKind) → AreWithin (length bytes) all
    → deeds_in (bytes ++ more) (all ++ record { app = app; kind = kind; start = length bytes; end = length bytes + length more } ∷ [])
    ≡ deeds_in bytes all ++ record { app = app; kind = kind; bytes = more } ∷ []
deeds_more bytes more all app kind within =
    map-append (deed_in (bytes ++ more)) all (record { app = app; kind = kind; start = length bytes; end = length bytes + length more } ∷ [])
    ∙ ap (λ (ds : List Deed). ds ++ record { app = app; kind = kind; bytes = take (length bytes + length more - length bytes) (drop (length bytes) (bytes ++ more)) } ∷ []) (deeds_stay bytes more all within)
    ∙ ap (λ (xs : List ℕ). deeds_in bytes all ++ record { app = app; kind = kind; bytes = xs } ∷ []) (piece_behind bytes more)

-- ---- Those of an application, and parts

pub filtered : (bytes : List ℕ) (app : ℕ) (all : List Kept) → deeds_in bytes (filter (λ k. k.app == app) all) ≡ of_app app (deeds_in bytes all)
filtered bytes app [] = refl
filtered bytes app (k ∷ all) = elim (k.app == app) as (λ b. deeds_in bytes (cond b (k ∷ filter (λ j. j.app == app) all) (filter (λ j. j.app == app) all)) ≡ cond b (deed_in bytes k ∷ of_app app (deeds_in bytes all)) (of_app app (deeds_in bytes all))) [
  | true ↦ ap (λ (ds : List Deed). deed_in bytes k ∷ ds) (filtered bytes app all)
  | false ↦ filtered bytes app all
]

onto_deeds : (bytes : List ℕ) (k : Kept) (rows : List (List Kept)) → map (deeds_in bytes) (onto_first k rows) ≡ onto_first (deed_in bytes k) (map (deeds_in bytes) rows)
onto_deeds bytes k [] = refl
onto_deeds bytes k (row ∷ rows) = refl

-- cut at the deeds of a kind, before or after they are read
pub cut_so : (bytes : List ℕ) (test : DeedKind → Bool) (all : List Kept) → map (deeds_in bytes) (slice_split (λ k. test k.kind) all) ≡ slice_split (λ d. test d.kind) (deeds_in bytes all)
cut_so bytes test [] = refl
cut_so bytes test (k ∷ all) = elim (test k.kind) as (λ b. map (deeds_in bytes) (cond b ([] ∷ slice_split (λ j. test j.kind) all) (onto_first k (slice_split (λ j. test j.kind) all)))
    ≡ cond b ([] ∷ slice_split (λ d. test d.kind) (deeds_in bytes all)) (onto_first (deed_in bytes k) (slice_split (λ d. test d.kind) (deeds_in bytes all)))) [
      | true ↦ ap (λ (rows : List (List Deed)). [] ∷ rows) (cut_so bytes test all)
      | false ↦ onto_deeds bytes k (slice_split (λ j. test j.kind) all) ∙ ap (λ (rows : List (List Deed)). onto_first (deed_in bytes k) rows) (cut_so bytes test all)
    ]

-- as parts that are lent
pub cut_told : {A : Type 0} (bytes : List ℕ) (test : DeedKind → Bool) (now : A → List Kept) (all : List A) (kept : List Kept) → map now all ≡ slice_split (λ k. test k.kind) kept
    → map (λ s. deeds_in bytes (now s)) all ≡ slice_split (λ d. test d.kind) (deeds_in bytes kept)
cut_told bytes test now all kept is = sym (in_two now all) ∙ ap (λ (rows : List (List Kept)). map (deeds_in bytes) rows) is ∙ cut_so bytes test kept
  where
    in_two : {A : Type 0} (now : A → List Kept) (all : List A) → map (deeds_in bytes) (map now all) ≡ map (λ s. deeds_in bytes (now s)) all
    in_two now [] = refl
    in_two now (x ∷ all) = ap (λ (rows : List (List Deed)). deeds_in bytes (now x) ∷ rows) (in_two now all)

pub any_so : (bytes : List ℕ) (test : DeedKind → Bool) (all : List Kept) → list_any (λ k. test k.kind) all ≡ list_any (λ d. test d.kind) (deeds_in bytes all)
any_so bytes test [] = refl
any_so bytes test (k ∷ all) = ap (λ (b : Bool). test k.kind || b) (any_so bytes test all)

pub deeds_count : (bytes : List ℕ) (all : List Kept) → length (deeds_in bytes all) ≡ length all
deeds_count bytes [] = refl
deeds_count bytes (k ∷ all) = ap (λ (n : ℕ). suc n) (deeds_count bytes all)
