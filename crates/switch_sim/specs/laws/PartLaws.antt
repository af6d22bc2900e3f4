-- What follows about replies in parts: the parts of the definition are those into which rows are split.
use Rattle.std.proofs.Common.{◌≡◌, ℕ, ◌+◌, ◌<◌, ◌≤◌, List, [], ◌∷◌, ◌++◌, length, take, drop, get_or, leb, refl, sym, ap, subst, ◌∙◌, append_assoc, arith}
use Rattle.std.specs.Prelude.{All}
use Rattle.std.specs.List.{concat}
use Rattle.std.proofs.lemmas.Bool.{cond_both, leb-true, leb-false}
use Rattle.std.proofs.lemmas.List.{append-nil, take_at, drop_at, length-append}
use Rattle.std.proofs.lemmas.List.Folds.{concat-append}
use Rattle.std.proofs.lemmas.List.Elements.{All-nil, All-cons, All-head, All-tail}
use Rattle.of_stats.specs.Parts.{Part, room, IsFull, AreParts}
use Rattle.of_stats.specs.laws.PartLaws.{more_parts, one_split}
use Rattle.flow_table.specs.Statistics.{parts_behind, parts_of}

concat-row : (row : List ℕ) → concat (row ∷ []) ≡ row
concat-row row = append-nil row

concat-more : (begun : List (List ℕ)) (row : List ℕ) → concat (begun ++ row ∷ []) ≡ concat begun ++ row
concat-more begun row = concat-append begun (row ∷ []) ∙ ap (λ (xs : List ℕ). concat begun ++ xs) (concat-row row)

at_end : (begun rows : List (List ℕ)) (row : List ℕ) → get_or (begun ++ row ∷ rows) (length begun) [] ≡ row
at_end [] rows row = refl
at_end (first ∷ begun) rows row = at_end begun rows row

-- the rows that are begun fill a part, since the next one does not fit
IsFull-begun : (begun rows : List (List ℕ)) (row : List ℕ) → length (concat begun) ≤ room → room < length (concat begun) + length row → IsFull (length begun) (begun ++ row ∷ rows)
IsFull-begun begun rows row fits full =
    let front : take (length begun) (begun ++ row ∷ rows) ≡ begun = take_at begun (row ∷ rows) (length begun) refl in
    record {
      more = omega (arith, length-append begun (row ∷ rows));
      fit = rw front fits;
      full = rw (front, at_end begun rows row) full;
    }

AreParts-begun : (kind : ℕ) (begun rows : List (List ℕ)) → length (concat begun) ≤ room → All (λ row. length row ≤ room) rows
    → AreParts kind (begun ++ rows) (parts_behind kind (concat begun) rows)
AreParts-begun kind begun [] fits all = rw append-nil (refl, fits)
AreParts-begun kind begun (row ∷ rows) fits all =
    let here = All-head (λ (r : List ℕ). length r ≤ room) row rows all in
    let later = All-tail (λ (r : List ℕ). length r ≤ room) row rows all in
    cond_both (leb (length (concat begun) + length row) room) (parts_behind kind (concat begun ++ row) rows) ((kind, 1, concat begun) ∷ parts_behind kind row rows) (AreParts kind (begun ++ row ∷ rows))
    (λ fit.
    let size : length (concat (begun ++ row ∷ [])) ≤ room = rw (concat-more begun row) (omega (arith, length-append (concat begun) row, leb-true _ _ fit)) in
    subst (λ (xs : List (List ℕ)). AreParts kind xs (parts_behind kind (concat begun ++ row) rows)) (append_assoc begun (row ∷ []) rows)
    (subst (λ (xs : List ℕ). AreParts kind ((begun ++ row ∷ []) ++ rows) (parts_behind kind xs rows)) (concat-more begun row) (AreParts-begun kind (begun ++ row ∷ []) rows size later)))
    (λ over.
    let size : length (concat (row ∷ [])) ≤ room = rw (concat-row row) here in
    let full = IsFull-begun begun rows row fits (leb-false _ _ over) in
    let front : take (length begun) (begun ++ row ∷ rows) ≡ begun = take_at begun (row ∷ rows) (length begun) refl in
    let back : drop (length begun) (begun ++ row ∷ rows) ≡ row ∷ rows = drop_at begun (row ∷ rows) (length begun) refl in
    let rest = subst (λ (xs : List ℕ). AreParts kind (row ∷ rows) (parts_behind kind xs rows)) (concat-row row) (AreParts-begun kind (row ∷ []) rows size later) in
    more_parts kind (begun ++ row ∷ rows) (length begun) (kind, 1, concat begun) (parts_behind kind row rows) full
    (ap (λ (xs : List (List ℕ)). (kind, 1, concat xs)) (sym front))
    (subst (λ (xs : List (List ℕ)). AreParts kind xs (parts_behind kind row rows)) (sym back) rest))

pub AreParts-parts_of : (kind : ℕ) (rows : List (List ℕ)) → All (λ row. length row ≤ room) rows → AreParts kind rows (parts_of kind rows)
unfolding parts_of
AreParts-parts_of kind rows all = AreParts-begun kind [] rows (omega arith) all

-- rows are split into the parts of the definition
pub same_parts : (kind : ℕ) (rows : List (List ℕ)) (parts : List Part) → All (λ row. length row ≤ room) rows → AreParts kind rows parts → parts ≡ parts_of kind rows
same_parts kind rows parts all are = one_split kind rows parts (parts_of kind rows) are (AreParts-parts_of kind rows all)

-- each part fits a message
pub parts_fit : (kind : ℕ) (rows : List (List ℕ)) (parts : List Part) → AreParts kind rows parts → All (λ part. length part.2 ≤ room) parts
parts_fit kind rows [] are = absurd are
parts_fit kind rows (part ∷ []) are =
    All-cons (λ (p : Part). length p.2 ≤ room) part [] (rw (ap (λ (p : Part). p.2) are.0) are.1) (All-nil (λ (p : Part). length p.2 ≤ room))
parts_fit kind rows (part ∷ next ∷ parts) are =
    All-cons (λ (p : Part). length p.2 ≤ room) part (next ∷ parts) (rw (ap (λ (p : Part). p.2) are.2) are.1.fit) (parts_fit kind (drop are.0 rows) (next ∷ parts) are.3)
