-- Laws of replies in parts: rows are split in one way, and joining what was split gives them in order.
use Rattle.std.proofs.Common.{◌≡◌, ℕ, zero, suc, ◌+◌, ◌%◌, ◌<◌, ◌≤◌, List, [], ◌∷◌, ◌++◌, length, take, drop, get_or, refl, sym, ap, subst, ◌∙◌, inl, inr, arith}
use Rattle.std.specs.Prelude.{◌↔◌, map, Ok}
use Rattle.std.specs.List.{concat}
use Rattle.std.proofs.lemmas.Bool.{cases_lt}
use Rattle.std.proofs.lemmas.List.{append-nil, take-append-drop, take_more, take-take, get_or_default, length-append}
use Rattle.std.proofs.lemmas.List.Folds.{concat-append}
use Rattle.of_stats.specs.declared.flow_row.FlowRow.{FlowRow}
use Rattle.of_stats.specs.Flows.{row_bytes, rows_bytes, AreRows}
use Rattle.of_stats.specs.Reading.{rows_of}
use Rattle.of_stats.specs.laws.FlowLaws.{rows_of-rows_bytes}
use Rattle.of_stats.specs.Parts.{Part, room, IsFull, AreParts, part_at, IsWhole, joined}

-- ---- lengths

-- one row more
pub concat_more : (rows : List (List ℕ)) (count : ℕ) (row : List ℕ) → count < length rows → row ≡ get_or rows count row → concat (take (count + 1) rows) ≡ concat (take count rows) ++ row
concat_more rows count row lt is =
    ap concat (take_more rows count row lt) ∙ concat-append (take count rows) (get_or rows count row ∷ []) ∙ ap (λ (xs : List ℕ). concat (take count rows) ++ xs) (append-nil (get_or rows count row) ∙ sym is)

pub length-concat_more : (rows : List (List ℕ)) (count : ℕ) → count < length rows → length (concat (take (count + 1) rows)) ≡ length (concat (take count rows)) + length (get_or rows count [])
length-concat_more rows count lt =
    ap length (concat_more rows count (get_or rows count []) lt (get_or_default rows count [] (get_or rows count []) lt)) ∙ length-append (concat (take count rows)) (get_or rows count [])

pub concat-take_drop : (count : ℕ) (rows : List (List ℕ)) → concat (take count rows) ++ concat (drop count rows) ≡ concat rows
concat-take_drop count rows = sym (concat-append (take count rows) (drop count rows)) ∙ ap concat (take-append-drop count rows)

length-concat_front : (count : ℕ) (rows : List (List ℕ)) → length (concat (take count rows)) ≤ length (concat rows)
length-concat_front count rows =
    omega (arith, length-append (concat (take count rows)) (concat (drop count rows)), ap length (concat-take_drop count rows))

length-concat_fronts : (few many : ℕ) (rows : List (List ℕ)) → few ≤ many → length (concat (take few rows)) ≤ length (concat (take many rows))
length-concat_fronts few many rows le =
    subst (λ (xs : List (List ℕ)). length (concat xs) ≤ length (concat (take many rows))) (take-take few many rows le) (length-concat_front few (take many rows))

-- ---- one way to split

-- what does not fit one part does not fit with more rows
too_many : (count : ℕ) (rows : List (List ℕ)) → IsFull count rows → room < length (concat (take (count + 1) rows))
too_many count rows full = omega (arith, length-concat_more rows count full.more, full.full)

full_not_less : (few many : ℕ) (rows : List (List ℕ)) → IsFull few rows → IsFull many rows → few < many → ⊥
full_not_less few many rows full full' lt =
    omega (arith, too_many few rows full, length-concat_fronts (few + 1) many rows (omega arith), full'.fit)

one_count : (a b : ℕ) (rows : List (List ℕ)) → IsFull a rows → IsFull b rows → a ≡ b
one_count a b rows full full' = elim (cases_lt a b) [
  | inl lt ↦ absurd (full_not_less a b rows full full' lt)
  | inr le ↦ elim (cases_lt b a) [ inl lt ↦ absurd (full_not_less b a rows full' full lt) | inr ge ↦ omega arith ]
]

not_all : (count : ℕ) (rows : List (List ℕ)) → IsFull count rows → length (concat rows) ≤ room → ⊥
not_all count rows full fits = omega (arith, too_many count rows full, length-concat_front (count + 1) rows, fits)

pub one_split : (kind : ℕ) (rows : List (List ℕ)) (parts others : List Part) → AreParts kind rows parts → AreParts kind rows others → parts ≡ others
one_split kind rows [] others are are' = absurd are
one_split kind rows (part ∷ []) [] are are' = absurd are'
one_split kind rows (part ∷ []) (other ∷ []) are are' = ap (λ (p : Part). p ∷ []) (are.0 ∙ sym are'.0)
one_split kind rows (part ∷ []) (other ∷ next' ∷ others) are are' = absurd (not_all are'.0 rows are'.1 are.1)
one_split kind rows (part ∷ next ∷ parts) [] are are' = absurd are'
one_split kind rows (part ∷ next ∷ parts) (other ∷ []) are are' = absurd (not_all are.0 rows are.1 are'.1)
one_split kind rows (part ∷ next ∷ parts) (other ∷ next' ∷ others) are are' =
    let same : are'.0 ≡ are.0 = one_count are'.0 are.0 rows are'.1 are.1 in
    let first : part ≡ other = are.2 ∙ ap (λ (n : ℕ). (kind, 1, concat (take n rows))) (sym same) ∙ sym are'.2 in
    let later = subst (λ (n : ℕ). AreParts kind (drop n rows) (next' ∷ others)) same are'.3 in
    let rest = one_split kind (drop are.0 rows) (next ∷ parts) (next' ∷ others) are.3 later in
    ap (λ (p : Part). p ∷ next ∷ parts) first ∙ ap (λ (ps : List Part). other ∷ ps) rest

-- ---- what was split is whole, and gives the rows

-- the part at a place of a reply that was split
pub record IsPartAt (kind place : ℕ) (parts : List Part) : Type 0 where
  pub kind_is : (part_at place parts).0 ≡ kind
  pub more_is : ((part_at place parts).1 % 2 ≡ 1) ↔ (place + 1 < length parts)

split_at : (kind : ℕ) (rows : List (List ℕ)) (parts : List Part) → AreParts kind rows parts → (place : ℕ) → place < length parts → IsPartAt kind place parts
split_at kind rows [] are place lt = absurd are
split_at kind rows (part ∷ []) are zero lt =
    let flags : part.1 ≡ 0 = ap (λ (p : Part). p.1) are.0 in
    record { kind_is = ap (λ (p : Part). p.0) are.0; more_is = (λ e. absurd (omega (arith, flags, e)), λ more. absurd (omega arith)) }
split_at kind rows (part ∷ []) are (suc place) lt = absurd (omega arith)
split_at kind rows (part ∷ next ∷ parts) are zero lt =
    let flags : part.1 ≡ 1 = ap (λ (p : Part). p.1) are.2 in
    record { kind_is = ap (λ (p : Part). p.0) are.2; more_is = (λ e. omega arith, λ more. omega (arith, flags)) }
split_at kind rows (part ∷ next ∷ parts) are (suc place) lt =
    let later = split_at kind (drop are.0 rows) (next ∷ parts) are.3 place (omega arith) in
    record { kind_is = later.kind_is; more_is = (λ e. let m = later.more_is.0 e in omega arith, λ more. later.more_is.1 (omega arith)) }

some_parts : (kind : ℕ) (rows : List (List ℕ)) (parts : List Part) → AreParts kind rows parts → 0 < length parts
some_parts kind rows [] are = absurd are
some_parts kind rows (part ∷ []) are = omega arith
some_parts kind rows (part ∷ next ∷ parts) are = omega arith

pub split_is_whole : (kind : ℕ) (rows : List (List ℕ)) (parts : List Part) → AreParts kind rows parts → IsWhole parts
split_is_whole kind rows parts are =
    let some = some_parts kind rows parts are in
    let first = split_at kind rows parts are 0 some in
    record {
      some = some;
      each = λ place lt. let here = split_at kind rows parts are place lt in record { there = lt; kind = here.kind_is ∙ sym first.kind_is; more = here.more_is };
    }

pub joined_split : (kind : ℕ) (rows : List (List ℕ)) (parts : List Part) → AreParts kind rows parts → joined parts ≡ concat rows
joined_split kind rows [] are = absurd are
joined_split kind rows (part ∷ []) are = append-nil part.2 ∙ ap (λ (p : Part). p.2) are.0
joined_split kind rows (part ∷ next ∷ parts) are =
    ap (λ (p : Part). p.2 ++ joined (next ∷ parts)) are.2 ∙ ap (λ (xs : List ℕ). concat (take are.0 rows) ++ xs) (joined_split kind (drop are.0 rows) (next ∷ parts) are.3) ∙ concat-take_drop are.0 rows

concat-map : (rows : List FlowRow) → concat (map row_bytes rows) ≡ rows_bytes rows
concat-map [] = refl
concat-map (row ∷ rows) = ap (λ (xs : List ℕ). row_bytes row ++ xs) (concat-map rows)

pub flows_again : (kind : ℕ) (rows : List FlowRow) (parts : List Part) → AreRows rows → AreParts kind (map row_bytes rows) parts → rows_of (joined parts) ≡ Ok rows
flows_again kind rows parts fit are =
    ap rows_of (joined_split kind (map row_bytes rows) parts are ∙ concat-map rows) ∙ rows_of-rows_bytes rows fit

-- ---- one part more

pub more_parts : (kind : ℕ) (rows : List (List ℕ)) (count : ℕ) (part : Part) (later : List Part) → IsFull count rows → part ≡ (kind, 1, concat (take count rows)) → AreParts kind (drop count rows) later → AreParts kind rows (part ∷ later)
more_parts kind rows count part [] full is are = absurd are
more_parts kind rows count part (next ∷ later) full is are = (count, full, is, are)
