-- Laws of steps as records: one step or line more, and each by its number.
use Rattle.std.specs.Prelude.{◌≡◌, ℕ, ◌+◌, ◌-◌, ◌<◌, List, [], ◌∷◌, ◌++◌, length, take, drop, Some, refl, slice_get}
use Rattle.std.specs.Option.{option_map}
use Rattle.std.proofs.Common.{zero, suc, sym, ap, ◌∙◌, arith, length-append, append_assoc}
use Rattle.std.proofs.lemmas.List.{map-append, drop-append-le, take-append-le, drop_at, length-drop, length-map, length-take-le}
use Rattle.std.proofs.lemmas.List.Elements.{All-head, All-tail}
use Rattle.std.proofs.lemmas.Option.{slice_get-map}
use Rattle.app_frames.specs.declared.script.ScriptStep.{ScriptStep}
use Rattle.session_lists.specs.declared.kinds.StepKind.{StepKind}
use Rattle.session_lists.specs.declared.reply_list.ReplyLine.{ReplyLine}
use Rattle.session_lists.specs.Steps.{step_in, steps_in, steps_between, reply_in, replies_in, IsWithin, AreWithin}

-- ---- Steps

-- all steps
all_of : {A : Type 0} (xs : List A) (n : ℕ) → n ≡ length xs → take n xs ≡ xs
all_of [] n is = rw is refl
all_of (x ∷ xs) n is = rw is (ap (λ ys. x ∷ ys) (all_of xs (length xs) refl))

pub between_count : (first end : ℕ) (records : List (StepKind × List ℕ)) → IsWithin (length records) first end → length (steps_between first end records) ≡ end - first
between_count first end records within =
    length-take-le (end - first) (drop first (steps_in records))
    (omega (arith, within.0, within.1, length-drop first (steps_in records), length-map records (λ (entry : StepKind × List ℕ). step_in entry.0 entry.1)))

-- one of them by its number
same_place : {A : Type 0} (xs : List A) (i j : ℕ) → i ≡ j → slice_get xs i ≡ slice_get xs j
same_place xs i j same = ap (λ (k : ℕ). slice_get xs k) same

got_dropped : {A : Type 0} (n i : ℕ) (xs : List A) → slice_get (drop n xs) i ≡ slice_get xs (n + i)
got_dropped zero i xs = same_place xs i (zero + i) (omega arith)
got_dropped (suc n) i [] = refl
got_dropped (suc n) i (x ∷ xs) = got_dropped n i xs ∙ same_place (x ∷ xs) (suc (n + i)) (suc n + i) (omega arith)

pub got_taken : {A : Type 0} (n i : ℕ) (xs : List A) → i < n → slice_get (take n xs) i ≡ slice_get xs i
got_taken zero i xs less = absurd (omega (arith, less))
got_taken (suc n) i [] less = refl
got_taken (suc n) zero (x ∷ xs) less = refl
got_taken (suc n) (suc i) (x ∷ xs) less = got_taken n i xs (omega (arith, less))

pub step_at : (first end i : ℕ) (records : List (StepKind × List ℕ)) (kind : StepKind) (bytes : List ℕ) → i < end - first → slice_get records (first + i) ≡ Some (kind, bytes)
    → slice_get (steps_between first end records) i ≡ Some (step_in kind bytes)
step_at first end i records kind bytes less is =
    got_taken (end - first) i (drop first (steps_in records)) less
    ∙ got_dropped first i (steps_in records)
    ∙ slice_get-map (λ (entry : StepKind × List ℕ). step_in entry.0 entry.1) records (first + i)
    ∙ ap (option_map (λ (entry : StepKind × List ℕ). step_in entry.0 entry.1)) is

-- ---- Lines

-- records behind those of the lines change no line
between_stays : (first end : ℕ) (records more : List (StepKind × List ℕ)) → IsWithin (length records) first end → steps_between first end (records ++ more) ≡ steps_between first end records
between_stays first end records more within =
    let read = λ (entry : StepKind × List ℕ). step_in entry.0 entry.1 in
    let count : length (steps_in records) ≡ length records = length-map records read in
    ap (λ (steps : List ScriptStep). take (end - first) (drop first steps)) (map-append read records more)
    ∙ ap (λ (steps : List ScriptStep). take (end - first) steps) (drop-append-le first (steps_in records) (steps_in more) (omega (arith, within.0, within.1, count)))
    ∙ take-append-le (end - first) (drop first (steps_in records)) (steps_in more) (omega (arith, within.0, within.1, count, length-drop first (steps_in records)))

abbrev IsLineWithin : ℕ → ReplyLine → Type 0
IsLineWithin count line = IsWithin count line.first line.end

pub replies_stay : (records more : List (StepKind × List ℕ)) (lines : List ReplyLine) → AreWithin (length records) lines → replies_in (records ++ more) lines ≡ replies_in records lines
replies_stay records more [] within = refl
replies_stay records more (line ∷ lines) within =
    ap (λ (steps : List ScriptStep). (line.app, steps) ∷ replies_in (records ++ more) lines)
    (between_stays line.first line.end records more (All-head (IsLineWithin (length records)) line lines within))
    ∙ ap (λ (replies : List (ℕ × List ScriptStep)). reply_in records line ∷ replies) (replies_stay records more lines (All-tail (IsLineWithin (length records)) line lines within))

-- the steps behind those of the lines
between_new : (records more : List (StepKind × List ℕ)) (first end : ℕ) → first ≡ length records → end ≡ length (records ++ more) → steps_between first end (records ++ more) ≡ steps_in more
between_new records more first end begins ends =
    let read = λ (entry : StepKind × List ℕ). step_in entry.0 entry.1 in
    ap (λ (steps : List ScriptStep). take (end - first) (drop first steps)) (map-append read records more)
    ∙ ap (λ (steps : List ScriptStep). take (end - first) steps) (drop_at (steps_in records) (steps_in more) first (omega (arith, begins, length-map records read)))
    ∙ all_of (steps_in more) (end - first) (omega (arith, begins, ends, length-append records more, length-map more read))

-- one line more, with the steps behind the others
pub replies_more : (records more : List (StepKind × List ℕ)) (lines : List ReplyLine) (app first end : ℕ) → AreWithin (length records) lines → first ≡ length records → end ≡ length (records ++ more)
    → replies_in (records ++ more) (lines ++ record { app = app; first = first; end = end } ∷ []) ≡ replies_in records lines ++ (app, steps_in more) ∷ []
replies_more records more lines app first end within begins ends =
    map-append (reply_in (records ++ more)) lines (record { app = app; first = first; end = end } ∷ [])
    ∙ ap (λ (replies : List (ℕ × List ScriptStep)). replies ++ (app, steps_between first end (records ++ more)) ∷ []) (replies_stay records more lines within)
    ∙ ap (λ (steps : List ScriptStep). replies_in records lines ++ (app, steps) ∷ []) (between_new records more first end begins ends)

-- lines stay where records come behind theirs, and where none is put to them
pub kept_lines : (records all more : List (StepKind × List ℕ)) (lines kept : List ReplyLine) → AreWithin (length records) lines → kept ≡ lines → all ≡ records ++ more → replies_in all kept ≡ replies_in records lines
kept_lines records all more lines kept within same is = rw (same, is) (replies_stay records more lines within)

pub added_line : (records all more : List (StepKind × List ℕ)) (lines added : List ReplyLine) (app first end : ℕ) → AreWithin (length records) lines
    → added ≡ lines ++ record { app = app; first = first; end = end } ∷ [] → all ≡ records ++ more → first ≡ length records → end ≡ length all → replies_in all added ≡ replies_in records lines ++ (app, steps_in more) ∷ []
added_line records all more lines added app first end within is_added is begins ends =
    rw (is_added, is) (replies_more records more lines app first end within begins (ends ∙ ap (λ (xs : List (StepKind × List ℕ)). length xs) is))

-- ---- One record after the other

pub taken_more : {A : Type 0} (xs : List A) (i : ℕ) (x : A) → slice_get xs i ≡ Some x → take (i + 1) xs ≡ take i xs ++ x ∷ []
taken_more [] i x is = absurd cc
taken_more (y ∷ ys) zero x is = cc
taken_more (y ∷ ys) (suc i) x is = same_front (y ∷ ys) (suc i + 1) (suc (i + 1)) (omega arith) ∙ ap (λ zs. y ∷ zs) (taken_more ys i x is)
  where
    same_front : {A : Type 0} (xs : List A) (n m : ℕ) → n ≡ m → take n xs ≡ take m xs
    same_front xs n m same = ap (λ (k : ℕ). take k xs) same

pub put_more : {A : Type 0} (all to front from : List A) (i : ℕ) (x y : A) → all ≡ to ++ y ∷ [] → y ≡ x → to ≡ front ++ take i from → slice_get from i ≡ Some x → all ≡ front ++ take (i + 1) from
put_more all to front from i x y is same before at =
    is
    ∙ ap (λ zs. zs ++ y ∷ []) before
    ∙ ap (λ z. (front ++ take i from) ++ z ∷ []) same
    ∙ append_assoc front (take i from) (x ∷ [])
    ∙ ap (λ zs. front ++ zs) (sym (taken_more from i x at))
