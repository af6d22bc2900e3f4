-- What is heard of copies, in several pieces.
use Rattle.std.specs.Prelude.{◌≡◌, ◌≢◌, ◌==◌, ℕ, ◌+◌, ◌-◌, ◌*◌, ◌^◌, ◌<◌, ◌≤◌, Bool, true, false, List, [], ◌∷◌, ◌++◌, length, take, drop, min, slice_index_or, Option, Result, Ok, Err, IfOk, OnOk, refl}
use Rattle.std.specs.Option.{unwrap_or}
use Rattle.std.proofs.Common.{sym, ap, ◌∙◌, subst, arith, append_assoc}
use Rattle.std.proofs.lemmas.Bool.{false≢true}
use Rattle.std.proofs.lemmas.List.{append-nil, length-drop, drop-drop, take-append-drop, take_more}
use Rattle.frame_votes.specs.declared.ballot.Place.{Place}
use Rattle.frame_votes.specs.declared.ballot.Place.TheVariants.{First, Second, Third}
use Rattle.frame_votes.specs.Votes.{Polled, voted, after_vote, copy_at, with_copy}
use Rattle.of_types.specs.declared.journal.TookWhat.{TookWhat}
use Rattle.of_types.specs.declared.journal.TookWhat.TheVariants.{Silent}
use Rattle.outside.specs.declared.faults.Short.{Short}
use Rattle.vote_world.specs.Voting.{Voting, HearsAt, Heard, VotesTo, Votes, Refilled, Passes, Took, none_in, copies_in, numbered, copies_before}

-- the copy with more of what it gave
abbrev with_more : Place → List ℕ → Polled → Polled
with_more place more p = with_copy place (record (copy_at place p) { held = (copy_at place p).held ++ more }) p

more_none : (place : Place) (p : Polled) → with_more place [] p ≡ p
more_none First p = ap (λ (held : List ℕ). record p { first = record p.first { held = held } }) (append-nil p.first.held)
more_none Second p = ap (λ (held : List ℕ). record p { second = record p.second { held = held } }) (append-nil p.second.held)
more_none Third p = ap (λ (held : List ℕ). record p { third = record p.third { held = held } }) (append-nil p.third.held)

more_twice : (place : Place) (one two : List ℕ) (p : Polled) → with_more place two (with_more place one p) ≡ with_more place (one ++ two) p
more_twice First one two p = ap (λ (held : List ℕ). record p { first = record p.first { held = held } }) (append_assoc p.first.held one two)
more_twice Second one two p = ap (λ (held : List ℕ). record p { second = record p.second { held = held } }) (append_assoc p.second.held one two)
more_twice Third one two p = ap (λ (held : List ℕ). record p { third = record p.third { held = held } }) (append_assoc p.third.held one two)

pub hears_none : (place : Place) (p : Polled) → HearsAt place p p
hears_none place p = ([], sym (more_none place p))

pub hears_more : (place : Place) (a b c : Polled) → HearsAt place a b → HearsAt place b c → HearsAt place a c
hears_more place a b c first second =
    (first.0 ++ second.0, second.1 ∙ ap (with_more place second.0) first.1 ∙ more_twice place first.0 second.0 a)

pub heard_second_third : (a b c : Polled) → HearsAt Second a b → HearsAt Third b c → Heard a c
heard_second_third a b c two three = record {
  first = ([], ap (λ (p : Polled). p.first) three.1 ∙ ap (λ (p : Polled). p.first) two.1 ∙ ap (λ (held : List ℕ). record a.first { held = held }) (sym (append-nil a.first.held)));
  second = (two.0, ap (λ (p : Polled). p.second) three.1 ∙ ap (λ (p : Polled). p.second) two.1);
  third = (three.0, ap (λ (p : Polled). p.third) three.1 ∙ ap (λ (p : Polled). record p.third { held = p.third.held ++ three.0 }) two.1);
}

pub first_stays : (a b c : Polled) → HearsAt Second a b → HearsAt Third b c → c.first ≡ a.first
first_stays a b c two three = ap (λ (p : Polled). p.first) three.1 ∙ ap (λ (p : Polled). p.first) two.1

pub heard_all : (a b c : Polled) → HearsAt First a b → c.first ≡ b.first → Heard b c → Heard a c
heard_all a b c one same rest = record {
  first = (one.0, same ∙ ap (λ (p : Polled). p.first) one.1);
  second = (rest.second.0, rest.second.1 ∙ ap (λ (p : Polled). record p.second { held = p.second.held ++ rest.second.0 }) one.1);
  third = (rest.third.0, rest.third.1 ∙ ap (λ (p : Polled). record p.third { held = p.third.held ++ rest.third.0 }) one.1);
}

-- ---- Applications in order

numbered_last : (first : ℕ) (xs : List ℕ) (n : ℕ) → numbered first (xs ++ n ∷ []) ≡ numbered first xs ++ (record { first = copies_before first xs; three = n == 3; ballot = none_in; left = [] }) ∷ []
numbered_last first [] n = refl
numbered_last first (x ∷ xs) n = ap (λ (rest : List Voting). (record { first = first; three = x == 3; ballot = none_in; left = [] }) ∷ rest) (numbered_last (first + copies_in (x == 3)) xs n)

copies_last : (first : ℕ) (xs : List ℕ) (n : ℕ) → copies_before first (xs ++ n ∷ []) ≡ copies_before first xs + copies_in (n == 3)
copies_last first [] n = refl
copies_last first (x ∷ xs) n = copies_last (first + copies_in (x == 3)) xs n

numbered_more : (xs : List ℕ) (i d : ℕ) → i < length xs
    → numbered 0 (take (i + 1) xs) ≡ numbered 0 (take i xs) ++ (record { first = copies_before 0 (take i xs); three = slice_index_or xs i d == 3; ballot = none_in; left = [] }) ∷ []
numbered_more xs i d lt = ap (numbered 0) (take_more xs i d lt) ∙ numbered_last 0 (take i xs) (slice_index_or xs i d)

copies_more : (xs : List ℕ) (i d : ℕ) → i < length xs → copies_before 0 (take (i + 1) xs) ≡ copies_before 0 (take i xs) + copies_in (slice_index_or xs i d == 3)
copies_more xs i d lt = ap (copies_before 0) (take_more xs i d lt) ∙ copies_last 0 (take i xs) (slice_index_or xs i d)

-- one application more
pub added : (xs : List ℕ) (i d first : ℕ) (all new : List Voting) → i < length xs → all ≡ numbered 0 (take i xs) → first ≡ copies_before 0 (take i xs)
    → new ≡ all ++ (record { first = first; three = slice_index_or xs i d == 3; ballot = none_in; left = [] }) ∷ [] → new ≡ numbered 0 (take (i + 1) xs)
added xs i d first all new lt same number is =
    is
    ∙ ap (λ (front : List Voting). front ++ (record { first = first; three = slice_index_or xs i d == 3; ballot = none_in; left = [] }) ∷ []) same
    ∙ ap (λ (n : ℕ). numbered 0 (take i xs) ++ (record { first = n; three = slice_index_or xs i d == 3; ballot = none_in; left = [] }) ∷ []) number
    ∙ sym (numbered_more xs i d lt)

pub counted : (xs : List ℕ) (i d first next : ℕ) → i < length xs → first ≡ copies_before 0 (take i xs) → next ≡ first + copies_in (slice_index_or xs i d == 3) → next ≡ copies_before 0 (take (i + 1) xs)
counted xs i d first next lt number is =
    is ∙ ap (λ (n : ℕ). n + copies_in (slice_index_or xs i d == 3)) number ∙ sym (copies_more xs i d lt)

pub few_more : (three : Bool) (i first next : ℕ) → first ≤ 3 * i → next ≡ first + copies_in three → next ≤ 3 * (i + 1)
few_more true i first next few is = omega (arith, few, is)
few_more false i first next few is = omega (arith, few, is)

-- ---- What is left

pub left_on : (xs : List ℕ) (taken len : ℕ) → length xs ≤ 2 ^ 64 - 1 → taken ≤ 2 ^ 64 - 1 → len ≤ length (drop taken xs) → drop (min (taken + len) (2 ^ 64 - 1)) xs ≡ drop len (drop taken xs)
left_on xs taken len fits small within =
    let most : len ≤ length xs - taken = rw (← length-drop taken xs) within in
    let sum : min (taken + len) (2 ^ 64 - 1) ≡ taken + len = omega (arith, fits, small, most) in
    ap (λ (n : ℕ). drop n xs) sum ∙ sym (drop-drop len taken xs)

pub cut_at : (xs : List ℕ) (n : ℕ) → xs ≡ take n xs ++ drop n xs
cut_at xs n = sym (take-append-drop n xs)

-- ---- A vote

pub votes_to : (a b c : Polled) (result : Result (Option (List ℕ)) Short) → Heard a b → IfOk result (λ found. found ≡ voted b) → OnOk result (c ≡ after_vote b) → IfOk result (λ found. VotesTo a c found)
votes_to a b c (Ok found) heard frame ballot = record { polled = b; heard = heard; frame = frame; ballot = ballot }
votes_to a b c (Err short) heard frame ballot = tt

pub votes_by : (old mid new : Voting) (found : Option (List ℕ)) → VotesTo old.ballot mid.ballot found → new ≡ (record mid { left = unwrap_or found [] }) → Votes old new
votes_by old mid new found votes is = record {
  frame = found;
  votes = subst (λ (v : Voting). VotesTo old.ballot v.ballot found) (sym is) votes;
  left = ap (λ (v : Voting). v.left) is;
}

pub second_third : (a b c : Polled) (result : Result (Unit {0}) Short) → HearsAt Second a b → OnOk result (HearsAt Third b c) → OnOk result (Heard a c)
second_third a b c (Ok x) two three = heard_second_third a b c two three
second_third a b c (Err short) two three = tt

pub first_kept : (a b c : Polled) (result : Result (Unit {0}) Short) → HearsAt Second a b → OnOk result (HearsAt Third b c) → OnOk result (c.first ≡ a.first)
first_kept a b c (Ok x) two three = first_stays a b c two three
first_kept a b c (Err short) two three = tt

pub all_three : (a b c : Polled) (result : Result (Unit {0}) Short) → HearsAt First a b → OnOk result (c.first ≡ b.first) → OnOk result (Heard b c) → OnOk result (Heard a c)
all_three a b c (Ok x) one same rest = heard_all a b c one same rest
all_three a b c (Err short) one same rest = tt

-- ---- Filled again

pub refilled_none : (v : Voting) → v.left ≢ [] → Refilled v v
refilled_none v some = record { three = refl; waits = λ left. refl; votes = λ three none. absurd (some none) }

pub refilled_one : (old new : Voting) (result : Result TookWhat Short) → old.left ≡ [] → old.three ≡ false → new.three ≡ old.three → OnOk result (Refilled old new)
refilled_one old new (Ok what) none one same = record { three = same; waits = λ some. absurd (some none); votes = λ three left. absurd (false≢true (sym one ∙ three)) }
refilled_one old new (Err short) none one same = tt

pub refilled_three : (old new : Voting) → old.left ≡ [] → new.three ≡ old.three → Votes old new → Refilled old new
refilled_three old new none same votes = record { three = same; waits = λ some. absurd (some none); votes = λ three left. votes }

pub took_by : (a b c : Voting) (result : Result TookWhat Short) → Refilled a b → IfOk result (λ what. Passes b c what) → (a.three ≡ true → IfOk result (λ what. what ≢ Silent)) → IfOk result (λ what. Took a c what)
took_by a b c (Ok what) refilled passes silent = record { between = b; refilled = refilled; passes = passes; silent = silent }
took_by a b c (Err short) refilled passes silent = tt
