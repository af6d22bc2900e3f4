-- Sets that are made hop by hop, and as the union of several.
use Rattle.std.proofs.Common.{◌≡◌, ◌==◌, ℕ, ◌+◌, ◌<◌, ◌≤◌, Bool, true, false, ◌&&◌, ◌||◌, List, length, get_or, drop, refl, sym, ap, ◌∙◌, arith, inl, inr}
use Rattle.std.specs.List.{list_any}
use Rattle.std.proofs.lemmas.List.{at_drop_more, at_drop_all}
use Rattle.std.proofs.lemmas.Bool.{cases_eq, eq-eqb, ne_eqb}
use Rattle.flow_table.specs.declared.view.TableView.{TableView as Lent}
use Rattle.flow_table.specs.View.{TableView, plain, plains}
use Rattle.net_guard.specs.Bits.{has, Marks}
use Rattle.net_guard.specs.declared.hop.Hop.{Hop}
use Rattle.net_guard.specs.Links.{hop_at}
use Rattle.net_guard.specs.laws.BitLaws.{has-none, or-none}

-- ---- hop by hop

-- the set has those of the first i hops that pass the test, and no others
pub record Marking (set : ℕ) (hops : List Hop) (test : Hop → Bool) (i : ℕ) : Type 0 where
  pub each : (k : ℕ) → k < i → has set k ≡ test (hop_at hops k)
  pub none : (k : ℕ) → i ≤ k → has set k ≡ false

pub Marking-none : (hops : List Hop) (test : Hop → Bool) → Marking 0 hops test 0
Marking-none hops test = record { each = λ k below. absurd (omega arith); none = λ k past. has-none k }

here : (k i : ℕ) (b had : Bool) → k ≡ i → had ≡ false → ((k == i && b) || had) ≡ b
here k i b had same none = ap (λ t. (t && b) || had) (eq-eqb k i same) ∙ or-none b had none

elsewhere : (k i : ℕ) (b had : Bool) → (k ≡ i → ⊥) → ((k == i && b) || had) ≡ had
elsewhere k i b had other = rw (ne_eqb k i other) refl

pub Marking-more : (set new : ℕ) (hops : List Hop) (test : Hop → Bool) (i : ℕ) (passes : Bool) → Marking set hops test i → passes ≡ test (hop_at hops i)
    → ((k : ℕ) → has new k ≡ ((k == i && passes) || has set k)) → Marking new hops test (i + 1)
Marking-more set new hops test i passes m is more = record {
  each = λ k below. elim (cases_eq k i) [
    | inl same ↦ more k ∙ here k i passes (has set k) same (m.none k (omega arith)) ∙ is ∙ ap (λ (n : ℕ). test (hop_at hops n)) (sym same)
    | inr other ↦ more k ∙ elsewhere k i passes (has set k) other ∙ m.each k (omega arith)
  ];
  none = λ k past. more k ∙ elsewhere k i passes (has set k) (λ same. omega arith) ∙ m.none k (omega arith);
}

pub Marks-all : (set : ℕ) (hops : List Hop) (test : Hop → Bool) (i : ℕ) → Marking set hops test i → length hops ≤ i → Marks set hops test
Marks-all set hops test i m past = record { each = λ k within. m.each k (omega arith) }

-- ---- a union

-- the set and the hops that are still to come are the whole
pub record Leaves (set : ℕ) (hops : List Hop) (rest whole : Hop → Bool) : Type 0 where
  pub each : (k : ℕ) → k < length hops → (has set k || rest (hop_at hops k)) ≡ whole (hop_at hops k)

pub Leaves-none : (hops : List Hop) (rest whole : Hop → Bool) → ((h : Hop) → rest h ≡ whole h) → Leaves 0 hops rest whole
Leaves-none hops rest whole same = record { each = λ k within. rw (has-none k) (same (hop_at hops k)) }

pub regrouped : (a b c d : Bool) → (b || c) ≡ d → ((a || b) || c) ≡ (a || d)
regrouped true b c d same = refl
regrouped false b c d same = same

pub Leaves-more : (set part new : ℕ) (hops : List Hop) (rest next test whole : Hop → Bool) → Leaves set hops rest whole → Marks part hops test → ((k : ℕ) → has new k ≡ (has set k || has part k))
    → ((h : Hop) → rest h ≡ (test h || next h)) → Leaves new hops next whole
Leaves-more set part new hops rest next test whole l m both split = record {
  each = λ k within.
      ap (λ b. b || next (hop_at hops k)) (both k ∙ ap (λ b. has set k || b) (m.each k within)) ∙ regrouped (has set k) (test (hop_at hops k)) (next (hop_at hops k)) (rest (hop_at hops k)) (sym (split (hop_at hops k))) ∙ l.each k within;
}

-- nothing is marked by 0
pub Marks-none : (hops : List Hop) (test : Hop → Bool) → ((h : Hop) → test h ≡ false) → Marks 0 hops test
Marks-none hops test none = record { each = λ k within. has-none k ∙ sym (none (hop_at hops k)) }

-- one item more of a list
pub any-drop : {A : Type 0} (test : A → Bool) (xs : List A) (i : ℕ) (x : A) → i < length xs → x ≡ get_or xs i x → list_any test (drop i xs) ≡ (test x || list_any test (drop (i + 1) xs))
any-drop test xs i x within is = at_drop_more (list_any test) xs i x within ∙ ap (λ y. test y || list_any test (drop (i + 1) xs)) (sym is)

pub any-drop_all : {A : Type 0} (test : A → Bool) (xs : List A) (i : ℕ) → length xs ≤ i → list_any test (drop i xs) ≡ false
any-drop_all test xs i past = at_drop_all (list_any test) xs i past

pub Marks-left : (set : ℕ) (hops : List Hop) (rest whole : Hop → Bool) → Leaves set hops rest whole → ((h : Hop) → rest h ≡ false) → Marks set hops whole
Marks-left set hops rest whole l none = record {
  each = λ k within. sym (or-none (has set k) (rest (hop_at hops k)) (none (hop_at hops k))) ∙ l.each k within;
}

pub Marks-same : (set : ℕ) (hops : List Hop) (test other : Hop → Bool) → ((h : Hop) → test h ≡ other h) → Marks set hops test → Marks set hops other
Marks-same set hops test other same m = record { each = λ k within. m.each k within ∙ same (hop_at hops k) }

pub any-drop_plains : (test : TableView → Bool) (xs : List Lent) (i : ℕ) (x : Lent) → i < length xs → x ≡ get_or xs i x → list_any test (plains (drop i xs)) ≡ (test (plain x) || list_any test (plains (drop (i + 1) xs)))
any-drop_plains test xs i x within is = at_drop_more (λ ys. list_any test (plains ys)) xs i x within ∙ ap (λ y. test (plain y) || list_any test (plains (drop (i + 1) xs))) (sym is)

pub any-drop_all_plains : (test : TableView → Bool) (xs : List Lent) (i : ℕ) → length xs ≤ i → list_any test (plains (drop i xs)) ≡ false
any-drop_all_plains test xs i past = at_drop_all (λ ys. list_any test (plains ys)) xs i past

pub Marks-both : (a b new : ℕ) (hops : List Hop) (first second : Hop → Bool) → Marks a hops first → Marks b hops second → ((k : ℕ) → has new k ≡ (has a k && has b k)) → Marks new hops (λ h. first h && second h)
Marks-both a b new hops first second m n both = record { each = λ k within. both k ∙ ap (λ x. x && has b k) (m.each k within) ∙ ap (λ x. first (hop_at hops k) && x) (n.each k within) }
