-- What the entries of some rows lost, row by row.
use Rattle.std.specs.Prelude.{if◌then◌else◌}
use Rattle.std.proofs.Common.{◌≡◌, ℕ, suc, ◌+◌, ◌<◌, Bool, List, [], ◌∷◌, ◌++◌, length, take, filter, get_or, Option, Some, None, refl, sym, ap, ◌∙◌, arith, inl, inr, append-nil}
use Rattle.std.proofs.lemmas.Bool.{cases_Bool, cond-true, cond-false}
use Rattle.std.proofs.lemmas.List.Elements.{filter-append}
use Rattle.std.proofs.lemmas.List.Sums.{sum_by-append}
use Rattle.std.proofs.Math.Seq.{take-suc}
use Rattle.of_match.specs.declared.key.Key.{Key}
use Rattle.flow_table.specs.declared.lost.Lost.{Lost}
use Rattle.flow_table.specs.declared.view.ViewRow.{ViewRow}
use Rattle.flow_table.specs.Corrected.{lost_at}
use Rattle.counter_cache.specs.declared.sums.Total.{Total}
use Rattle.counter_cache.specs.Fixed.{packets_of, bytes_of}
use Rattle.counter_cache.specs.Totals.{added, IsTotal}

-- one row more
one_more : (lost : List (Key × Lost)) (rows : List ViewRow) (r : ViewRow) (t : Total) (found : Option Lost) → IsTotal lost rows t → found ≡ lost_at r.key lost → IsTotal lost (rows ++ r ∷ []) (added found t)
one_more lost rows r t None is here = record {
  packets = rw (sum_by-append (λ (x : ViewRow). packets_of (lost_at x.key lost)) rows (r ∷ []), sym here, is.packets) (omega arith);
  bytes = rw (sum_by-append (λ (x : ViewRow). bytes_of (lost_at x.key lost)) rows (r ∷ []), sym here, is.bytes) (omega arith);
}
one_more lost rows r t (Some l) is here = record {
  packets = rw (sum_by-append (λ (x : ViewRow). packets_of (lost_at x.key lost)) rows (r ∷ []), sym here, is.packets) (omega arith);
  bytes = rw (sum_by-append (λ (x : ViewRow). bytes_of (lost_at x.key lost)) rows (r ∷ []), sym here, is.bytes) (omega arith);
}

-- one row more of those from which some are taken
met_more : (test : ViewRow → Bool) (lost : List (Key × Lost)) (rows : List ViewRow) (r : ViewRow) (t : Total) → IsTotal lost (filter test rows) t
    → IsTotal lost (filter test (rows ++ r ∷ [])) (added (if test r then lost_at r.key lost else None) t)
met_more test lost rows r t is =
    elim (cases_Bool (test r)) [
      | inl passes ↦
          let kept : filter test (rows ++ r ∷ []) ≡ filter test rows ++ r ∷ [] = filter-append test rows (r ∷ []) ∙ ap (λ (rs : List ViewRow). filter test rows ++ rs) (cond-true (test r) (r ∷ []) [] passes) in
          rw (kept, cond-true (test r) (lost_at r.key lost) None passes) (one_more lost (filter test rows) r t (lost_at r.key lost) is refl)
      | inr fails ↦
          let kept : filter test (rows ++ r ∷ []) ≡ filter test rows = filter-append test rows (r ∷ []) ∙ ap (λ (rs : List ViewRow). filter test rows ++ rs) (cond-false (test r) (r ∷ []) [] fails) ∙ append-nil (filter test rows) in
          rw (kept, cond-false (test r) (lost_at r.key lost) None fails) is
    ]

-- the total over the first rows, and one more
pub total_more : (test : ViewRow → Bool) (lost : List (Key × Lost)) (rows : List ViewRow) (i : ℕ) (r : ViewRow) (t : Total) → i < length rows → r ≡ get_or rows i r → IsTotal lost (filter test (take i rows)) t
    → IsTotal lost (filter test (take (i + 1) rows)) (added (if test r then lost_at r.key lost else None) t)
total_more test lost rows i r t within read is =
    let same : i + 1 ≡ suc i = omega arith in
    let next : take (i + 1) rows ≡ take i rows ++ r ∷ [] = ap (λ (n : ℕ). take n rows) same ∙ take-suc rows i r within ∙ ap (λ (x : ViewRow). take i rows ++ x ∷ []) (sym read) in
    rw next (met_more test lost (take i rows) r t is)
