-- What follows about sums of counts, one entry after the other.
use Rattle.std.proofs.Common.{◌≡◌, ℕ, suc, ◌+◌, ◌%◌, ◌^◌, ◌<◌, ◌≤◌, Bool, true, false, cond, List, [], ◌∷◌, length, drop, get_or, sym, ap, subst, ◌∙◌, add-one, arith}
use Rattle.std.specs.List.{sum_by}
use Rattle.std.proofs.Math.Nat.{mod-add-mod}
use Rattle.std.proofs.lemmas.Nat.{mod_below}
use Rattle.std.proofs.Math.Seq.{drop-cons}
use Rattle.std.proofs.lemmas.List.{drop_all}
use Rattle.std.proofs.lemmas.List.Sums.{sum_by-cons}
use Rattle.of_match.specs.declared.flow_match.Match.{Match}
use Rattle.of_stats.specs.declared.sum.Sum.{Sum}
use Rattle.flow_table.specs.declared.entry.Entry.{Entry}
use Rattle.flow_table.specs.Rows.{is_selected, selected}
use Rattle.flow_table.specs.Statistics.{sum_of}
use Rattle.switch_sim.specs.Words.{counted_in, IsSumBefore}

-- a count that wraps and the counts to come
regrouped : (sum count rest whole : ℕ) → (sum + (count + rest)) % 2 ^ 64 ≡ whole → ((sum + count) % 2 ^ 64 + rest) % 2 ^ 64 ≡ whole
regrouped sum count rest whole e =
    let flat : sum + count + rest ≡ sum + (count + rest) = omega arith in
    mod-add-mod (sum + count) (2 ^ 64) rest ∙ ap (λ (n : ℕ). n % 2 ^ 64) flat ∙ e

one_more : (counts : Bool) (sum : Sum) (e : Entry) (rest whole : List Entry) → IsSumBefore sum (cond counts (e ∷ rest) rest) whole → IsSumBefore (counted_in counts sum e) rest whole
one_more true sum e rest whole h =
    let packets = ap (λ (n : ℕ). (sum.packets + n) % 2 ^ 64) (sym (sum_by-cons (λ x. x.packets) e rest)) ∙ h.packets in
    let bytes = ap (λ (n : ℕ). (sum.bytes + n) % 2 ^ 64) (sym (sum_by-cons (λ x. x.bytes) e rest)) ∙ h.bytes in
    record {
      small_packets = mod_below (sum.packets + e.packets) (2 ^ 64) (omega arith);
      small_bytes = mod_below (sum.bytes + e.bytes) (2 ^ 64) (omega arith);
      packets = regrouped sum.packets e.packets (sum_by (λ x. x.packets) rest) (sum_by (λ x. x.packets) whole % 2 ^ 64) packets;
      bytes = regrouped sum.bytes e.bytes (sum_by (λ x. x.bytes) rest) (sum_by (λ x. x.bytes) whole % 2 ^ 64) bytes;
      flows = omega (arith, h.flows);
    }
one_more false sum e rest whole h = h

pub IsSumBefore-more : (m : Match) (out_port : ℕ) (es : List Entry) (i : ℕ) (e : Entry) (sum : Sum) (whole : List Entry) → i < length es → e ≡ get_or es i e
    → IsSumBefore sum (selected m out_port (drop i es)) whole → IsSumBefore (counted_in (is_selected m out_port e) sum e) (selected m out_port (drop (i + 1) es)) whole
IsSumBefore-more m out_port es i e sum whole within is h =
    let parts : drop i es ≡ e ∷ drop (i + 1) es = rw add-one (drop-cons es i e within ∙ ap (λ (x : Entry). x ∷ drop (suc i) es) (sym is)) in
    one_more (is_selected m out_port e) sum e (selected m out_port (drop (i + 1) es)) whole (subst (λ (xs : List Entry). IsSumBefore sum (selected m out_port xs) whole) parts h)

pub sum_of-whole : (m : Match) (out_port : ℕ) (es : List Entry) (i : ℕ) (sum : Sum) (whole : List Entry) → length es ≤ i
    → IsSumBefore sum (selected m out_port (drop i es)) whole → sum ≡ sum_of whole
unfolding sum_of
sum_of-whole m out_port es i sum whole past h =
    let none : drop i es ≡ [] = drop_all i es past in
    let last = subst (λ (xs : List Entry). IsSumBefore sum (selected m out_port xs) whole) none h in
    let p : sum.packets ≡ sum_by (λ x. x.packets) whole % 2 ^ 64 = omega (arith, last.packets, last.small_packets) in
    let b : sum.bytes ≡ sum_by (λ x. x.bytes) whole % 2 ^ 64 = omega (arith, last.bytes, last.small_bytes) in
    let f : sum.flows ≡ length whole = omega (arith, last.flows) in
    λ i. record { packets = p i; bytes = b i; flows = f i }
