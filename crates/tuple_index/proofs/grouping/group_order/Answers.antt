use Rattle.std.proofs.Common.{◌≡◌, ℕ, ◌-◌, ◌^◌, ◌<◌, sym, ap, ◌∙◌, arith, inl, inr}
use Rattle.std.proofs.lemmas.Bool.{cases_lt}
use Rattle.std.specs.Ordering.{nat_cmp, ordering_then}
use Rattle.std.specs.Cmp.{nat_cmp_is}
use Rattle.std.specs.Cmp.Lexicographic.{slice_cmp}
use Rattle.std.specs.declared.cmp.Ordering.TheVariants.{Less, Equal, Greater}
use Rattle.of_match.specs.declared.flow_match.Match.{Match}
use Rattle.of_match.specs.declared.key.Key.{Key}
use Rattle.of_match.specs.Key.{number, key_number}
use Rattle.of_match.specs.laws.KeyLaws.{digits-cmp, key_number-cmp, match-number-lt}
use Rattle.tuple_index.specs.Groups.{spot}
use Rattle.tuple_index.proofs.grouping.group_order.Goals as goal

abbrev least : Match → Key
least m = record { priority = 0; matching = m }

bytes_cmp : (m n : Match) → nat_cmp (number m.bytes) (number n.bytes) ≡ slice_cmp nat_cmp m.bytes n.bytes
unfolding key_number
bytes_cmp m n =
    let within : 0 < 2 ^ 16 = omega arith in
    sym (digits-cmp 65535 65535 (number m.bytes) (number n.bytes) (256 ^ 40) (match-number-lt m) (match-number-lt n))
    ∙ key_number-cmp (least m) (least n) (record { priority = within }) (record { priority = within })

turned : (p q : ℕ) → p < 2 ^ 16 → q < 2 ^ 16 → nat_cmp (65535 - p) (65535 - q) ≡ nat_cmp q p
turned p q hp hq =
    elim (cases_lt q p) [
      | inl lt ↦ sym (nat_cmp_is (65535 - p) (65535 - q) Less (omega arith)) ∙ nat_cmp_is q p Less lt
      | inr le ↦ elim (cases_lt p q) [
        | inl gt ↦ sym (nat_cmp_is (65535 - p) (65535 - q) Greater (omega arith)) ∙ nat_cmp_is q p Greater gt
        | inr ge ↦ sym (nat_cmp_is (65535 - p) (65535 - q) Equal (omega arith)) ∙ nat_cmp_is q p Equal (omega arith)
      ]
    ]

spots_cmp : (a b : Key) → a.priority < 2 ^ 16 → b.priority < 2 ^ 16 → nat_cmp (spot a) (spot b) ≡ ordering_then (slice_cmp nat_cmp a.matching.bytes b.matching.bytes) (nat_cmp b.priority a.priority)
unfolding spot
spots_cmp a b ha hb =
    digits-cmp (number a.matching.bytes) (number b.matching.bytes) (65535 - a.priority) (65535 - b.priority) 65536 (omega arith) (omega arith)
    ∙ ap (λ o. ordering_then o (nat_cmp (65535 - a.priority) (65535 - b.priority))) (bytes_cmp a.matching b.matching)
    ∙ ap (ordering_then (slice_cmp nat_cmp a.matching.bytes b.matching.bytes)) (turned a.priority b.priority ha hb)

pub returns : goal.returns
returns c = cc (c.then.ensures, c.cmp.ensures, c.cmp-2.ensures, spots_cmp c.args.a.now c.args.b.now (omega arith) (omega arith))
