use Rattle.std.proofs.Common.{◌≡◌, ◌<◌, ◌≤◌, ◌*◌, ℕ, true, List, length, get_or, refl, sym, ap, ◌∙◌, arith, inl, inr}
use Rattle.std.proofs.lemmas.Bool.{cases_Bool, cases_lt}
use Rattle.std.proofs.lemmas.List.{get_or_default}
use Rattle.std.proofs.lemmas.Slice.Eq.{bytes_eq-Decides}
use Rattle.of_match.specs.declared.flow_match.Match.{Match}
use Rattle.of_match.specs.declared.key.Key.{Key}
use Rattle.of_match.specs.declared.packet_key.PacketKey.{PacketKey}
use Rattle.of_match.specs.Covers.{is_covering}
use Rattle.of_match.specs.Fields.{normal_fields, is_exact}
use Rattle.of_match.specs.Key.{number}
use Rattle.of_match.specs.Match.{fields_in}
use Rattle.of_match.specs.laws.MatchLaws.{bytes-injective, fields_in-injective}
use Rattle.flow_table.specs.Sorted.{Ascends}
use Rattle.flow_table.specs.laws.SortedLaws.{places-rise}
use Rattle.tuple_index.specs.Groups.{spot, wildcards, IsFirstFrom}
use Rattle.tuple_index.specs.Masked.{masked}
use Rattle.tuple_index.specs.Taken.{key_rank, Prevails}
use Rattle.tuple_index.specs.laws.MaskedLaws.{masked-covers, masked-when_covering}
use Rattle.tuple_index.specs.laws.OrderLaws.{number-rises, priority-falls, match-from_number, spots-rise}
use Rattle.tuple_index.proofs.hitting.taken_in_group.Goals as goal
use Rattle.tuple_index.proofs.hitting.taken_in_group.Goals.{else-first-keys-via-then-first-keys+else-eq, else-first-keys-via-else-first-keys}

-- the least key of a match
abbrev least : Match → Key
least m = record { priority = 65535; matching = m }

spot-least : (k : Key) (m : Match) → k.matching ≡ m → spot (least m) ≤ spot k
unfolding spot
spot-least k m same = let bytes : number m.bytes * 65536 ≡ number k.matching.bytes * 65536 = ap (λ (n : Match). number n.bytes * 65536) (sym same) in omega arith

rank-falls : (a b : Key) → a.matching ≡ b.matching → b.priority < a.priority → key_rank b < key_rank a
unfolding key_rank
rank-falls a b same lt =
    elim (cases_Bool (is_exact (fields_in b.matching))) [
      | inl exact ↦ rw (same, exact) (omega arith)
      | inr any ↦ rw (same, any) lt
    ]

-- what covers the packet in the group is the match that is looked for
is_wanted : (ks : List Key) (at i : ℕ) (p : PacketKey) (wanted : Match) (d read : Key) → at < length ks → fields_in wanted ≡ normal_fields (masked (fields_in (get_or ks at read).matching) p)
    → ((k : Key) → wildcards (get_or ks i k).matching ≡ wildcards (get_or ks at k).matching) → is_covering (get_or ks i d).matching p ≡ true → (get_or ks i d).matching ≡ wanted
is_wanted ks at i p wanted d read within is same covers =
    let here = masked-when_covering (get_or ks i d).matching (get_or ks at d).matching p (same d) covers in
    let there = ap (λ (k : Key). normal_fields (masked (fields_in k.matching) p)) (get_or_default ks at d read within) in
    fields_in-injective (get_or ks i d).matching wanted (here ∙ there ∙ sym is)

-- it does not stand before the first place
not_before : (ks : List Key) (first i : ℕ) (wanted : Match) (d : Key) → IsFirstFrom (spot (least wanted)) ks first → i < length ks → (get_or ks i d).matching ≡ wanted → first ≤ i
not_before ks first i wanted d from within is =
    elim (cases_lt i first) [
      | inl before ↦ let below = from.below i d before within in let least = spot-least (get_or ks i d) wanted is in absurd (omega arith)
      | inr behind ↦ behind
    ]

-- the first of one match prevails over the others
prevailing : (ks : List Key) (first i : ℕ) (d : Key) → Ascends spot 0 ks → first ≤ i → i < length ks → (get_or ks first d).matching ≡ (get_or ks i d).matching → Prevails (get_or ks first d) (get_or ks i d)
prevailing ks first i d order le within same =
    elim (cases_lt first i) [
      | inl before ↦
          let rises = places-rise spot ks 0 first i d order before within in
          inl (rank-falls (get_or ks first d) (get_or ks i d) same (priority-falls (get_or ks first d) (get_or ks i d) (ap (λ (m : Match). number m.bytes) same) rises))
      | inr behind ↦ let here : first ≡ i = omega arith in rw here (inr (refl, omega arith))
    ]

-- where it stands, the first place has it
first_is : (ks : List Key) (first i : ℕ) (wanted : Match) (d : Key) → Ascends spot 0 ks → IsFirstFrom (spot (least wanted)) ks first → i < length ks → (get_or ks i d).matching ≡ wanted → (get_or ks first d).matching ≡ wanted
first_is ks first i wanted d order from within is =
    let le = not_before ks first i wanted d from within is in
    let low = number-rises (least wanted) (get_or ks first d) (from.above first d (omega arith) (omega arith)) in
    let high = number-rises (get_or ks first d) (get_or ks i d) (spots-rise ks first i d order le within) in
    let there : number (get_or ks i d).matching.bytes ≡ number wanted.bytes = ap (λ (m : Match). number m.bytes) is in
    match-from_number (get_or ks first d).matching wanted (omega arith)

pub returns-then-eq : goal.returns-then-eq
returns-then-eq c =
    let ks = c.args.keys.now in
    let p = c.args.k.now in
    let first : ℕ = c.first_from-first.result in
    let wanted : Match = c.mask-wanted.result in
    let read : Key = c.index-keys-first.result in
    let within : first < length ks = c.if-first-keys.true in
    let bytes = (bytes_eq-Decides (get_or ks first read).matching.bytes wanted.bytes).0 (sym c.if-eq.ensures) in
    let there : (d : Key) → (get_or ks first d).matching ≡ wanted = λ d. ap (λ (k : Key). k.matching) (get_or_default ks first d read within) ∙ bytes-injective (get_or ks first read).matching wanted bytes in (
      within,
      λ d. masked-covers (get_or ks first d).matching (fields_in (get_or ks c.args.at c.index-keys-at.result).matching) p (ap fields_in (there d) ∙ c.mask-wanted.ensures),
      λ i d same inside covers.
          let is = is_wanted ks c.args.at i p wanted d c.index-keys-at.result c.requires.at c.mask-wanted.ensures same covers in
          prevailing ks first i d c.requires.in_order (not_before ks first i wanted d c.first_from-first.ensures inside is) inside (there d ∙ sym is),
    )

pub returns-else-first-keys : goal.returns-else-first-keys
returns-else-first-keys c = λ i d same inside.
    let ks = c.args.keys.now in
    let p = c.args.k.now in
    let first : ℕ = c.first_from-first.result in
    let wanted : Match = c.mask-wanted.result in
    elim (cases_Bool (is_covering (get_or ks i d).matching p)) [
      | inr other ↦ other
      | inl covers ↦
          let is = is_wanted ks c.args.at i p wanted d c.index-keys-at.result c.requires.at c.mask-wanted.ensures same covers in
          let le = not_before ks first i wanted d c.first_from-first.ensures inside is in
          elim c.else-first-keys.branch [
            | else-first-keys-via-then-first-keys+else-eq w ↦
                let there = first_is ks first i wanted w.index-keys-first.result c.requires.in_order c.first_from-first.ensures inside (ap (λ (k : Key). k.matching) (get_or_default ks i w.index-keys-first.result d inside) ∙ is) in
                let equal = (bytes_eq-Decides (get_or ks first w.index-keys-first.result).matching.bytes wanted.bytes).1 (ap (λ (m : Match). m.bytes) there) in
                absurd cc (w.eq.ensures, w.if-eq.false, equal)
            | else-first-keys-via-else-first-keys w ↦ absurd (omega (arith, w.if-first-keys.false))
          ]
    ]
