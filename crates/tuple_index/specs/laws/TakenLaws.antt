-- The entry that a packet hits is that of the key which is taken of all keys of the index, whatever their order.
use Rattle.std.proofs.Common.{◌≡◌, ◌⊎◌, ℕ, zero, suc, ◌+◌, ◌<◌, true, false, List, [], ◌∷◌, length, get_or, nat_lt, Option, Some, None, refl, sym, ap, subst, ◌∙◌, arith, inl, inr}
use Rattle.std.proofs.lemmas.Bool.{cases_Bool, cases_lt}
use Rattle.std.proofs.lemmas.Bool.Decides.{nat_tests}
use Rattle.std.proofs.lemmas.List.{get_or_default}
use Rattle.std.proofs.lemmas.List.Elements.{Contains-append_right}
use Rattle.std.specs.List.{Contains}
use Rattle.of_match.specs.declared.key.Key.{Key}
use Rattle.of_match.specs.declared.packet_key.PacketKey.{PacketKey}
use Rattle.of_match.specs.Covers.{is_covering}
use Rattle.flow_table.specs.declared.entry.Entry.{Entry}
use Rattle.flow_table.specs.Table.{place_of, AscendsFrom, IsTable, entry_at}
use Rattle.flow_table.specs.Hit.{rank, best, better}
use Rattle.flow_table.specs.laws.TableLaws.{key_number-get}
use Rattle.flow_table.specs.laws.HitLaws.{Contains-best}
use Rattle.tuple_index.specs.Groups.{wildcards, IsIndex, IsGroup}
use Rattle.tuple_index.specs.Taken.{key_rank, Prevails, IsTakenOf, IsTaken, IsTakenInGroup}
use Rattle.tuple_index.specs.laws.IndexLaws.{Contains-key, Contains-entry_at}

pub rank-key : (e : Entry) → rank e ≡ key_rank e.key
unfolding rank key_rank
rank-key e = refl

pub Prevails-trans : (a b c : Key) → Prevails a b → Prevails b c → Prevails a c
Prevails-trans a b c (inl above) (inl more) = inl (omega arith)
Prevails-trans a b c (inl above) (inr (same, le)) = inl (omega arith)
Prevails-trans a b c (inr (same, le)) (inl more) = inl (omega arith)
Prevails-trans a b c (inr (same, le)) (inr (also, more)) = inr (omega arith, omega arith)

-- ---- The best of a table

best-covers : (k : PacketKey) (f : Entry) (fs : List Entry) (o : Option Entry) → best k fs ≡ o → is_covering f.key.matching k ≡ true → best k (f ∷ fs) ≡ better f o
unfolding best
best-covers k f fs o rest covers = rw (covers, rest) refl

best-skips : (k : PacketKey) (f : Entry) (fs : List Entry) (o : Option Entry) → best k fs ≡ o → is_covering f.key.matching k ≡ false → best k (f ∷ fs) ≡ o
unfolding best
best-skips k f fs o rest other = rw other rest

pub best-none : (k : PacketKey) (es : List Entry) → ((e : Entry) → Contains es e → is_covering e.key.matching k ≡ false) → best k es ≡ None
unfolding best
best-none k [] none = refl
best-none k (f ∷ fs) none = best-skips k f fs None (best-none k fs (λ e among. none e (Contains-append_right (f ∷ []) fs e among))) (none f (0, omega arith, refl))

covers-better : (k : PacketKey) (f : Entry) (o : Option Entry) (e : Entry) → is_covering f.key.matching k ≡ true → ((g : Entry) → o ≡ Some g → is_covering g.key.matching k ≡ true) → better f o ≡ Some e → is_covering e.key.matching k ≡ true
covers-better k f None e covers rest is = let same : f ≡ e = cc in rw (sym same) covers
covers-better k f (Some g) e covers rest is =
    elim (cases_Bool (nat_lt (rank f) (rank g))) [
      | inl above ↦ let same : g ≡ e = cc (rw above at is) in rest e (ap Some same)
      | inr below ↦ let same : f ≡ e = cc (rw below at is) in rw (sym same) covers
    ]

best-is_covering : (k : PacketKey) (es : List Entry) (e : Entry) → best k es ≡ Some e → is_covering e.key.matching k ≡ true
unfolding best
best-is_covering k [] e is = absurd cc
best-is_covering k (f ∷ fs) e is =
    elim (cases_Bool (is_covering f.key.matching k)) [
      | inl covers ↦ covers-better k f (best k fs) e covers (best-is_covering k fs) (sym (best-covers k f fs (best k fs) refl covers) ∙ is)
      | inr other ↦ best-is_covering k fs e (sym (best-skips k f fs (best k fs) refl other) ∙ is)
    ]

not_above : (e g : Entry) → Prevails e.key g.key → nat_lt (rank e) (rank g) ≡ false
not_above e g (inl above) = let a = rank-key e in let b = rank-key g in grind (arith, nat_tests)
not_above e g (inr (same, le)) = let a = rank-key e in let b = rank-key g in grind (arith, nat_tests)

above : (f e : Entry) → place_of f < place_of e → Prevails e.key f.key → nat_lt (rank f) (rank e) ≡ true
above f e before (inl more) = let a = rank-key e in let b = rank-key f in grind (arith, nat_tests)
above f e before (inr (same, le)) = absurd (omega arith)

first_stays : (e : Entry) (o : Option Entry) → ((g : Entry) → o ≡ Some g → Prevails e.key g.key) → better e o ≡ Some e
first_stays e None all = refl
first_stays e (Some g) all = rw (not_above e g (all g refl)) refl

best-is : (k : PacketKey) (es : List Entry) (e : Entry) (least : ℕ) → AscendsFrom least es → Contains es e → is_covering e.key.matching k ≡ true
    → ((g : Entry) → Contains es g → is_covering g.key.matching k ≡ true → Prevails e.key g.key) → best k es ≡ Some e
best-is k [] e least h (i, within, is) covers all = absurd (omega arith)
best-is k (f ∷ fs) e least h (zero, within, is) covers all =
    let same : f ≡ e = is in
    rw same (best-covers k e fs (best k fs) refl covers ∙ first_stays e (best k fs) (λ g found. all g (Contains-append_right (f ∷ []) fs g (Contains-best k fs g found)) (best-is_covering k fs g found)))
best-is k (f ∷ fs) e least h (suc i, within, is) covers all =
    let among : Contains fs e = (i, omega arith, is) in
    let rest = best-is k fs e (place_of f + 1) h.1 among covers (λ g has. all g (Contains-append_right (f ∷ []) fs g has)) in
    let behind = key_number-get fs (place_of f + 1) i e h.1 (omega arith) in
    let place : place_of (get_or fs i e) ≡ place_of e = ap place_of is in
    elim (cases_Bool (is_covering f.key.matching k)) [
      | inl both ↦ best-covers k f fs (Some e) rest both ∙ (let more = above f e (omega arith) (all f (0, omega arith, refl) both) in rw more refl)
      | inr other ↦ best-skips k f fs (Some e) rest other
    ]

-- ---- Keys and entries

pub taken-none : (k : PacketKey) (ks : List Key) (es : List Entry) → IsIndex ks es → IsTable es → IsTaken (length ks) k ks None → best k es ≡ None
taken-none k ks es index table none = best-none k es (λ e among.
    let (i, within, is) = Contains-key ks es e index table among in
    ap (λ (l : Key). is_covering l.matching k) (sym is) ∙ none i e.key within within)

pub taken-best : (k : PacketKey) (ks : List Key) (es : List Entry) (j : ℕ) (l : Key) (e : Entry) → IsIndex ks es → IsTable es → IsTaken (length ks) k ks (Some j)
    → get_or ks j l ≡ l → entry_at l es ≡ Some e → e.key ≡ l → best k es ≡ Some e
taken-best k ks es j l e index table taken read found key =
    let covers : is_covering e.key.matching k ≡ true = ap (λ (m : Key). is_covering m.matching k) (key ∙ sym read) ∙ taken.1 l in
    best-is k es e 0 table (Contains-entry_at l es e found) covers (λ g among covering.
    let (i, within, is) = Contains-key ks es g index table among in
    let more = taken.2 i g.key within within (ap (λ (m : Key). is_covering m.matching k) is ∙ covering) in
    let first : get_or ks j g.key ≡ e.key = get_or_default ks j g.key l taken.0 ∙ read ∙ sym key in
    subst (λ (m : Key). Prevails e.key m) is (subst (λ (m : Key). Prevails m (get_or ks i g.key)) first more))

-- ---- One group more

some-more : {P Q R : ℕ → Type 0} (k : PacketKey) (ks : List Key) (a : ℕ) → ((i : ℕ) → R i → P i ⊎ Q i) → IsTakenOf P k ks (Some a) → IsTakenOf Q k ks None → IsTakenOf R k ks (Some a)
some-more k ks a either first second = (
  first.0,
  first.1,
  λ i d here within covers. elim (either i here) [
    | inl one ↦ first.2 i d one within covers
    | inr other ↦ let none = second i d other within in absurd cc
  ],
)

best-more : {P Q R : ℕ → Type 0} (k : PacketKey) (ks : List Key) (a b : ℕ) → ((i : ℕ) → R i → P i ⊎ Q i) → IsTakenOf P k ks (Some a) → IsTakenOf Q k ks (Some b)
    → ((d : Key) → Prevails (get_or ks a d) (get_or ks b d)) → IsTakenOf R k ks (Some a)
best-more k ks a b either first second more = (
  first.0,
  first.1,
  λ i d here within covers. elim (either i here) [
    | inl one ↦ first.2 i d one within covers
    | inr other ↦ Prevails-trans (get_or ks a d) (get_or ks b d) (get_or ks i d) (more d) (second.2 i d other within covers)
  ],
)

turn : {A B : Type 0} → A ⊎ B → B ⊎ A
turn (inl a) = inr a
turn (inr b) = inl b

-- a key of the first keys is one of those before the group, or of the group
one_of : (from end : ℕ) (ks : List Key) → IsGroup from end ks → (i : ℕ) → i < end → (i < from) ⊎ ((k : Key) → wildcards (get_or ks i k).matching ≡ wildcards (get_or ks from k).matching)
one_of from end ks group i within =
    elim (cases_lt i from) [
      | inl before ↦ inl before
      | inr after ↦ inr (λ k. group i k after within)
    ]

pub group-first : (k : PacketKey) (from end a : ℕ) (ks : List Key) → IsGroup from end ks → IsTaken from k ks (Some a) → IsTakenInGroup from k ks None → IsTaken end k ks (Some a)
group-first k from end a ks group before in_group = some-more k ks a (one_of from end ks group) before in_group

pub group-keeps : (k : PacketKey) (from end a b : ℕ) (ks : List Key) → IsGroup from end ks → IsTaken from k ks (Some a) → IsTakenInGroup from k ks (Some b)
    → ((d : Key) → Prevails (get_or ks a d) (get_or ks b d)) → IsTaken end k ks (Some a)
group-keeps k from end a b ks group before in_group more = best-more k ks a b (one_of from end ks group) before in_group more

pub group-takes : (k : PacketKey) (from end a b : ℕ) (ks : List Key) → IsGroup from end ks → IsTaken from k ks (Some a) → IsTakenInGroup from k ks (Some b)
    → ((d : Key) → Prevails (get_or ks b d) (get_or ks a d)) → IsTaken end k ks (Some b)
group-takes k from end a b ks group before in_group more = best-more k ks b a (λ i within. turn (one_of from end ks group i within)) in_group before more
