-- What follows about hits and counts: the entry that is hit stands in the table, and keys and order stay.
use Rattle.std.proofs.Common.{◌≡◌, ◌==◌, ◌⊎◌, ℕ, zero, suc, ◌+◌, ◌<◌, true, false, List, [], ◌∷◌, length, get_or, set, nat_lt, Option, Some, None, refl, sym, ap, ◌∙◌, arith, inl, inr}
use Rattle.std.proofs.lemmas.Bool.{cases_Bool}
use Rattle.std.proofs.lemmas.List.{get_or_default}
use Rattle.std.specs.List.{Contains}
use Rattle.of_match.specs.Covers.{is_covering}
use Rattle.of_match.specs.declared.packet_key.PacketKey.{PacketKey}
use Rattle.of_match.specs.Key.{key_number}
use Rattle.flow_table.specs.declared.entry.Entry.{Entry}
use Rattle.flow_table.specs.Table.{place_of, AscendsFrom, IsTable, keys}
use Rattle.flow_table.specs.laws.TableLaws.{with_entry-found}
use Rattle.flow_table.specs.Hit.{rank, best, better, counted, hit, with_counts}

-- ---- Entries with the same keys

ascends-keys : (es fs : List Entry) (least : ℕ) → keys es ≡ keys fs → AscendsFrom least es → AscendsFrom least fs
ascends-keys [] [] least same h = tt
ascends-keys [] (f ∷ fs) least same h = absurd cc
ascends-keys (e ∷ es) [] least same h = absurd cc
ascends-keys (e ∷ es) (f ∷ fs) least same h =
    let here : e.key ≡ f.key = cc in
    let rest : keys es ≡ keys fs = cc in
    let at : key_number e.key ≡ key_number f.key = ap key_number here in
    (rw (sym at) h.0, ascends-keys es fs (key_number f.key + 1) rest (rw at at h.1))

-- order is one of keys
pub IsTable-keys : (es fs : List Entry) → keys es ≡ keys fs → IsTable es → IsTable fs
IsTable-keys es fs same h = ascends-keys es fs 0 same h

pub keys-set : (es : List Entry) (i : ℕ) (e : Entry) → (get_or es i e).key ≡ e.key → keys (set es i e) ≡ keys es
keys-set [] i e same = refl
keys-set (f ∷ fs) zero e same = ap (λ k. k ∷ keys fs) (sym same)
keys-set (f ∷ fs) (suc i) e same = ap (λ ks. f.key ∷ ks) (keys-set fs i e same)

-- ---- The best entry is one of the table.

best-covers : (k : PacketKey) (f : Entry) (fs : List Entry) → is_covering f.key.matching k ≡ true → best k (f ∷ fs) ≡ better f (best k fs)
unfolding best
best-covers k f fs covers = rw covers refl

best-other : (k : PacketKey) (f : Entry) (fs : List Entry) → is_covering f.key.matching k ≡ false → best k (f ∷ fs) ≡ best k fs
unfolding best
best-other k f fs other = rw other refl

Contains-behind : (e f : Entry) (fs : List Entry) → Contains fs e → Contains (f ∷ fs) e
Contains-behind e f fs (i, within, is) = (suc i, omega arith, is)

Contains-better : (e f : Entry) (fs : List Entry) (o : Option Entry) → ((g : Entry) → o ≡ Some g → Contains fs g) → better f o ≡ Some e → Contains (f ∷ fs) e
Contains-better e f fs None rest is = let same : f ≡ e = cc in (0, omega arith, same)
Contains-better e f fs (Some g) rest is =
    elim (cases_Bool (nat_lt (rank f) (rank g))) [
      | inl above ↦ let same : g ≡ e = cc (rw above at is) in Contains-behind e f fs (rest e (ap Some same))
      | inr below ↦ let same : f ≡ e = cc (rw below at is) in (0, omega arith, same)
    ]

pub Contains-best : (k : PacketKey) (es : List Entry) (e : Entry) → best k es ≡ Some e → Contains es e
unfolding best
Contains-best k [] e is = absurd cc
Contains-best k (f ∷ fs) e is =
    elim (cases_Bool (is_covering f.key.matching k)) [
      | inl covers ↦ Contains-better e f fs (best k fs) (Contains-best k fs) (sym (best-covers k f fs covers) ∙ is)
      | inr other ↦ Contains-behind e f fs (Contains-best k fs e (sym (best-other k f fs other) ∙ is))
    ]

-- ---- The entry that is hit is counted at its place.

pub hit-set : (k : PacketKey) (len now : ℕ) (es : List Entry) (i : ℕ) (e : Entry) → IsTable es → best k es ≡ Some e → i < length es → get_or es i e ≡ e → hit k len now es ≡ set es i (counted len now e)
unfolding hit
hit-set k len now es i e is found within here =
    let c : Entry = counted len now e in
    let there : place_of (get_or es i c) ≡ place_of c = ap place_of (get_or_default es i c e within ∙ here) in
    rw found (with_entry-found es c 0 i is within there)

pub hit-none : (k : PacketKey) (len now : ℕ) (es : List Entry) → best k es ≡ None → hit k len now es ≡ es
unfolding hit
hit-none k len now es none = rw none refl

pub cases_Option : (o : Option Entry) → (o ≡ None) ⊎ ((e : Entry) × (o ≡ Some e))
cases_Option None = inl refl
cases_Option (Some e) = inr (e, refl)

pub keys-hit : (k : PacketKey) (len now : ℕ) (es : List Entry) → IsTable es → keys (hit k len now es) ≡ keys es
keys-hit k len now es is =
    elim (cases_Option (best k es)) [
      | inl none ↦ ap keys (hit-none k len now es none)
      | inr (e, found) ↦
          let (i, within, here) = Contains-best k es e found in
          let c : Entry = counted len now e in
          ap keys (hit-set k len now es i e is found within here) ∙ keys-set es i c (ap (λ x. x.key) (get_or_default es i c e within ∙ here))
    ]

pub IsTable-hit : (k : PacketKey) (len now : ℕ) (es : List Entry) → IsTable es → IsTable (hit k len now es)
IsTable-hit k len now es is = IsTable-keys es (hit k len now es) (sym (keys-hit k len now es is)) is

-- ---- Counts

pub keys-with_counts : (priority packets bytes : ℕ) (es : List Entry) → keys (with_counts priority packets bytes es) ≡ keys es
unfolding with_counts
keys-with_counts priority packets bytes [] = refl
keys-with_counts priority packets bytes (e ∷ es) =
    let rest = keys-with_counts priority packets bytes es in
    elim (cases_Bool (e.key.priority == priority)) [
      | inl same ↦ rw same (ap (λ ks. e.key ∷ ks) rest)
      | inr other ↦ rw other (ap (λ ks. e.key ∷ ks) rest)
    ]

pub IsTable-with_counts : (priority packets bytes : ℕ) (es : List Entry) → IsTable es → IsTable (with_counts priority packets bytes es)
IsTable-with_counts priority packets bytes es is = IsTable-keys es (with_counts priority packets bytes es) (sym (keys-with_counts priority packets bytes es)) is
