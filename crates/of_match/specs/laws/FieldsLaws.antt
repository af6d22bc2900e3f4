-- What was written is read again.
use Rattle.std.proofs.Common.{◌≡◌, ◌==◌, ℕ, zero, suc, ◌+◌, ◌-◌, ◌*◌, ◌/◌, ◌%◌, ◌^◌, ◌<◌, ◌≤◌, Bool, true, false, List, [], ◌∷◌, length, leb, cond, Option, Some, None, refl, sym, ap, ◌∙◌, arith}
use Rattle.std.specs.Prelude.{slice_index, IfSome, unwrap_or}
use Rattle.std.specs.Option.{option_map}
use Rattle.std.specs.List.{AllByRecursion}
use Rattle.of_match.specs.declared.fields.Fields.{Fields}
use Rattle.std.proofs.lemmas.Bool.{leb-false, lt-leb}
use Rattle.std.proofs.lemmas.Nat.{shr_split, shl-shr}
use Rattle.std.proofs.Math.Nat.{mul-mod_left}
use Rattle.of_match.specs.Fields.{byte_in, half_in, word_in, fields_of, bytes_of, field, prefix, any_bit, ignored_bits, wildcards_of, address_in, address, kept, cleared, normal_fields, IsFields, IsAddress, IsPrefix, IsWithin, HasPrefixes}

-- ---- The wildcards word.

-- the parts of a word of wildcards
record Parts (a b c d e f g h p q r s w : ℕ) : Type 0 where
  bit_0 : w / 2 ^ 0 % 2 ≡ a
  bit_1 : w / 2 ^ 1 % 2 ≡ b
  bit_2 : w / 2 ^ 2 % 2 ≡ c
  bit_3 : w / 2 ^ 3 % 2 ≡ d
  bit_4 : w / 2 ^ 4 % 2 ≡ e
  bit_5 : w / 2 ^ 5 % 2 ≡ f
  bit_6 : w / 2 ^ 6 % 2 ≡ g
  bit_7 : w / 2 ^ 7 % 2 ≡ h
  source : w / 2 ^ 8 % 64 ≡ p
  destination : w / 2 ^ 14 % 64 ≡ q
  bit_20 : w / 2 ^ 20 % 2 ≡ r
  bit_21 : w / 2 ^ 21 % 2 ≡ s
  small : w < 2 ^ 32

parts : (a b c d e f g h p q r s : ℕ) → a ≤ 1 → b ≤ 1 → c ≤ 1 → d ≤ 1 → e ≤ 1 → f ≤ 1 → g ≤ 1 → h ≤ 1 → p ≤ 32 → q ≤ 32 → r ≤ 1 → s ≤ 1
    → Parts a b c d e f g h p q r s (a + 2 ^ 1 * b + 2 ^ 2 * c + 2 ^ 3 * d + 2 ^ 4 * e + 2 ^ 5 * f + 2 ^ 6 * g + 2 ^ 7 * h + 2 ^ 8 * p + 2 ^ 14 * q + 2 ^ 20 * r + 2 ^ 21 * s)
parts a b c d e f g h p q r s ha hb hc hd he hf hg hh hp hq hr hs = record {
  bit_0 = omega arith;
  bit_1 = omega arith;
  bit_2 = omega arith;
  bit_3 = omega arith;
  bit_4 = omega arith;
  bit_5 = omega arith;
  bit_6 = omega arith;
  bit_7 = omega arith;
  source = omega arith;
  destination = omega arith;
  bit_20 = omega arith;
  bit_21 = omega arith;
  small = omega arith;
}

any_bit_small : {A : Type 0} (o : Option A) → any_bit o ≤ 1
any_bit_small None = omega arith
any_bit_small (Some x) = omega arith

ignored_bits_small : (o : Option (ℕ × ℕ)) → ignored_bits o ≤ 32
ignored_bits_small None = omega arith
ignored_bits_small (Some x) = omega arith

-- ---- A field.

half_again : (n : ℕ) → n < 2 ^ 16 → 256 * (n / 256 % 256 % 256) + n % 256 % 256 ≡ n
half_again n h = omega arith

word_again : (n : ℕ) → n < 2 ^ 32 → 65536 * (256 * (n / 16777216 % 256 % 256) + n / 65536 % 256 % 256) + (256 * (n / 256 % 256 % 256) + n % 256 % 256) ≡ n
word_again n h = omega arith

field_again : {A : Type 0} (o : Option A) (w k place : ℕ) (x : A) → w ≡ k → k / 2 ^ place % 2 ≡ any_bit o → IfSome o (λ y. x ≡ y) → field w place x ≡ o
field_again None w k place x s e h = rw (s, e) refl
field_again (Some y) w k place x s e h = rw (s, e, h) refl

half_kept : (o : Option ℕ) → IfSome o (λ n. n < 2 ^ 16) → IfSome o (λ y. 256 * (unwrap_or o 0 / 256 % 256 % 256) + unwrap_or o 0 % 256 % 256 ≡ y)
half_kept None h = tt
half_kept (Some x) h = half_again x h

byte_kept : (o : Option ℕ) → IfSome o (λ n. n < 2 ^ 8) → IfSome o (λ y. unwrap_or o 0 % 256 ≡ y)
byte_kept None h = tt
byte_kept (Some x) h = omega arith

IsByte-again : (a : List ℕ) (i : ℕ) → IsAddress a → slice_index a i % 256 % 256 ≡ slice_index a i
IsByte-again a i is = let h : slice_index a i < 256 = is.bytes i in omega arith

six : (a : List ℕ) → length a ≡ 6 → slice_index a 0 ∷ slice_index a 1 ∷ slice_index a 2 ∷ slice_index a 3 ∷ slice_index a 4 ∷ slice_index a 5 ∷ [] ≡ a
six [] e = absurd cc
six (_ ∷ []) e = absurd (omega arith)
six (_ ∷ _ ∷ []) e = absurd (omega arith)
six (_ ∷ _ ∷ _ ∷ []) e = absurd (omega arith)
six (_ ∷ _ ∷ _ ∷ _ ∷ []) e = absurd (omega arith)
six (_ ∷ _ ∷ _ ∷ _ ∷ _ ∷ []) e = absurd (omega arith)
six (_ ∷ _ ∷ _ ∷ _ ∷ _ ∷ _ ∷ []) e = refl
six (_ ∷ _ ∷ _ ∷ _ ∷ _ ∷ _ ∷ _ ∷ _) e = absurd (omega arith)

address_again : (a : List ℕ) → IsAddress a → address_in (address_in a 0) 0 ≡ a
address_again a is = rw (IsByte-again a 0 is, IsByte-again a 1 is, IsByte-again a 2 is, IsByte-again a 3 is, IsByte-again a 4 is, IsByte-again a 5 is) (six a is.len)

address_kept : (o : Option (List ℕ)) → IfSome o IsAddress → IfSome o (λ y. address_in (address o) 0 ≡ y)
address_kept None h = tt
address_kept (Some a) h = address_again a h

pub clear_is : (p : ℕ × ℕ) → IsPrefix p → p.0 / 2 ^ (32 - p.1) * 2 ^ (32 - p.1) ≡ p.0
clear_is p is = omega (arith, shr_split p.0 (32 - p.1), is.clear)

prefix_again : (o : Option (ℕ × ℕ)) (i x : ℕ) → i ≡ ignored_bits o → IfSome o (λ p. x ≡ p.0) → IfSome o IsPrefix → prefix i x ≡ o
prefix_again None i x e h is = rw e refl
prefix_again (Some p) i x e h is =
    let some : leb 32 (32 - p.1) ≡ false = lt-leb 32 (32 - p.1) (omega (arith, is.at_least)) in
    let twice : 32 - (32 - p.1) ≡ p.1 = omega (arith, is.at_most) in
    rw (e, h, some, clear_is p is, twice) refl

word_kept : (o : Option (ℕ × ℕ)) → IfSome o IsPrefix → IfSome o (λ p. 65536 * (256 * (kept o / 16777216 % 256 % 256) + kept o / 65536 % 256 % 256) + (256 * (kept o / 256 % 256 % 256) + kept o % 256 % 256) ≡ p.0)
word_kept None is = tt
word_kept (Some p) is = rw (clear_is p is) (word_again p.0 is.fits)

wildcards_parts : (f : Fields) → Parts (any_bit f.in_port) (any_bit f.dl_vlan) (any_bit f.dl_src) (any_bit f.dl_dst) (any_bit f.dl_type) (any_bit f.nw_proto) (any_bit f.tp_src) (any_bit f.tp_dst) (ignored_bits f.nw_src) (ignored_bits f.nw_dst) (any_bit f.dl_vlan_pcp) (any_bit f.nw_tos) (wildcards_of f)
wildcards_parts f = parts _ _ _ _ _ _ _ _ _ _ _ _
    (any_bit_small f.in_port) (any_bit_small f.dl_vlan) (any_bit_small f.dl_src) (any_bit_small f.dl_dst) (any_bit_small f.dl_type) (any_bit_small f.nw_proto) (any_bit_small f.tp_src) (any_bit_small f.tp_dst) (ignored_bits_small f.nw_src) (ignored_bits_small f.nw_dst) (any_bit_small f.dl_vlan_pcp) (any_bit_small f.nw_tos)

-- The fields that a match has are read again from the bytes that they are written as.
pub fields_of-bytes_of : (f : Fields) → IsFields f → fields_of (bytes_of f) ≡ f
unfolding fields_of bytes_of
fields_of-bytes_of f is =
    let w = wildcards_parts f in
    let s = word_again (wildcards_of f) w.small in
    λ i. record {
      in_port = field_again f.in_port _ _ 0 _ s w.bit_0 (half_kept f.in_port is.in_port) i;
      dl_src = field_again f.dl_src _ _ 2 _ s w.bit_2 (address_kept f.dl_src is.dl_src) i;
      dl_dst = field_again f.dl_dst _ _ 3 _ s w.bit_3 (address_kept f.dl_dst is.dl_dst) i;
      dl_vlan = field_again f.dl_vlan _ _ 1 _ s w.bit_1 (half_kept f.dl_vlan is.dl_vlan) i;
      dl_vlan_pcp = field_again f.dl_vlan_pcp _ _ 20 _ s w.bit_20 (byte_kept f.dl_vlan_pcp is.dl_vlan_pcp) i;
      dl_type = field_again f.dl_type _ _ 4 _ s w.bit_4 (half_kept f.dl_type is.dl_type) i;
      nw_tos = field_again f.nw_tos _ _ 21 _ s w.bit_21 (byte_kept f.nw_tos is.nw_tos) i;
      nw_proto = field_again f.nw_proto _ _ 5 _ s w.bit_5 (byte_kept f.nw_proto is.nw_proto) i;
      nw_src = prefix_again f.nw_src _ _ (ap (λ n. n / 2 ^ 8 % 64) s ∙ w.source) (word_kept f.nw_src is.nw_src) is.nw_src i;
      nw_dst = prefix_again f.nw_dst _ _ (ap (λ n. n / 2 ^ 14 % 64) s ∙ w.destination) (word_kept f.nw_dst is.nw_dst) is.nw_dst i;
      tp_src = field_again f.tp_src _ _ 6 _ s w.bit_6 (half_kept f.tp_src is.tp_src) i;
      tp_dst = field_again f.tp_dst _ _ 7 _ s w.bit_7 (half_kept f.tp_dst is.tp_dst) i;
    }

-- The fields that are read are those that a match has.
within_unless : (A : Type 0) (P : A → Type 0) (b : Bool) (x : A) → (b ≡ false → P x) → IfSome (cond b None (Some x)) P
within_unless A P true x h = tt
within_unless A P false x h = h refl

field_within : {A : Type 0} (P : A → Type 0) (w place : ℕ) (x : A) → P x → IfSome (field w place x) P
field_within {A} P w place x h = within_unless A P (w / 2 ^ place % 2 == 1) x (λ _. h)

byte_in-lt : (bytes : List ℕ) (at : ℕ) → byte_in bytes at < 256
byte_in-lt bytes at = omega arith

half_in-lt : (bytes : List ℕ) (at : ℕ) → half_in bytes at < 2 ^ 16
half_in-lt bytes at = omega arith

word_in-lt : (bytes : List ℕ) (at : ℕ) → word_in bytes at < 2 ^ 32
word_in-lt bytes at = omega arith

six_small : (a b c d e f : ℕ) → a < 256 → b < 256 → c < 256 → d < 256 → e < 256 → f < 256 → (i : ℕ) → slice_index (a ∷ b ∷ c ∷ d ∷ e ∷ f ∷ []) i < 256
six_small a b c d e f ha hb hc hd he hf zero = ha
six_small a b c d e f ha hb hc hd he hf (suc zero) = hb
six_small a b c d e f ha hb hc hd he hf (suc (suc zero)) = hc
six_small a b c d e f ha hb hc hd he hf (suc (suc (suc zero))) = hd
six_small a b c d e f ha hb hc hd he hf (suc (suc (suc (suc zero)))) = he
six_small a b c d e f ha hb hc hd he hf (suc (suc (suc (suc (suc zero))))) = hf
six_small a b c d e f ha hb hc hd he hf (suc (suc (suc (suc (suc (suc i)))))) = omega arith

address_in_is : (bytes : List ℕ) (at : ℕ) → IsAddress (address_in bytes at)
address_in_is bytes at = record {
  len = refl;
  bytes = six_small _ _ _ _ _ _ (byte_in-lt bytes at) (byte_in-lt bytes (at + 1)) (byte_in-lt bytes (at + 2)) (byte_in-lt bytes (at + 3)) (byte_in-lt bytes (at + 4)) (byte_in-lt bytes (at + 5));
}

half_within : (w place at : ℕ) (bytes : List ℕ) → IfSome (field w place (half_in bytes at)) (λ n. n < 2 ^ 16)
half_within w place at bytes = field_within (λ n. n < 2 ^ 16) w place (half_in bytes at) (half_in-lt bytes at)

byte_within : (w place at : ℕ) (bytes : List ℕ) → IfSome (field w place (byte_in bytes at)) (λ n. n < 2 ^ 8)
byte_within w place at bytes = field_within (λ n. n < 2 ^ 8) w place (byte_in bytes at) (byte_in-lt bytes at)

address_within : (w place at : ℕ) (bytes : List ℕ) → IfSome (field w place (address_in bytes at)) IsAddress
address_within w place at bytes = field_within IsAddress w place (address_in bytes at) (address_in_is bytes at)

prefix_is : (i x : ℕ) → i < 32 → x < 2 ^ 32 → IsPrefix (x / 2 ^ i * 2 ^ i, 32 - i)
prefix_is i x lt fits =
    let twice : 32 - (32 - i) ≡ i = omega arith in
    record { at_least = omega arith; at_most = omega arith; fits = omega (arith, shr_split x i); clear = rw twice (mul-mod_left (x / 2 ^ i) (2 ^ i)) }

prefix_within : (i at : ℕ) (bytes : List ℕ) → IfSome (prefix i (word_in bytes at)) IsPrefix
prefix_within i at bytes = within_unless (ℕ × ℕ) IsPrefix (leb 32 i) _ (λ e. prefix_is i (word_in bytes at) (leb-false 32 i e) (word_in-lt bytes at))

pub fields_within : (bytes : List ℕ) → IsFields (fields_of bytes)
unfolding fields_of
fields_within bytes = record {
  in_port = half_within _ 0 4 bytes;
  dl_src = address_within _ 2 6 bytes;
  dl_dst = address_within _ 3 12 bytes;
  dl_vlan = half_within _ 1 18 bytes;
  dl_vlan_pcp = byte_within _ 20 20 bytes;
  dl_type = half_within _ 4 22 bytes;
  nw_tos = byte_within _ 21 24 bytes;
  nw_proto = byte_within _ 5 25 bytes;
  nw_src = prefix_within _ 28 bytes;
  nw_dst = prefix_within _ 32 bytes;
  tp_src = half_within _ 6 36 bytes;
  tp_dst = half_within _ 7 38 bytes;
}

pub normal_again : (bytes : List ℕ) → bytes_of (fields_of (bytes_of (fields_of bytes))) ≡ bytes_of (fields_of bytes)
normal_again bytes = ap bytes_of (fields_of-bytes_of (fields_of bytes) (fields_within bytes))

-- ---- The fields that a program names.

kept-cleared : (o : Option (ℕ × ℕ)) → kept (option_map cleared o) ≡ kept o
kept-cleared None = refl
kept-cleared (Some p) = ap (λ n. n * 2 ^ (32 - p.1)) (shl-shr (p.0 / 2 ^ (32 - p.1)) (32 - p.1))

ignored_bits-cleared : (o : Option (ℕ × ℕ)) → ignored_bits (option_map cleared o) ≡ ignored_bits o
ignored_bits-cleared None = refl
ignored_bits-cleared (Some p) = refl

-- fields are written as their normal form is
pub bytes_of-normal_fields : (f : Fields) → bytes_of (normal_fields f) ≡ bytes_of f
unfolding bytes_of
bytes_of-normal_fields f = rw (kept-cleared f.nw_src, kept-cleared f.nw_dst, ignored_bits-cleared f.nw_src, ignored_bits-cleared f.nw_dst) refl

cleared_is : (p : ℕ × ℕ) → p.0 < 2 ^ 32 → 1 ≤ p.1 → p.1 ≤ 32 → IsPrefix (cleared p)
cleared_is p fits some most = record {
  at_least = some;
  at_most = most;
  fits = omega (arith, shr_split p.0 (32 - p.1));
  clear = mul-mod_left (p.0 / 2 ^ (32 - p.1)) (2 ^ (32 - p.1));
}

option_cleared_is : (o : Option (ℕ × ℕ)) → IfSome o (λ p. p.0 < 2 ^ 32) → IfSome o (λ p. (1 ≤ p.1) × (p.1 ≤ 32)) → IfSome (option_map cleared o) IsPrefix
option_cleared_is None fits prefixes = tt
option_cleared_is (Some p) fits prefixes = cleared_is p fits prefixes.0 prefixes.1

pub normal_fields_are : (f : Fields) → IsWithin f → HasPrefixes f → IsFields (normal_fields f)
normal_fields_are f w h = record {
  in_port = w.in_port;
  dl_src = w.dl_src;
  dl_dst = w.dl_dst;
  dl_vlan = w.dl_vlan;
  dl_vlan_pcp = w.dl_vlan_pcp;
  dl_type = w.dl_type;
  nw_tos = w.nw_tos;
  nw_proto = w.nw_proto;
  nw_src = option_cleared_is f.nw_src w.nw_src h.nw_src;
  nw_dst = option_cleared_is f.nw_dst w.nw_dst h.nw_dst;
  tp_src = w.tp_src;
  tp_dst = w.tp_dst;
}

pub fields_of-bytes_of_any : (f : Fields) → IsWithin f → HasPrefixes f → fields_of (bytes_of f) ≡ normal_fields f
fields_of-bytes_of_any f w h = ap fields_of (sym (bytes_of-normal_fields f)) ∙ fields_of-bytes_of (normal_fields f) (normal_fields_are f w h)

pub bytes_of-normal : (f : Fields) → IsWithin f → HasPrefixes f → bytes_of (fields_of (bytes_of f)) ≡ bytes_of f
bytes_of-normal f w h = ap bytes_of (fields_of-bytes_of_any f w h) ∙ bytes_of-normal_fields f

pub value_within : (o : Option ℕ) (limit n : ℕ) → n ≡ unwrap_or o 0 → n < limit → IfSome o (λ m. m < limit)
value_within None limit n e lt = tt
value_within (Some m) limit n e lt = omega arith

prefix_len : (o : Option (ℕ × ℕ)) → IfSome o IsPrefix → IfSome o (λ p. (1 ≤ p.1) × (p.1 ≤ 32))
prefix_len None h = tt
prefix_len (Some p) h = (h.at_least, h.at_most)

-- what a match has may be named again
pub HasPrefixes-from : (f : Fields) → IsFields f → HasPrefixes f
HasPrefixes-from f is = record { nw_src = prefix_len f.nw_src is.nw_src; nw_dst = prefix_len f.nw_dst is.nw_dst }

-- ---- The bytes that are written.

abbrev pub AreBytes : List ℕ → Type 0
AreBytes bytes = AllByRecursion (λ b. b < 256) bytes

low : (n : ℕ) → n % 256 < 256
low n = omega arith

byte-lt : (o : Option ℕ) → IfSome o (λ n. n < 2 ^ 8) → unwrap_or o 0 < 256
byte-lt None h = omega arith
byte-lt (Some n) h = h

-- the bytes of fields are 40, each below 256
pub bytes_of-length : (f : Fields) → length (bytes_of f) ≡ 40
unfolding bytes_of
bytes_of-length f = refl

pub bytes_of-AreBytes : (f : Fields) → IsFields f → AreBytes (bytes_of f)
unfolding bytes_of
bytes_of-AreBytes f is =
    let z : 0 < 256 = omega arith in
    (low _, (low _, (low _, (low _, (low _, (low _, (low _, (low _, (low _, (low _, (low _, (low _, (low _, (low _, (low _, (low _, (low _, (low _, (low _, (low _, (byte-lt f.dl_vlan_pcp is.dl_vlan_pcp, (z, (low _, (low _, (byte-lt f.nw_tos is.nw_tos, (byte-lt f.nw_proto is.nw_proto, (z, (z, (low _, (low _, (low _, (low _, (low _, (low _, (low _, (low _, (low _, (low _, (low _, (low _, tt))))))))))))))))))))))))))))))))))))))))
