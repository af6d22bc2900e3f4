-- The twelve fields of a match, and the 40 bytes that stand for them on the wire.
-- OpenFlow 1.0.0, 5.2.3 Flow Match Structures.
use Rattle.std.specs.Prelude.{◌≡◌, ◌==◌, ℕ, ◌+◌, ◌-◌, ◌*◌, ◌/◌, ◌%◌, ◌^◌, ◌<◌, ◌≤◌, Bool, List, [], ◌∷◌, ◌++◌, length, slice_index, Option, Some, None, IfSome, nat_le, if◌then◌else◌}
use Rattle.std.specs.Option.{is_some, unwrap_or, option_map}
use Rattle.std.specs.Int.{w16, w32, to_be_bytes}
use Rattle.of_match.specs.declared.fields.Fields.{Fields}

-- ---- The bytes read: numbers stand with the high byte first, and each byte counts modulo 256.

abbrev pub byte_in : List ℕ → ℕ → ℕ
byte_in bytes at = slice_index bytes at % 256

abbrev pub half_in : List ℕ → ℕ → ℕ
half_in bytes at = 256 * byte_in bytes at + byte_in bytes (at + 1)

abbrev pub word_in : List ℕ → ℕ → ℕ
word_in bytes at = 65536 * half_in bytes at + half_in bytes (at + 2)

abbrev pub address_in : List ℕ → ℕ → List ℕ
address_in bytes at = byte_in bytes at ∷ byte_in bytes (at + 1) ∷ byte_in bytes (at + 2) ∷ byte_in bytes (at + 3) ∷ byte_in bytes (at + 4) ∷ byte_in bytes (at + 5) ∷ []

-- Bit `bit` of the wildcards set: the field is any.
abbrev pub field : {A : Type 0} → ℕ → ℕ → A → Option A
field wildcards bit value = if wildcards / 2 ^ bit % 2 == 1 then None else Some value

-- Six bits of the wildcards count the low bits of an address that are ignored: 32 or more are the whole of it.
abbrev pub prefix : ℕ → ℕ → Option (ℕ × ℕ)
prefix ignored address = if nat_le 32 ignored then None else Some (address / 2 ^ ignored * 2 ^ ignored, 32 - ignored)

unfoldable pub fields_of : List ℕ → Fields
fields_of bytes =
    let wildcards = word_in bytes 0 in
    record {
      in_port = field wildcards 0 (half_in bytes 4);
      dl_src = field wildcards 2 (address_in bytes 6);
      dl_dst = field wildcards 3 (address_in bytes 12);
      dl_vlan = field wildcards 1 (half_in bytes 18);
      dl_vlan_pcp = field wildcards 20 (byte_in bytes 20);
      dl_type = field wildcards 4 (half_in bytes 22);
      nw_tos = field wildcards 21 (byte_in bytes 24);
      nw_proto = field wildcards 5 (byte_in bytes 25);
      nw_src = prefix (wildcards / 2 ^ 8 % 64) (word_in bytes 28);
      nw_dst = prefix (wildcards / 2 ^ 14 % 64) (word_in bytes 32);
      tp_src = field wildcards 6 (half_in bytes 36);
      tp_dst = field wildcards 7 (half_in bytes 38);
    }

-- ---- The bytes written: the normal form, with each ignored bit and each pad 0.

abbrev pub any_bit : {A : Type 0} → Option A → ℕ
any_bit o = if is_some o then 0 else 1

-- how many low bits of an address are ignored
abbrev pub ignored_bits : Option (ℕ × ℕ) → ℕ
ignored_bits None = 32
ignored_bits (Some p) = 32 - p.1

abbrev pub wildcards_of : Fields → ℕ
wildcards_of f =
    any_bit f.in_port + 2 ^ 1 * any_bit f.dl_vlan + 2 ^ 2 * any_bit f.dl_src + 2 ^ 3 * any_bit f.dl_dst + 2 ^ 4 * any_bit f.dl_type + 2 ^ 5 * any_bit f.nw_proto + 2 ^ 6 * any_bit f.tp_src + 2 ^ 7 * any_bit f.tp_dst
    + 2 ^ 8 * ignored_bits f.nw_src + 2 ^ 14 * ignored_bits f.nw_dst + 2 ^ 20 * any_bit f.dl_vlan_pcp + 2 ^ 21 * any_bit f.nw_tos

abbrev pub half : Option ℕ → List ℕ
half o = to_be_bytes w16 (unwrap_or o 0)

abbrev pub address : Option (List ℕ) → List ℕ
address o = address_in (unwrap_or o []) 0

-- an address with its ignored bits cleared
abbrev pub kept : Option (ℕ × ℕ) → ℕ
kept None = 0
kept (Some p) = p.0 / 2 ^ (32 - p.1) * 2 ^ (32 - p.1)

unfoldable pub bytes_of : Fields → List ℕ
bytes_of f =
    to_be_bytes w32 (wildcards_of f) ++ half f.in_port ++ address f.dl_src ++ address f.dl_dst ++ half f.dl_vlan
    ++ (unwrap_or f.dl_vlan_pcp 0 ∷ 0 ∷ []) ++ half f.dl_type ++ (unwrap_or f.nw_tos 0 ∷ unwrap_or f.nw_proto 0 ∷ 0 ∷ 0 ∷ [])
    ++ to_be_bytes w32 (kept f.nw_src) ++ to_be_bytes w32 (kept f.nw_dst) ++ half f.tp_src ++ half f.tp_dst

-- The 40 bytes of the normal form: what is read from them is written so.
abbrev pub IsNormal : List ℕ → Type 0
IsNormal bytes = bytes_of (fields_of bytes) ≡ bytes

-- ---- The fields that a match has: each within its width, and of an address no bit that is ignored.

pub record IsAddress (a : List ℕ) : Type 0 where
  pub len : length a ≡ 6
  pub bytes : (i : ℕ) → slice_index a i < 256

pub record IsPrefix (p : ℕ × ℕ) : Type 0 where
  pub at_least : 1 ≤ p.1
  pub at_most : p.1 ≤ 32
  pub fits : p.0 < 2 ^ 32
  pub clear : p.0 % 2 ^ (32 - p.1) ≡ 0

pub record IsFields (f : Fields) : Type 0 where
  pub in_port : IfSome f.in_port (λ n. n < 2 ^ 16)
  pub dl_src : IfSome f.dl_src IsAddress
  pub dl_dst : IfSome f.dl_dst IsAddress
  pub dl_vlan : IfSome f.dl_vlan (λ n. n < 2 ^ 16)
  pub dl_vlan_pcp : IfSome f.dl_vlan_pcp (λ n. n < 2 ^ 8)
  pub dl_type : IfSome f.dl_type (λ n. n < 2 ^ 16)
  pub nw_tos : IfSome f.nw_tos (λ n. n < 2 ^ 8)
  pub nw_proto : IfSome f.nw_proto (λ n. n < 2 ^ 8)
  pub nw_src : IfSome f.nw_src IsPrefix
  pub nw_dst : IfSome f.nw_dst IsPrefix
  pub tp_src : IfSome f.tp_src (λ n. n < 2 ^ 16)
  pub tp_dst : IfSome f.tp_dst (λ n. n < 2 ^ 16)

-- ---- Fields as a program may name them: each within its width, and prefixes are 1 to 32 bits long, and their ignored bits are cleared.

pub record IsWithin (f : Fields) : Type 0 where
  pub in_port : IfSome f.in_port (λ n. n < 2 ^ 16)
  pub dl_src : IfSome f.dl_src IsAddress
  pub dl_dst : IfSome f.dl_dst IsAddress
  pub dl_vlan : IfSome f.dl_vlan (λ n. n < 2 ^ 16)
  pub dl_vlan_pcp : IfSome f.dl_vlan_pcp (λ n. n < 2 ^ 8)
  pub dl_type : IfSome f.dl_type (λ n. n < 2 ^ 16)
  pub nw_tos : IfSome f.nw_tos (λ n. n < 2 ^ 8)
  pub nw_proto : IfSome f.nw_proto (λ n. n < 2 ^ 8)
  pub nw_src : IfSome f.nw_src (λ p. p.0 < 2 ^ 32)
  pub nw_dst : IfSome f.nw_dst (λ p. p.0 < 2 ^ 32)
  pub tp_src : IfSome f.tp_src (λ n. n < 2 ^ 16)
  pub tp_dst : IfSome f.tp_dst (λ n. n < 2 ^ 16)

pub record HasPrefixes (f : Fields) : Type 0 where
  pub nw_src : IfSome f.nw_src (λ p. (1 ≤ p.1) × (p.1 ≤ 32))
  pub nw_dst : IfSome f.nw_dst (λ p. (1 ≤ p.1) × (p.1 ≤ 32))

abbrev pub cleared : ℕ × ℕ → ℕ × ℕ
cleared p = (p.0 / 2 ^ (32 - p.1) * 2 ^ (32 - p.1), p.1)

abbrev pub normal_fields : Fields → Fields
normal_fields f = record f { nw_src = option_map cleared f.nw_src; nw_dst = option_map cleared f.nw_dst }

-- Each field is any.
abbrev pub any_fields : Fields
any_fields = record {
  in_port = None;
  dl_src = None;
  dl_dst = None;
  dl_vlan = None;
  dl_vlan_pcp = None;
  dl_type = None;
  nw_tos = None;
  nw_proto = None;
  nw_src = None;
  nw_dst = None;
  tp_src = None;
  tp_dst = None;
}

-- No bit of the wildcards is set: no field is any, and the prefixes are whole addresses.
-- OpenFlow 1.0.0, 3.4 Matching.
abbrev pub is_exact : Fields → Bool
is_exact f = wildcards_of f == 0
