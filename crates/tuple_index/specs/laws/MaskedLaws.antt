-- A match covers a packet exactly where its fields are the packet's under its own wildcards, and these alone decide what is left of a packet.
use Rattle.std.proofs.Common.{◌≡◌, ◌==◌, ℕ, ◌+◌, ◌-◌, ◌*◌, ◌/◌, ◌%◌, ◌^◌, ◌<◌, true, List, Option, Some, None, nat_le, IfSome, refl, sym, ap, subst, ◌∙◌, arith, inl, inr}
use Rattle.std.proofs.lemmas.Bool.{cases_Bool}
use Rattle.std.proofs.lemmas.Nat.{div-mul-add, pow_pos}
use Rattle.std.specs.Option.{option_map}
use Rattle.of_match.specs.declared.fields.Fields.{Fields}
use Rattle.of_match.specs.declared.flow_match.Match.{Match}
use Rattle.of_match.specs.declared.packet_key.PacketKey.{PacketKey}
use Rattle.of_match.specs.Covers.{Agrees, AgreesOnPrefix, FieldsCover, is_covering}
use Rattle.of_match.specs.Fields.{byte_in, half_in, word_in, address_in, field, prefix, fields_of, cleared, normal_fields, IsFields, IsPrefix}
use Rattle.of_match.specs.Match.{fields_in}
use Rattle.of_match.specs.laws.CoversLaws.{fields_agree-Decides}
use Rattle.of_match.specs.laws.FieldsLaws.{clear_is}
use Rattle.of_match.specs.laws.MatchLaws.{fields_in-within}
use Rattle.tuple_index.specs.Groups.{wildcards}
use Rattle.tuple_index.specs.Masked.{filled, filled_prefix, masked}

-- ---- Field by field

value-filled : {A : Type 0} (o : Option A) (x : A) → Agrees o x → o ≡ filled o x
value-filled None x agrees = refl
value-filled (Some w) x agrees = ap Some (sym agrees)

filled-agrees : {A : Type 0} (o : Option A) (x : A) → Agrees (filled o x) x
filled-agrees None x = tt
filled-agrees (Some w) x = refl

prefix-filled : (o : Option (ℕ × ℕ)) (x : ℕ) → IfSome o IsPrefix → AgreesOnPrefix o x → o ≡ option_map cleared (filled_prefix o x)
prefix-filled None x is agrees = refl
prefix-filled (Some p) x is agrees =
    let same : p.0 ≡ x / 2 ^ (32 - p.1) * 2 ^ (32 - p.1) = sym (clear_is p is) ∙ ap (λ n. n * 2 ^ (32 - p.1)) (sym agrees) in
    λ i. Some (same i, p.1)

divided : (x d : ℕ) → 0 < d → x / d * d / d ≡ x / d
divided x d lt = let plus : x / d * d ≡ x / d * d + 0 = omega arith in ap (λ n. n / d) plus ∙ div-mul-add (x / d) d 0 lt

filled_prefix-agrees : (o : Option (ℕ × ℕ)) (x : ℕ) → AgreesOnPrefix (option_map cleared (filled_prefix o x)) x
filled_prefix-agrees None x = tt
filled_prefix-agrees (Some p) x = sym (divided x (2 ^ (32 - p.1)) (pow_pos (32 - p.1)))

-- ---- All fields

covering-masked : (m : Match) (k : PacketKey) → is_covering m k ≡ true → fields_in m ≡ normal_fields (masked (fields_in m) k)
unfolding masked
covering-masked m k covers =
    let c : FieldsCover (fields_in m) k = (fields_agree-Decides (fields_in m) k).0 covers in
    let is : IsFields (fields_in m) = fields_in-within m in
    λ i. record {
      in_port = value-filled (fields_in m).in_port k.in_port c.link.in_port i;
      dl_src = value-filled (fields_in m).dl_src k.dl_src c.link.dl_src i;
      dl_dst = value-filled (fields_in m).dl_dst k.dl_dst c.link.dl_dst i;
      dl_vlan = value-filled (fields_in m).dl_vlan k.dl_vlan c.link.dl_vlan i;
      dl_vlan_pcp = value-filled (fields_in m).dl_vlan_pcp k.dl_vlan_pcp c.frame.dl_vlan_pcp i;
      dl_type = value-filled (fields_in m).dl_type k.dl_type c.frame.dl_type i;
      nw_tos = value-filled (fields_in m).nw_tos k.nw_tos c.frame.nw_tos i;
      nw_proto = value-filled (fields_in m).nw_proto k.nw_proto c.frame.nw_proto i;
      nw_src = prefix-filled (fields_in m).nw_src k.nw_src is.nw_src c.network.nw_src i;
      nw_dst = prefix-filled (fields_in m).nw_dst k.nw_dst is.nw_dst c.network.nw_dst i;
      tp_src = value-filled (fields_in m).tp_src k.tp_src c.network.tp_src i;
      tp_dst = value-filled (fields_in m).tp_dst k.tp_dst c.network.tp_dst i;
    }

fields-cover : (f : Fields) (k : PacketKey) → FieldsCover (normal_fields (masked f k)) k
unfolding masked
fields-cover f k = record {
  link = record {
    in_port = filled-agrees f.in_port k.in_port;
    dl_src = filled-agrees f.dl_src k.dl_src;
    dl_dst = filled-agrees f.dl_dst k.dl_dst;
    dl_vlan = filled-agrees f.dl_vlan k.dl_vlan;
  };
  frame = record {
    dl_vlan_pcp = filled-agrees f.dl_vlan_pcp k.dl_vlan_pcp;
    dl_type = filled-agrees f.dl_type k.dl_type;
    nw_tos = filled-agrees f.nw_tos k.nw_tos;
    nw_proto = filled-agrees f.nw_proto k.nw_proto;
  };
  network = record {
    nw_src = filled_prefix-agrees f.nw_src k.nw_src;
    nw_dst = filled_prefix-agrees f.nw_dst k.nw_dst;
    tp_src = filled-agrees f.tp_src k.tp_src;
    tp_dst = filled-agrees f.tp_dst k.tp_dst;
  };
}

-- a match with the packet's values covers it
pub masked-covers : (m : Match) (f : Fields) (k : PacketKey) → fields_in m ≡ normal_fields (masked f k) → is_covering m k ≡ true
masked-covers m f k is = (fields_agree-Decides (fields_in m) k).1 (subst (λ g. FieldsCover g k) (sym is) (fields-cover f k))

-- ---- Wildcards decide what is left of a packet.

field-left : {A : Type 0} (w v bit : ℕ) (a b x : A) → w ≡ v → filled (field w bit a) x ≡ filled (field v bit b) x
field-left w v bit a b x same =
    elim (cases_Bool (v / 2 ^ bit % 2 == 1)) [
      | inl any ↦ rw (same, any) refl
      | inr some ↦ rw (same, some) refl
    ]

prefix-left : (w v a b x : ℕ) → w ≡ v → filled_prefix (prefix w a) x ≡ filled_prefix (prefix v b) x
prefix-left w v a b x same =
    elim (cases_Bool (nat_le 32 v)) [
      | inl any ↦ rw (same, any) refl
      | inr some ↦ rw (same, some) refl
    ]

left-of_bytes : (b c : List ℕ) (k : PacketKey) → word_in b 0 ≡ word_in c 0 → masked (fields_of b) k ≡ masked (fields_of c) k
unfolding masked fields_of
left-of_bytes b c k same = λ i. record {
  in_port = field-left (word_in b 0) (word_in c 0) 0 (half_in b 4) (half_in c 4) k.in_port same i;
  dl_src = field-left (word_in b 0) (word_in c 0) 2 (address_in b 6) (address_in c 6) k.dl_src same i;
  dl_dst = field-left (word_in b 0) (word_in c 0) 3 (address_in b 12) (address_in c 12) k.dl_dst same i;
  dl_vlan = field-left (word_in b 0) (word_in c 0) 1 (half_in b 18) (half_in c 18) k.dl_vlan same i;
  dl_vlan_pcp = field-left (word_in b 0) (word_in c 0) 20 (byte_in b 20) (byte_in c 20) k.dl_vlan_pcp same i;
  dl_type = field-left (word_in b 0) (word_in c 0) 4 (half_in b 22) (half_in c 22) k.dl_type same i;
  nw_tos = field-left (word_in b 0) (word_in c 0) 21 (byte_in b 24) (byte_in c 24) k.nw_tos same i;
  nw_proto = field-left (word_in b 0) (word_in c 0) 5 (byte_in b 25) (byte_in c 25) k.nw_proto same i;
  nw_src = prefix-left (word_in b 0 / 2 ^ 8 % 64) (word_in c 0 / 2 ^ 8 % 64) (word_in b 28) (word_in c 28) k.nw_src (ap (λ w. w / 2 ^ 8 % 64) same) i;
  nw_dst = prefix-left (word_in b 0 / 2 ^ 14 % 64) (word_in c 0 / 2 ^ 14 % 64) (word_in b 32) (word_in c 32) k.nw_dst (ap (λ w. w / 2 ^ 14 % 64) same) i;
  tp_src = field-left (word_in b 0) (word_in c 0) 6 (half_in b 36) (half_in c 36) k.tp_src same i;
  tp_dst = field-left (word_in b 0) (word_in c 0) 7 (half_in b 38) (half_in c 38) k.tp_dst same i;
}

pub masked-in_group : (m n : Match) (k : PacketKey) → wildcards m ≡ wildcards n → masked (fields_in m) k ≡ masked (fields_in n) k
unfolding fields_in
masked-in_group m n k same = left-of_bytes m.bytes n.bytes k same

-- one of the group that covers a packet is the packet's
pub masked-when_covering : (m n : Match) (k : PacketKey) → wildcards m ≡ wildcards n → is_covering m k ≡ true → fields_in m ≡ normal_fields (masked (fields_in n) k)
masked-when_covering m n k same covers = covering-masked m k covers ∙ ap normal_fields (masked-in_group m n k same)
