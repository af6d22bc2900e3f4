-- What the tests of fields say about packet keys, and the algebra of the relations.
use Rattle.std.proofs.Common.{◌≡◌, ◌≢◌, ◌==◌, ℕ, ◌^◌, ◌<◌, Bool, true, false, ◌&&◌, List, [], ◌∷◌, cond, Some, None, refl, sym, subst, arith}
use Rattle.std.proofs.lemmas.Bool.{and_parts, and_from}
use Rattle.std.proofs.lemmas.Bool.Decides.{Decides-eqb}
use Rattle.std.proofs.lemmas.Slice.Eq.{bytes_eq-Decides}
use Rattle.std.specs.Prelude.{zero, suc, IfSome, unwrap_or, slice_index}
use Rattle.std.specs.Bool.{Decides}
use Rattle.std.specs.Option.{is_some}
use Rattle.std.specs.Str.{bytes_eq}
use Rattle.of_match.specs.declared.fields.Fields.{Fields}
use Rattle.of_match.specs.declared.flow_match.Match.{Match}
use Rattle.of_match.specs.declared.packet_key.PacketKey.{PacketKey}
use Rattle.of_match.specs.Fields.{bytes_of, IsAddress, IsFields}
use Rattle.of_match.specs.Match.{match_of, fields_in}
use Rattle.of_match.specs.laws.MatchLaws.{fields_in-injective, fields_in-within, fields_in-match_of-bytes_of}
use Rattle.of_match.specs.PacketKey.{IsPacketKey}
use Rattle.of_match.specs.Covers.{AgreesOnPrefix, LinkCovers, FrameCovers, NetworkCovers, FieldsCover, Covers}
use Rattle.match_overlap.specs.Fieldwise.{value_subsumes, value_overlaps, prefix_subsumes, prefix_overlaps, link_subsumes, frame_subsumes, network_subsumes, fields_subsume, link_overlaps, frame_overlaps, network_overlaps, fields_overlap, fields_meet}
use Rattle.match_overlap.specs.Relations.{Subsumes, Overlaps, IsMeet, is_subsuming, is_overlapping, meet_of}
use Rattle.match_overlap.specs.laws.ValueLaws.{taken, unwrap_or-within, value_subsumes-sound, value_subsumes-complete, value_subsumes-antisym, value_overlaps-complete, value_meet-both, value_meet-from, value_meet-within}
use Rattle.match_overlap.specs.laws.PrefixLaws.{low_address, high_address, low_address-taken, high_address-taken, low_address-within, high_address-within, prefix_subsumes-sound, prefix_subsumes-complete, prefix_subsumes-antisym, prefix_overlaps-complete, prefix_meet-both, prefix_meet-from, prefix_meet-within}

-- ---- Tests joined by `&&`.

record Three (a b c : Bool) : Type 0 where
  link : a ≡ true
  frame : b ≡ true
  network : c ≡ true

record Four (a b c d : Bool) : Type 0 where
  first : a ≡ true
  second : b ≡ true
  third : c ≡ true
  fourth : d ≡ true

three-parts : (a b c : Bool) → (a && b && c) ≡ true → Three a b c
three-parts a b c e = let abc = and_parts (a && b) c e in let ab = and_parts a b abc.0 in record { link = ab.0; frame = ab.1; network = abc.1 }

four-parts : (a b c d : Bool) → (a && b && c && d) ≡ true → Four a b c d
four-parts a b c d e =
    let parts = and_parts (a && b && c) d e in
    let abc = three-parts a b c parts.0 in
    record { first = abc.link; second = abc.frame; third = abc.network; fourth = parts.1 }

three-from : {a b c : Bool} → a ≡ true → b ≡ true → c ≡ true → (a && b && c) ≡ true
three-from {a} {b} {c} ea eb ec = and_from (a && b) c (and_from a b ea eb) ec

four-from : {a b c d : Bool} → a ≡ true → b ≡ true → c ≡ true → d ≡ true → (a && b && c && d) ≡ true
four-from {a} {b} {c} {d} ea eb ec ed = and_from (a && b && c) d (three-from ea eb ec) ed

-- ---- Packet keys that show where a test fails: what the fields leave open is chosen.

abbrev ethernet : ℕ → List ℕ
ethernet n = n ∷ 0 ∷ 0 ∷ 0 ∷ 0 ∷ 0 ∷ []

abbrev chosen : Fields → ℕ → ℕ → ℕ → PacketKey
chosen f n source destination = record {
  in_port = unwrap_or f.in_port n;
  dl_src = unwrap_or f.dl_src (ethernet n);
  dl_dst = unwrap_or f.dl_dst (ethernet n);
  dl_vlan = unwrap_or f.dl_vlan n;
  dl_vlan_pcp = unwrap_or f.dl_vlan_pcp n;
  dl_type = unwrap_or f.dl_type n;
  nw_tos = unwrap_or f.nw_tos n;
  nw_proto = unwrap_or f.nw_proto n;
  nw_src = source;
  nw_dst = destination;
  tp_src = unwrap_or f.tp_src n;
  tp_dst = unwrap_or f.tp_dst n;
}

abbrev pub low_key : Fields → PacketKey
low_key f = chosen f 0 (low_address f.nw_src) (low_address f.nw_dst)

abbrev pub high_key : Fields → PacketKey
high_key f = chosen f 1 (high_address f.nw_src) (high_address f.nw_dst)

chosen-covered : (f : Fields) (n source destination : ℕ) → AgreesOnPrefix f.nw_src source → AgreesOnPrefix f.nw_dst destination → FieldsCover f (chosen f n source destination)
chosen-covered f n source destination hs hd = record {
  link = record { in_port = taken f.in_port n; dl_src = taken f.dl_src (ethernet n); dl_dst = taken f.dl_dst (ethernet n); dl_vlan = taken f.dl_vlan n };
  frame = record { dl_vlan_pcp = taken f.dl_vlan_pcp n; dl_type = taken f.dl_type n; nw_tos = taken f.nw_tos n; nw_proto = taken f.nw_proto n };
  network = record { nw_src = hs; nw_dst = hd; tp_src = taken f.tp_src n; tp_dst = taken f.tp_dst n };
}

small : (n : ℕ) → n < 2 ^ 8 → (i : ℕ) → slice_index (ethernet n) i < 256
small n lt zero = lt
small n lt (suc zero) = omega arith
small n lt (suc (suc zero)) = omega arith
small n lt (suc (suc (suc zero))) = omega arith
small n lt (suc (suc (suc (suc zero)))) = omega arith
small n lt (suc (suc (suc (suc (suc zero))))) = omega arith
small n lt (suc (suc (suc (suc (suc (suc i)))))) = omega arith

ethernet-is : (n : ℕ) → n < 2 ^ 8 → IsAddress (ethernet n)
ethernet-is n lt = record { len = refl; bytes = small n lt }

chosen-is : (f : Fields) (n source destination : ℕ) → IsFields f → n < 2 ^ 8 → source < 2 ^ 32 → destination < 2 ^ 32 → IsPacketKey (chosen f n source destination)
chosen-is f n source destination is lt hs hd =
    let wide : n < 2 ^ 16 = omega arith in
    record {
      in_port = unwrap_or-within (λ m. m < 2 ^ 16) f.in_port n is.in_port wide;
      dl_src = unwrap_or-within IsAddress f.dl_src (ethernet n) is.dl_src (ethernet-is n lt);
      dl_dst = unwrap_or-within IsAddress f.dl_dst (ethernet n) is.dl_dst (ethernet-is n lt);
      dl_vlan = unwrap_or-within (λ m. m < 2 ^ 16) f.dl_vlan n is.dl_vlan wide;
      dl_vlan_pcp = unwrap_or-within (λ m. m < 2 ^ 8) f.dl_vlan_pcp n is.dl_vlan_pcp lt;
      dl_type = unwrap_or-within (λ m. m < 2 ^ 16) f.dl_type n is.dl_type wide;
      nw_tos = unwrap_or-within (λ m. m < 2 ^ 8) f.nw_tos n is.nw_tos lt;
      nw_proto = unwrap_or-within (λ m. m < 2 ^ 8) f.nw_proto n is.nw_proto lt;
      nw_src = hs;
      nw_dst = hd;
      tp_src = unwrap_or-within (λ m. m < 2 ^ 16) f.tp_src n is.tp_src wide;
      tp_dst = unwrap_or-within (λ m. m < 2 ^ 16) f.tp_dst n is.tp_dst wide;
    }

pub low_key-is : (f : Fields) → IsFields f → IsPacketKey (low_key f)
low_key-is f is = chosen-is f 0 (low_address f.nw_src) (low_address f.nw_dst) is (omega arith) (low_address-within f.nw_src is.nw_src) (low_address-within f.nw_dst is.nw_dst)

pub high_key-is : (f : Fields) → IsFields f → IsPacketKey (high_key f)
high_key-is f is = chosen-is f 1 (high_address f.nw_src) (high_address f.nw_dst) is (omega arith) (high_address-within f.nw_src is.nw_src) (high_address-within f.nw_dst is.nw_dst)

pub low_key-covered : (f : Fields) → FieldsCover f (low_key f)
low_key-covered f = chosen-covered f 0 (low_address f.nw_src) (low_address f.nw_dst) (low_address-taken f.nw_src) (low_address-taken f.nw_dst)

pub high_key-covered : (f : Fields) → IsFields f → FieldsCover f (high_key f)
high_key-covered f is = chosen-covered f 1 (high_address f.nw_src) (high_address f.nw_dst) (high_address-taken f.nw_src is.nw_src) (high_address-taken f.nw_dst is.nw_dst)

zero-differs : ◌≢◌ {A = ℕ} 0 1
zero-differs e = absurd (omega arith)

ethernet-differs : ethernet 0 ≢ ethernet 1
ethernet-differs e = absurd cc

-- ---- One covers all that another covers.

link-sound : (f g : Fields) (k : PacketKey) → link_subsumes f g ≡ true → LinkCovers g k → LinkCovers f k
link-sound f g k t c =
    let p = four-parts (value_subsumes ◌==◌ f.in_port g.in_port) (value_subsumes bytes_eq f.dl_src g.dl_src) (value_subsumes bytes_eq f.dl_dst g.dl_dst) (value_subsumes ◌==◌ f.dl_vlan g.dl_vlan) t in
    record { in_port = value_subsumes-sound ◌==◌ Decides-eqb f.in_port g.in_port k.in_port p.first c.in_port; dl_src = value_subsumes-sound bytes_eq bytes_eq-Decides f.dl_src g.dl_src k.dl_src p.second c.dl_src; dl_dst = value_subsumes-sound bytes_eq bytes_eq-Decides f.dl_dst g.dl_dst k.dl_dst p.third c.dl_dst; dl_vlan = value_subsumes-sound ◌==◌ Decides-eqb f.dl_vlan g.dl_vlan k.dl_vlan p.fourth c.dl_vlan }

frame-sound : (f g : Fields) (k : PacketKey) → frame_subsumes f g ≡ true → FrameCovers g k → FrameCovers f k
frame-sound f g k t c =
    let p = four-parts (value_subsumes ◌==◌ f.dl_vlan_pcp g.dl_vlan_pcp) (value_subsumes ◌==◌ f.dl_type g.dl_type) (value_subsumes ◌==◌ f.nw_tos g.nw_tos) (value_subsumes ◌==◌ f.nw_proto g.nw_proto) t in
    record { dl_vlan_pcp = value_subsumes-sound ◌==◌ Decides-eqb f.dl_vlan_pcp g.dl_vlan_pcp k.dl_vlan_pcp p.first c.dl_vlan_pcp; dl_type = value_subsumes-sound ◌==◌ Decides-eqb f.dl_type g.dl_type k.dl_type p.second c.dl_type; nw_tos = value_subsumes-sound ◌==◌ Decides-eqb f.nw_tos g.nw_tos k.nw_tos p.third c.nw_tos; nw_proto = value_subsumes-sound ◌==◌ Decides-eqb f.nw_proto g.nw_proto k.nw_proto p.fourth c.nw_proto }

network-sound : (f g : Fields) (k : PacketKey) → network_subsumes f g ≡ true → NetworkCovers g k → NetworkCovers f k
network-sound f g k t c =
    let p = four-parts (prefix_subsumes f.nw_src g.nw_src) (prefix_subsumes f.nw_dst g.nw_dst) (value_subsumes ◌==◌ f.tp_src g.tp_src) (value_subsumes ◌==◌ f.tp_dst g.tp_dst) t in
    record { nw_src = prefix_subsumes-sound f.nw_src g.nw_src k.nw_src p.first c.nw_src; nw_dst = prefix_subsumes-sound f.nw_dst g.nw_dst k.nw_dst p.second c.nw_dst; tp_src = value_subsumes-sound ◌==◌ Decides-eqb f.tp_src g.tp_src k.tp_src p.third c.tp_src; tp_dst = value_subsumes-sound ◌==◌ Decides-eqb f.tp_dst g.tp_dst k.tp_dst p.fourth c.tp_dst }

pub fields_subsume-sound : (f g : Fields) (k : PacketKey) → fields_subsume f g ≡ true → FieldsCover g k → FieldsCover f k
unfolding fields_subsume
fields_subsume-sound f g k t c =
    let p = three-parts (link_subsumes f g) (frame_subsumes f g) (network_subsumes f g) t in
    record { link = link-sound f g k p.link c.link; frame = frame-sound f g k p.frame c.frame; network = network-sound f g k p.network c.network }

pub fields_subsume-complete : (f g : Fields) → IsFields f → IsFields g → FieldsCover f (low_key g) → FieldsCover f (high_key g) → fields_subsume f g ≡ true
unfolding fields_subsume
fields_subsume-complete f g hf hg low high =
    three-from
    (four-from (value_subsumes-complete ◌==◌ Decides-eqb f.in_port g.in_port 0 1 zero-differs low.link.in_port high.link.in_port) (value_subsumes-complete bytes_eq bytes_eq-Decides f.dl_src g.dl_src (ethernet 0) (ethernet 1) ethernet-differs low.link.dl_src high.link.dl_src) (value_subsumes-complete bytes_eq bytes_eq-Decides f.dl_dst g.dl_dst (ethernet 0) (ethernet 1) ethernet-differs low.link.dl_dst high.link.dl_dst) (value_subsumes-complete ◌==◌ Decides-eqb f.dl_vlan g.dl_vlan 0 1 zero-differs low.link.dl_vlan high.link.dl_vlan))
    (four-from (value_subsumes-complete ◌==◌ Decides-eqb f.dl_vlan_pcp g.dl_vlan_pcp 0 1 zero-differs low.frame.dl_vlan_pcp high.frame.dl_vlan_pcp) (value_subsumes-complete ◌==◌ Decides-eqb f.dl_type g.dl_type 0 1 zero-differs low.frame.dl_type high.frame.dl_type) (value_subsumes-complete ◌==◌ Decides-eqb f.nw_tos g.nw_tos 0 1 zero-differs low.frame.nw_tos high.frame.nw_tos) (value_subsumes-complete ◌==◌ Decides-eqb f.nw_proto g.nw_proto 0 1 zero-differs low.frame.nw_proto high.frame.nw_proto))
    (four-from (prefix_subsumes-complete f.nw_src g.nw_src hf.nw_src hg.nw_src low.network.nw_src high.network.nw_src) (prefix_subsumes-complete f.nw_dst g.nw_dst hf.nw_dst hg.nw_dst low.network.nw_dst high.network.nw_dst) (value_subsumes-complete ◌==◌ Decides-eqb f.tp_src g.tp_src 0 1 zero-differs low.network.tp_src high.network.tp_src) (value_subsumes-complete ◌==◌ Decides-eqb f.tp_dst g.tp_dst 0 1 zero-differs low.network.tp_dst high.network.tp_dst))

pub fields_subsume-antisym : (f g : Fields) → IsFields f → IsFields g → fields_subsume f g ≡ true → fields_subsume g f ≡ true → f ≡ g
unfolding fields_subsume
fields_subsume-antisym f g hf hg t u =
    let p = three-parts (link_subsumes f g) (frame_subsumes f g) (network_subsumes f g) t in
    let q = three-parts (link_subsumes g f) (frame_subsumes g f) (network_subsumes g f) u in
    let link-p = four-parts (value_subsumes ◌==◌ f.in_port g.in_port) (value_subsumes bytes_eq f.dl_src g.dl_src) (value_subsumes bytes_eq f.dl_dst g.dl_dst) (value_subsumes ◌==◌ f.dl_vlan g.dl_vlan) p.link in
    let link-q = four-parts (value_subsumes ◌==◌ g.in_port f.in_port) (value_subsumes bytes_eq g.dl_src f.dl_src) (value_subsumes bytes_eq g.dl_dst f.dl_dst) (value_subsumes ◌==◌ g.dl_vlan f.dl_vlan) q.link in
    let frame-p = four-parts (value_subsumes ◌==◌ f.dl_vlan_pcp g.dl_vlan_pcp) (value_subsumes ◌==◌ f.dl_type g.dl_type) (value_subsumes ◌==◌ f.nw_tos g.nw_tos) (value_subsumes ◌==◌ f.nw_proto g.nw_proto) p.frame in
    let frame-q = four-parts (value_subsumes ◌==◌ g.dl_vlan_pcp f.dl_vlan_pcp) (value_subsumes ◌==◌ g.dl_type f.dl_type) (value_subsumes ◌==◌ g.nw_tos f.nw_tos) (value_subsumes ◌==◌ g.nw_proto f.nw_proto) q.frame in
    let network-p = four-parts (prefix_subsumes f.nw_src g.nw_src) (prefix_subsumes f.nw_dst g.nw_dst) (value_subsumes ◌==◌ f.tp_src g.tp_src) (value_subsumes ◌==◌ f.tp_dst g.tp_dst) p.network in
    let network-q = four-parts (prefix_subsumes g.nw_src f.nw_src) (prefix_subsumes g.nw_dst f.nw_dst) (value_subsumes ◌==◌ g.tp_src f.tp_src) (value_subsumes ◌==◌ g.tp_dst f.tp_dst) q.network in
    λ i. record {
      in_port = value_subsumes-antisym ◌==◌ Decides-eqb f.in_port g.in_port link-p.first link-q.first i;
      dl_src = value_subsumes-antisym bytes_eq bytes_eq-Decides f.dl_src g.dl_src link-p.second link-q.second i;
      dl_dst = value_subsumes-antisym bytes_eq bytes_eq-Decides f.dl_dst g.dl_dst link-p.third link-q.third i;
      dl_vlan = value_subsumes-antisym ◌==◌ Decides-eqb f.dl_vlan g.dl_vlan link-p.fourth link-q.fourth i;
      dl_vlan_pcp = value_subsumes-antisym ◌==◌ Decides-eqb f.dl_vlan_pcp g.dl_vlan_pcp frame-p.first frame-q.first i;
      dl_type = value_subsumes-antisym ◌==◌ Decides-eqb f.dl_type g.dl_type frame-p.second frame-q.second i;
      nw_tos = value_subsumes-antisym ◌==◌ Decides-eqb f.nw_tos g.nw_tos frame-p.third frame-q.third i;
      nw_proto = value_subsumes-antisym ◌==◌ Decides-eqb f.nw_proto g.nw_proto frame-p.fourth frame-q.fourth i;
      nw_src = prefix_subsumes-antisym f.nw_src g.nw_src hf.nw_src hg.nw_src network-p.first network-q.first i;
      nw_dst = prefix_subsumes-antisym f.nw_dst g.nw_dst hf.nw_dst hg.nw_dst network-p.second network-q.second i;
      tp_src = value_subsumes-antisym ◌==◌ Decides-eqb f.tp_src g.tp_src network-p.third network-q.third i;
      tp_dst = value_subsumes-antisym ◌==◌ Decides-eqb f.tp_dst g.tp_dst network-p.fourth network-q.fourth i;
    }

-- ---- Both cover some packet key, and what both cover.

pub fields_overlap-complete : (f g : Fields) (k : PacketKey) → FieldsCover f k → FieldsCover g k → fields_overlap f g ≡ true
unfolding fields_overlap
fields_overlap-complete f g k c d =
    three-from
    (four-from (value_overlaps-complete ◌==◌ Decides-eqb f.in_port g.in_port k.in_port c.link.in_port d.link.in_port) (value_overlaps-complete bytes_eq bytes_eq-Decides f.dl_src g.dl_src k.dl_src c.link.dl_src d.link.dl_src) (value_overlaps-complete bytes_eq bytes_eq-Decides f.dl_dst g.dl_dst k.dl_dst c.link.dl_dst d.link.dl_dst) (value_overlaps-complete ◌==◌ Decides-eqb f.dl_vlan g.dl_vlan k.dl_vlan c.link.dl_vlan d.link.dl_vlan))
    (four-from (value_overlaps-complete ◌==◌ Decides-eqb f.dl_vlan_pcp g.dl_vlan_pcp k.dl_vlan_pcp c.frame.dl_vlan_pcp d.frame.dl_vlan_pcp) (value_overlaps-complete ◌==◌ Decides-eqb f.dl_type g.dl_type k.dl_type c.frame.dl_type d.frame.dl_type) (value_overlaps-complete ◌==◌ Decides-eqb f.nw_tos g.nw_tos k.nw_tos c.frame.nw_tos d.frame.nw_tos) (value_overlaps-complete ◌==◌ Decides-eqb f.nw_proto g.nw_proto k.nw_proto c.frame.nw_proto d.frame.nw_proto))
    (four-from (prefix_overlaps-complete f.nw_src g.nw_src k.nw_src c.network.nw_src d.network.nw_src) (prefix_overlaps-complete f.nw_dst g.nw_dst k.nw_dst c.network.nw_dst d.network.nw_dst) (value_overlaps-complete ◌==◌ Decides-eqb f.tp_src g.tp_src k.tp_src c.network.tp_src d.network.tp_src) (value_overlaps-complete ◌==◌ Decides-eqb f.tp_dst g.tp_dst k.tp_dst c.network.tp_dst d.network.tp_dst))

link-both : (f g : Fields) (k : PacketKey) → link_overlaps f g ≡ true → LinkCovers (fields_meet f g) k → LinkCovers f k × LinkCovers g k
unfolding fields_meet
link-both f g k t c =
    let p = four-parts (value_overlaps ◌==◌ f.in_port g.in_port) (value_overlaps bytes_eq f.dl_src g.dl_src) (value_overlaps bytes_eq f.dl_dst g.dl_dst) (value_overlaps ◌==◌ f.dl_vlan g.dl_vlan) t in
    let in_port = value_meet-both ◌==◌ Decides-eqb f.in_port g.in_port k.in_port p.first c.in_port in
    let dl_src = value_meet-both bytes_eq bytes_eq-Decides f.dl_src g.dl_src k.dl_src p.second c.dl_src in
    let dl_dst = value_meet-both bytes_eq bytes_eq-Decides f.dl_dst g.dl_dst k.dl_dst p.third c.dl_dst in
    let dl_vlan = value_meet-both ◌==◌ Decides-eqb f.dl_vlan g.dl_vlan k.dl_vlan p.fourth c.dl_vlan in
    (record { in_port = in_port.0; dl_src = dl_src.0; dl_dst = dl_dst.0; dl_vlan = dl_vlan.0 }, record { in_port = in_port.1; dl_src = dl_src.1; dl_dst = dl_dst.1; dl_vlan = dl_vlan.1 })

frame-both : (f g : Fields) (k : PacketKey) → frame_overlaps f g ≡ true → FrameCovers (fields_meet f g) k → FrameCovers f k × FrameCovers g k
unfolding fields_meet
frame-both f g k t c =
    let p = four-parts (value_overlaps ◌==◌ f.dl_vlan_pcp g.dl_vlan_pcp) (value_overlaps ◌==◌ f.dl_type g.dl_type) (value_overlaps ◌==◌ f.nw_tos g.nw_tos) (value_overlaps ◌==◌ f.nw_proto g.nw_proto) t in
    let dl_vlan_pcp = value_meet-both ◌==◌ Decides-eqb f.dl_vlan_pcp g.dl_vlan_pcp k.dl_vlan_pcp p.first c.dl_vlan_pcp in
    let dl_type = value_meet-both ◌==◌ Decides-eqb f.dl_type g.dl_type k.dl_type p.second c.dl_type in
    let nw_tos = value_meet-both ◌==◌ Decides-eqb f.nw_tos g.nw_tos k.nw_tos p.third c.nw_tos in
    let nw_proto = value_meet-both ◌==◌ Decides-eqb f.nw_proto g.nw_proto k.nw_proto p.fourth c.nw_proto in
    (record { dl_vlan_pcp = dl_vlan_pcp.0; dl_type = dl_type.0; nw_tos = nw_tos.0; nw_proto = nw_proto.0 }, record { dl_vlan_pcp = dl_vlan_pcp.1; dl_type = dl_type.1; nw_tos = nw_tos.1; nw_proto = nw_proto.1 })

network-both : (f g : Fields) (k : PacketKey) → network_overlaps f g ≡ true → NetworkCovers (fields_meet f g) k → NetworkCovers f k × NetworkCovers g k
unfolding fields_meet
network-both f g k t c =
    let p = four-parts (prefix_overlaps f.nw_src g.nw_src) (prefix_overlaps f.nw_dst g.nw_dst) (value_overlaps ◌==◌ f.tp_src g.tp_src) (value_overlaps ◌==◌ f.tp_dst g.tp_dst) t in
    let nw_src = prefix_meet-both f.nw_src g.nw_src k.nw_src p.first c.nw_src in
    let nw_dst = prefix_meet-both f.nw_dst g.nw_dst k.nw_dst p.second c.nw_dst in
    let tp_src = value_meet-both ◌==◌ Decides-eqb f.tp_src g.tp_src k.tp_src p.third c.tp_src in
    let tp_dst = value_meet-both ◌==◌ Decides-eqb f.tp_dst g.tp_dst k.tp_dst p.fourth c.tp_dst in
    (record { nw_src = nw_src.0; nw_dst = nw_dst.0; tp_src = tp_src.0; tp_dst = tp_dst.0 }, record { nw_src = nw_src.1; nw_dst = nw_dst.1; tp_src = tp_src.1; tp_dst = tp_dst.1 })

pub fields_meet-both : (f g : Fields) (k : PacketKey) → fields_overlap f g ≡ true → FieldsCover (fields_meet f g) k → FieldsCover f k × FieldsCover g k
unfolding fields_overlap
fields_meet-both f g k t c =
    let p = three-parts (link_overlaps f g) (frame_overlaps f g) (network_overlaps f g) t in
    let link = link-both f g k p.link c.link in
    let frame = frame-both f g k p.frame c.frame in
    let network = network-both f g k p.network c.network in
    (record { link = link.0; frame = frame.0; network = network.0 }, record { link = link.1; frame = frame.1; network = network.1 })

pub fields_meet-from : (f g : Fields) (k : PacketKey) → FieldsCover f k → FieldsCover g k → FieldsCover (fields_meet f g) k
unfolding fields_meet
fields_meet-from f g k c d = record {
  link = record { in_port = value_meet-from f.in_port g.in_port k.in_port c.link.in_port d.link.in_port; dl_src = value_meet-from f.dl_src g.dl_src k.dl_src c.link.dl_src d.link.dl_src; dl_dst = value_meet-from f.dl_dst g.dl_dst k.dl_dst c.link.dl_dst d.link.dl_dst; dl_vlan = value_meet-from f.dl_vlan g.dl_vlan k.dl_vlan c.link.dl_vlan d.link.dl_vlan };
  frame = record { dl_vlan_pcp = value_meet-from f.dl_vlan_pcp g.dl_vlan_pcp k.dl_vlan_pcp c.frame.dl_vlan_pcp d.frame.dl_vlan_pcp; dl_type = value_meet-from f.dl_type g.dl_type k.dl_type c.frame.dl_type d.frame.dl_type; nw_tos = value_meet-from f.nw_tos g.nw_tos k.nw_tos c.frame.nw_tos d.frame.nw_tos; nw_proto = value_meet-from f.nw_proto g.nw_proto k.nw_proto c.frame.nw_proto d.frame.nw_proto };
  network = record { nw_src = prefix_meet-from f.nw_src g.nw_src k.nw_src c.network.nw_src d.network.nw_src; nw_dst = prefix_meet-from f.nw_dst g.nw_dst k.nw_dst c.network.nw_dst d.network.nw_dst; tp_src = value_meet-from f.tp_src g.tp_src k.tp_src c.network.tp_src d.network.tp_src; tp_dst = value_meet-from f.tp_dst g.tp_dst k.tp_dst c.network.tp_dst d.network.tp_dst };
}

pub fields_meet-within : (f g : Fields) → IsFields f → IsFields g → IsFields (fields_meet f g)
unfolding fields_meet
fields_meet-within f g hf hg = record {
  in_port = value_meet-within (λ m. m < 2 ^ 16) f.in_port g.in_port hf.in_port hg.in_port;
  dl_src = value_meet-within IsAddress f.dl_src g.dl_src hf.dl_src hg.dl_src;
  dl_dst = value_meet-within IsAddress f.dl_dst g.dl_dst hf.dl_dst hg.dl_dst;
  dl_vlan = value_meet-within (λ m. m < 2 ^ 16) f.dl_vlan g.dl_vlan hf.dl_vlan hg.dl_vlan;
  dl_vlan_pcp = value_meet-within (λ m. m < 2 ^ 8) f.dl_vlan_pcp g.dl_vlan_pcp hf.dl_vlan_pcp hg.dl_vlan_pcp;
  dl_type = value_meet-within (λ m. m < 2 ^ 16) f.dl_type g.dl_type hf.dl_type hg.dl_type;
  nw_tos = value_meet-within (λ m. m < 2 ^ 8) f.nw_tos g.nw_tos hf.nw_tos hg.nw_tos;
  nw_proto = value_meet-within (λ m. m < 2 ^ 8) f.nw_proto g.nw_proto hf.nw_proto hg.nw_proto;
  nw_src = prefix_meet-within f.nw_src g.nw_src hf.nw_src hg.nw_src;
  nw_dst = prefix_meet-within f.nw_dst g.nw_dst hf.nw_dst hg.nw_dst;
  tp_src = value_meet-within (λ m. m < 2 ^ 16) f.tp_src g.tp_src hf.tp_src hg.tp_src;
  tp_dst = value_meet-within (λ m. m < 2 ^ 16) f.tp_dst g.tp_dst hf.tp_dst hg.tp_dst;
}

-- ---- Matches.

-- each match covers some packet key
pub some_key : (m : Match) → (k : PacketKey) × (IsPacketKey k × Covers m k)
some_key m = (low_key (fields_in m), (low_key-is (fields_in m) (fields_in-within m), low_key-covered (fields_in m)))

-- The test of fields says what it should of all packet keys, and where it fails a packet key shows it.
pub is_subsuming-Decides : (a b : Match) → Decides (is_subsuming a b) (Subsumes a b)
unfolding is_subsuming
is_subsuming-Decides a b =
    let f = fields_in a in
    let g = fields_in b in
    let hg : IsFields (fields_in b) = fields_in-within b in (
      λ t k _ c. fields_subsume-sound (fields_in a) (fields_in b) k t c,
      λ s. fields_subsume-complete (fields_in a) (fields_in b) (fields_in-within a) hg
          (s (low_key (fields_in b)) (low_key-is (fields_in b) hg) (low_key-covered (fields_in b)))
          (s (high_key (fields_in b)) (high_key-is (fields_in b) hg) (high_key-covered (fields_in b) hg)),
    )

pub is_overlapping-Decides : (a b : Match) → Decides (is_overlapping a b) (Overlaps a b)
unfolding is_overlapping
is_overlapping-Decides a b =
    let m = fields_meet (fields_in a) (fields_in b) in
    let is : IsFields (fields_meet (fields_in a) (fields_in b)) = fields_meet-within (fields_in a) (fields_in b) (fields_in-within a) (fields_in-within b) in (
      λ t.
          let both = fields_meet-both (fields_in a) (fields_in b) (low_key m) t (low_key-covered m) in
          (low_key m, (low_key-is m is, both.0, both.1)),
      λ o. fields_overlap-complete (fields_in a) (fields_in b) o.0 o.1.1 o.1.2,
    )

meet-is : (a b : Match) → is_overlapping a b ≡ true → IsMeet a b (match_of (bytes_of (fields_meet (fields_in a) (fields_in b))))
unfolding is_overlapping
meet-is a b t k _ =
    let is : IsFields (fields_meet (fields_in a) (fields_in b)) = fields_meet-within (fields_in a) (fields_in b) (fields_in-within a) (fields_in-within b) in
    let same = fields_in-match_of-bytes_of (fields_meet (fields_in a) (fields_in b)) is in (
      λ c. fields_meet-both (fields_in a) (fields_in b) k t (subst (λ f. FieldsCover f k) same c),
      λ c. subst (λ f. FieldsCover f k) (sym same) (fields_meet-from (fields_in a) (fields_in b) k c.0 c.1),
    )

choice-some : {A : Type 0} (b : Bool) (x : A) → is_some (cond b (Some x) None) ≡ b
choice-some true x = refl
choice-some false x = refl

choice-if : {A : Type 0} (P : A → Type 0) (b : Bool) (x : A) → (b ≡ true → P x) → IfSome (cond b (Some x) None) P
choice-if P true x h = h refl
choice-if P false x h = tt

pub is_some-meet_of : (a b : Match) → is_some (meet_of a b) ≡ is_overlapping a b
unfolding meet_of
is_some-meet_of a b = choice-some (is_overlapping a b) (match_of (bytes_of (fields_meet (fields_in a) (fields_in b))))

-- The meet covers exactly what both cover, and is missing exactly where nothing is covered by both.
pub meet_of-is : (a b : Match) → IfSome (meet_of a b) (IsMeet a b)
unfolding meet_of
meet_of-is a b = choice-if (IsMeet a b) (is_overlapping a b) (match_of (bytes_of (fields_meet (fields_in a) (fields_in b)))) (meet-is a b)

pub meet_of-some : (a b : Match) → Decides (is_some (meet_of a b)) (Overlaps a b)
meet_of-some a b = subst (λ t. Decides t (Overlaps a b)) (sym (is_some-meet_of a b)) (is_overlapping-Decides a b)

-- ---- The algebra of the relations.

pub Subsumes-refl : (a : Match) → Subsumes a a
Subsumes-refl a k is c = c

pub Subsumes-trans : (a b c : Match) → Subsumes a b → Subsumes b c → Subsumes a c
Subsumes-trans a b c ab bc k is h = ab k is (bc k is h)

is_subsuming-antisym : (a b : Match) → is_subsuming a b ≡ true → is_subsuming b a ≡ true → fields_in a ≡ fields_in b
unfolding is_subsuming
is_subsuming-antisym a b t u = fields_subsume-antisym (fields_in a) (fields_in b) (fields_in-within a) (fields_in-within b) t u

-- matches that cover the same packet keys are one match
pub Subsumes-antisym : (a b : Match) → Subsumes a b → Subsumes b a → a ≡ b
Subsumes-antisym a b ab ba = fields_in-injective a b (is_subsuming-antisym a b ((is_subsuming-Decides a b).1 ab) ((is_subsuming-Decides b a).1 ba))

pub Overlaps-sym : (a b : Match) → Overlaps a b → Overlaps b a
Overlaps-sym a b o = (o.0, (o.1.0, o.1.2, o.1.1))

pub Overlaps-wider : (a b c : Match) → Subsumes a b → Overlaps b c → Overlaps a c
Overlaps-wider a b c ab o = (o.0, (o.1.0, ab o.0 o.1.0 o.1.1, o.1.2))

pub Overlaps-subsumed : (a b : Match) → Subsumes a b → Overlaps a b
Overlaps-subsumed a b ab = let s = some_key b in (s.0, (s.1.0, ab s.0 s.1.0 s.1.1, s.1.1))

-- the meet lies below both, and above all that lies below both
pub IsMeet-left : (a b m : Match) → IsMeet a b m → Subsumes a m
IsMeet-left a b m is k key c = ((is k key).0 c).0

pub IsMeet-right : (a b m : Match) → IsMeet a b m → Subsumes b m
IsMeet-right a b m is k key c = ((is k key).0 c).1

pub IsMeet-greatest : (a b m d : Match) → IsMeet a b m → Subsumes a d → Subsumes b d → Subsumes m d
IsMeet-greatest a b m d is ad bd k key c = (is k key).1 (ad k key c, bd k key c)

pub IsMeet-unique : (a b m n : Match) → IsMeet a b m → IsMeet a b n → m ≡ n
IsMeet-unique a b m n hm hn =
    Subsumes-antisym m n (IsMeet-greatest a b m n hm (IsMeet-left a b n hn) (IsMeet-right a b n hn)) (IsMeet-greatest a b n m hn (IsMeet-left a b m hm) (IsMeet-right a b m hm))
