-- The test of a match on a packet key says whether the match covers the key.
use Rattle.std.proofs.Common.{ℕ, ◌-◌, ◌/◌, ◌^◌, Bool, ◌&&◌, List, Option, Some, None, refl}
use Rattle.std.proofs.lemmas.Bool.{and_parts, and_from}
use Rattle.std.proofs.lemmas.Bool.Decides.{Decides-eqb}
use Rattle.std.proofs.lemmas.Slice.Eq.{bytes_eq-Decides}
use Rattle.std.specs.Bool.{Decides}
use Rattle.of_match.specs.declared.fields.Fields.{Fields}
use Rattle.of_match.specs.declared.packet_key.PacketKey.{PacketKey}
use Rattle.of_match.specs.Covers.{Agrees, AgreesOnPrefix, LinkCovers, FrameCovers, NetworkCovers, FieldsCover, agrees, address_agrees, agrees_on_prefix, link_agrees, frame_agrees, network_agrees, fields_agree}

agrees-Decides : (o : Option ℕ) (x : ℕ) → Decides (agrees o x) (Agrees o x)
agrees-Decides None x = (λ _. tt, λ _. refl)
agrees-Decides (Some y) x = Decides-eqb x y

address_agrees-Decides : (o : Option (List ℕ)) (x : List ℕ) → Decides (address_agrees o x) (Agrees o x)
address_agrees-Decides None x = (λ _. tt, λ _. refl)
address_agrees-Decides (Some y) x = bytes_eq-Decides x y

agrees_on_prefix-Decides : (o : Option (ℕ × ℕ)) (x : ℕ) → Decides (agrees_on_prefix o x) (AgreesOnPrefix o x)
agrees_on_prefix-Decides None x = (λ _. tt, λ _. refl)
agrees_on_prefix-Decides (Some p) x = Decides-eqb (x / 2 ^ (32 - p.1)) (p.0 / 2 ^ (32 - p.1))

-- what three or four tests decide together
record Three (P Q R : Type 0) : Type 0 where
  p : P
  q : Q
  r : R

record Four (P Q R S : Type 0) : Type 0 where
  p : P
  q : Q
  r : R
  s : S

three-Decides : {P Q R : Type 0} (a b c : Bool) → Decides a P → Decides b Q → Decides c R → Decides (a && b && c) (Three P Q R)
three-Decides a b c da db dc = (
  λ e. let ab = and_parts (a && b) c e in let a-b = and_parts a b ab.0 in record { p = da.0 a-b.0; q = db.0 a-b.1; r = dc.0 ab.1 },
  λ t. and_from (a && b) c (and_from a b (da.1 t.p) (db.1 t.q)) (dc.1 t.r),
)

four-Decides : {P Q R S : Type 0} (a b c d : Bool) → Decides a P → Decides b Q → Decides c R → Decides d S → Decides (a && b && c && d) (Four P Q R S)
four-Decides a b c d da db dc dd =
    let abc = three-Decides a b c da db dc in (
      λ e. let parts = and_parts (a && b && c) d e in let t = abc.0 parts.0 in record { p = t.p; q = t.q; r = t.r; s = dd.0 parts.1 },
      λ t. and_from (a && b && c) d (abc.1 (record { p = t.p; q = t.q; r = t.r })) (dd.1 t.s),
    )

link-Decides : (f : Fields) (k : PacketKey) → Decides (link_agrees f k) (LinkCovers f k)
link-Decides f k =
    let d = four-Decides _ _ _ _ (agrees-Decides f.in_port k.in_port) (address_agrees-Decides f.dl_src k.dl_src) (address_agrees-Decides f.dl_dst k.dl_dst) (agrees-Decides f.dl_vlan k.dl_vlan) in
    (λ e. let t = d.0 e in record { in_port = t.p; dl_src = t.q; dl_dst = t.r; dl_vlan = t.s }, λ c. d.1 (record { p = c.in_port; q = c.dl_src; r = c.dl_dst; s = c.dl_vlan }))

frame-Decides : (f : Fields) (k : PacketKey) → Decides (frame_agrees f k) (FrameCovers f k)
frame-Decides f k =
    let d = four-Decides _ _ _ _ (agrees-Decides f.dl_vlan_pcp k.dl_vlan_pcp) (agrees-Decides f.dl_type k.dl_type) (agrees-Decides f.nw_tos k.nw_tos) (agrees-Decides f.nw_proto k.nw_proto) in
    (λ e. let t = d.0 e in record { dl_vlan_pcp = t.p; dl_type = t.q; nw_tos = t.r; nw_proto = t.s }, λ c. d.1 (record { p = c.dl_vlan_pcp; q = c.dl_type; r = c.nw_tos; s = c.nw_proto }))

network-Decides : (f : Fields) (k : PacketKey) → Decides (network_agrees f k) (NetworkCovers f k)
network-Decides f k =
    let d = four-Decides _ _ _ _ (agrees_on_prefix-Decides f.nw_src k.nw_src) (agrees_on_prefix-Decides f.nw_dst k.nw_dst) (agrees-Decides f.tp_src k.tp_src) (agrees-Decides f.tp_dst k.tp_dst) in
    (λ e. let t = d.0 e in record { nw_src = t.p; nw_dst = t.q; tp_src = t.r; tp_dst = t.s }, λ c. d.1 (record { p = c.nw_src; q = c.nw_dst; r = c.tp_src; s = c.tp_dst }))

pub fields_agree-Decides : (f : Fields) (k : PacketKey) → Decides (fields_agree f k) (FieldsCover f k)
unfolding fields_agree
fields_agree-Decides f k =
    let d = three-Decides _ _ _ (link-Decides f k) (frame-Decides f k) (network-Decides f k) in
    (λ e. let t = d.0 e in record { link = t.p; frame = t.q; network = t.r }, λ c. d.1 (record { p = c.link; q = c.frame; r = c.network }))
