-- Fields that are written one after the other are joined by commas.
use Rattle.std.proofs.Common.{◌≡◌, ℕ, List, [], ◌∷◌, ◌++◌, Option, Some, None, refl, ap, ◌∙◌, append_assoc}
use Rattle.std.specs.Prelude.{codes}
use Rattle.std.specs.List.{join_with_byte, AllByRecursion}
use Rattle.std.specs.Fmt.{decimal}
use Rattle.of_match.specs.declared.fields.Fields.{Fields}
use Rattle.of_match.specs.Text.{ethernet_text, type_text, network_text, named, with_comma, with_fields, link_fields, frame_fields, network_fields, transport_fields, named_fields, or_any, match_text}

pub with_fields-append : (text : List ℕ) (ps qs : List (List ℕ)) → with_fields text (ps ++ qs) ≡ with_fields (with_fields text ps) qs
with_fields-append text [] qs = refl
with_fields-append text (p ∷ ps) qs = with_fields-append (with_comma text ++ p) ps qs

-- what begins with a byte
abbrev Begins : List ℕ → Type 0
Begins [] = ⊥
Begins (b ∷ bs) = Unit {0}

Begins-append : (p q : List ℕ) → Begins p → Begins (p ++ q)
Begins-append [] q h = absurd h
Begins-append (b ∷ bs) q h = tt

with_comma-is : (p : List ℕ) → Begins p → with_comma p ≡ p ++ codes ","
with_comma-is [] h = absurd h
with_comma-is (b ∷ bs) h = refl

Begins-back : (p q : List ℕ) → Begins q → Begins (p ++ q)
Begins-back [] q h = h
Begins-back (b ∷ bs) q h = tt

-- what stands before a text stays before it
with_fields-front : (p q : List ℕ) (ps : List (List ℕ)) → Begins q → with_fields (p ++ q) ps ≡ p ++ with_fields q ps
with_fields-front p q [] h = refl
with_fields-front p q (r ∷ ps) h =
    let comma : with_comma (p ++ q) ++ r ≡ p ++ (with_comma q ++ r) = rw (with_comma-is (p ++ q) (Begins-back p q h), with_comma-is q h) (simp append_assoc) in
    let begins : Begins (with_comma q ++ r) = rw (with_comma-is q h) (Begins-append (q ++ codes ",") r (Begins-append q (codes ",") h)) in
    ap (λ (t : List ℕ). with_fields t ps) comma ∙ with_fields-front p (with_comma q ++ r) ps begins

joined-more : (p : List ℕ) (ps : List (List ℕ)) → Begins p → AllByRecursion Begins ps → with_fields p ps ≡ join_with_byte 44 (p ∷ ps)
joined-more p [] h hs = refl
joined-more p (q ∷ qs) h hs =
    ap (λ (t : List ℕ). with_fields (t ++ q) qs) (with_comma-is p h)
    ∙ with_fields-front (p ++ codes ",") q qs hs.0
    ∙ ap (λ (t : List ℕ). (p ++ codes ",") ++ t) (joined-more q qs hs.0 hs.1)
    ∙ append_assoc p (codes ",") (join_with_byte 44 (q ∷ qs))

pub with_fields-joined : (ps : List (List ℕ)) → AllByRecursion Begins ps → with_fields [] ps ≡ join_with_byte 44 ps
with_fields-joined [] h = refl
with_fields-joined (p ∷ ps) h = joined-more p ps h.0 h.1

Begin-append : (ps qs : List (List ℕ)) → AllByRecursion Begins ps → AllByRecursion Begins qs → AllByRecursion Begins (ps ++ qs)
Begin-append [] qs h k = k
Begin-append (p ∷ ps) qs h k = (h.0, Begin-append ps qs h.1 k)

named-begins : {A : Type 0} (name : List ℕ) (shown : A → List ℕ) (o : Option A) → Begins name → AllByRecursion Begins (named name shown o)
named-begins name shown None h = tt
named-begins name shown (Some x) h = (Begins-append (name ++ codes "=") (shown x) (Begins-append name (codes "=") h), tt)

link-begin : (f : Fields) → AllByRecursion Begins (link_fields f)
unfolding link_fields
link-begin f = Begin-append (named (codes "in_port") decimal f.in_port ++ named (codes "dl_src") ethernet_text f.dl_src) (named (codes "dl_dst") ethernet_text f.dl_dst) (Begin-append (named (codes "in_port") decimal f.in_port) (named (codes "dl_src") ethernet_text f.dl_src) (named-begins (codes "in_port") decimal f.in_port tt) (named-begins (codes "dl_src") ethernet_text f.dl_src tt)) (named-begins (codes "dl_dst") ethernet_text f.dl_dst tt)

frame-begin : (f : Fields) → AllByRecursion Begins (frame_fields f)
unfolding frame_fields
frame-begin f = Begin-append (named (codes "dl_vlan") decimal f.dl_vlan ++ named (codes "dl_vlan_pcp") decimal f.dl_vlan_pcp) (named (codes "dl_type") type_text f.dl_type) (Begin-append (named (codes "dl_vlan") decimal f.dl_vlan) (named (codes "dl_vlan_pcp") decimal f.dl_vlan_pcp) (named-begins (codes "dl_vlan") decimal f.dl_vlan tt) (named-begins (codes "dl_vlan_pcp") decimal f.dl_vlan_pcp tt)) (named-begins (codes "dl_type") type_text f.dl_type tt)

network-begin : (f : Fields) → AllByRecursion Begins (network_fields f)
unfolding network_fields
network-begin f = Begin-append (named (codes "nw_tos") decimal f.nw_tos ++ named (codes "nw_proto") decimal f.nw_proto ++ named (codes "nw_src") network_text f.nw_src) (named (codes "nw_dst") network_text f.nw_dst) (Begin-append (named (codes "nw_tos") decimal f.nw_tos ++ named (codes "nw_proto") decimal f.nw_proto) (named (codes "nw_src") network_text f.nw_src) (Begin-append (named (codes "nw_tos") decimal f.nw_tos) (named (codes "nw_proto") decimal f.nw_proto) (named-begins (codes "nw_tos") decimal f.nw_tos tt) (named-begins (codes "nw_proto") decimal f.nw_proto tt)) (named-begins (codes "nw_src") network_text f.nw_src tt)) (named-begins (codes "nw_dst") network_text f.nw_dst tt)

transport-begin : (f : Fields) → AllByRecursion Begins (transport_fields f)
unfolding transport_fields
transport-begin f = Begin-append (named (codes "tp_src") decimal f.tp_src) (named (codes "tp_dst") decimal f.tp_dst) (named-begins (codes "tp_src") decimal f.tp_src tt) (named-begins (codes "tp_dst") decimal f.tp_dst tt)

named_fields-begin : (f : Fields) → AllByRecursion Begins (named_fields f)
named_fields-begin f =
    Begin-append (link_fields f ++ frame_fields f ++ network_fields f) (transport_fields f)
    (Begin-append (link_fields f ++ frame_fields f) (network_fields f) (Begin-append (link_fields f) (frame_fields f) (link-begin f) (frame-begin f)) (network-begin f)) (transport-begin f)

pub text-is : (f : Fields) → or_any (with_fields (with_fields (with_fields (with_fields [] (link_fields f)) (frame_fields f)) (network_fields f)) (transport_fields f)) ≡ match_text f
unfolding match_text
text-is f =
    rw (← with_fields-append [] (link_fields f) (frame_fields f), ← with_fields-append [] (link_fields f ++ frame_fields f) (network_fields f), ← with_fields-append [] (link_fields f ++ frame_fields f ++ network_fields f) (transport_fields f))
    (ap or_any (with_fields-joined (named_fields f) (named_fields-begin f)))
