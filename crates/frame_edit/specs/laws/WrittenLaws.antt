-- Laws of what edits write, and that a datagram verifies behind them.
use Rattle.std.proofs.Common.{◌≡◌, ℕ, ◌+◌, ◌*◌, ◌/◌, ◌%◌, ◌≤◌, Bool, true, false, cond, eqb, leb, not, ◌&&◌, ◌||◌, List, [], ◌∷◌, ◌++◌, length, take, drop, get_or, Option, Some, refl, sym, ap, subst, ◌∙◌, append_assoc, inl, inr, ◌⊎◌, arith}
use Rattle.std.proofs.lemmas.Bool.{and_parts, and_from, leb-true, le-leb, eq-eqb}
use Rattle.std.proofs.lemmas.List.{take_at, drop_at, length-append, length-take, length-drop, take-append-drop}
use Rattle.of_types.specs.Fields.{number_at, number_bytes, with_field}
use Rattle.of_types.specs.laws.FieldLaws.{length-number_bytes, number_at-number_bytes}
use Rattle.of_action.specs.declared.action.Action.{Action}
use Rattle.of_action.specs.declared.action.Action.TheVariants.{Output, SetVlanVid, SetVlanPcp, StripVlan, SetDlSrc, SetDlDst, SetNwSrc, SetNwDst, SetNwTos, SetTpSrc, SetTpDst, Enqueue, Vendor}
use Rattle.eth_key.specs.declared.ipv4.Ipv4Header.{Ipv4Header}
use Rattle.eth_key.specs.Ethernet.{has_header, is_tagged}
use Rattle.eth_key.specs.Ipv4.{IsWithin, ipv4_header, protocol, has_ports, is_fragment}
use Rattle.eth_key.specs.laws.Ipv4Laws.{IsWithin-ipv4_header}
use Rattle.frame_edit.specs.Datagram.{header_checksum_place, header_checksum, with_header_checksum, segment_checksum, has_field, tcp_checksum_place, udp_checksum_place, nonzero, with_tcp_checksum, with_udp_checksum, with_segment_checksum, with_checksums, Verifies}
use Rattle.frame_edit.specs.laws.DatagramLaws.{has_field-true}
use Rattle.frame_edit.specs.Edits.{edited, rewritten, in_header, in_ipv4, tagged, with_control, without_tag, with_address, with_network_address, with_service, with_port}
use Rattle.frame_edit.specs.laws.FieldLaws.{length-with_field, number_at-with_field_later, number_at-with_field_earlier, get_or-with_field_later, get_or-with_field_earlier}
use Rattle.frame_edit.specs.laws.VerifyLaws.{either_way, on_true, on_false, with_checksums-verify}
use Rattle.frame_edit.specs.Written.{IsOutside, Keeps, segment_checksum_fields, checksum_fields, IsDatagramEdit, field_of, Renews}

-- ---- One field, none, and several.

pub Keeps-none : (fields : List (ℕ × ℕ)) (old new : List ℕ) → new ≡ old → Keeps fields old new
Keeps-none fields old new e = record { len = ap length e; bytes = λ i outside. ap (λ (xs : List ℕ). get_or xs i 0) e }

pub Keeps-field : (at size : ℕ) (field bytes : List ℕ) → length field ≡ size → at + size ≤ length bytes → Keeps ((at, size) ∷ []) bytes (with_field at field bytes)
Keeps-field at size field bytes width within = record {
  len = length-with_field at field bytes (omega arith);
  bytes = λ i outside. elim outside.0 [
    | inl before ↦ get_or-with_field_later i at field bytes before (omega arith)
    | inr behind ↦ get_or-with_field_earlier i at field bytes (omega (arith, behind)) (omega arith)
  ];
}

outside-left : (fields others : List (ℕ × ℕ)) (i : ℕ) → IsOutside (fields ++ others) i → IsOutside fields i
outside-left [] others i outside = tt
outside-left (field ∷ fields) others i outside = (outside.0, outside-left fields others i outside.1)

outside-right : (fields others : List (ℕ × ℕ)) (i : ℕ) → IsOutside (fields ++ others) i → IsOutside others i
outside-right [] others i outside = outside
outside-right (field ∷ fields) others i outside = outside-right fields others i outside.1

pub Keeps-then : (fields others : List (ℕ × ℕ)) (a b c : List ℕ) → Keeps fields a b → Keeps others b c → Keeps (fields ++ others) a c
Keeps-then fields others a b c p q = record {
  len = q.len ∙ p.len;
  bytes = λ i outside. q.bytes i (outside-right fields others i outside) ∙ p.bytes i (outside-left fields others i outside);
}

-- ---- Checksums.

with_header-keeps : (header : Ipv4Header) (frame : List ℕ) → IsWithin header frame → Keeps ((header_checksum_place header, 2) ∷ []) frame (with_header_checksum header frame)
unfolding with_header_checksum
with_header-keeps header frame within =
    Keeps-field (header_checksum_place header) 2 (number_bytes 2 (header_checksum header frame)) frame (length-number_bytes 2 (header_checksum header frame)) (omega (arith, within.at_least, within.whole))

with_tcp-keeps : (header : Ipv4Header) (frame : List ℕ) → Keeps ((tcp_checksum_place header, 2) ∷ []) frame (with_tcp_checksum header frame)
unfolding with_tcp_checksum
with_tcp-keeps header frame =
    let at = tcp_checksum_place header in
    let value = segment_checksum header at frame in
    elim (either_way (has_field header at frame) (with_field at (number_bytes 2 value) frame) frame) [
      | inl p ↦
          let fits = has_field-true header at frame p.0 in
          subst (λ (new : List ℕ). Keeps ((at, 2) ∷ []) frame new) (sym p.1) (Keeps-field at 2 (number_bytes 2 value) frame (length-number_bytes 2 value) (omega (arith, fits.whole, fits.within)))
      | inr p ↦ Keeps-none ((at, 2) ∷ []) frame _ p.1
    ]

with_udp-keeps : (header : Ipv4Header) (frame : List ℕ) → Keeps ((udp_checksum_place header, 2) ∷ []) frame (with_udp_checksum header frame)
unfolding with_udp_checksum
with_udp-keeps header frame =
    let at = udp_checksum_place header in
    let value = nonzero (segment_checksum header at frame) in
    let has = has_field header at frame in
    let stands = not (eqb (number_at 2 at frame) 0) in
    elim (either_way (has && stands) (with_field at (number_bytes 2 value) frame) frame) [
      | inl p ↦
          let fits = has_field-true header at frame (and_parts has stands p.0).0 in
          subst (λ (new : List ℕ). Keeps ((at, 2) ∷ []) frame new) (sym p.1) (Keeps-field at 2 (number_bytes 2 value) frame (length-number_bytes 2 value) (omega (arith, fits.whole, fits.within)))
      | inr p ↦ Keeps-none ((at, 2) ∷ []) frame _ p.1
    ]

with_segment-keeps : (header : Ipv4Header) (frame : List ℕ) → Keeps (segment_checksum_fields header frame) frame (with_segment_checksum header frame)
unfolding with_segment_checksum
with_segment-keeps header frame =
    let tcp = eqb (protocol header frame) 6 in
    let udp = eqb (protocol header frame) 17 in
    let tcp_fields : List (ℕ × ℕ) = (tcp_checksum_place header, 2) ∷ [] in
    let udp_fields : List (ℕ × ℕ) = (udp_checksum_place header, 2) ∷ [] in
    let pick : (b c : Bool) → (b ≡ tcp) → (c ≡ udp) → Keeps (cond b tcp_fields (cond c udp_fields [])) frame (cond b (with_tcp_checksum header frame) (cond c (with_udp_checksum header frame) frame)) =
    λ b c p q. elim b as (λ v. Keeps (cond v tcp_fields (cond c udp_fields [])) frame (cond v (with_tcp_checksum header frame) (cond c (with_udp_checksum header frame) frame))) [
      | true ↦ with_tcp-keeps header frame
      | false ↦ elim c as (λ w. Keeps (cond w udp_fields []) frame (cond w (with_udp_checksum header frame) frame)) [
        | true ↦ with_udp-keeps header frame
        | false ↦ Keeps-none [] frame frame refl
      ]
    ] in
    pick tcp udp refl refl

with_checksums-keeps : (header : Ipv4Header) (frame : List ℕ) → IsWithin header frame → Keeps (checksum_fields header frame) frame (with_checksums header frame)
unfolding with_header_checksum
with_checksums-keeps header frame within =
    let first = with_header_checksum header frame in
    let proto : protocol header first ≡ protocol header frame = number_at-with_field_later 1 (header.start + 9) (header_checksum_place header) (number_bytes 2 (header_checksum header frame)) frame (omega arith) (omega (arith, within.at_least, within.whole)) in
    let second : Keeps (segment_checksum_fields header frame) first (with_checksums header frame) =
    subst (λ (n : ℕ). Keeps (cond (eqb n 6) ((tcp_checksum_place header, 2) ∷ []) (cond (eqb n 17) ((udp_checksum_place header, 2) ∷ []) [])) first (with_checksums header frame)) proto (with_segment-keeps header first) in
    Keeps-then ((header_checksum_place header, 2) ∷ []) (segment_checksum_fields header frame) frame first (with_checksums header frame) (with_header-keeps header frame within) second

-- ---- Edits of a datagram.

-- a field beside the protocol
abbrev IsBeside : Ipv4Header → ℕ → ℕ → Type 0
IsBeside header at size = (at + size ≤ header.start + 9) ⊎ (header.start + 10 ≤ at)

protocol-beside : (header : Ipv4Header) (at size value : ℕ) (frame : List ℕ) → IsBeside header at size → at + size ≤ length frame → protocol header (with_field at (number_bytes size value) frame) ≡ protocol header frame
protocol-beside header at size value frame beside within =
    let width = length-number_bytes size value in
    elim beside [
      | inl before ↦ number_at-with_field_earlier 1 (header.start + 9) at (number_bytes size value) frame (omega (arith, width, before)) (omega (arith, width))
      | inr behind ↦ number_at-with_field_later 1 (header.start + 9) at (number_bytes size value) frame (omega (arith, behind)) (omega arith)
    ]

IsWithin-same : (header : Ipv4Header) (old new : List ℕ) → length new ≡ length old → IsWithin header old → IsWithin header new
IsWithin-same header old new len within = record { at_least = within.at_least; at_most = within.at_most; whole = omega (arith, within.whole, len) }

pub rewritten-keeps : (header : Ipv4Header) (size at value : ℕ) (frame : List ℕ) → IsWithin header frame → at + size ≤ length frame → IsBeside header at size
    → Keeps ((at, size) ∷ checksum_fields header frame) frame (rewritten header size at value frame)
unfolding rewritten
rewritten-keeps header size at value frame within room beside =
    let first = with_field at (number_bytes size value) frame in
    let kept = Keeps-field at size (number_bytes size value) frame (length-number_bytes size value) room in
    let second : Keeps (checksum_fields header frame) first (with_checksums header first) =
    subst (λ (n : ℕ). Keeps ((header_checksum_place header, 2) ∷ cond (eqb n 6) ((tcp_checksum_place header, 2) ∷ []) (cond (eqb n 17) ((udp_checksum_place header, 2) ∷ []) [])) first (with_checksums header first)) (protocol-beside header at size value frame beside room) (with_checksums-keeps header first (IsWithin-same header frame first kept.len within)) in
    elim (either_way (eqb (number_at size at frame) value) frame (with_checksums header first)) [
      | inl p ↦ Keeps-none ((at, size) ∷ checksum_fields header frame) frame _ p.1
      | inr p ↦ subst (λ (new : List ℕ). Keeps ((at, size) ∷ checksum_fields header frame) frame new) (sym p.1) (Keeps-then ((at, size) ∷ []) (checksum_fields header frame) frame first (with_checksums header first) kept second)
    ]

pub rewritten-verifies : (header : Ipv4Header) (size at value : ℕ) (frame : List ℕ) → IsWithin header frame → at + size ≤ length frame
    → (rewritten header size at value frame ≡ frame) ⊎ Verifies header (rewritten header size at value frame)
unfolding rewritten
rewritten-verifies header size at value frame within room =
    let first = with_field at (number_bytes size value) frame in
    let len : length first ≡ length frame = length-with_field at (number_bytes size value) frame (omega (arith, length-number_bytes size value)) in
    elim (either_way (eqb (number_at size at frame) value) frame (with_checksums header first)) [
      | inl p ↦ inl p.1
      | inr p ↦ inr (subst (λ (new : List ℕ). Verifies header new) (sym p.1) (with_checksums-verify header first (IsWithin-same header frame first len within)))
    ]

rewritten-renews : (header : Ipv4Header) (size at value : ℕ) (frame : List ℕ) → IsWithin header frame → at + size ≤ length frame → IsBeside header at size
    → Renews header (at, size) frame (rewritten header size at value frame)
rewritten-renews header size at value frame within room beside =
    record { keeps = rewritten-keeps header size at value frame within room beside; verifies = rewritten-verifies header size at value frame within room }

in_found : (header : Ipv4Header) (edit : Ipv4Header → List ℕ) (frame : List ℕ) → ipv4_header frame ≡ Some header → in_ipv4 edit frame ≡ edit header
in_found header edit frame e = ap (λ (o : Option Ipv4Header). in_header o edit frame) e

has_ports-true : (header : Ipv4Header) (frame : List ℕ) → has_ports header frame ≡ true → header.end + 4 ≤ length frame
unfolding has_ports
has_ports-true header frame e =
    leb-true _ _ (and_parts (not (is_fragment header frame) && (eqb (protocol header frame) 6 || eqb (protocol header frame) 17)) (leb (header.end + 4) (length frame)) e).1

network_address-renews : (header : Ipv4Header) (offset address : ℕ) (frame : List ℕ) → ipv4_header frame ≡ Some header → 12 ≤ offset → offset ≤ 16
    → Renews header (header.start + offset, 4) frame (with_network_address offset address frame)
unfolding with_network_address
network_address-renews header offset address frame e low high =
    let within = IsWithin-ipv4_header frame header e in
    subst (λ (new : List ℕ). Renews header (header.start + offset, 4) frame new) (sym (in_found header (λ h. rewritten h 4 (h.start + offset) address frame) frame e))
    (rewritten-renews header 4 (header.start + offset) address frame within (omega (arith, within.at_least, within.whole)) (inr (omega arith)))

service-renews : (header : Ipv4Header) (tos : ℕ) (frame : List ℕ) → ipv4_header frame ≡ Some header → Renews header (header.start + 1, 1) frame (with_service tos frame)
unfolding with_service
service-renews header tos frame e =
    let within = IsWithin-ipv4_header frame header e in
    let value : Ipv4Header → ℕ = λ h. tos / 4 * 4 + number_at 1 (h.start + 1) frame % 4 in
    subst (λ (new : List ℕ). Renews header (header.start + 1, 1) frame new) (sym (in_found header (λ h. rewritten h 1 (h.start + 1) (value h) frame) frame e))
    (rewritten-renews header 1 (header.start + 1) (value header) frame within (omega (arith, within.at_least, within.whole)) (inl (omega arith)))

port-renews : (header : Ipv4Header) (offset port : ℕ) (frame : List ℕ) → ipv4_header frame ≡ Some header → offset ≤ 2 → Renews header (header.end + offset, 2) frame (with_port offset port frame)
unfolding with_port
port-renews header offset port frame e high =
    let within = IsWithin-ipv4_header frame header e in
    let field : ℕ × ℕ = (header.end + offset, 2) in
    let edit : Ipv4Header → List ℕ = λ h. cond (has_ports h frame) (rewritten h 2 (h.end + offset) port frame) frame in
    subst (λ (new : List ℕ). Renews header field frame new) (sym (in_found header edit frame e))
    (elim (either_way (has_ports header frame) (rewritten header 2 (header.end + offset) port frame) frame) [
      | inl p ↦ subst (λ (new : List ℕ). Renews header field frame new) (sym p.1) (rewritten-renews header 2 (header.end + offset) port frame within (omega (arith, has_ports-true header frame p.0)) (inr (omega (arith, within.at_least))))
      | inr p ↦ record { keeps = Keeps-none (field ∷ checksum_fields header frame) frame _ p.1; verifies = inl p.1 }
    ])

pub edited-renews : (action : Action) (header : Ipv4Header) (frame : List ℕ) → IsDatagramEdit action → ipv4_header frame ≡ Some header → Renews header (field_of action header) frame (edited action frame)
edited-renews (Output port max_len) header frame is e = absurd is
edited-renews (SetVlanVid vid) header frame is e = absurd is
edited-renews (SetVlanPcp pcp) header frame is e = absurd is
edited-renews StripVlan header frame is e = absurd is
edited-renews (SetDlSrc address) header frame is e = absurd is
edited-renews (SetDlDst address) header frame is e = absurd is
edited-renews (SetNwSrc address) header frame is e = network_address-renews header 12 address frame e (omega arith) (omega arith)
edited-renews (SetNwDst address) header frame is e = network_address-renews header 16 address frame e (omega arith) (omega arith)
edited-renews (SetNwTos tos) header frame is e = service-renews header tos frame e
edited-renews (SetTpSrc port) header frame is e =
    let same : header.end + 0 ≡ header.end = omega arith in
    subst (λ (at : ℕ). Renews header (at, 2) frame (with_port 0 port frame)) same (port-renews header 0 port frame e (omega arith))
edited-renews (SetTpDst port) header frame is e = port-renews header 2 port frame e (omega arith)
edited-renews (Enqueue port queue) header frame is e = absurd is
edited-renews (Vendor body) header frame is e = absurd is

-- ---- Addresses and the tag.

pub with_address-keeps : (at : ℕ) (address frame : List ℕ) → at ≤ 6 → length address ≡ 6 → Keeps ((at, 6) ∷ []) frame (with_address at address frame)
unfolding with_address
with_address-keeps at address frame low width =
    elim (either_way (has_header frame) (with_field at address frame) frame) [
      | inl p ↦
          let long : 14 ≤ length frame = leb-true _ _ p.0 in
          subst (λ (new : List ℕ). Keeps ((at, 6) ∷ []) frame new) (sym p.1) (Keeps-field at 6 address frame width (omega arith))
      | inr p ↦ Keeps-none ((at, 6) ∷ []) frame _ p.1
    ]

pub tagged-long : (frame : List ℕ) → is_tagged frame ≡ true → 18 ≤ length frame
unfolding is_tagged
tagged-long frame e = leb-true _ _ (and_parts (leb 18 (length frame)) (eqb (number_at 2 12 frame) 0x8100) e).0

pub with_control-keeps : (change : ℕ → ℕ) (frame : List ℕ) → is_tagged frame ≡ true → Keeps ((14, 2) ∷ []) frame (with_control change frame)
unfolding with_control
with_control-keeps change frame is =
    let control = change (number_at 2 14 frame) in
    let long = tagged-long frame is in
    subst (λ (new : List ℕ). Keeps ((14, 2) ∷ []) frame new) (sym (on_true (is_tagged frame) (with_field 14 (number_bytes 2 control) frame) _ is))
    (Keeps-field 14 2 (number_bytes 2 control) frame (length-number_bytes 2 control) (omega arith))

pub is_tagged-tagged : (control : ℕ) (frame : List ℕ) → 14 ≤ length frame → is_tagged (tagged control frame) ≡ true
unfolding is_tagged
is_tagged-tagged control frame long =
    let front = length-take 12 frame in
    let behind = number_bytes 2 control ++ drop 12 frame in
    let size : length (tagged control frame) ≡ length frame + 4 =
    omega (arith, length-append (take 12 frame) (number_bytes 2 0x8100 ++ behind), length-append (number_bytes 2 0x8100) behind, length-append (number_bytes 2 control) (drop 12 frame), length-number_bytes 2 0x8100, length-number_bytes 2 control, front, length-drop 12 frame) in
    let kind : number_at 2 12 (tagged control frame) ≡ 0x8100 = number_at-number_bytes 2 12 0x8100 (take 12 frame) behind (omega (arith, front)) (omega arith) in
    and_from (leb 18 (length (tagged control frame))) (eqb (number_at 2 12 (tagged control frame)) 0x8100) (le-leb _ _ (omega (arith, size))) (eq-eqb _ _ kind)

pub without_tag-tagged : (control : ℕ) (frame : List ℕ) → 14 ≤ length frame → without_tag (tagged control frame) ≡ frame
unfolding without_tag
without_tag-tagged control frame long =
    let new = tagged control frame in
    let front_len : length (take 12 frame) ≡ 12 = omega (arith, length-take 12 frame) in
    let tag = number_bytes 2 0x8100 ++ number_bytes 2 control in
    let head : length (take 12 frame ++ tag) ≡ 16 = omega (arith, length-append (take 12 frame) tag, length-append (number_bytes 2 0x8100) (number_bytes 2 control), length-number_bytes 2 0x8100, length-number_bytes 2 control, front_len) in
    let regrouped : (take 12 frame ++ tag) ++ drop 12 frame ≡ new = simp append_assoc in
    let front : take 12 new ≡ take 12 frame = take_at (take 12 frame) (number_bytes 2 0x8100 ++ (number_bytes 2 control ++ drop 12 frame)) 12 front_len in
    let rest : drop 16 new ≡ drop 12 frame = ap (drop 16) (sym regrouped) ∙ drop_at (take 12 frame ++ tag) (drop 12 frame) 16 head in
    on_true (is_tagged new) (take 12 new ++ drop 16 new) new (is_tagged-tagged control frame long)
    ∙ ap (λ (xs : List ℕ). xs ++ drop 16 new) front
    ∙ ap (λ (xs : List ℕ). take 12 frame ++ xs) rest
    ∙ take-append-drop 12 frame

pub without_tag-with_control : (change : ℕ → ℕ) (frame : List ℕ) → has_header frame ≡ true → is_tagged frame ≡ false → without_tag (with_control change frame) ≡ frame
unfolding with_control
without_tag-with_control change frame has none =
    let long : 14 ≤ length frame = leb-true _ _ has in
    ap without_tag (on_false (is_tagged frame) (with_field 14 (number_bytes 2 (change (number_at 2 14 frame))) frame) (cond (has_header frame) (tagged (change 0) frame) frame) none ∙ on_true (has_header frame) (tagged (change 0) frame) frame has)
    ∙ without_tag-tagged (change 0) frame long
