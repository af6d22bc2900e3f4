-- How long edits make a frame: a tag is put only into a frame without one, so that all edits together add at most its four bytes.
use Rattle.std.proofs.Common.{◌≡◌, ◌==◌, ℕ, ◌+◌, ◌≤◌, ◌<◌, true, false, leb, List, [], ◌∷◌, ◌++◌, length, take, drop, Option, Some, None, refl, sym, ap, ◌∙◌, inl, inr, ◌⊎◌, arith}
use Rattle.std.specs.Prelude.{All, IfSome, if◌then◌else◌}
use Rattle.std.specs.List.{AllByRecursion}
use Rattle.std.proofs.lemmas.Bool.{leb-true, cond_both, cases_Bool}
use Rattle.std.proofs.lemmas.List.{length-append, length-take, length-drop, get_or-take}
use Rattle.std.proofs.lemmas.List.Elements.{All-nil, All-cons, All-head, All-tail, All-append, All-weaker}
use Rattle.std.proofs.lemmas.List.Sums.{sum_by-cons}
use Rattle.of_action.specs.Spelling.{action_size, list_size}
use Rattle.std.proofs.lemmas.Grind.{same_number_lists}
use Rattle.of_types.specs.Fields.{number_at, number_bytes, with_field}
use Rattle.of_types.specs.laws.FieldLaws.{length-number_bytes, number_at-take}
use Rattle.of_action.specs.declared.action.Action.{Action}
use Rattle.of_action.specs.declared.action.Action.TheVariants.{Output, SetVlanVid, SetVlanPcp, StripVlan, SetDlSrc, SetDlDst, SetNwSrc, SetNwDst, SetNwTos, SetTpSrc, SetTpDst, Enqueue, Vendor}
use Rattle.eth_key.specs.declared.ethernet.Payload.{Payload}
use Rattle.eth_key.specs.declared.ipv4.Ipv4Header.{Ipv4Header}
use Rattle.eth_key.specs.Ethernet.{has_header, is_tagged, payload_of, payload_behind, type_place, is_snap}
use Rattle.eth_key.specs.Ipv4.{ipv4_header, header_in, header_at, is_header, protocol}
use Rattle.eth_key.specs.laws.Ipv4Laws.{IsWithin-ipv4_header}
use Rattle.frame_edit.specs.Datagram.{tcp_checksum_place, udp_checksum_place}
use Rattle.frame_edit.specs.Edits.{AreEdits, IsEdit, edited, tagged, with_control, with_identifier, with_priority, without_tag, with_address, with_network_address, with_service, with_port, output_of, outputs}
use Rattle.frame_edit.specs.laws.FieldLaws.{length-with_field, number_at-with_field_later, number_at-with_field_earlier}
use Rattle.frame_edit.specs.Written.{IsOutside, Keeps, segment_checksum_fields, checksum_fields, IsDatagramEdit, field_of}
use Rattle.frame_edit.specs.laws.WrittenLaws.{edited-renews, tagged-long, is_tagged-tagged}
use Rattle.switch_sim.specs.Words.{HasAddress, reach}

pub reach-least : (frame : List ℕ) → length frame ≤ reach frame
unfolding reach
reach-least frame = cond_both (is_tagged frame) (length frame) (length frame + 4) (λ n. length frame ≤ n) (λ _. omega arith) (λ _. omega arith)

pub reach-most : (frame : List ℕ) → reach frame ≤ length frame + 4
unfolding reach
reach-most frame = cond_both (is_tagged frame) (length frame) (length frame + 4) (λ n. n ≤ length frame + 4) (λ _. omega arith) (λ _. omega arith)

-- an edit that leaves length and tag
reach-same : (old new : List ℕ) → length new ≡ length old → is_tagged new ≡ is_tagged old → reach new ≤ reach old
unfolding reach
reach-same old new len tag = rw (len, tag) (omega arith)

-- the tag is read off the length and the type
is_tagged-same : (old new : List ℕ) → length new ≡ length old → number_at 2 12 new ≡ number_at 2 12 old → is_tagged new ≡ is_tagged old
unfolding is_tagged
is_tagged-same old new len kind = rw (len, kind) refl

-- ---- Tags

length-tagged : (control : ℕ) (frame : List ℕ) → 14 ≤ length frame → length (tagged control frame) ≡ length frame + 4
length-tagged control frame long =
    let behind = number_bytes 2 control ++ drop 12 frame in
    omega (arith, length-append (take 12 frame) (number_bytes 2 0x8100 ++ behind), length-append (number_bytes 2 0x8100) behind, length-append (number_bytes 2 control) (drop 12 frame), length-number_bytes 2 0x8100, length-number_bytes 2 control, length-take 12 frame, length-drop 12 frame)

reach-new_tag : (control : ℕ) (frame : List ℕ) → is_tagged frame ≡ false → 14 ≤ length frame → reach (tagged control frame) ≤ reach frame
unfolding reach
reach-new_tag control frame none long = rw (none, is_tagged-tagged control frame long) (omega (arith, length-tagged control frame long))

reach-field : (at : ℕ) (field frame : List ℕ) → 14 ≤ at → at + length field ≤ length frame → reach (with_field at field frame) ≤ reach frame
reach-field at field frame behind within =
    let len = length-with_field at field frame within in
    reach-same frame (with_field at field frame) len (is_tagged-same frame (with_field at field frame) len (number_at-with_field_later 2 12 at field frame (omega arith) (omega arith)))

reach-control : (change : ℕ → ℕ) (frame : List ℕ) → reach (with_control change frame) ≤ reach frame
unfolding with_control
reach-control change frame =
    let field = number_bytes 2 (change (number_at 2 14 frame)) in
    cond_both (is_tagged frame) (with_field 14 field frame) (if has_header frame then tagged (change 0) frame else frame) (λ (new : List ℕ). reach new ≤ reach frame)
    (λ is. reach-field 14 field frame (omega arith) (omega (arith, tagged-long frame is, length-number_bytes 2 (change (number_at 2 14 frame)))))
    (λ none. cond_both (has_header frame) (tagged (change 0) frame) frame (λ (new : List ℕ). reach new ≤ reach frame)
    (λ has. reach-new_tag (change 0) frame none (leb-true _ _ has))
    (λ _. omega arith))

reach-stripped : (frame : List ℕ) → is_tagged frame ≡ true → reach (take 12 frame ++ drop 16 frame) ≤ reach frame
reach-stripped frame is =
    let new = take 12 frame ++ drop 16 frame in
    omega (arith, reach-most new, reach-least frame, tagged-long frame is, length-append (take 12 frame) (drop 16 frame), length-take 12 frame, length-drop 16 frame)

reach-strip : (frame : List ℕ) → reach (without_tag frame) ≤ reach frame
unfolding without_tag
reach-strip frame =
    cond_both (is_tagged frame) (take 12 frame ++ drop 16 frame) frame (λ (new : List ℕ). reach new ≤ reach frame) (reach-stripped frame) (λ _. omega arith)

-- ---- Addresses

reach-address : (at : ℕ) (address frame : List ℕ) → at ≤ 6 → length address ≡ 6 → reach (with_address at address frame) ≤ reach frame
unfolding with_address
reach-address at address frame low width =
    cond_both (has_header frame) (with_field at address frame) frame (λ (new : List ℕ). reach new ≤ reach frame)
    (λ has.
    let long : 14 ≤ length frame = leb-true _ _ has in
    let len = length-with_field at address frame (omega arith) in
    reach-same frame (with_field at address frame) len (is_tagged-same frame (with_field at address frame) len (number_at-with_field_earlier 2 12 at address frame (omega arith) (omega arith))))
    (λ _. omega arith)

-- ---- Datagrams: their fields stand behind the type

abbrev AreBehind : List (ℕ × ℕ) → Type 0
AreBehind fields = AllByRecursion (λ (f : ℕ × ℕ). 14 ≤ f.0) fields

outside_front : (fields : List (ℕ × ℕ)) (i : ℕ) → AreBehind fields → i < 14 → IsOutside fields i
outside_front [] i behind lt = tt
outside_front (f ∷ fields) i behind lt = (inl (omega (arith, behind.0)), outside_front fields i behind.1 lt)

reach-kept : (fields : List (ℕ × ℕ)) (old new : List ℕ) → AreBehind fields → 14 ≤ length old → Keeps fields old new → reach new ≤ reach old
reach-kept fields old new behind long keeps =
    let front : take 14 new ≡ take 14 old = same_number_lists (take 14 new) (take 14 old) (omega (arith, length-take 14 new, length-take 14 old, keeps.len))
    (λ k lt.
    let low : k < 14 = omega (arith, length-take 14 new) in
    get_or-take 14 new k 0 low ∙ keeps.bytes k (outside_front fields k behind low) ∙ sym (get_or-take 14 old k 0 low)) in
    let kind : number_at 2 12 new ≡ number_at 2 12 old = sym (number_at-take 2 12 14 new (omega arith)) ∙ ap (number_at 2 12) front ∙ number_at-take 2 12 14 old (omega arith) in
    reach-same old new keeps.len (is_tagged-same old new keeps.len kind)

start_behind : (at : ℕ) (frame : List ℕ) → at + 2 ≤ (payload_behind at frame).start
unfolding payload_behind
start_behind at frame =
    let snap : Payload = record { dl_type = number_at 2 (at + 8) frame; start = at + 10 } in
    let plain : Payload = record { dl_type = 0x05ff; start = at + 2 } in
    cond_both (leb 0x0600 (number_at 2 at frame)) (record { dl_type = number_at 2 at frame; start = at + 2 }) (if is_snap (at + 2) frame then snap else plain) (λ (p : Payload). at + 2 ≤ p.start)
    (λ _. omega arith)
    (λ _. cond_both (is_snap (at + 2) frame) snap plain (λ (p : Payload). at + 2 ≤ p.start) (λ _. omega arith) (λ _. omega arith))

type_behind : (frame : List ℕ) → 12 ≤ type_place frame
type_behind frame = cond_both (is_tagged frame) 16 12 (λ n. 12 ≤ n) (λ _. omega arith) (λ _. omega arith)

start_of-header_at : (start : ℕ) (frame : List ℕ) (header : Ipv4Header) → header_at start frame ≡ Some header → header.start ≡ start
unfolding header_at
start_of-header_at start frame header e =
    elim (cases_Bool (is_header start frame)) [
      | inl is ↦ let same = (rw is at e) in ap (λ (h : Ipv4Header). h.start) (sym (some_same _ _ same))
      | inr other ↦ absurd (none_some _ (rw other at e))
    ]
  where
    some_same : (x y : Ipv4Header) → Some x ≡ Some y → x ≡ y
    some_same x y same = cc

    none_some : (x : Ipv4Header) → None ≡ Some x → ⊥
    none_some x same = cc

header_behind : (o : Option Payload) (frame : List ℕ) (header : Ipv4Header) → IfSome o (λ p. 14 ≤ p.start) → header_in o frame ≡ Some header → 14 ≤ header.start
header_behind None frame header behind e = absurd cc
header_behind (Some payload) frame header behind e =
    elim (cases_Bool (payload.dl_type == 0x0800)) [
      | inl is ↦ omega (arith, behind, start_of-header_at payload.start frame header (rw is at e))
      | inr other ↦ absurd (none_some header (rw other at e))
    ]
  where
    none_some : (x : Ipv4Header) → None ≡ Some x → ⊥
    none_some x same = cc

payload_start : (frame : List ℕ) → IfSome (payload_of frame) (λ p. 14 ≤ p.start)
payload_start frame =
    cond_both (has_header frame) (Some (payload_behind (type_place frame) frame)) None (λ (o : Option Payload). IfSome o (λ p. 14 ≤ p.start))
    (λ _. omega (arith, start_behind (type_place frame) frame, type_behind frame))
    (λ _. tt)

header_start : (frame : List ℕ) (header : Ipv4Header) → ipv4_header frame ≡ Some header → 14 ≤ header.start
header_start frame header e = header_behind (payload_of frame) frame header (payload_start frame) e

behind_segment : (header : Ipv4Header) (frame : List ℕ) → 14 ≤ header.end → AreBehind (segment_checksum_fields header frame)
behind_segment header frame low =
    cond_both (protocol header frame == 6) ((tcp_checksum_place header, 2) ∷ []) (if protocol header frame == 17 then (udp_checksum_place header, 2) ∷ [] else []) AreBehind
    (λ _. (omega arith, tt))
    (λ _. cond_both (protocol header frame == 17) ((udp_checksum_place header, 2) ∷ []) [] AreBehind (λ _. (omega arith, tt)) (λ _. tt))

behind_field : (action : Action) (header : Ipv4Header) → IsDatagramEdit action → 14 ≤ header.start → 14 ≤ header.end → 14 ≤ (field_of action header).0
behind_field (Output port max_len) header is low high = absurd is
behind_field (SetVlanVid vid) header is low high = absurd is
behind_field (SetVlanPcp pcp) header is low high = absurd is
behind_field StripVlan header is low high = absurd is
behind_field (SetDlSrc address) header is low high = absurd is
behind_field (SetDlDst address) header is low high = absurd is
behind_field (SetNwSrc address) header is low high = omega arith
behind_field (SetNwDst address) header is low high = omega arith
behind_field (SetNwTos tos) header is low high = omega arith
behind_field (SetTpSrc port) header is low high = omega arith
behind_field (SetTpDst port) header is low high = omega arith
behind_field (Enqueue port queue) header is low high = absurd is
behind_field (Vendor body) header is low high = absurd is

reach-renewed : (action : Action) (frame : List ℕ) (header : Ipv4Header) → IsDatagramEdit action → ipv4_header frame ≡ Some header → reach (edited action frame) ≤ reach frame
reach-renewed action frame header is e =
    let low = header_start frame header e in
    let within = IsWithin-ipv4_header frame header e in
    let high : 14 ≤ header.end = omega (arith, low, within.at_least) in
    reach-kept (field_of action header ∷ checksum_fields header frame) frame (edited action frame) (behind_field action header is low high, (omega (arith, low), behind_segment header frame high)) (omega (arith, high, within.whole)) (edited-renews action header frame is e).keeps

cases_Option : (o : Option Ipv4Header) → (o ≡ None) ⊎ ((h : Ipv4Header) × (o ≡ Some h))
cases_Option None = inl refl
cases_Option (Some h) = inr (h, refl)

reach-datagram : (action : Action) (frame : List ℕ) → IsDatagramEdit action → (ipv4_header frame ≡ None → edited action frame ≡ frame) → reach (edited action frame) ≤ reach frame
reach-datagram action frame is unchanged =
    elim (cases_Option (ipv4_header frame)) [
      | inl none ↦ rw (unchanged none) (omega arith)
      | inr (header, e) ↦ reach-renewed action frame header is e
    ]

no_address : (offset address : ℕ) (frame : List ℕ) → ipv4_header frame ≡ None → with_network_address offset address frame ≡ frame
unfolding with_network_address
no_address offset address frame none = rw none refl

no_service : (tos : ℕ) (frame : List ℕ) → ipv4_header frame ≡ None → with_service tos frame ≡ frame
unfolding with_service
no_service tos frame none = rw none refl

no_port : (offset port : ℕ) (frame : List ℕ) → ipv4_header frame ≡ None → with_port offset port frame ≡ frame
unfolding with_port
no_port offset port frame none = rw none refl

-- ---- Any action, and all actions

pub reach-edited : (action : Action) (frame : List ℕ) → HasAddress action → reach (edited action frame) ≤ reach frame
reach-edited (Output port max_len) frame has = omega arith
reach-edited (SetVlanVid vid) frame has = reach-control (with_identifier vid) frame
reach-edited (SetVlanPcp pcp) frame has = reach-control (with_priority pcp) frame
reach-edited StripVlan frame has = reach-strip frame
reach-edited (SetDlSrc address) frame has = reach-address 6 address frame (omega arith) has
reach-edited (SetDlDst address) frame has = reach-address 0 address frame (omega arith) has
reach-edited (SetNwSrc address) frame has = reach-datagram (SetNwSrc address) frame tt (no_address 12 address frame)
reach-edited (SetNwDst address) frame has = reach-datagram (SetNwDst address) frame tt (no_address 16 address frame)
reach-edited (SetNwTos tos) frame has = reach-datagram (SetNwTos tos) frame tt (no_service tos frame)
reach-edited (SetTpSrc port) frame has = reach-datagram (SetTpSrc port) frame tt (no_port 0 port frame)
reach-edited (SetTpDst port) frame has = reach-datagram (SetTpDst port) frame tt (no_port 2 port frame)
reach-edited (Enqueue port queue) frame has = omega arith
reach-edited (Vendor body) frame has = omega arith

output_fits : (bound : ℕ) (action : Action) (frame : List ℕ) → reach frame ≤ bound → All (λ o. reach o.1 ≤ bound) (output_of action frame)
output_fits bound (Output port max_len) frame fits = All-cons (λ (o : ℕ × List ℕ). reach o.1 ≤ bound) (port, frame) [] fits (All-nil (λ (o : ℕ × List ℕ). reach o.1 ≤ bound))
output_fits bound (SetVlanVid vid) frame fits = All-nil (λ (o : ℕ × List ℕ). reach o.1 ≤ bound)
output_fits bound (SetVlanPcp pcp) frame fits = All-nil (λ (o : ℕ × List ℕ). reach o.1 ≤ bound)
output_fits bound StripVlan frame fits = All-nil (λ (o : ℕ × List ℕ). reach o.1 ≤ bound)
output_fits bound (SetDlSrc address) frame fits = All-nil (λ (o : ℕ × List ℕ). reach o.1 ≤ bound)
output_fits bound (SetDlDst address) frame fits = All-nil (λ (o : ℕ × List ℕ). reach o.1 ≤ bound)
output_fits bound (SetNwSrc address) frame fits = All-nil (λ (o : ℕ × List ℕ). reach o.1 ≤ bound)
output_fits bound (SetNwDst address) frame fits = All-nil (λ (o : ℕ × List ℕ). reach o.1 ≤ bound)
output_fits bound (SetNwTos tos) frame fits = All-nil (λ (o : ℕ × List ℕ). reach o.1 ≤ bound)
output_fits bound (SetTpSrc port) frame fits = All-nil (λ (o : ℕ × List ℕ). reach o.1 ≤ bound)
output_fits bound (SetTpDst port) frame fits = All-nil (λ (o : ℕ × List ℕ). reach o.1 ≤ bound)
output_fits bound (Enqueue port queue) frame fits = All-nil (λ (o : ℕ × List ℕ). reach o.1 ≤ bound)
output_fits bound (Vendor body) frame fits = All-nil (λ (o : ℕ × List ℕ). reach o.1 ≤ bound)

-- each frame that actions put out reaches no further than the frame they are given
pub outputs_fit : (bound : ℕ) (actions : List Action) (frame : List ℕ) → All HasAddress actions → reach frame ≤ bound → All (λ o. reach o.1 ≤ bound) (outputs actions frame)
unfolding outputs
outputs_fit bound [] frame have fits = All-nil (λ (o : ℕ × List ℕ). reach o.1 ≤ bound)
outputs_fit bound (action ∷ actions) frame have fits =
    let next : reach (edited action frame) ≤ bound = omega (arith, fits, reach-edited action frame (All-head HasAddress action actions have)) in
    All-append (λ (o : ℕ × List ℕ). reach o.1 ≤ bound) (output_of action frame) (outputs actions (edited action frame)) (output_fits bound action frame fits)
    (outputs_fit bound actions (edited action frame) (All-tail HasAddress action actions have) next)

pub outputs_short : (bound : ℕ) (actions : List Action) (frame : List ℕ) → All HasAddress actions → reach frame ≤ bound → All (λ o. length o.1 ≤ bound) (outputs actions frame)
outputs_short bound actions frame have fits =
    All-weaker (λ (o : ℕ × List ℕ). reach o.1 ≤ bound) (λ (o : ℕ × List ℕ). length o.1 ≤ bound) (λ o reached. omega (arith, reached, reach-least o.1)) (outputs actions frame) (outputs_fit bound actions frame have fits)

pub least_size : (action : Action) → IsEdit action → 8 ≤ action_size action
least_size (Output port max_len) is = omega arith
least_size (SetVlanVid vid) is = omega arith
least_size (SetVlanPcp pcp) is = omega arith
least_size StripVlan is = omega arith
least_size (SetDlSrc address) is = omega arith
least_size (SetDlDst address) is = omega arith
least_size (SetNwSrc address) is = omega arith
least_size (SetNwDst address) is = omega arith
least_size (SetNwTos tos) is = omega arith
least_size (SetTpSrc port) is = omega arith
least_size (SetTpDst port) is = omega arith
least_size (Enqueue port queue) is = absurd is
least_size (Vendor body) is = absurd is

outputs_none : (frame : List ℕ) → All (λ o. reach o.1 ≤ 65517) (outputs [] frame)
unfolding outputs
outputs_none frame = All-nil (λ (o : ℕ × List ℕ). reach o.1 ≤ 65517)

-- the frames of a PACKET_OUT fit a PACKET_IN, since it has an action or puts nothing out
pub packet_outputs_fit : (actions : List Action) (frame : List ℕ) → AreEdits actions → All HasAddress actions → 16 + (list_size actions + length frame) ≤ 65535 → All (λ o. reach o.1 ≤ 65517) (outputs actions frame)
packet_outputs_fit [] frame edits have fits = outputs_none frame
packet_outputs_fit (action ∷ actions) frame edits have fits =
    outputs_fit 65517 (action ∷ actions) frame have (omega (arith, fits, least_size action edits.0, sum_by-cons action_size action actions, reach-most frame))
