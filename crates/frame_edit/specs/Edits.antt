-- What actions make of a frame (OpenFlow 1.0.0, 5.2.4 Flow Action Structures). An action whose field is not in the frame
-- changes nothing, which is this project's own choice.
use Rattle.std.specs.Prelude.{◌==◌, ℕ, ◌+◌, ◌*◌, ◌/◌, ◌%◌, List, [], ◌∷◌, ◌++◌, take, drop, Option, Some, None, if◌then◌else◌}
use Rattle.std.specs.List.{AllByRecursion}
use Rattle.of_types.specs.Fields.{number_at, number_bytes, with_field}
use Rattle.of_action.specs.declared.action.Action.{Action}
use Rattle.of_action.specs.declared.action.Action.TheVariants.{Output, SetVlanVid, SetVlanPcp, StripVlan, SetDlSrc, SetDlDst, SetNwSrc, SetNwDst, SetNwTos, SetTpSrc, SetTpDst, Enqueue, Vendor}
use Rattle.eth_key.specs.declared.ipv4.Ipv4Header.{Ipv4Header}
use Rattle.eth_key.specs.Ethernet.{has_header, is_tagged}
use Rattle.eth_key.specs.Ipv4.{ipv4_header, has_ports}
use Rattle.frame_edit.specs.Datagram.{with_checksums}

-- ---- The VLAN tag (IEEE 802.1Q, 9.6): its control information is the priority in the top 3 bits, and the identifier in the low 12.

-- a new tag behind the addresses
abbrev pub tagged : ℕ → List ℕ → List ℕ
tagged control frame = take 12 frame ++ (number_bytes 2 0x8100 ++ (number_bytes 2 control ++ drop 12 frame))

-- The control information made of what stands in the tag. A frame without one gets a tag, made of 0.
unfoldable pub with_control : (ℕ → ℕ) → List ℕ → List ℕ
with_control change frame =
    if is_tagged frame then with_field 14 (number_bytes 2 (change (number_at 2 14 frame))) frame
    else (if has_header frame then tagged (change 0) frame else frame)

abbrev pub with_identifier : ℕ → ℕ → ℕ
with_identifier vid control = control / 4096 * 4096 + vid % 4096

abbrev pub with_priority : ℕ → ℕ → ℕ
with_priority pcp control = pcp % 8 * 8192 + control % 8192

unfoldable pub without_tag : List ℕ → List ℕ
without_tag frame = if is_tagged frame then take 12 frame ++ drop 16 frame else frame

-- ---- The Ethernet addresses: the destination at byte 0, the source at byte 6.

unfoldable pub with_address : ℕ → List ℕ → List ℕ → List ℕ
with_address at address frame = if has_header frame then with_field at address frame else frame

-- ---- IPv4 (RFC 791, 3.1), TCP and UDP (RFC 793, 3.1; RFC 768).

-- A number of so many bytes at a place. One that stands there already leaves every checksum as it is.
unfoldable pub rewritten : Ipv4Header → ℕ → ℕ → ℕ → List ℕ → List ℕ
rewritten header size at value frame =
    if number_at size at frame == value then frame else with_checksums header (with_field at (number_bytes size value) frame)

abbrev pub in_header : Option Ipv4Header → (Ipv4Header → List ℕ) → List ℕ → List ℕ
in_header None edit frame = frame
in_header (Some header) edit frame = edit header

abbrev pub in_ipv4 : (Ipv4Header → List ℕ) → List ℕ → List ℕ
in_ipv4 edit frame = in_header (ipv4_header frame) edit frame

unfoldable pub with_network_address : ℕ → ℕ → List ℕ → List ℕ
with_network_address offset address frame = in_ipv4 (λ header. rewritten header 4 (header.start + offset) address frame) frame

-- The low two bits of the type of service stay.
unfoldable pub with_service : ℕ → List ℕ → List ℕ
with_service tos frame =
    in_ipv4 (λ header. rewritten header 1 (header.start + 1) (tos / 4 * 4 + number_at 1 (header.start + 1) frame % 4) frame) frame

unfoldable pub with_port : ℕ → ℕ → List ℕ → List ℕ
with_port offset port frame =
    in_ipv4 (λ header. if has_ports header frame then rewritten header 2 (header.end + offset) port frame else frame) frame

-- ---- Actions.

abbrev pub edited : Action → List ℕ → List ℕ
edited (Output port max_len) frame = frame
edited (SetVlanVid vid) frame = with_control (with_identifier vid) frame
edited (SetVlanPcp pcp) frame = with_control (with_priority pcp) frame
edited StripVlan frame = without_tag frame
edited (SetDlSrc address) frame = with_address 6 address frame
edited (SetDlDst address) frame = with_address 0 address frame
edited (SetNwSrc address) frame = with_network_address 12 address frame
edited (SetNwDst address) frame = with_network_address 16 address frame
edited (SetNwTos tos) frame = with_service tos frame
edited (SetTpSrc port) frame = with_port 0 port frame
edited (SetTpDst port) frame = with_port 2 port frame
edited (Enqueue port queue) frame = frame
edited (Vendor body) frame = frame

-- ---- Outputs.

abbrev pub output_of : Action → List ℕ → List (ℕ × List ℕ)
output_of (Output port max_len) frame = (port, frame) ∷ []
output_of edit frame = []

-- Each OUTPUT in order: its port, and the frame as edited so far.
unfoldable pub outputs : List Action → List ℕ → List (ℕ × List ℕ)
outputs [] frame = []
outputs (action ∷ actions) frame = output_of action frame ++ outputs actions (edited action frame)

-- ENQUEUE and VENDOR are no edits.
abbrev pub IsEdit : Action → Type 0
IsEdit (Enqueue port queue) = ⊥
IsEdit (Vendor body) = ⊥
IsEdit other = Unit {0}

abbrev pub AreEdits : List Action → Type 0
AreEdits actions = AllByRecursion IsEdit actions
