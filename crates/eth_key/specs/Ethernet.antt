-- Where the parts of an Ethernet frame stand: both addresses, at most one VLAN tag, the type, and what is behind it.
-- IEEE 802.3, 3 Media access control frame structure; IEEE 802.1Q, 9 Tag formats; RFC 1042 for LLC and SNAP.
use Rattle.std.specs.Prelude.{◌==◌, ℕ, ◌+◌, ◌/◌, ◌%◌, Bool, ◌&&◌, List, length, Option, Some, None, nat_le, if◌then◌else◌}
use Rattle.of_types.specs.Fields.{number_at}
use Rattle.eth_key.specs.declared.ethernet.Payload.{Payload}

-- Two addresses of six bytes, and two bytes of type or length (IEEE 802.3, 3.1.1).
abbrev pub has_header : List ℕ → Bool
has_header frame = nat_le 14 (length frame)

-- A VLAN tag: the type 0x8100, two bytes of control information, and the type of what is behind (IEEE 802.1Q, 9.4 to 9.6).
unfoldable pub is_tagged : List ℕ → Bool
is_tagged frame = nat_le 18 (length frame) && number_at 2 12 frame == 0x8100

-- The control information: the priority in the top 3 bits, and the identifier in the low 12 (IEEE 802.1Q, 9.6).
unfoldable pub vlan_of : List ℕ → ℕ
vlan_of frame = if is_tagged frame then number_at 2 14 frame % 4096 else 0xffff

unfoldable pub priority_of : List ℕ → ℕ
priority_of frame = if is_tagged frame then number_at 2 14 frame / 8192 else 0

abbrev pub type_place : List ℕ → ℕ
type_place frame = if is_tagged frame then 16 else 12

-- Eight bytes of LLC and SNAP, with no organization's number: both access points 0xaa, control 3, and then the type (RFC 1042).
unfoldable pub is_snap : ℕ → List ℕ → Bool
is_snap at frame = nat_le (at + 8) (length frame) && number_at 2 at frame == 0xaaaa && number_at 4 (at + 2) frame == 0x0300_0000

-- What is behind a type. One below 0x0600 is a length (IEEE 802.3, 3.2.6): the type stands in SNAP, or is 0x05ff,
-- which says that there is none (OpenFlow 1.0.0, 3.4 Matching).
unfoldable pub payload_behind : ℕ → List ℕ → Payload
payload_behind at frame =
    if nat_le 0x0600 (number_at 2 at frame) then record { dl_type = number_at 2 at frame; start = at + 2 }
    else (if is_snap (at + 2) frame then record { dl_type = number_at 2 (at + 8) frame; start = at + 10 }
    else record { dl_type = 0x05ff; start = at + 2 })

abbrev pub payload_of : List ℕ → Option Payload
payload_of frame = if has_header frame then Some (payload_behind (type_place frame) frame) else None
