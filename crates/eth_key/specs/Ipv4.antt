-- Where an IPv4 header and what is behind it stand in a frame (RFC 791, 3.1 Internet Header Format).
use Rattle.std.specs.Prelude.{◌==◌, ℕ, ◌+◌, ◌*◌, ◌/◌, ◌%◌, ◌≤◌, Bool, not, ◌&&◌, ◌||◌, List, length, Option, Some, None, nat_le, if◌then◌else◌}
use Rattle.of_types.specs.Fields.{number_at}
use Rattle.eth_key.specs.declared.ethernet.Payload.{Payload}
use Rattle.eth_key.specs.declared.ipv4.Ipv4Header.{Ipv4Header}
use Rattle.eth_key.specs.Ethernet.{payload_of}

-- the header's length in bytes: the low 4 bits of its first byte count 4 bytes each
abbrev pub header_len : ℕ → List ℕ → ℕ
header_len start frame = 4 * (number_at 1 start frame % 16)

-- A header has 20 bytes and options, and the version 4 in the top 4 bits of its first byte.
unfoldable pub is_header : ℕ → List ℕ → Bool
is_header start frame =
    nat_le (start + 20) (length frame) && number_at 1 start frame / 16 == 4 && nat_le 20 (header_len start frame)
    && nat_le (start + header_len start frame) (length frame)

unfoldable pub header_at : ℕ → List ℕ → Option Ipv4Header
header_at start frame =
    if is_header start frame then Some (record { start = start; end = start + header_len start frame }) else None

-- the header that a payload of the type 0x0800 begins with
abbrev pub header_in : Option Payload → List ℕ → Option Ipv4Header
header_in None frame = None
header_in (Some payload) frame = if payload.dl_type == 0x0800 then header_at payload.start frame else None

abbrev pub ipv4_header : List ℕ → Option Ipv4Header
ipv4_header frame = header_in (payload_of frame) frame

-- a header of 20 to 60 bytes that lies within the frame
pub record IsWithin (header : Ipv4Header) (frame : List ℕ) : Type 0 where
  pub at_least : header.start + 20 ≤ header.end
  pub at_most : header.end ≤ header.start + 60
  pub whole : header.end ≤ length frame

abbrev pub protocol : Ipv4Header → List ℕ → ℕ
protocol header frame = number_at 1 (header.start + 9) frame

-- Of the 16 bits of flags and offset, the low 13 are the offset, and the bit above them says that more fragments follow.
unfoldable pub is_fragment : Ipv4Header → List ℕ → Bool
is_fragment header frame = not (number_at 2 (header.start + 6) frame % 0x4000 == 0)

-- TCP and UDP begin with both ports (RFC 793, 3.1 Header Format; RFC 768, Format). A fragment's are not looked at.
unfoldable pub has_ports : Ipv4Header → List ℕ → Bool
has_ports header frame =
    not (is_fragment header frame) && (protocol header frame == 6 || protocol header frame == 17)
    && nat_le (header.end + 4) (length frame)

-- ICMP begins with a type and a code (RFC 792, Message Formats).
unfoldable pub has_icmp : Ipv4Header → List ℕ → Bool
has_icmp header frame =
    not (is_fragment header frame) && protocol header frame == 1 && nat_le (header.end + 2) (length frame)
