-- The checksums of a datagram computed anew. Which are, and when, is this project's own choice.
use Rattle.std.specs.Prelude.{◌≡◌, ◌≢◌, ◌==◌, ℕ, ◌+◌, ◌-◌, Bool, IsTrue, not, ◌&&◌, List, [], ◌∷◌, ◌++◌, length, nat_le, if◌then◌else◌}
use Rattle.of_types.specs.Fields.{number_at, number_bytes, piece, with_field}
use Rattle.eth_key.specs.declared.ipv4.Ipv4Header.{Ipv4Header}
use Rattle.eth_key.specs.Ipv4.{protocol, is_fragment}
use Rattle.frame_edit.specs.Checksum.{word_sum, checksum}

-- The 16 bits at a place counted as zero, as they are while a checksum is computed (RFC 791, 3.1; RFC 793, 3.1).
abbrev pub cleared : ℕ → List ℕ → List ℕ
cleared at frame = with_field at (number_bytes 2 0) frame

-- ---- IPv4 (RFC 791, 3.1): over the header, at its place 10.

abbrev pub header_bytes : Ipv4Header → List ℕ → List ℕ
header_bytes header frame = piece (header.end - header.start) header.start frame

abbrev pub header_checksum_place : Ipv4Header → ℕ
header_checksum_place header = header.start + 10

unfoldable pub header_checksum : Ipv4Header → List ℕ → ℕ
header_checksum header frame = checksum (word_sum (header_bytes header (cleared (header_checksum_place header) frame)))

unfoldable pub with_header_checksum : Ipv4Header → List ℕ → List ℕ
with_header_checksum header frame =
    with_field (header_checksum_place header) (number_bytes 2 (header_checksum header frame)) frame

-- ---- TCP and UDP (RFC 793, 3.1; RFC 768): over a pseudo header and what is behind the IPv4 header.

-- where the datagram ends, by its total length
abbrev pub datagram_end : Ipv4Header → List ℕ → ℕ
datagram_end header frame = header.start + number_at 2 (header.start + 2) frame

abbrev pub segment : Ipv4Header → List ℕ → List ℕ
segment header frame = piece (datagram_end header frame - header.end) header.end frame

-- both addresses, a zero byte, the protocol, and the length of the segment
unfoldable pub pseudo_header : Ipv4Header → List ℕ → List ℕ
pseudo_header header frame =
    number_bytes 4 (number_at 4 (header.start + 12) frame) ++ number_bytes 4 (number_at 4 (header.start + 16) frame)
    ++ (0 ∷ protocol header frame ∷ []) ++ number_bytes 2 (datagram_end header frame - header.end)

-- what the checksum is over
abbrev pub covered : Ipv4Header → List ℕ → List ℕ
covered header frame = pseudo_header header frame ++ segment header frame

unfoldable pub segment_checksum : Ipv4Header → ℕ → List ℕ → ℕ
segment_checksum header at frame = checksum (word_sum (covered header (cleared at frame)))

-- A datagram that is all in the frame, no fragment, and long enough for the field of two bytes.
unfoldable pub has_field : Ipv4Header → ℕ → List ℕ → Bool
has_field header at frame =
    nat_le (datagram_end header frame) (length frame) && not (is_fragment header frame) && nat_le (at + 2) (datagram_end header frame)

abbrev pub tcp_checksum_place : Ipv4Header → ℕ
tcp_checksum_place header = header.end + 16

abbrev pub udp_checksum_place : Ipv4Header → ℕ
udp_checksum_place header = header.end + 6

unfoldable pub with_tcp_checksum : Ipv4Header → List ℕ → List ℕ
with_tcp_checksum header frame =
    let at = tcp_checksum_place header in
    if has_field header at frame then with_field at (number_bytes 2 (segment_checksum header at frame)) frame else frame

-- UDP's 0 says that there is no checksum, and stays. One that is 0 is written as its other form (RFC 768).
abbrev pub nonzero : ℕ → ℕ
nonzero value = if value == 0 then 0xffff else value

unfoldable pub with_udp_checksum : Ipv4Header → List ℕ → List ℕ
with_udp_checksum header frame =
    let at = udp_checksum_place header in
    if has_field header at frame && not (number_at 2 at frame == 0)
    then with_field at (number_bytes 2 (nonzero (segment_checksum header at frame))) frame
    else frame

unfoldable pub with_segment_checksum : Ipv4Header → List ℕ → List ℕ
with_segment_checksum header frame =
    if protocol header frame == 6 then with_tcp_checksum header frame
    else (if protocol header frame == 17 then with_udp_checksum header frame else frame)

-- The header's first, and then the segment's.
abbrev pub with_checksums : Ipv4Header → List ℕ → List ℕ
with_checksums header frame = with_segment_checksum header (with_header_checksum header frame)

-- ---- What a receiver verifies: over bytes that have their checksum among them, the checksum is 0 (RFC 1071, 1).

pub record Verifies (header : Ipv4Header) (frame : List ℕ) : Type 0 where
  pub ipv4 : checksum (word_sum (header_bytes header frame)) ≡ 0
  pub tcp : protocol header frame ≡ 6 → IsTrue (has_field header (tcp_checksum_place header) frame) → checksum (word_sum (covered header frame)) ≡ 0
  pub udp : protocol header frame ≡ 17 → IsTrue (has_field header (udp_checksum_place header) frame) → number_at 2 (udp_checksum_place header) frame ≢ 0 → checksum (word_sum (covered header frame)) ≡ 0
