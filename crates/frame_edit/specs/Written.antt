-- Which bytes an edit may write. All others stay, and so does the length.
use Rattle.std.specs.Prelude.{◌≡◌, ◌==◌, ℕ, ◌+◌, ◌<◌, ◌≤◌, ◌⊎◌, List, [], ◌∷◌, length, slice_index, if◌then◌else◌}
use Rattle.of_action.specs.declared.action.Action.{Action}
use Rattle.of_action.specs.declared.action.Action.TheVariants.{SetNwSrc, SetNwDst, SetNwTos, SetTpSrc, SetTpDst}
use Rattle.eth_key.specs.declared.ipv4.Ipv4Header.{Ipv4Header}
use Rattle.eth_key.specs.Ipv4.{protocol}
use Rattle.frame_edit.specs.Datagram.{header_checksum_place, tcp_checksum_place, udp_checksum_place, Verifies}

-- no byte of these fields, each a place and a length
abbrev pub IsOutside : List (ℕ × ℕ) → ℕ → Type 0
IsOutside [] i = Unit {0}
IsOutside (field ∷ fields) i = ((i < field.0) ⊎ (field.0 + field.1 ≤ i)) × IsOutside fields i

pub record Keeps (fields : List (ℕ × ℕ)) (old new : List ℕ) : Type 0 where
  pub len : length new ≡ length old
  pub bytes : (i : ℕ) → IsOutside fields i → slice_index new i ≡ slice_index old i

abbrev pub segment_checksum_fields : Ipv4Header → List ℕ → List (ℕ × ℕ)
segment_checksum_fields header frame =
    if protocol header frame == 6 then (tcp_checksum_place header, 2) ∷ []
    else (if protocol header frame == 17 then (udp_checksum_place header, 2) ∷ [] else [])

-- the header's checksum, and that of TCP or UDP
abbrev pub checksum_fields : Ipv4Header → List ℕ → List (ℕ × ℕ)
checksum_fields header frame = (header_checksum_place header, 2) ∷ segment_checksum_fields header frame

-- the actions that edit a datagram
abbrev pub IsDatagramEdit : Action → Type 0
IsDatagramEdit (SetNwSrc address) = Unit {0}
IsDatagramEdit (SetNwDst address) = Unit {0}
IsDatagramEdit (SetNwTos tos) = Unit {0}
IsDatagramEdit (SetTpSrc port) = Unit {0}
IsDatagramEdit (SetTpDst port) = Unit {0}
IsDatagramEdit other = ⊥

-- the field that each of them writes
abbrev pub field_of : Action → Ipv4Header → ℕ × ℕ
field_of (SetNwSrc address) header = (header.start + 12, 4)
field_of (SetNwDst address) header = (header.start + 16, 4)
field_of (SetNwTos tos) header = (header.start + 1, 1)
field_of (SetTpSrc port) header = (header.end, 2)
field_of (SetTpDst port) header = (header.end + 2, 2)
field_of other header = (0, 0)

-- What an edit of a datagram leaves: all but the field and the checksums, and checksums that verify where it changed anything.
pub record Renews (header : Ipv4Header) (field : ℕ × ℕ) (old new : List ℕ) : Type 0 where
  pub keeps : Keeps (field ∷ checksum_fields header old) old new
  pub verifies : (new ≡ old) ⊎ Verifies header new
