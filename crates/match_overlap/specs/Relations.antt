-- How matches stand to one another: what they say about the packet keys that they cover.
-- OpenFlow 1.0.0, 4.6 Flow Table Modification Messages (overlap, and matching with wildcards).
use Rattle.std.specs.Prelude.{◌↔◌, Bool, Option, Some, None, if◌then◌else◌}
use Rattle.of_match.specs.declared.flow_match.Match.{Match}
use Rattle.of_match.specs.declared.packet_key.PacketKey.{PacketKey}
use Rattle.of_match.specs.Fields.{bytes_of}
use Rattle.of_match.specs.Match.{match_of, fields_in}
use Rattle.of_match.specs.PacketKey.{IsPacketKey}
use Rattle.of_match.specs.Covers.{Covers}
use Rattle.match_overlap.specs.Fieldwise.{fields_subsume, fields_overlap, fields_meet}

-- each packet key that b covers a covers
abbrev pub Subsumes : Match → Match → Type 0
Subsumes a b = (k : PacketKey) → IsPacketKey k → Covers b k → Covers a k

-- some packet key is covered by both
abbrev pub Overlaps : Match → Match → Type 0
Overlaps a b = (k : PacketKey) × (IsPacketKey k × Covers a k × Covers b k)

-- m covers the packet keys that both cover, and no others
abbrev pub IsMeet : Match → Match → Match → Type 0
IsMeet a b m = (k : PacketKey) → IsPacketKey k → (Covers m k ↔ (Covers a k × Covers b k))

-- ---- The same as tests of fields, for filters and searches.

unfoldable pub is_subsuming : Match → Match → Bool
is_subsuming a b = fields_subsume (fields_in a) (fields_in b)

unfoldable pub is_overlapping : Match → Match → Bool
is_overlapping a b = fields_overlap (fields_in a) (fields_in b)

unfoldable pub meet_of : Match → Match → Option Match
meet_of a b = if is_overlapping a b then Some (match_of (bytes_of (fields_meet (fields_in a) (fields_in b)))) else None
