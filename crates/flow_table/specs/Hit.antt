-- Which entry a packet hits, and what it counts (OpenFlow 1.0.0, 3.4 Matching). Among entries of equal rank the least key is
-- taken, and counters are modulo 2^64; both are our own choice.
use Rattle.std.specs.Prelude.{◌==◌, ℕ, ◌+◌, ◌%◌, ◌^◌, nat_lt, List, [], ◌∷◌, map, Option, Some, None, if◌then◌else◌}
use Rattle.of_match.specs.Fields.{is_exact}
use Rattle.of_match.specs.Match.{fields_in}
use Rattle.of_match.specs.Covers.{is_covering}
use Rattle.of_match.specs.declared.packet_key.PacketKey.{PacketKey}
use Rattle.flow_table.specs.declared.entry.Entry.{Entry}
use Rattle.flow_table.specs.Table.{with_entry}

-- An entry whose match has no wildcard ranks above each that has one; otherwise the priority decides.
unfoldable pub rank : Entry → ℕ
rank e = if is_exact (fields_in e.key.matching) then 65536 + e.key.priority else e.key.priority

-- of an entry and one behind it the one of greater rank, and the first where they are equal
abbrev pub better : Entry → Option Entry → Option Entry
better e None = Some e
better e (Some f) = if nat_lt (rank e) (rank f) then Some f else Some e

-- of the entries that cover a packet the one of greatest rank, and among equals the least key
unfoldable pub best : PacketKey → List Entry → Option Entry
best k [] = None
best k (e ∷ es) = if is_covering e.key.matching k then better e (best k es) else best k es

-- an entry that one more packet hit
abbrev pub counted : ℕ → ℕ → Entry → Entry
counted len now e = record e { packets = (e.packets + 1) % 2 ^ 64; bytes = (e.bytes + len) % 2 ^ 64; used = now }

abbrev pub hit_by : Option Entry → ℕ → ℕ → List Entry → List Entry
hit_by None len now es = es
hit_by (Some e) len now es = with_entry (counted len now e) es

-- the entries after a packet of so many bytes
unfoldable pub hit : PacketKey → ℕ → ℕ → List Entry → List Entry
hit k len now es = hit_by (best k es) len now es

-- an entry of the priority with so many packets and bytes more, used as before; another one as it is
abbrev pub with_more : ℕ → ℕ → ℕ → Entry → Entry
with_more priority packets bytes e =
    if e.key.priority == priority then record e { packets = (e.packets + packets) % 2 ^ 64; bytes = (e.bytes + bytes) % 2 ^ 64 } else e

-- the entries, those of a priority with so many packets and bytes more
unfoldable pub with_counts : ℕ → ℕ → ℕ → List Entry → List Entry
with_counts priority packets bytes es = map (with_more priority packets bytes) es
