-- The keys of a table in groups of equal wildcards. All of this is our own choice.
use Rattle.std.specs.Prelude.{◌≡◌, ℕ, ◌+◌, ◌-◌, ◌*◌, ◌<◌, ◌≤◌, List, [], ◌∷◌, length, map, slice_index_or, if◌then◌else◌}
use Rattle.std.specs.Option.{option_map}
use Rattle.of_types.specs.Membership.{is_among}
use Rattle.of_match.specs.declared.flow_match.Match.{Match}
use Rattle.of_match.specs.declared.key.Key.{Key}
use Rattle.of_match.specs.Fields.{word_in}
use Rattle.of_match.specs.Key.{number}
use Rattle.flow_table.specs.declared.entry.Entry.{Entry}
use Rattle.flow_table.specs.Table.{IsTable, entry_at}
use Rattle.flow_table.specs.Sorted.{Ascends, at_place}

-- the wildcards of a match, the first four of its bytes (OpenFlow 1.0.0, 5.2.3 Flow Match Structures); entries with equal ones are a group
abbrev pub wildcards : Match → ℕ
wildcards m = word_in m.bytes 0

-- how many different numbers stand in a list
abbrev pub different : List ℕ → ℕ
different [] = 0
different (n ∷ ns) = if is_among n ns then different ns else different ns + 1

-- how many groups the entries make
unfoldable pub group_count : List Entry → ℕ
group_count es = different (map (λ e. wildcards e.key.matching) es)

-- Where a key stands in the order of groups: by the bytes of the match, hence by wildcards first, then by priority descending.
unfoldable pub spot : Key → ℕ
spot k = number k.matching.bytes * 65536 + (65535 - k.priority)

-- the keys of the entries in that order, and no others
pub record IsIndex (ks : List Key) (es : List Entry) : Type 0 where
  pub in_order : Ascends spot 0 ks
  pub each : (k : Key) → at_place spot (spot k) ks ≡ option_map (λ e. e.key) (entry_at k es)

-- the keys from one place to another have the wildcards of the first
abbrev pub IsGroup : ℕ → ℕ → List Key → Type 0
IsGroup from end ks =
    (i : ℕ) (k : Key) → from ≤ i → i < end → wildcards (slice_index_or ks i k).matching ≡ wildcards (slice_index_or ks from k).matching

-- the keys before the place stand below a spot, and no others do
pub record IsFirstFrom (n : ℕ) (ks : List Key) (at : ℕ) : Type 0 where
  pub below : (i : ℕ) (k : Key) → i < at → i < length ks → spot (slice_index_or ks i k) < n
  pub above : (i : ℕ) (k : Key) → at ≤ i → i < length ks → n ≤ spot (slice_index_or ks i k)

-- a table and its index
pub record IsIndexed (ks : List Key) (es : List Entry) : Type 0 where
  pub in_order : IsTable es
  pub index : IsIndex ks es
