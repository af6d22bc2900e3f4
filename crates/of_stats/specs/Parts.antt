-- Replies in parts. A part is the reply's type, flags of which bit 0 says that more parts follow, and a body
-- (OpenFlow 1.0.0, 5.3.5 Read State Messages: OFPSF_REPLY_MORE).
use Rattle.std.specs.Prelude.{◌≡◌, ℕ, ◌+◌, ◌%◌, ◌<◌, ◌≤◌, ◌↔◌, max, List, [], ◌∷◌, length, take, drop, slice_index_or}
use Rattle.std.specs.List.{concat, flat_map}

abbrev pub Part : Type 0
Part = ℕ × ℕ × List ℕ

-- ---- splitting

-- the bytes of rows that a part can have: 65,535 of a message without the 12 in front of its body
abbrev pub room : ℕ
room = 65523

-- So many rows from the front fit a part, and the row behind them would not.
pub record IsFull (count : ℕ) (rows : List (List ℕ)) : Type 0 where
  pub more : count < length rows
  pub fit : length (concat (take count rows)) ≤ room
  pub full : room < length (concat (take count rows)) + length (slice_index_or rows count [])

-- The rows in their order, in each part as many as fit; more follow all parts but the last.
abbrev pub AreParts : ℕ → List (List ℕ) → List Part → Type 0
AreParts kind rows [] = ⊥
AreParts kind rows (part ∷ []) = (part ≡ (kind, 0, concat rows)) × (length (concat rows) ≤ room)
AreParts kind rows (part ∷ next ∷ parts) =
    (count : ℕ) × IsFull count rows × (part ≡ (kind, 1, concat (take count rows))) × AreParts kind (drop count rows) (next ∷ parts)

-- ---- joining

abbrev pub part_at : ℕ → List Part → Part
part_at place parts = slice_index_or parts place (0, 0, [])

-- The part has the first one's type, and says that more follow where they do.
pub record IsInPlace (place : ℕ) (parts : List Part) : Type 0 where
  pub there : place < length parts
  pub kind : (part_at place parts).0 ≡ (part_at 0 parts).0
  pub more : ((part_at place parts).1 % 2 ≡ 1) ↔ (place + 1 < length parts)

-- a reply from its first part to its last
pub record IsWhole (parts : List Part) : Type 0 where
  pub some : 0 < length parts
  pub each : (place : ℕ) → place < length parts → IsInPlace place parts

-- the first part that is not in its place, or place 0 where there is no part
pub record IsFirstBad (place : ℕ) (parts : List Part) : Type 0 where
  pub within : place < max 1 (length parts)
  pub before : (earlier : ℕ) → earlier < place → IsInPlace earlier parts
  pub here : IsInPlace place parts → ⊥

-- the bodies, one after the other
abbrev pub joined : List Part → List ℕ
joined parts = flat_map (λ part. part.2) parts
