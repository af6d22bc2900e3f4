-- Layouts: fields one after the other, as the tables of OpenFlow 1.0.0, 5 give them.
use Rattle.std.specs.Prelude.{◌≡◌, ℕ, ◌+◌, ◌≤◌, ◌<◌, ◌^◌, ◌⊎◌, List, [], ◌∷◌, ◌++◌, length, drop, replicate}
use Rattle.of_types.specs.Fields.{number_at, number_bytes, piece}

pub data Field : Type 0 where
  -- a number in so many bytes
  number : ℕ → ℕ → Field
  -- so many bytes, as they are
  raw : ℕ → List ℕ → Field
  -- so many bytes that say nothing
  pad : ℕ → Field

-- What is written: pads are 0.
abbrev pub spelled : List Field → List ℕ
spelled [] = []
spelled (number n x ∷ fields) = number_bytes n x ++ spelled fields
spelled (raw n bytes ∷ fields) = bytes ++ spelled fields
spelled (pad n ∷ fields) = replicate n 0 ++ spelled fields

-- how many bytes that are
abbrev pub width : List Field → ℕ
width [] = 0
width (number n x ∷ fields) = n + width fields
width (raw n bytes ∷ fields) = n + width fields
width (pad n ∷ fields) = n + width fields

-- each number fits its bytes, and all other bytes are as many as the table says
abbrev pub AreFields : List Field → Type 0
AreFields [] = Unit {0}
AreFields (number n x ∷ fields) = (x < 256 ^ n) × AreFields fields
AreFields (raw n bytes ∷ fields) = (length bytes ≡ n) × AreFields fields
AreFields (pad n ∷ fields) = AreFields fields

-- What is read: from offset at on the bytes hold the fields, whatever stands in pads, and then the rest.
abbrev pub IsLaidOut : ℕ → List Field → List ℕ → List ℕ → Type 0
IsLaidOut at [] rest bytes = drop at bytes ≡ rest
IsLaidOut at (number n x ∷ fields) rest bytes = (number_at n at bytes ≡ x) × IsLaidOut (at + n) fields rest bytes
IsLaidOut at (raw n xs ∷ fields) rest bytes = (piece n at bytes ≡ xs) × IsLaidOut (at + n) fields rest bytes
IsLaidOut at (pad n ∷ fields) rest bytes = IsLaidOut (at + n) fields rest bytes

-- each byte says something
abbrev pub HasNoPads : List Field → Type 0
HasNoPads [] = Unit {0}
HasNoPads (number n x ∷ fields) = HasNoPads fields
HasNoPads (raw n bytes ∷ fields) = HasNoPads fields
HasNoPads (pad n ∷ fields) = ⊥

-- the offset i lies in a pad
abbrev pub InPad : ℕ → List Field → ℕ → Type 0
InPad at [] i = ⊥
InPad at (number n x ∷ fields) i = InPad (at + n) fields i
InPad at (raw n bytes ∷ fields) i = InPad (at + n) fields i
InPad at (pad n ∷ fields) i = ((at ≤ i) × (i < at + n)) ⊎ InPad (at + n) fields i
