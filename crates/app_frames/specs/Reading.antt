-- Reading a frame at the front of the bytes that have come: its value and how many bytes it takes, or that it is yet to
-- come, or its first fault (our own choice).
--
--     length u32 (of kind and body) | kind u8 | body
use Rattle.std.specs.Prelude.{◌≡◌, ℕ, ◌+◌, ◌-◌, ◌<◌, ◌≤◌, ◌==◌, nat_lt, if◌then◌else◌, Bool, false, List, length, Option, Some, None, Result, Ok, Err, IsSome}
use Rattle.of_types.specs.Fields.{number_at, piece}
use Rattle.app_frames.specs.declared.fault.FrameFault.{FrameFault}
use Rattle.app_frames.specs.declared.fault.FrameFault.TheVariants.{TooLong, BadKind, BadBody}
use Rattle.app_frames.specs.declared.fault.AppFrameError.{AppFrameError}
use Rattle.app_frames.specs.declared.fault.AppFrameError.TheVariants.{Refused, NoMemory}

-- What the bytes that have come say: a value, or None where more have to come, or a fault.
abbrev pub Reading : Type 0 → Type 0
Reading X = Result (Option X) FrameFault

infixl 10 ◌>>=◌
abbrev pub ◌>>=◌ : {X Y : Type 0} → Reading X → (X → Reading Y) → Reading Y
(Ok (Some x)) >>= f = f x
(Ok None) >>= f = Ok None
(Err fault) >>= f = Err fault

-- a whole frame stands at the front
abbrev pub IsWhole : {X : Type 0} → Reading X → Type 0
IsWhole (Ok (Some x)) = Unit {0}
IsWhole (Ok None) = ⊥
IsWhole (Err fault) = ⊥

-- What a call gave is what reading gives. Memory may run out where the frame is whole, and nowhere else.
abbrev pub Fails : {X : Type 0} → AppFrameError → Reading X → Type 0
Fails (Refused fault) read = read ≡ Err fault
Fails NoMemory read = IsWhole read

abbrev pub Gives : {X : Type 0} → Result (Option X) AppFrameError → Reading X → Type 0
Gives (Ok found) read = read ≡ Ok found
Gives (Err error) read = Fails error read

-- ---- the front: length and kind

-- above the greatest length, where there is one
abbrev pub is_above : Option ℕ → ℕ → Bool
is_above None said = false
is_above (Some most) said = nat_lt most said

-- First the length: its four bytes, then whether it is too long, then whether there is a kind.
unfoldable pub length_of : Option ℕ → List ℕ → Reading ℕ
length_of most bytes =
    if nat_lt (length bytes) 4 then Ok None
    else (let said = number_at 4 0 bytes in
    if is_above most said then Err TooLong
    else (if said == 0 then Err BadKind else Ok (Some said)))

abbrev pub known : {K : Type 0} → Option K → Reading K
known None = Err BadKind
known (Some kind) = Ok (Some kind)

-- Then the kind: its byte, then whether there is such a kind.
unfoldable pub kind_at : {K : Type 0} → (ℕ → Option K) → List ℕ → Reading K
kind_at kind_of bytes = if nat_lt (length bytes) 5 then Ok None else known (kind_of (number_at 1 4 bytes))

-- Then all the other bytes.
unfoldable pub whole_at : ℕ → List ℕ → Reading ℕ
whole_at size bytes = if nat_lt (length bytes) size then Ok None else Ok (Some size)

-- the kind, and how many bytes the frame takes
unfoldable pub front_of : {K : Type 0} → Option ℕ → (ℕ → Option K) → List ℕ → Reading (K × ℕ)
front_of most kind_of bytes = do
  said ← length_of most bytes
  kind ← kind_at kind_of bytes
  size ← whole_at (4 + said) bytes
  Ok (Some (kind, size))

-- ---- the frame

abbrev pub by_table : {X : Type 0} → Option X → Reading X
by_table None = Err BadBody
by_table (Some x) = Ok (Some x)

-- Last the body, by its kind.
unfoldable pub frame_of : {K X : Type 0} → Option ℕ → (ℕ → Option K) → (K → List ℕ → Option X) → List ℕ → Reading (X × ℕ)
frame_of most kind_of body_of bytes = do
  front ← front_of most kind_of bytes
  frame ← by_table (body_of front.0 (piece (front.1 - 5) 5 bytes))
  Ok (Some (frame, front.1))

-- ---- what is yet to come

-- not above the greatest length, where there is one
abbrev pub IsWithin : Option ℕ → ℕ → Type 0
IsWithin None said = Unit {0}
IsWithin (Some most) said = said ≤ most

-- what has come of a frame of more bytes, with nothing to refuse in its length and kind
pub record IsBegun {K : Type 0} (most : Option ℕ) (kind_of : ℕ → Option K) (bytes : List ℕ) : Type 0 where
  pub some : 0 < number_at 4 0 bytes
  pub within : IsWithin most (number_at 4 0 bytes)
  pub kind : 5 ≤ length bytes → IsSome (kind_of (number_at 1 4 bytes))
  pub more : length bytes < 4 + number_at 4 0 bytes

-- The frame is yet to come: so is its length, or it has begun.
abbrev pub IsPartial : {K : Type 0} → Option ℕ → (ℕ → Option K) → List ℕ → Type 0
IsPartial most kind_of bytes = 4 ≤ length bytes → IsBegun most kind_of bytes
