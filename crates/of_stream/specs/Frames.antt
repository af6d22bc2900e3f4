-- A stream of messages: frames one after the other, each of which says its own length in its header's third and fourth
-- byte (OpenFlow 1.0.0, 5.1 OpenFlow Header). Nothing here looks at the version or the type.
use Rattle.std.specs.Prelude.{◌≡◌, ℕ, ◌<◌, ◌≤◌, ◌⊎◌, List, ◌++◌, length, All}
use Rattle.std.specs.List.{concat}
use Rattle.of_types.specs.Fields.{number_at}

-- the length that the header says, with the header
abbrev pub said_length : List ℕ → ℕ
said_length bytes = number_at 2 2 bytes

-- a header at least, and as many bytes as it says
pub record IsFrame (frame : List ℕ) : Type 0 where
  pub header : 8 ≤ length frame
  pub whole : said_length frame ≡ length frame

-- The next frame is yet to come: its length has not come, or it is one that a frame can have, and fewer bytes have come.
abbrev pub IsPartial : List ℕ → Type 0
IsPartial bytes = 4 ≤ length bytes → (8 ≤ said_length bytes) × (length bytes < said_length bytes)

-- a length comes next that is below that of a header, and that no frame has
pub record IsBroken (bytes : List ℕ) : Type 0 where
  pub said : 4 ≤ length bytes
  pub short : said_length bytes < 8

-- a stream of which these frames were handed out and these bytes are held
abbrev pub stream_of : List (List ℕ) → List ℕ → List ℕ
stream_of frames held = concat frames ++ held

-- the stream is these frames, and then no further one
pub record Cuts (stream : List ℕ) (frames : List (List ℕ)) (rest : List ℕ) : Type 0 where
  pub whole : stream ≡ stream_of frames rest
  pub each : All IsFrame frames
  pub over : IsPartial rest ⊎ IsBroken rest
