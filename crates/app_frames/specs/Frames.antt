-- The frames of both directions: which there are, and what is read at the front of the bytes that have come (our own choice).
use Rattle.std.specs.Prelude.{◌≡◌, ℕ, ◌+◌, ◌^◌, ◌<◌, ◌≤◌, List, length, take, Some, None}
use Rattle.of_types.specs.Layout.{width}
use Rattle.app_frames.specs.declared.frame.AppFrame.{AppFrame}
use Rattle.app_frames.specs.declared.frame.AppFrame.TheVariants.{Message, Done}
use Rattle.app_frames.specs.declared.frame.HostFrame.{HostFrame}
use Rattle.app_frames.specs.declared.frame.HostFrame.TheVariants.{Restore, Event, Answer}
use Rattle.app_frames.specs.declared.frame.Answer.{Answer as AnswerValue}
use Rattle.app_frames.specs.declared.frame.Answer.TheVariants.{Error, Statistics}
use Rattle.app_frames.specs.Kinds.{app_kind_of, host_kind_of}
use Rattle.app_frames.specs.Reading.{Reading, frame_of, IsPartial}
use Rattle.app_frames.specs.Bodies.{app_body, host_body}
use Rattle.app_frames.specs.Spelling.{app_bytes, host_fields, host_tail, host_bytes}

-- ---- from an application

-- the greatest length of kind and body: that of a Done with a checkpoint of 1,048,576 bytes
abbrev pub longest : ℕ
longest = 1048579

unfoldable pub app_reading : List ℕ → Reading (AppFrame × ℕ)
app_reading bytes = frame_of (Some longest) app_kind_of app_body bytes

abbrev pub IsAppPartial : List ℕ → Type 0
IsAppPartial bytes = IsPartial (Some longest) app_kind_of bytes

-- as many bytes as the table lets a message and a checkpoint have
abbrev pub AppFits : AppFrame → Type 0
AppFits (Message dpid bytes) = (8 ≤ length bytes) × (length bytes ≤ 65535)
AppFits (Done stop (Some checkpoint)) = length checkpoint ≤ 1048576
AppFits other = Unit {0}

-- each number fits its field
abbrev pub AppNumbers : AppFrame → Type 0
AppNumbers (Message dpid bytes) = dpid < 2 ^ 64
AppNumbers other = Unit {0}

abbrev pub IsAppFrame : AppFrame → Type 0
IsAppFrame frame = AppNumbers frame × AppFits frame

-- a frame, and how many bytes of those that have come spell it
pub record IsAppAtFront (frame : AppFrame) (size : ℕ) (bytes : List ℕ) : Type 0 where
  pub well_formed : IsAppFrame frame
  pub spelled_is : app_bytes frame ≡ take size bytes
  pub size_is : length (app_bytes frame) ≡ size

-- ---- from the host

unfoldable pub host_reading : List ℕ → Reading (HostFrame × ℕ)
host_reading bytes = frame_of None host_kind_of host_body bytes

abbrev pub IsHostPartial : List ℕ → Type 0
IsHostPartial bytes = IsPartial None host_kind_of bytes

-- the length can be said in four bytes
abbrev pub HostFits : HostFrame → Type 0
HostFits frame = 1 + (width (host_fields frame) + length (host_tail frame)) < 2 ^ 32

abbrev pub AnswerNumbers : AnswerValue → Type 0
AnswerNumbers (Error error) = (error.kind < 2 ^ 16) × (error.code < 2 ^ 16)
AnswerNumbers (Statistics kind body) = kind < 2 ^ 16
AnswerNumbers other = Unit {0}

-- each number fits its field
abbrev pub HostNumbers : HostFrame → Type 0
HostNumbers (Restore checkpoint) = Unit {0}
HostNumbers (Event count moment event) = (count < 2 ^ 64) × (moment < 2 ^ 64) × (event.dpid < 2 ^ 64)
HostNumbers (Answer answer) = AnswerNumbers answer

abbrev pub IsHostFrame : HostFrame → Type 0
IsHostFrame frame = HostNumbers frame × HostFits frame

-- a frame, and how many bytes of those that have come spell it
pub record IsHostAtFront (frame : HostFrame) (size : ℕ) (bytes : List ℕ) : Type 0 where
  pub well_formed : IsHostFrame frame
  pub spelled_is : host_bytes frame ≡ take size bytes
  pub size_is : length (host_bytes frame) ≡ size
