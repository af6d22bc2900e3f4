-- The one spelling of each frame (our own choice). All numbers have their highest byte first.
use Rattle.std.specs.Prelude.{ℕ, ◌+◌, if◌then◌else◌, Bool, List, [], ◌∷◌, ◌++◌, length, Some, is_some}
use Rattle.of_types.specs.Fields.{number_bytes}
use Rattle.of_types.specs.Layout.{Field, number, spelled}
use Rattle.app_frames.specs.declared.kind.AppKind.{AppKind}
use Rattle.app_frames.specs.declared.kind.AppKind.TheVariants as app
use Rattle.app_frames.specs.declared.kind.HostKind.{HostKind}
use Rattle.app_frames.specs.declared.kind.HostKind.TheVariants as host
use Rattle.app_frames.specs.declared.frame.AppFrame.{AppFrame}
use Rattle.app_frames.specs.declared.frame.AppFrame.TheVariants.{Message, Save, Keep, Undo, Done, Ready}
use Rattle.app_frames.specs.declared.frame.HostFrame.{HostFrame}
use Rattle.app_frames.specs.declared.frame.HostFrame.TheVariants.{Restore, Event, Answer}
use Rattle.app_frames.specs.declared.frame.Answer.{Answer as AnswerValue}
use Rattle.app_frames.specs.declared.frame.Answer.TheVariants.{Fine, Error, Statistics, Unknown}
use Rattle.app_frames.specs.Kinds.{number_of_app, number_of_host, number_of_event}

-- the length of kind and body, the kind, the body
unfoldable pub framed : ℕ → List ℕ → List ℕ
framed kind body = number_bytes 4 (1 + length body) ++ (number_bytes 1 kind ++ body)

-- ---- from an application

abbrev pub app_kind : AppFrame → AppKind
app_kind (Message dpid bytes) = app.Message
app_kind Save = app.Save
app_kind Keep = app.Keep
app_kind Undo = app.Undo
app_kind (Done stop checkpoint) = app.Done
app_kind Ready = app.Ready

abbrev pub bit : Bool → ℕ
bit b = if b then 1 else 0

-- the numbers at the front of the body
abbrev pub app_fields : AppFrame → List Field
app_fields (Message dpid bytes) = number 8 dpid ∷ []
app_fields (Done stop checkpoint) = number 1 (bit stop) ∷ number 1 (bit (is_some checkpoint)) ∷ []
app_fields other = []

-- the bytes behind them
abbrev pub app_tail : AppFrame → List ℕ
app_tail (Message dpid bytes) = bytes
app_tail (Done stop (Some checkpoint)) = checkpoint
app_tail other = []

unfoldable pub app_body_bytes : AppFrame → List ℕ
app_body_bytes frame = spelled (app_fields frame) ++ app_tail frame

unfoldable pub app_bytes : AppFrame → List ℕ
app_bytes frame = framed (number_of_app (app_kind frame)) (app_body_bytes frame)

-- ---- from the host

abbrev pub host_kind : HostFrame → HostKind
host_kind (Restore checkpoint) = host.Restore
host_kind (Event count moment event) = host.Event
host_kind (Answer answer) = host.Answer

abbrev pub answer_fields : AnswerValue → List Field
answer_fields Fine = number 1 0 ∷ []
answer_fields (Error error) = number 1 1 ∷ number 2 error.kind ∷ number 2 error.code ∷ []
answer_fields (Statistics kind body) = number 1 2 ∷ number 2 kind ∷ []
answer_fields Unknown = number 1 3 ∷ []

abbrev pub answer_tail : AnswerValue → List ℕ
answer_tail (Statistics kind body) = body
answer_tail other = []

abbrev pub host_fields : HostFrame → List Field
host_fields (Restore checkpoint) = []
host_fields (Event count moment event) =
    number 8 count ∷ number 8 moment ∷ number 1 (number_of_event event.kind) ∷ number 8 event.dpid ∷ []
host_fields (Answer answer) = answer_fields answer

abbrev pub host_tail : HostFrame → List ℕ
host_tail (Restore checkpoint) = checkpoint
host_tail (Event count moment event) = event.body
host_tail (Answer answer) = answer_tail answer

unfoldable pub host_body_bytes : HostFrame → List ℕ
host_body_bytes frame = spelled (host_fields frame) ++ host_tail frame

unfoldable pub host_bytes : HostFrame → List ℕ
host_bytes frame = framed (number_of_host (host_kind frame)) (host_body_bytes frame)

-- ---- What is no frame

-- a frame of a kind that there is not
abbrev pub garbled_bytes : List ℕ
garbled_bytes = 0 ∷ 0 ∷ 0 ∷ 1 ∷ 9 ∷ []
