-- Bodies by kind; None where the table has no such body (our own choice). All numbers have their highest byte first.
use Rattle.std.specs.Prelude.{◌≡◌, ℕ, ◌==◌, ◌&&◌, nat_lt, nat_le, if◌then◌else◌, Bool, true, false, List, length, drop, Option, Some, None, Result, Ok, Err, IsSome, option_map}
use Rattle.of_types.specs.Fields.{number_at}
use Rattle.app_frames.specs.declared.fault.FrameFault.TheVariants.{BadBody}
use Rattle.app_frames.specs.declared.fault.AppFrameError.{AppFrameError}
use Rattle.app_frames.specs.declared.fault.AppFrameError.TheVariants.{Refused, NoMemory}
use Rattle.app_frames.specs.declared.kind.AppKind.{AppKind}
use Rattle.app_frames.specs.declared.kind.AppKind.TheVariants as app
use Rattle.app_frames.specs.declared.kind.HostKind.{HostKind}
use Rattle.app_frames.specs.declared.kind.HostKind.TheVariants as host
use Rattle.app_frames.specs.declared.frame.AppFrame.{AppFrame}
use Rattle.app_frames.specs.declared.frame.AppFrame.TheVariants.{Message, Save, Keep, Undo, Done, Ready}
use Rattle.app_frames.specs.declared.frame.HostFrame.{HostFrame}
use Rattle.app_frames.specs.declared.frame.HostFrame.TheVariants.{Restore, Event, Answer}
use Rattle.app_frames.specs.declared.frame.Answer.{Answer as AnswerValue}
use Rattle.app_frames.specs.declared.frame.Answer.TheVariants.{Fine, Error, Statistics, Unknown}
use Rattle.app_frames.specs.declared.frame.EventKind.{EventKind}
use Rattle.app_frames.specs.Kinds.{event_kind_of}

-- A reader of a body answers as the table does. Memory may run out where the table has the body, and nowhere else.
abbrev pub BodyFails : {X : Type 0} → AppFrameError → Option X → Type 0
BodyFails (Refused fault) read = (fault ≡ BadBody) × (read ≡ None)
BodyFails NoMemory read = IsSome read

abbrev pub GivesBody : {X : Type 0} → Result X AppFrameError → Option X → Type 0
GivesBody (Ok x) read = read ≡ Some x
GivesBody (Err error) read = BodyFails error read

infixl 10 ◌>>=◌
abbrev pub ◌>>=◌ : {X Y : Type 0} → Option X → (X → Option Y) → Option Y
(Some x) >>= f = f x
None >>= f = None

-- ---- from an application

-- dpid u64 | 8 to 65,535 bytes
unfoldable pub message_of : List ℕ → Option AppFrame
message_of body =
    if nat_le 16 (length body) && nat_le (length body) 65543 then Some (Message (number_at 8 0 body) (drop 8 body)) else None

-- no body
abbrev pub bare : {X : Type 0} → X → List ℕ → Option X
bare x body = if length body == 0 then Some x else None

-- a byte that is 0 or 1
unfoldable pub flag_of : ℕ → Option Bool
flag_of byte = if byte == 0 then Some false else (if byte == 1 then Some true else None)

-- a checkpoint, where there is to be one
unfoldable pub checkpoint_of : Bool → List ℕ → Option (Option (List ℕ))
checkpoint_of false rest = if length rest == 0 then Some None else None
checkpoint_of true rest = Some (Some rest)

-- stop u8 (0, 1) | has u8 (0, 1) | checkpoint, empty where has is 0
unfoldable pub done_of : List ℕ → Option AppFrame
done_of body =
    if nat_lt (length body) 2 then None
    else (do
      stop ← flag_of (number_at 1 0 body)
      has ← flag_of (number_at 1 1 body)
      checkpoint ← checkpoint_of has (drop 2 body)
      Some (Done stop checkpoint))

unfoldable pub app_body : AppKind → List ℕ → Option AppFrame
app_body app.Message body = message_of body
app_body app.Save body = bare Save body
app_body app.Keep body = bare Keep body
app_body app.Undo body = bare Undo body
app_body app.Done body = done_of body
app_body app.Ready body = bare Ready body

-- ---- from the host

abbrev pub event_with : List ℕ → EventKind → HostFrame
event_with body kind =
    Event (number_at 8 0 body) (number_at 8 8 body) (record { kind = kind; dpid = number_at 8 17 body; body = drop 25 body })

-- number u64 | moment u64 | kind u8 | dpid u64 | event body
unfoldable pub event_of : List ℕ → Option HostFrame
event_of body = if nat_lt (length body) 25 then None else option_map (event_with body) (event_kind_of (number_at 1 16 body))

-- behind the code: 0 and 3 nothing | 1 kind u16, code u16 | 2 type u16, the joined body
unfoldable pub answer_with : ℕ → List ℕ → Option AnswerValue
answer_with code rest =
    if code == 0 then bare Fine rest
    else (if code == 1 then (if length rest == 4 then Some (Error (record { kind = number_at 2 0 rest; code = number_at 2 2 rest })) else None)
    else (if code == 2 then (if nat_lt (length rest) 2 then None else Some (Statistics (number_at 2 0 rest) (drop 2 rest)))
    else (if code == 3 then bare Unknown rest
    else None)))

-- code u8 | what the code says
unfoldable pub answer_of : List ℕ → Option HostFrame
answer_of body =
    if length body == 0 then None
    else option_map (λ answer. Answer answer) (answer_with (number_at 1 0 body) (drop 1 body))

unfoldable pub host_body : HostKind → List ℕ → Option HostFrame
host_body host.Restore body = Some (Restore body)
host_body host.Event body = event_of body
host_body host.Answer body = answer_of body
