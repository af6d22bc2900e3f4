-- The kinds of frames and of events, and their numbers: our own choice.
use Rattle.std.specs.Prelude.{ℕ, ◌==◌, if◌then◌else◌, Option, Some, None}
use Rattle.app_frames.specs.declared.kind.AppKind.{AppKind}
use Rattle.app_frames.specs.declared.kind.AppKind.TheVariants as app
use Rattle.app_frames.specs.declared.kind.HostKind.{HostKind}
use Rattle.app_frames.specs.declared.kind.HostKind.TheVariants as host
use Rattle.app_frames.specs.declared.frame.EventKind.{EventKind}
use Rattle.app_frames.specs.declared.frame.EventKind.TheVariants as event

-- ---- what an application tells

abbrev pub number_of_app : AppKind → ℕ
number_of_app app.Message = 1
number_of_app app.Save = 2
number_of_app app.Keep = 3
number_of_app app.Undo = 4
number_of_app app.Done = 5
number_of_app app.Ready = 6

unfoldable pub app_kind_of : ℕ → Option AppKind
app_kind_of number =
    if number == 1 then Some app.Message
    else (if number == 2 then Some app.Save
    else (if number == 3 then Some app.Keep
    else (if number == 4 then Some app.Undo
    else (if number == 5 then Some app.Done
    else (if number == 6 then Some app.Ready
    else None)))))

-- ---- what the host tells

abbrev pub number_of_host : HostKind → ℕ
number_of_host host.Restore = 1
number_of_host host.Event = 2
number_of_host host.Answer = 3

unfoldable pub host_kind_of : ℕ → Option HostKind
host_kind_of number =
    if number == 1 then Some host.Restore
    else (if number == 2 then Some host.Event
    else (if number == 3 then Some host.Answer
    else None))

-- ---- events

abbrev pub number_of_event : EventKind → ℕ
number_of_event event.Join = 1
number_of_event event.Leave = 2
number_of_event event.PacketIn = 3
number_of_event event.FlowRemoved = 4
number_of_event event.PortStatus = 5
number_of_event event.SwitchError = 6

unfoldable pub event_kind_of : ℕ → Option EventKind
event_kind_of number =
    if number == 1 then Some event.Join
    else (if number == 2 then Some event.Leave
    else (if number == 3 then Some event.PacketIn
    else (if number == 4 then Some event.FlowRemoved
    else (if number == 5 then Some event.PortStatus
    else (if number == 6 then Some event.SwitchError
    else None)))))
