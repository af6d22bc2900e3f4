-- Objects that give all frames of a turn at its event, and nothing at answers: what one gives is a fold over the frames of the host. All of
-- this is our own choice.
use Rattle.std.specs.Prelude.{ℕ, ◌&&◌, Bool, true, List, [], ◌∷◌, length, nat_le, Option, Some, None, Ok, Err, if◌then◌else◌}
use Rattle.std.specs.List.{flat_map, list_all}
use Rattle.app_frames.specs.declared.frame.AppFrame.{AppFrame}
use Rattle.app_frames.specs.declared.frame.AppFrame.TheVariants.{Message, Done}
use Rattle.app_frames.specs.declared.frame.Event.{Event as EventValue}
use Rattle.app_frames.specs.declared.frame.HostFrame.{HostFrame}
use Rattle.app_frames.specs.declared.frame.HostFrame.TheVariants.{Restore, Event, Answer}
use Rattle.app_frames.specs.Reading.{Reading}
use Rattle.app_frames.specs.Frames.{host_reading}
use Rattle.app_frames.specs.Spelling.{app_bytes}
use Rattle.app_objects.specs.declared.object.Step.TheVariants.{Alive, Died}
use Rattle.app_objects.specs.Machine.{Reaction, Gives}

-- ---- What is said

-- the frame has a length that a frame may have
unfoldable pub app_fits : AppFrame → Bool
app_fits (Message dpid bytes) = nat_le 8 (length bytes) && nat_le (length bytes) 65535
app_fits (Done stop (Some checkpoint)) = nat_le (length checkpoint) 1048576
app_fits other = true

-- all frames, one after the other; one that has to say a frame that is too long has died
unfoldable pub says : List AppFrame → Reaction
says frames =
    if list_all app_fits frames then (record { bytes = flat_map app_bytes frames; step = Alive })
    else (record { bytes = []; step = Died })

-- ---- At a frame of the host

abbrev pub read_frame : Reading (HostFrame × ℕ) → Option HostFrame
read_frame (Ok (Some found)) = Some found.0
read_frame (Ok None) = None
read_frame (Err fault) = None

-- the frame that stands at the front of some bytes
unfoldable pub frame_in : List ℕ → Option HostFrame
frame_in bytes = read_frame (host_reading bytes)

-- at an event all that there is to say; nothing at other frames; one that is given what is no frame has died
abbrev pub reaction : {S : Type 0} → (EventValue → S → List AppFrame) → Option HostFrame → S → Reaction
reaction answers (Some (Event count moment event)) s = says (answers event s)
reaction answers (Some (Restore checkpoint)) s = record { bytes = []; step = Alive }
reaction answers (Some (Answer answer)) s = record { bytes = []; step = Alive }
reaction answers None s = record { bytes = []; step = Died }

abbrev pub state_after : {S : Type 0} → (EventValue → S → S) → Option HostFrame → S → S
state_after after (Some (Event count moment event)) s = after event s
state_after after other s = s

-- what it gives at some frames, from a state on
abbrev pub gives_from : {S : Type 0} → (EventValue → S → List AppFrame) → (EventValue → S → S) → S → Gives
gives_from answers after s [] = []
gives_from answers after s (frame ∷ frames) =
    reaction answers (frame_in frame) s ∷ gives_from answers after (state_after after (frame_in frame) s) frames
