-- What a history leaves: the switches with what waits of them, the stimulus that was begun, and how the switches stood at each
-- quiescent point. All of this is our own choice; what a switch does is that of the OpenFlow 1.0.0 switch.
use Rattle.std.specs.Prelude.{◌==◌, ℕ, ◌+◌, Bool, true, false, not, ◌&&◌, List, [], ◌∷◌, ◌++◌, map, drop, filter, Option, Some, None, Result, Ok, Err, if◌then◌else◌}
use Rattle.std.specs.List.{list_any, flat_map}
use Rattle.std.specs.Option.{is_some, option_map}
use Rattle.of_types.specs.Fields.{number_at}
use Rattle.of_types.specs.declared.journal.Act.{Act}
use Rattle.of_types.specs.declared.journal.Act.TheVariants.{Stim, Started, Gave, Gone, Took, Ended, Sent, Got, Lost}
use Rattle.of_types.specs.declared.journal.Stimulus.{Stimulus}
use Rattle.of_types.specs.declared.journal.Stimulus.TheVariants.{Advance}
use Rattle.of_types.specs.declared.journal.WorldStim.{WorldStim}
use Rattle.of_types.specs.declared.journal.WorldStim.TheVariants.{Join, Leave, At, Of}
use Rattle.of_wire.specs.declared.message.Envelope.{Envelope}
use Rattle.of_wire.specs.declared.fault.WireFault.{WireFault}
use Rattle.of_wire.specs.Reading.{reading_of}
use Rattle.flow_table.specs.Switch.{Declared, SwitchState, joined_at, features_reply}
use Rattle.flow_table.specs.Step.{after_message, sent_by_message, after_stimulus, sent_by_stimulus}
use Rattle.outside.specs.declared.call.CallKind.{CallKind}
use Rattle.outside.specs.declared.call.CallKind.TheVariants as kinds
use Rattle.outside.specs.declared.call.FailCall.{FailCall}
use Rattle.outside.specs.declared.step.WorldStep.{WorldStep}
use Rattle.outside.specs.declared.step.WorldStep.TheVariants.{Acted, TookInto, From, Joined, Left, Moment, Idle, End, Opened, NotOpened, NextFailed, SendLost, RecvLost, SendFailed, RecvFailed}
use Rattle.outside.specs.Seen.{Given, Seen}

-- ---- The state

-- A switch that is declared: its state while it is joined, what it sent and was not taken yet, the numbers of its link calls that
-- are to fail, and how many such calls there were.
pub record Link : Type 0 where
  pub declared : Declared
  pub switch : Option SwitchState
  pub waits : List (List ℕ)
  pub fails : List ℕ
  pub calls : ℕ

-- how the switches stood before a stimulus (`event` is None), or before the event of a number was first given
pub record Mark : Type 0 where
  pub event : Option ℕ
  pub switches : List (Option SwitchState)

-- Whether `open` was called; the applications that were started and not ended; the moment; the stimuli still to come; the switches;
-- the items that the stimulus makes and that were not told yet; whether a stimulus was begun and no Idle was told since; the marks.
pub record State : Type 0 where
  pub opened : Bool
  pub running : List ℕ
  pub moment : ℕ
  pub to_come : List WorldStim
  pub links : List Link
  pub due : List WorldStep
  pub begun : Bool
  pub marks : List Mark

-- ---- At first

abbrev pub is_link_call : CallKind → Bool
is_link_call kinds.Link = true
is_link_call other = false

-- the numbers of the link calls of a switch that are to fail
abbrev pub fails_of : ℕ → List FailCall → List ℕ
fails_of d fails = map (λ f. f.number) (filter (λ f. is_link_call f.kind && f.of == d) fails)

abbrev pub link_at_first : List FailCall → Declared → Link
link_at_first fails d = record { declared = d; switch = None; waits = []; fails = fails_of d.dpid fails; calls = 0 }

unfoldable pub at_first : {Own : Type 0} → Given Own → State
at_first given = record {
  opened = false;
  running = [];
  moment = 0;
  to_come = given.stimuli;
  links = map (link_at_first given.fails) given.declared;
  due = [];
  begun = false;
  marks = [];
}

-- ---- Readers

-- the application was started and not ended
abbrev pub is_running : ℕ → State → Bool
is_running app s = list_any (λ a. a == app) s.running

abbrev pub link_of : ℕ → List Link → Option Link
link_of d [] = None
link_of d (l ∷ ls) = if l.declared.dpid == d then Some l else link_of d ls

abbrev pub waits_in : Option Link → List (List ℕ)
waits_in None = []
waits_in (Some l) = l.waits

abbrev pub switch_in : Option Link → Option SwitchState
switch_in None = None
switch_in (Some l) = l.switch

-- what the switch sent and was not taken yet, oldest first
unfoldable pub waits_of : ℕ → State → List (List ℕ)
waits_of d s = waits_in (link_of d s.links)

-- the switch, while it is joined
unfoldable pub switch_of : ℕ → State → Option SwitchState
switch_of d s = switch_in (link_of d s.links)

abbrev pub is_joined : ℕ → State → Bool
is_joined d s = is_some (switch_of d s)

abbrev pub is_empty : List (List ℕ) → Bool
is_empty [] = true
is_empty (x ∷ xs) = false

-- a message of the switch waits
abbrev pub has_waiting : ℕ → State → Bool
has_waiting d s = not (is_empty (waits_of d s))

-- the next call of the link is to fail
abbrev pub is_failing : Link → Bool
is_failing l = list_any (λ n. n == l.calls + 1) l.fails

abbrev pub fails_in : Option Link → Bool
fails_in None = false
fails_in (Some l) = is_failing l

unfoldable pub link_fails : ℕ → State → Bool
link_fails d s = fails_in (link_of d s.links)

-- what is due, then what waits, of the switches with lower numbers first
-- the messages that wait, of the switches with lower numbers first
abbrev pub waiting_in : List Link → List WorldStep
waiting_in ls = flat_map (λ l. map (From l.declared.dpid) l.waits) ls

unfoldable pub upcoming : State → List WorldStep
upcoming s = s.due ++ waiting_in s.links

-- the switches that links declare
abbrev pub declared_in : List Link → List Declared
declared_in ls = map (λ l. l.declared) ls

-- ---- Marks

abbrev pub mark_of : Option ℕ → State → Mark
mark_of event s = record { event = event; switches = map (λ l. l.switch) s.links }

abbrev pub is_event : ℕ → Option ℕ → Bool
is_event n None = false
is_event n (Some m) = m == n

abbrev pub has_mark : ℕ → List Mark → Bool
has_mark n marks = list_any (λ m. is_event n m.event) marks

-- the number of the event that a frame to an application tells: kind 2 behind the length, then the number
unfoldable pub event_number : List ℕ → Option ℕ
event_number bytes = if number_at 1 4 bytes == 2 then Some (number_at 8 5 bytes) else None

abbrev pub marks_at_event : Option ℕ → State → List Mark
marks_at_event None s = s.marks
marks_at_event (Some n) s = if has_mark n s.marks then s.marks else s.marks ++ mark_of (Some n) s ∷ []

-- the marks after an application was given bytes
unfoldable pub marks_after_gave : List ℕ → State → List Mark
marks_after_gave bytes s = marks_at_event (event_number bytes) s

-- ---- One switch

abbrev pub with_link : ℕ → (Link → Link) → List Link → List Link
with_link d change [] = []
with_link d change (l ∷ ls) = if l.declared.dpid == d then change l ∷ ls else l ∷ with_link d change ls

abbrev pub switch_joined : ℕ → Declared → Option SwitchState → Option SwitchState
switch_joined moment d None = Some (joined_at moment d)
switch_joined moment d (Some s) = Some s

-- A switch joins at a moment, where it is out.
unfoldable pub link_joined : ℕ → Link → Link
link_joined moment l = record l { switch = switch_joined moment l.declared l.switch }

-- It leaves, with all that it held.
unfoldable pub link_left : Link → Link
link_left l = record l { switch = None; waits = [] }

abbrev pub stimulus_sends : Stimulus → Option SwitchState → List (List ℕ)
stimulus_sends x None = []
stimulus_sends x (Some s) = sent_by_stimulus x s

-- Something happens to it, where it is joined.
unfoldable pub link_stimulated : Stimulus → Link → Link
link_stimulated x l = record l { switch = option_map (after_stimulus x) l.switch; waits = l.waits ++ stimulus_sends x l.switch }

abbrev pub switch_told : Result Envelope WireFault → Option SwitchState → Option SwitchState
switch_told (Ok e) (Some s) = Some (after_message e.message s)
switch_told (Ok e) None = None
switch_told (Err fault) s = s

abbrev pub message_sends : Result Envelope WireFault → Option SwitchState → List (List ℕ)
message_sends (Ok e) (Some s) = sent_by_message e.xid e.message s
message_sends (Ok e) None = []
message_sends (Err fault) s = []

-- It is sent bytes.
unfoldable pub link_sent : List ℕ → Link → Link
link_sent bytes l = record l {
  switch = switch_told (reading_of bytes) l.switch;
  waits = l.waits ++ message_sends (reading_of bytes) l.switch;
  calls = l.calls + 1;
}

-- Its next message is taken, by a call of its link or by `next`.
unfoldable pub link_got : Link → Link
link_got l = record l { waits = drop 1 l.waits; calls = l.calls + 1 }

unfoldable pub link_told : Link → Link
link_told l = record l { waits = drop 1 l.waits }

-- A call of its link failed while it was joined: it is lost, with all that it held.
unfoldable pub link_lost : Link → Link
link_lost l = record l { switch = None; waits = []; calls = l.calls + 1 }

-- A call of its link failed while it was out.
unfoldable pub link_failed : Link → Link
link_failed l = record l { calls = l.calls + 1 }

-- ---- A stimulus

abbrev pub links_after : WorldStim → ℕ → List Link → List Link
links_after (Join d) moment ls = with_link d (link_joined moment) ls
links_after (Leave d) moment ls = with_link d link_left ls
links_after (At t) moment ls = map (link_stimulated (Advance t)) ls
links_after (Of d x) moment ls = with_link d (link_stimulated x) ls

abbrev pub moment_after : WorldStim → ℕ → ℕ
moment_after (At t) moment = t
moment_after other moment = moment

abbrev pub join_due : ℕ → ℕ → Option Link → List WorldStep
join_due d moment None = []
join_due d moment (Some l) = if is_some l.switch then [] else Joined d (features_reply 0 (joined_at moment l.declared)) ∷ []

-- the items that it makes beside messages
abbrev pub due_of : WorldStim → State → List WorldStep
due_of (Join d) s = join_due d s.moment (link_of d s.links)
due_of (Leave d) s = if is_joined d s then Left d ∷ [] else []
due_of (At t) s = Moment t ∷ []
due_of (Of d x) s = []

-- It is begun.
unfoldable pub after_stim : WorldStim → State → State
after_stim x s = record s {
  moment = moment_after x s.moment;
  to_come = drop 1 s.to_come;
  links = links_after x s.moment s.links;
  due = s.due ++ due_of x s;
  begun = true;
  marks = s.marks ++ mark_of None s ∷ [];
}

-- ---- One step, and a history

abbrev pub running_after : ℕ → Bool → List ℕ → List ℕ
running_after app true running = running ++ app ∷ []
running_after app false running = running

unfoldable pub after_act : Act → State → State
after_act (Stim x) s = after_stim x s
after_act (Started app ok) s = record s { running = running_after app ok s.running }
after_act (Gave app bytes) s = record s { marks = marks_after_gave bytes s }
after_act (Gone app bytes) s = s
after_act (Took app what) s = s
after_act (Ended app) s = record s { running = filter (λ a. not (a == app)) s.running }
after_act (Sent d bytes) s = record s { links = with_link d (link_sent bytes) s.links }
after_act (Got d bytes) s = record s { links = with_link d link_got s.links }
after_act (Lost d) s = record s { links = with_link d link_lost s.links }

unfoldable pub after_step : WorldStep → State → State
after_step (Acted act) s = after_act act s
after_step (TookInto app what room) s = s
after_step (From d bytes) s = record s { links = with_link d link_told s.links }
after_step (Joined d bytes) s = record s { due = drop 1 s.due }
after_step (Left d) s = record s { due = drop 1 s.due }
after_step (Moment t) s = record s { due = drop 1 s.due }
after_step Idle s = record s { begun = false }
after_step End s = s
after_step Opened s = record s { opened = true }
after_step NotOpened s = record s { opened = true }
after_step NextFailed s = s
after_step (SendLost d) s = record s { links = with_link d link_lost s.links }
after_step (RecvLost d) s = record s { links = with_link d link_lost s.links }
after_step (SendFailed d) s = record s { links = with_link d link_failed s.links }
after_step (RecvFailed d) s = record s { links = with_link d link_failed s.links }

abbrev pub after_steps : List WorldStep → State → State
after_steps [] s = s
after_steps (step ∷ steps) s = after_steps steps (after_step step s)

-- the state that a world is in, as its history tells
unfoldable pub state : {Own : Type 0} → Seen Own → State
state seen = after_steps seen.history (at_first seen.given)

-- the state but for its marks, which no step looks at but to append to them
abbrev pub but_marks : State → State
but_marks s = record s { marks = [] }
