-- The reference controller: it runs stimuli over whole switches, gives each event to the applications that are alive, and never sees a
-- turn that failed. It has no inverse message, no cache, and sends nothing for the purpose of undoing. A switch whose link fails goes out.
-- Events are made of what switches send (OpenFlow 1.0.0, 5.4 Asynchronous Messages); all else is our own choice.
use Rattle.std.specs.Prelude.{◌==◌, ℕ, zero, suc, ◌+◌, ◌&&◌, ◌||◌, Bool, true, false, not, List, [], ◌∷◌, ◌++◌, map, fold, drop, length, Option, Some, None, is_some, unwrap_or, if◌then◌else◌}
use Rattle.std.specs.List.{flat_map, list_any}
use Rattle.std.specs.Option.{option_map}
use Rattle.of_types.specs.declared.journal.Stimulus.{Stimulus}
use Rattle.of_types.specs.declared.journal.Stimulus.TheVariants.{Advance}
use Rattle.of_types.specs.declared.journal.WorldStim.{WorldStim}
use Rattle.of_types.specs.declared.journal.WorldStim.TheVariants.{Join, Leave, At, Of}
use Rattle.of_wire.specs.declared.message.Message.TheVariants.{PacketOut}
use Rattle.flow_table.specs.Switch.{Declared, SwitchState, joined_at}
use Rattle.flow_table.specs.Step.{after_message, sent_by_message, after_stimulus, sent_by_stimulus}
use Rattle.app_frames.specs.declared.frame.Event.{Event}
use Rattle.app_frames.specs.declared.frame.EventKind.{EventKind}
use Rattle.app_frames.specs.declared.frame.HostFrame.TheVariants as host
use Rattle.app_frames.specs.declared.frame.Answer.{Answer}
use Rattle.app_frames.specs.declared.cause.Tried.{Tried}
use Rattle.app_frames.specs.declared.cause.Tried.TheVariants as tried
use Rattle.app_frames.specs.Spelling.{host_bytes}
use Rattle.crash_policy.specs.declared.policy_file.Policy.{Policy}
use Rattle.crash_policy.specs.declared.policy_file.Policy.TheVariants as policy
use Rattle.crash_policy.specs.Policies.{AppValue}
use Rattle.crash_policy.specs.Asking.{is_given, rule_at}
use Rattle.crash_policy.specs.Replacing.{instead}
use Rattle.lego_model.specs.Journal.{Reply, Start, Untold}
use Rattle.lego_model.specs.Turns.{Outcome, Completed, Failed, Table, turn_of, outcome_of}
use Rattle.lego_model.specs.Places.{Place, switch_at, with_place}
use Rattle.lego_model.specs.Losses.{PacketLoss, Stays, BeforeSent, AfterSent, TurnLosses, Losses, no_loss, next_flag, next_packet, next_turn, batch_fewer, turn_fewer}
pub use Rattle.lego_model.specs.Events.{ports_of, event_of_message, event_of_read, events_of, join_event, leave_event}
use Rattle.lego_model.specs.Packets.{Held, HeldBack, Play, fresh_play, play, play_undo}
pub use Rattle.lego_model.specs.Packets.{lose_at, lose, undoing}
use Rattle.outside.specs.State.{Mark, moment_after, has_mark}

-- ---- What happens, and what events that makes

abbrev pub or_joined : ℕ → Declared → Option SwitchState → SwitchState
or_joined moment d None = joined_at moment d
or_joined moment d (Some s) = s

abbrev pub left_of : Option SwitchState → List Event
left_of None = []
left_of (Some s) = leave_event s ∷ []

abbrev pub sent_events : Stimulus → ℕ → Option SwitchState → List Event
sent_events x dpid None = []
sent_events x dpid (Some s) = events_of dpid (sent_by_stimulus x s)

abbrev pub joined : ℕ → Place → Place
joined moment p = record p { switch = Some (or_joined moment p.declared p.switch) }

abbrev pub out : Place → Place
out p = record p { switch = None }

abbrev pub events_at_join : ℕ → ℕ → Place → List Event
events_at_join dpid moment p = if p.declared.dpid == dpid && not (is_some p.switch) then join_event (joined_at moment p.declared) ∷ [] else []

abbrev pub events_at_leave : ℕ → Place → List Event
events_at_leave dpid p = if p.declared.dpid == dpid then left_of p.switch else []

-- something happens to a switch, where it is joined
abbrev pub stimulated : Stimulus → Place → Place
stimulated x p = record p { switch = option_map (after_stimulus x) p.switch }

abbrev pub events_at : Stimulus → Place → List Event
events_at x p = sent_events x p.declared.dpid p.switch

abbrev pub at_place : ℕ → (Place → Place) → Place → Place
at_place d change p = if p.declared.dpid == d then change p else p

unfoldable pub places_after : WorldStim → ℕ → List Place → List Place
places_after (Join d) moment ps = map (at_place d (joined moment)) ps
places_after (Leave d) moment ps = map (at_place d out) ps
places_after (At t) moment ps = map (stimulated (Advance t)) ps
places_after (Of d x) moment ps = map (at_place d (stimulated x)) ps

-- the events that a stimulus makes, of the switches with lower numbers first
unfoldable pub events_after : WorldStim → ℕ → List Place → List Event
events_after (Join d) moment ps = flat_map (events_at_join d moment) ps
events_after (Leave d) moment ps = flat_map (events_at_leave d) ps
events_after (At t) moment ps = flat_map (events_at (Advance t)) ps
events_after (Of d x) moment ps = flat_map (λ p. if p.declared.dpid == d then events_at x p else []) ps

-- ---- Applications

-- An application: what the policy says of it; whether it is alive; the bytes that were taken and not read; its kept checkpoint, at first of
-- no bytes; the frames that it was given; how its next starts end, and what it gives in its next turns; how many turns completed and how
-- many failed.
pub record App : Type 0 where
  pub rule : AppValue
  pub alive : Bool
  pub rest : List ℕ
  pub kept : List ℕ
  pub inputs : List (List ℕ)
  pub starts : List Start
  pub replies : List Reply
  pub done : ℕ
  pub failed : ℕ

-- where nothing more is said of a start it is ready, and where nothing more is said of a turn it is done
abbrev pub next_outcome : List Start → Tried × List ℕ
next_outcome [] = (tried.Ready, [])
next_outcome (start ∷ starts) = outcome_of start

abbrev pub plain_reply : Reply
plain_reply = record { given = true; pieces = []; answers = None; end = Untold }

abbrev pub next_reply : List Reply → Reply
next_reply [] = plain_reply
next_reply (reply ∷ replies) = reply

-- an application that was started is given its kept checkpoint, where it could be
abbrev pub was_restored : List Start → Bool
was_restored [] = true
was_restored (start ∷ starts) = start.stands && start.restored

abbrev pub restore_frame : List ℕ → List ℕ
restore_frame checkpoint = host_bytes (host.Restore checkpoint)

abbrev pub is_ready : Tried → Bool
is_ready tried.Ready = true
is_ready other = false

-- at most so many attempts; where all fail it is gone
unfoldable pub started : ℕ → App → App × List Tried
started zero a = (record a { alive = false; rest = [] }, [])
started (suc n) a =
    let outcome = next_outcome a.starts in
    let tried = record a {
      alive = true;
      rest = outcome.1;
      inputs = a.inputs ++ (if was_restored a.starts then restore_frame a.kept ∷ [] else []);
      starts = drop 1 a.starts;
    } in
    if is_ready outcome.0 then (tried, outcome.0 ∷ []) else (let later = started n tried in (later.0, outcome.0 ∷ later.1))

abbrev pub attempts : ℕ
attempts = 3

-- ---- The run

-- what is said of it, in order; an application is named by its index
pub data Line : Type 0 where
  Started : ℕ → Tried → Line
  IsGone : ℕ → Line
  Dispatched : ℕ → Event → Line
  Ended : ℕ → Outcome → Line
  -- so ended its turn at an event that it was given in place of another
  EndedInstead : ℕ → Event → Outcome → Line
  -- the turns at all events that it was given in place of one are kept, or undone
  Grouped : ℕ → Bool → Line
  -- a packet was released to a switch, with so many bytes
  Out : ℕ → ℕ → Line
  -- a switch was lost
  Lost : ℕ → Line

pub record Run : Type 0 where
  pub moment : ℕ
  pub places : List Place
  pub queue : List Event
  pub events : ℕ
  pub apps : List App
  pub lines : List Line
  -- the packets that were released, in order
  pub released : List Held
  -- the switches that were lost, in order, and the losses that are to come
  pub lost : List ℕ
  pub losses : Losses
  pub marks : List Mark

abbrev pub reference_mark : Option ℕ → List Place → Mark
reference_mark event ps = record { event = event; switches = map (λ p. p.switch) ps }

-- ---- A turn

-- the frames of an application are played on the switches; the judge sees what is joined
abbrev pub table_of : (List Place → Bool) → Table Play
table_of allows = record { answer = play; allows = λ p. allows p.places; undo = play_undo }

abbrev pub answer_frame : Answer → List ℕ
answer_frame a = host_bytes (host.Answer a)

abbrev pub event_frame : ℕ → ℕ → Event → List ℕ
event_frame number moment event = host_bytes (host.Event number moment event)

-- the frames that it is given: the event, where it could be, and its answers
abbrev pub given_in : Bool → List ℕ → List Answer → List (List ℕ)
given_in true frame answers = frame ∷ map answer_frame answers
given_in false frame answers = []

-- What follows a turn that failed: under the policy `none` the application is gone; else it is started again.
unfoldable pub after_failure : Policy → App → App × List Tried
after_failure policy.None a = (record a { alive = false }, [])
after_failure policy.Absolute a = started attempts a
after_failure policy.Equivalence a = started attempts a

-- An application after its turn at an event of a kind. One that completed keeps the checkpoint that it handed over, where it did; one that
-- failed keeps the earlier one, and goes by the policy of that kind.
abbrev pub after_outcome : EventKind → Outcome → App → App × List Tried
after_outcome kind (Completed stop checkpoint rest) a = (record a { rest = rest; kept = unwrap_or checkpoint a.kept; done = a.done + 1 }, [])
after_outcome kind (Failed cause) a = after_failure (rule_at a.rule kind) (record a { rest = []; failed = a.failed + 1 })

-- ---- The release (5.3.6 Send Packet Message): the notices that are held become events. Then each packet that is held goes to its switch, while
-- that is joined, and what the switch sends then becomes events. Where the switch is lost before the packet is sent, it is not released; where
-- it is lost behind it, it is, and what the switch sent for it makes no events.

pub record Release : Type 0 where
  pub places : List Place
  pub events : List Event
  pub packets : List Held
  pub losing : List PacketLoss
  -- the Leave events of the switches that were lost, in order
  pub left : List Event

abbrev pub none_released : List PacketLoss → List Place → List Event → Release
none_released losing places notices = record { places = places; events = notices; packets = []; losing = losing; left = [] }

abbrev pub went_out : ℕ → SwitchState → Release → Release
went_out d s r = record r { places = with_place d (λ o. None) r.places; left = r.left ++ leave_event s ∷ [] }

abbrev pub release_to : PacketLoss → SwitchState → Release → Held → Release
release_to Stays s r held = record r {
  places = with_place held.0 (λ o. Some (after_message (PacketOut held.1) s)) r.places;
  events = r.events ++ events_of held.0 (sent_by_message 0 (PacketOut held.1) s);
  packets = r.packets ++ held ∷ [];
}
release_to BeforeSent s r held = went_out held.0 s r
release_to AfterSent s r held = went_out held.0 s (record r { packets = r.packets ++ held ∷ [] })

abbrev pub release_at : Option SwitchState → PacketLoss → Release → Held → Release
release_at None loss r held = r
release_at (Some s) loss r held = release_to loss s r held

abbrev pub release_one : Release → Held → Release
release_one r held = release_at (switch_at held.0 r.places) (next_packet r.losing) (record r { losing = drop 1 r.losing }) held

unfoldable pub release : List PacketLoss → List Place → HeldBack → Release
release losing places held = fold release_one (none_released losing places held.notices) held.packets

abbrev pub undone_release : List Place × List Event → Release
undone_release r = record { places = r.0; events = []; packets = []; losing = []; left = r.1 }

-- A turn that completed leaves what it did, and what it held is released; one that failed leaves what an undo gives back.
abbrev pub release_by : Outcome → TurnLosses → List Place → Play → Release
release_by (Completed stop checkpoint rest) losses before after = release losses.packets after.places after.held
release_by (Failed cause) losses before after = undone_release (undoing losses.undone before after.places)

abbrev pub gone_line : ℕ → Bool → List Line
gone_line i true = []
gone_line i false = IsGone i ∷ []

abbrev pub restart_lines : ℕ → Outcome → App × List Tried → List Line
restart_lines i (Completed stop checkpoint rest) a = []
restart_lines i (Failed cause) a = map (Started i) a.1 ++ gone_line i a.0.alive

-- what a turn leaves: the switches, with what was released, the application with the attempts to start it again, and how it ended
pub record Turned : Type 0 where
  pub release : Release
  -- the Leave events of the switches that were lost, in order
  pub left : List Event
  pub app : App × List Tried
  pub outcome : Outcome
  pub given : Bool

unfoldable pub turn : (List Place → Bool) → ℕ → ℕ → Event → TurnLosses → List Place → App → Turned
turn allows number moment event losses ps a =
    let reply = next_reply a.replies in
    let played = turn_of (table_of allows) a.rule.budget a.rest reply (fresh_play losses ps) in
    let release = release_by played.outcome losses ps played.state in
    record {
      release = release;
      left = played.state.left ++ release.left;
      app = after_outcome event.kind played.outcome (record a { replies = drop 1 a.replies; inputs = a.inputs ++ given_in reply.given (event_frame number moment event) played.answers });
      outcome = played.outcome;
      given = reply.given;
    }

-- a packet is told with its switch and how many bytes it has
abbrev pub out_lines : List Held → List Line
out_lines packets = map (λ held. Out held.0 (length held.1.payload)) packets

-- the switches that leave by these events
abbrev pub leavers : List Event → List ℕ
leavers left = map (λ e. e.dpid) left

-- each switch that was lost is told
abbrev pub lost_lines : List ℕ → List Line
lost_lines lost = map Lost lost

abbrev pub says_stop : Outcome → Bool
says_stop (Completed stop checkpoint rest) = stop
says_stop (Failed cause) = false

-- ---- Marks

-- the switches are looked at before an event is first given
abbrev pub marked : Bool → ℕ → List Place → List Mark → List Mark
marked given n ps marks = if given && not (has_mark n marks) then marks ++ reference_mark (Some n) ps ∷ [] else marks

-- ---- A group of turns: under the policy `equivalence` an application that failed at an event, and was started again, is given events in place of
-- it, which say the same and less. They have the number of the event. Nothing is released between their turns.

-- what it is given in place of the event, where its turn ended so and it stands so then
abbrev pub instead_by : Policy → Event → List Event
instead_by policy.None event = []
instead_by policy.Absolute event = []
instead_by policy.Equivalence event = instead event

abbrev pub instead_of : Outcome → App → Event → List Event
instead_of (Completed stop checkpoint rest) a event = []
instead_of (Failed cause) a event = if a.alive then instead_by (rule_at a.rule event.kind) event else []

-- How a group stands between two of its turns: what they are played on, the application, whether a turn said stop, whether one failed, what is
-- lost in the turn that was the last so far, their lines, the losses that are to come, and the marks.
pub record Group : Type 0 where
  pub play : Play
  pub app : App
  pub stops : Bool
  pub fails : Bool
  pub last : TurnLosses
  pub lines : List Line
  pub losses : Losses
  pub marks : List Mark

abbrev pub is_failed : Outcome → Bool
is_failed (Completed stop checkpoint rest) = false
is_failed (Failed cause) = true

-- the application behind a turn of a group; what it handed over and that it was done stands under the group's end
abbrev pub after_instead : Outcome → App → App
after_instead (Completed stop checkpoint rest) a = record a { rest = rest; kept = unwrap_or checkpoint a.kept; done = a.done + 1 }
after_instead (Failed cause) a = record a { rest = []; failed = a.failed + 1 }

-- the switches of the messages to come are lost as this turn has it
abbrev pub with_losses : TurnLosses → Play → Play
with_losses losses p = record p { losing = losses.messages; inner = losses.inner }

-- one of its turns
unfoldable pub turn_instead : (List Place → Bool) → ℕ → ℕ → ℕ → Event → Group → Group
turn_instead allows number moment i event g =
    let losses = next_turn g.losses.turns in
    let reply = next_reply g.app.replies in
    let played = turn_of (table_of allows) g.app.rule.budget g.app.rest reply (with_losses losses g.play) in
    record {
      play = played.state;
      app = after_instead played.outcome (record g.app { replies = drop 1 g.app.replies; inputs = g.app.inputs ++ given_in reply.given (event_frame number moment event) played.answers });
      stops = g.stops || says_stop played.outcome;
      fails = is_failed played.outcome;
      last = losses;
      lines = g.lines ++ EndedInstead i event played.outcome ∷ [];
      losses = turn_fewer g.losses;
      marks = marked reply.given number g.play.places g.marks;
    }

-- one after the other, up to the first that fails
unfoldable pub turns_instead : (List Place → Bool) → ℕ → ℕ → ℕ → List Event → Group → Group
turns_instead allows number moment i [] g = g
turns_instead allows number moment i (event ∷ events) g =
    let next = turn_instead allows number moment i event g in
    if next.fails then next else turns_instead allows number moment i events next

abbrev pub fresh_group : App → Run → Group
fresh_group a run = record { play = fresh_play no_loss run.places; app = a; stops = false; fails = false; last = no_loss; lines = []; losses = run.losses; marks = run.marks }

-- Where all its turns completed, what they held is released, once; where one failed, all of them are undone. What is lost then is said of the
-- last turn.
abbrev pub release_group : List Place → Group → Release
release_group before g = if g.fails then undone_release (undoing g.last.undone before g.play.places) else release g.last.packets g.play.places g.play.held

-- Where one failed, the application is started again with the checkpoint of before, and no turn of the group counts as done.
abbrev pub close_group : App → Group → App × List Tried
close_group before g = if g.fails then started attempts (record g.app { kept = before.kept; done = before.done }) else (g.app, [])

abbrev pub again_lines : ℕ → Bool → App × List Tried → List Line
again_lines i false a = []
again_lines i true a = map (Started i) a.1 ++ gone_line i a.0.alive

-- what an application leaves that had its turns at an event: how it stands, whether the event goes no further, and the run
pub record Had : Type 0 where
  pub app : App
  pub stops : Bool
  pub run : Run

-- the run behind a group, with the Leave events of the switches that were lost in it
abbrev pub after_group : ℕ → Group → Release → List Event → App × List Tried → Run → Run
after_group i g r left a run = record run {
  places = r.places;
  queue = run.queue ++ (r.events ++ left);
  lines = run.lines ++ (g.lines ++ Grouped i (not g.fails) ∷ out_lines r.packets ++ lost_lines (leavers left) ++ again_lines i g.fails a);
  released = run.released ++ r.packets;
  lost = run.lost ++ leavers left;
  losses = g.losses;
  marks = g.marks;
}

abbrev pub group_had : ℕ → App → Group → Run → Had
group_had i a g run =
    let r = release_group run.places g in
    let closed = close_group a g in
    record { app = closed.0; stops = not g.fails && g.stops; run = after_group i g r (g.play.left ++ r.left) closed run }

-- where there is nothing to give, nothing is done
unfoldable pub group : (List Place → Bool) → List Event → ℕ → App → Run → Had
group allows [] i a run = record { app = a; stops = false; run = run }
group allows (event ∷ events) i a run = group_had i a (turns_instead allows run.events run.moment i (event ∷ events) (fresh_group a run)) run

-- ---- What an application has at an event: its turn, and then the turns at the events that it is given in place of it

-- the run behind a turn of the application with an index
abbrev pub after_turn : ℕ → Turned → Run → Run
after_turn i t run = record run {
  places = t.release.places;
  queue = run.queue ++ (t.release.events ++ t.left);
  lines = run.lines ++ Ended i t.outcome ∷ out_lines t.release.packets ++ lost_lines (leavers t.left) ++ restart_lines i t.outcome t.app;
  released = run.released ++ t.release.packets;
  lost = run.lost ++ leavers t.left;
  losses = turn_fewer run.losses;
  marks = marked t.given run.events run.places run.marks;
}

abbrev pub had_behind : (List Place → Bool) → Event → ℕ → Turned → Run → Had
had_behind allows event i t run =
    let later = group allows (instead_of t.outcome t.app.0 event) i t.app.0 (after_turn i t run) in
    record later { stops = says_stop t.outcome || later.stops }

unfoldable pub had_at : (List Place → Bool) → Event → ℕ → App → Run → Had
had_at allows event i a run = had_behind allows event i (turn allows run.events run.moment event (next_turn run.losses.turns) run.places a) run

-- ---- Dispatch

-- The applications from an index on that are alive and are given such events have their turns, until one says stop that completed them.
unfoldable pub given_to : (List Place → Bool) → Event → ℕ → List App → Run → List App × Run
given_to allows event i [] run = ([], run)
given_to allows event i (a ∷ more) run =
    if a.alive && is_given a.rule event.kind then
    (let had = had_at allows event i a run in
    if had.stops then (had.app ∷ more, had.run)
    else (let rest = given_to allows event (i + 1) more had.run in (had.app ∷ rest.0, rest.1)))
    else (let rest = given_to allows event (i + 1) more run in (a ∷ rest.0, rest.1))

-- an event takes the next number
unfoldable pub dispatch : (List Place → Bool) → Event → Run → Run
dispatch allows event run =
    let numbered = record run { events = run.events + 1; lines = run.lines ++ Dispatched (run.events + 1) event ∷ [] } in
    let done = given_to allows event 0 numbered.apps numbered in
    record done.1 { apps = done.0 }

-- the oldest event that waits is dispatched, where there is one
abbrev pub next_dispatched : (List Place → Bool) → List Event → Run → Run
next_dispatched allows [] r = r
next_dispatched allows (event ∷ queue) r = dispatch allows event (record r { queue = queue })

abbrev pub dispatch_next : (List Place → Bool) → Run → Run
dispatch_next allows r = next_dispatched allows r.queue r

-- so often
abbrev pub times : ℕ → (Run → Run) → Run → Run
times zero f r = r
times (suc n) f r = times n f (f r)

abbrev pub per_batch : ℕ
per_batch = 1000

-- the events that wait, first in first out, those that join them meanwhile included, up to so many
unfoldable pub settle : (List Place → Bool) → Run → Run
settle allows run = times per_batch (dispatch_next allows) run

-- ---- The whole

-- the switch of the stimulus, where it is lost while the items are handled
abbrev pub lost_at : Bool → WorldStim → Option ℕ
lost_at true (Join d) = Some d
lost_at true (Of d x) = Some d
lost_at lost other = None

-- It leaves, unless it was joining.
abbrev pub left_at : WorldStim → ℕ → List Place → List Event
left_at (Join d) of ps = []
left_at other of ps = left_of (switch_at of ps)

-- Where the switch is lost its messages make no events, and it goes out.
abbrev pub happen_to : Option ℕ → WorldStim → List Place → Run → Run
happen_to None x after run = record run { places = after; queue = run.queue ++ events_after x run.moment run.places }
happen_to (Some d) x after run = record run {
  places = with_place d (λ o. None) after;
  queue = run.queue ++ left_at x d after;
  lines = run.lines ++ Lost d ∷ [];
  lost = run.lost ++ d ∷ [];
}

unfoldable pub happen : WorldStim → Run → Run
happen x run =
    let done = happen_to (lost_at (next_flag run.losses.batches) x) x (places_after x run.moment run.places) run in
    record done {
      moment = moment_after x run.moment;
      losses = batch_fewer run.losses;
      marks = run.marks ++ reference_mark None run.places ∷ [];
    }

-- every application is started, in order
unfoldable pub start_all : ℕ → List App → List App × List Line
start_all i [] = ([], [])
start_all i (a ∷ more) =
    let first = started attempts a in
    let rest = start_all (i + 1) more in
    (first.0 ∷ rest.0, map (Started i) first.1 ++ gone_line i first.0.alive ++ rest.1)

abbrev pub at_first : List Declared → List App → Losses → Run
at_first declared apps losses =
    let begun = start_all 0 apps in
    record {
      moment = 0;
      places = map (λ d. record { declared = d; switch = None }) declared;
      queue = [];
      events = 0;
      apps = begun.0;
      lines = begun.1;
      released = [];
      lost = [];
      losses = losses;
      marks = [];
    }

-- what is left behind the last stimulus is dispatched, as far as one batch goes, but where the rounds are spent
abbrev pub settle_last : (List Place → Bool) → (spent : Bool) → Run → Run
settle_last allows true run = run
settle_last allows false run = settle allows run

-- After each stimulus its events are dispatched. Each takes one round of the run; behind the last one what is left takes one more, unless the
-- stimuli took them all.
unfoldable pub reference : (List Place → Bool) → List Declared → List App → Losses → (spent : Bool) → List WorldStim → Run
reference allows declared apps losses spent stimuli = settle_last allows spent (fold (λ run x. settle allows (happen x run)) (at_first declared apps losses) stimuli)

-- ---- The end: a switch that is lost when it is asked for its rows goes out, and makes no event

abbrev pub is_last_lost : Run → Place → Bool
is_last_lost r p = list_any (λ d. d == p.declared.dpid) r.losses.last

abbrev pub at_end : Run → Run
at_end r = record r {
  places = map (λ p. if is_last_lost r p then out p else p) r.places;
  lost = r.lost ++ r.losses.last;
}
