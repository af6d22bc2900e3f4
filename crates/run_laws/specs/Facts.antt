-- What the engine does at one event: the applications that are alive and are given such events have their turns, in order, until one that was
-- done says stop. What a turn changed is kept where it was done, with the checkpoint that it handed over and the packets that it held released,
-- and undone where it failed; then the switches that were lost are told, and behind a turn that failed the application goes by its policy: it is
-- started again at its kept checkpoint, or it is gone. All of this is our own.
use Rattle.std.specs.Prelude.{◌≡◌, ℕ, ◌+◌, ◌&&◌, ◌||◌, Bool, true, false, not, List, [], ◌∷◌, ◌++◌, length, take, drop, Option, Ok, is_some, unwrap_or, if◌then◌else◌}
use Rattle.std.specs.List.{flat_map, list_any}
use Rattle.flow_table.specs.View.{TableView}
use Rattle.app_frames.specs.declared.frame.Event.{Event}
use Rattle.app_frames.specs.declared.frame.EventKind.{EventKind}
use Rattle.app_frames.specs.declared.cause.Cause.{Cause}
use Rattle.app_frames.specs.declared.cause.Tried.{Tried}
use Rattle.crash_policy.specs.declared.policy_file.Policy.{Policy}
use Rattle.crash_policy.specs.declared.policy_file.Policy.TheVariants as policy
use Rattle.crash_policy.specs.Asking.{is_given, rule_at}
use Rattle.crash_policy.specs.Policies.{AppValue}
use Rattle.lego_model.specs.declared.turn.TurnWord.{TurnWord}
use Rattle.lego_model.specs.declared.turn.TurnWord.TheVariants as words
use Rattle.lego_model.specs.Controller.{event_frame, instead_by}
use Rattle.lego_model.specs.RunReport.{event_line, turn_line, instead_line, group_line, out_line, start_line, gone_line}
use Rattle.outside.specs.Seen.{Seen}
use Rattle.outside.specs.Calls.{Ends}
use Rattle.net_txn.specs.Net.{NetState}
use Rattle.net_txn.specs.Undos.{Undoes}
use Rattle.net_txn.specs.Releases.{Commits}
use Rattle.app_visor.specs.declared.state.TurnEnd.{TurnEnd}
use Rattle.app_visor.specs.declared.state.TurnEnd.TheVariants as ends
use Rattle.app_visor.specs.Turns.{handed, Turns}
use Rattle.app_visor.specs.Attempts.{Restarts}
use Rattle.batch_laws.specs.Knowledge.{left_events, lost_text}
use Rattle.app_visor.specs.CallsFor.{CallsFor}
use Rattle.run_laws.specs.Engine.{Application, Engine, Focus, focus}

-- ---- Starting

abbrev pub gone_text : List ℕ → Bool → List ℕ
gone_text name true = []
gone_text name false = gone_line name

-- the lines of the attempts to start the application of a name, and that it is gone where none was ready
abbrev pub starts_text : List ℕ → List Tried → Bool → List ℕ
starts_text name tries back = flat_map (start_line name) tries ++ gone_text name back

-- it was started, in some attempts, with its kept checkpoint
pub record StartsAgain {Own : Type 0} (Tells : Type 0) (text : List ℕ) (old new : Seen Own) (e now_e : Focus) : Type 0 where
  pub found : Option (List ℕ)
  pub tries : List Tried
  pub restarts : Restarts Tells e.index e.kept old new found tries
  pub engine : now_e ≡ record e { alive = is_some found; rest = unwrap_or found [] }
  pub text_is : text ≡ starts_text e.rule.name tries (is_some found)

-- ---- What follows a turn that failed

-- it is ended, and gone
pub record GoesAway {Own : Type 0} (Tells : Type 0) (text : List ℕ) (old new : Seen Own) (e now_e : Focus) : Type 0 where
  pub ends : Ends Tells e.index old new
  pub engine : now_e ≡ record e { alive = false }
  pub text_is : text ≡ gone_line e.rule.name

abbrev pub Follows : {Own : Type 0} → Type 0 → Policy → List ℕ → Seen Own → Seen Own → Focus → Focus → Type 0
Follows Tells policy.None text old new e now_e = GoesAway Tells text old new e now_e
Follows Tells policy.Absolute text old new e now_e = StartsAgain Tells text old new e now_e
Follows Tells policy.Equivalence text old new e now_e = StartsAgain Tells text old new e now_e

-- ---- How a turn was closed

abbrev pub turn_word : TurnEnd → TurnWord
turn_word (ends.Done true) = words.Stop
turn_word (ends.Done false) = words.Done
turn_word (ends.Failed cause) = words.Failed cause

-- the lines of packets that were released, each with its switch and how many bytes it has
abbrev pub out_text : List (ℕ × ℕ) → List ℕ
out_text sent = flat_map (λ p. out_line p.0 p.1) sent

-- The switches that were lost are told, and their Leave events stand behind the events that wait.
abbrev pub all_told : NetState → List Event → Focus → Focus
all_told net queue e = record e { net = record net { left = [] }; queue = queue ++ left_events net.left }

-- What it did stays, the packets that it held are released, with what switches sent then behind the events that wait, and the checkpoint that
-- it handed over is the kept one.
pub record StaysDone {Own : Type 0} (Tells : Type 0) (checkpoint : Option (List ℕ)) (unread : List ℕ) (stop : Bool) (text : List ℕ) (start : ℕ) (mid new : Seen Own) (mid_net : NetState) (e now_e : Focus) : Type 0 where
  pub net : NetState
  pub queue : List Event
  pub sent : List (ℕ × ℕ)
  pub commits : Commits Tells start mid new mid_net net e.queue queue (Ok sent)
  pub engine : now_e ≡ all_told net queue (record e { rest = unread; kept = unwrap_or checkpoint e.kept; done = e.done + 1 })
  pub text_is : text ≡ turn_line e.rule.name (turn_word (ends.Done stop)) ++ (out_text sent ++ lost_text net.left)

-- it was undone, and the application goes by its policy for events of this kind
pub record IsUndone {Own : Type 0} (Tells : Type 0) (kind : EventKind) (cause : Cause) (text : List ℕ) (start : ℕ) (mid new : Seen Own) (mid_net : NetState) (e now_e : Focus) : Type 0 where
  pub undone : Seen Own
  pub undone_net : NetState
  pub undoes : Undoes Tells start mid undone mid_net undone_net (Ok tt)
  pub later_text : List ℕ
  pub follows : Follows Tells (rule_at e.rule kind) later_text undone new (all_told undone_net e.queue (record e { rest = []; failed = e.failed + 1 })) now_e
  pub text_is : text ≡ turn_line e.rule.name (words.Failed cause) ++ (lost_text undone_net.left ++ later_text)

abbrev pub IsClosed : {Own : Type 0} → Type 0 → EventKind → TurnEnd → Option (List ℕ) → List ℕ → List ℕ → ℕ → Seen Own → Seen Own → NetState → Focus → Focus → Type 0
IsClosed Tells kind (ends.Done stop) checkpoint unread text start mid new mid_net e now_e = StaysDone Tells checkpoint unread stop text start mid new mid_net e now_e
IsClosed Tells kind (ends.Failed cause) checkpoint unread text start mid new mid_net e now_e = IsUndone Tells kind cause text start mid new mid_net e now_e

-- ---- A turn, from its event on; it has the number of the event

pub record TakesTurn {Own : Type 0} (Tells : Type 0) (accepts : List TableView → Bool) (event : Event) (text : List ℕ) (old new : Seen Own) (e now_e : Focus) : Type 0 where
  pub mid : Seen Own
  pub mid_net : NetState
  pub end : TurnEnd
  pub unread : List ℕ
  pub turns : Turns Tells accepts e.index e.rule.budget e.rest (event_frame e.events e.net.moment event) old mid e.net mid_net end unread
  pub closed : IsClosed Tells event.kind end (handed turns.outcome) unread text (length e.net.log) mid new mid_net e now_e

-- whether it has one
abbrev pub takes_event : Focus → Event → Bool
takes_event e event = e.alive && is_given e.rule event.kind

-- so it is with an application that the engine keeps
abbrev pub is_taking : Event → Application → Bool
is_taking event a = a.alive && is_given a.rule event.kind

-- whether it stops the event there: it was done, and said so
abbrev pub says_stop : TurnEnd → Bool
says_stop (ends.Done stop) = stop
says_stop (ends.Failed cause) = false

abbrev pub end_fails : TurnEnd → Bool
end_fails (ends.Done stop) = false
end_fails (ends.Failed cause) = true

-- ---- Events in place of one at which the application failed: their turns are held one after the other, in one transaction, up to the first that
-- fails. Where all were done, what they did is kept, with the checkpoint that was handed over last, and the packets that they held are released; where
-- one failed, what all of them did is undone, and the application is started again with the checkpoint of before.

-- how a group stands between two of its turns: what is seen and kept, the bytes that are unread, the checkpoint that was handed over last, or is kept
-- from before, how many turns of the application completed and how many failed, whether a turn said stop, whether one failed, and their lines
pub record Turning (Own : Type 0) : Type 0 where
  pub seen : Seen Own
  pub net : NetState
  pub rest : List ℕ
  pub kept : List ℕ
  pub done : ℕ
  pub failed : ℕ
  pub stops : Bool
  pub fails : Bool
  pub text : List ℕ

abbrev pub turning_at : {Own : Type 0} → Seen Own → Focus → Turning Own
turning_at seen e = record { seen = seen; net = e.net; rest = e.rest; kept = e.kept; done = e.done; failed = e.failed; stops = false; fails = false; text = [] }

-- one turn, in the transaction of all of them; each has the number of the event for which they stand
pub record PlaysOne {Own : Type 0} (Tells : Type 0) (accepts : List TableView → Bool) (app budget number : ℕ) (event : Event) (from : Turning Own) : Type 0 where
  pub mid : Seen Own
  pub mid_net : NetState
  pub end : TurnEnd
  pub unread : List ℕ
  pub turns : Turns Tells accepts app budget from.rest (event_frame number from.net.moment event) from.seen mid from.net mid_net end unread

abbrev pub done_by : TurnEnd → ℕ → ℕ
done_by (ends.Done stop) n = n + 1
done_by (ends.Failed cause) n = n

abbrev pub failed_by : TurnEnd → ℕ → ℕ
failed_by (ends.Done stop) n = n
failed_by (ends.Failed cause) n = n + 1

-- behind a turn that ended so, and handed over this checkpoint
abbrev pub turned : {Own : Type 0} → TurnEnd → Option (List ℕ) → List ℕ → Seen Own → NetState → List ℕ → Turning Own → Turning Own
turned end checkpoint unread seen net line from = record {
  seen = seen;
  net = net;
  rest = unread;
  kept = unwrap_or checkpoint from.kept;
  done = done_by end from.done;
  failed = failed_by end from.failed;
  stops = from.stops || says_stop end;
  fails = end_fails end;
  text = from.text ++ line;
}

-- the others have theirs, unless it failed
abbrev pub unless_failed : TurnEnd → Type 0 → Type 0 → Type 0
unless_failed (ends.Done stop) Over Goes = Goes
unless_failed (ends.Failed cause) Over Goes = Over

abbrev pub line_by : List ℕ → Event → TurnEnd → List ℕ
line_by name event end = instead_line name event.kind event.dpid (turn_word end)

-- behind one turn
abbrev pub behind_one : {Own Tells : Type 0} {accepts : List TableView → Bool} {app budget number : ℕ} {event : Event} {from : Turning Own} → List ℕ → PlaysOne Tells accepts app budget number event from → Turning Own
behind_one {event = event} {from = from} name one = turned one.end (handed one.turns.outcome) one.unread one.mid one.mid_net (line_by name event one.end) from

-- the turns of an application of a name at these events
abbrev pub PlaysAll : {Own : Type 0} → Type 0 → (List TableView → Bool) → (app : ℕ) → List ℕ → (budget number : ℕ) → List Event → Turning Own → Turning Own → Type 0
PlaysAll Tells accepts app name budget number [] from to = to ≡ from
PlaysAll Tells accepts app name budget number (event ∷ events) from to =
    (one : PlaysOne Tells accepts app budget number event from)
    × unless_failed one.end (to ≡ behind_one name one) (PlaysAll Tells accepts app name budget number events (behind_one name one) to)

-- ---- How it is closed

-- what the turns did, so many of them, stays
pub record KeepsGroup {Own : Type 0} (Tells : Type 0) (number : ℕ) (text : List ℕ) (start : ℕ) (new : Seen Own) (t : Turning Own) (e now_e : Focus) : Type 0 where
  pub net : NetState
  pub queue : List Event
  pub sent : List (ℕ × ℕ)
  pub commits : Commits Tells start t.seen new t.net net e.queue queue (Ok sent)
  pub engine : now_e ≡ all_told net queue (record e { rest = t.rest; kept = t.kept; done = e.done + number })
  pub text_is : text ≡ t.text ++ (group_line e.rule.name true ++ (out_text sent ++ lost_text net.left))

-- it was undone, and the application is started again with the checkpoint that was kept before; none of the turns counts as done
pub record UndoesGroup {Own : Type 0} (Tells : Type 0) (text : List ℕ) (start : ℕ) (new : Seen Own) (t : Turning Own) (e now_e : Focus) : Type 0 where
  pub undone : Seen Own
  pub undone_net : NetState
  pub undoes : Undoes Tells start t.seen undone t.net undone_net (Ok tt)
  pub later_text : List ℕ
  pub starts : StartsAgain Tells later_text undone new (all_told undone_net e.queue (record e { rest = []; failed = e.failed + 1 })) now_e
  pub text_is : text ≡ t.text ++ (group_line e.rule.name false ++ (lost_text undone_net.left ++ later_text))

abbrev pub ClosesGroup : {Own : Type 0} → Bool → Type 0 → ℕ → List ℕ → ℕ → Seen Own → Turning Own → Focus → Focus → Type 0
ClosesGroup false Tells number text start new t e now_e = KeepsGroup Tells number text start new t e now_e
ClosesGroup true Tells number text start new t e now_e = UndoesGroup Tells text start new t e now_e

-- ---- The whole

pub record TakesGroup {Own : Type 0} (Tells : Type 0) (accepts : List TableView → Bool) (events : List Event) (text : List ℕ) (old new : Seen Own) (e now_e : Focus) : Type 0 where
  pub turning : Turning Own
  pub plays : PlaysAll Tells accepts e.index e.rule.name e.rule.budget e.events events (turning_at old e) turning
  pub closed : ClosesGroup turning.fails Tells (length events) text (length e.net.log) new turning e now_e

-- the event for which they stand goes no further where all were done and one said so
abbrev pub group_stops : {Own : Type 0} → Turning Own → Bool
group_stops t = not t.fails && t.stops

-- ---- What an application has at an event

-- what it is given in place of the event behind a turn that failed, or did not, where it is alive and its policy says so
abbrev pub instead_if : Bool → Bool → AppValue → Event → List Event
instead_if fails alive rule event = if fails && alive then instead_by (rule_at rule event.kind) event else []

-- it has a group of turns, or nothing is done where there is nothing to give
abbrev pub TakesInstead : {Own : Type 0} → Type 0 → (List TableView → Bool) → List Event → Bool → List ℕ → Seen Own → Seen Own → Focus → Focus → Type 0
TakesInstead Tells accepts [] stops text old new e now_e = (new ≡ old) × (now_e ≡ e) × (stops ≡ false) × (text ≡ [])
TakesInstead Tells accepts (event ∷ events) stops text old new e now_e = (taken : TakesGroup Tells accepts (event ∷ events) text old new e now_e) × (stops ≡ group_stops taken.turning)

-- it has its turn at the event, and then at those that it is given in place of it
pub record TakesEvent {Own : Type 0} (Tells : Type 0) (accepts : List TableView → Bool) (event : Event) (stops : Bool) (text : List ℕ) (old new : Seen Own) (e now_e : Focus) : Type 0 where
  pub mid : Seen Own
  pub mid_e : Focus
  pub front_text : List ℕ
  pub takes : TakesTurn Tells accepts event front_text old mid e mid_e
  pub stopped : Bool
  pub later_text : List ℕ
  pub later : TakesInstead Tells accepts (instead_if (end_fails takes.end) mid_e.alive mid_e.rule event) stopped later_text mid new mid_e now_e
  pub stops_is : stops ≡ (says_stop takes.end || stopped)
  pub text_is : text ≡ front_text ++ later_text

-- ---- One application after the other

-- how all stands between two of them
pub record Between (Own : Type 0) : Type 0 where
  pub seen : Seen Own
  pub net : NetState
  pub queue : List Event

-- one has its turn, and those at what it is given in place of the event, with calls for no other, and stops the event there or does not
pub record HasItsTurn {Own : Type 0} (Tells : Type 0) (accepts : List TableView → Bool) (event : Event) (number i : ℕ) (stops : Bool) (text : List ℕ) (from to : Between Own) (a now_a : Application) : Type 0 where
  pub takes : TakesEvent Tells accepts event stops text from.seen to.seen (focus i a from.net from.queue number) (focus i now_a to.net to.queue number)
  pub own : Tells → CallsFor i from.seen to.seen

-- or is passed over
abbrev pub IsOffered : {Own : Type 0} → Type 0 → (List TableView → Bool) → Event → ℕ → ℕ → Bool → Bool → List ℕ → Between Own → Between Own → Application → Application → Type 0
IsOffered Tells accepts event number i true stops text from to a now_a = HasItsTurn Tells accepts event number i stops text from to a now_a
IsOffered Tells accepts event number i false stops text from to a now_a = (to ≡ from) × (now_a ≡ a) × (stops ≡ false) × (text ≡ [])

-- the first of some, and then the others
pub record OffersOne {Own : Type 0} (Tells : Type 0) (accepts : List TableView → Bool) (event : Event) (number i : ℕ) (a : Application) (text : List ℕ) (from : Between Own) (now_apps : List Application) : Type 0 where
  pub mid : Between Own
  pub now_app : Application
  pub stops : Bool
  pub front_text : List ℕ
  pub later_text : List ℕ
  pub later_apps : List Application
  pub offered : IsOffered Tells accepts event number i (is_taking event a) stops front_text from mid a now_app
  pub apps_is : now_apps ≡ now_app ∷ later_apps
  pub text_is : text ≡ front_text ++ later_text

-- the others are given nothing
abbrev pub AreLeftOut : {Own : Type 0} → List Application → Between Own → Between Own → List ℕ → List Application → Bool → Type 0
AreLeftOut apps from to text now_apps stopped = (to ≡ from) × (text ≡ []) × (now_apps ≡ apps) × (stopped ≡ true)

abbrev pub if_stopped : Bool → Type 0 → Type 0 → Type 0
if_stopped true Stopped Goes = Stopped
if_stopped false Stopped Goes = Goes

-- the applications from an index on; one may have stopped the event there
abbrev pub Offers : {Own : Type 0} → Type 0 → (List TableView → Bool) → Event → ℕ → ℕ → List Application → List ℕ → Between Own → Between Own → List Application → Bool → Type 0
Offers Tells accepts event number i [] text from to now_apps stopped = (to ≡ from) × (text ≡ []) × (now_apps ≡ []) × (stopped ≡ false)
Offers Tells accepts event number i (a ∷ more) text from to now_apps stopped =
    (one : OffersOne Tells accepts event number i a text from now_apps)
    × if_stopped one.stops (AreLeftOut more one.mid to one.later_text one.later_apps stopped) (Offers Tells accepts event number (i + 1) more one.later_text one.mid to one.later_apps stopped)

-- ---- The whole: the event has the next number

abbrev pub between : {Own : Type 0} → Seen Own → Engine → Between Own
between seen e = record { seen = seen; net = e.net; queue = e.queue }

pub record Dispatches {Own : Type 0} (Tells : Type 0) (accepts : List TableView → Bool) (event : Event) (text : List ℕ) (old new : Seen Own) (e now_e : Engine) : Type 0 where
  pub turn_text : List ℕ
  pub stopped : Bool
  pub offers : Offers Tells accepts event (e.events + 1) 0 e.apps turn_text (between old e) (between new now_e) now_e.apps stopped
  pub events_is : now_e.events ≡ e.events + 1
  pub text_is : text ≡ event_line (e.events + 1) event.kind event.dpid ++ turn_text

-- it was given to so many of the first applications, none of which stopped it there
pub record DispatchesTo {Own : Type 0} (Tells : Type 0) (accepts : List TableView → Bool) (event : Event) (n : ℕ) (old new : Seen Own) (e now_e : Engine) : Type 0 where
  pub text : List ℕ
  pub front : List Application
  pub offers : Offers Tells accepts event (e.events + 1) 0 (take n e.apps) text (between old e) (between new now_e) front false
  pub apps_is : now_e.apps ≡ front ++ drop n e.apps
  pub events_is : now_e.events ≡ e.events + 1

-- some application has a turn at the oldest of the events that wait
abbrev pub takes_next : List Application → List Event → Bool
takes_next apps [] = false
takes_next apps (event ∷ queue) = list_any (is_taking event) apps

-- ---- The start, of the applications from an index on

-- one is started, with calls for no other
pub record StartsOne {Own : Type 0} (Tells : Type 0) (i : ℕ) (text : List ℕ) (old new : Seen Own) (net : NetState) (queue : List Event) (events : ℕ) (a now_a : Application) : Type 0 where
  pub starts : StartsAgain Tells text old new (focus i a net queue events) (focus i now_a net queue events)
  pub own : Tells → CallsFor i old new

-- and then the others
pub record StartsThen {Own : Type 0} (Tells : Type 0) (i : ℕ) (text : List ℕ) (old : Seen Own) (net : NetState) (queue : List Event) (events : ℕ) (a : Application) (now_apps : List Application) : Type 0 where
  pub mid : Seen Own
  pub now_app : Application
  pub front_text : List ℕ
  pub later_text : List ℕ
  pub later_apps : List Application
  pub begins : StartsOne Tells i front_text old mid net queue events a now_app
  pub apps_is : now_apps ≡ now_app ∷ later_apps
  pub text_is : text ≡ front_text ++ later_text

abbrev pub StartsFrom : {Own : Type 0} → Type 0 → ℕ → List Application → List ℕ → Seen Own → Seen Own → NetState → List Event → ℕ → List Application → Type 0
StartsFrom Tells i [] text old new net queue events now_apps = (new ≡ old) × (text ≡ []) × (now_apps ≡ [])
StartsFrom Tells i (a ∷ more) text old new net queue events now_apps =
    (one : StartsThen Tells i text old net queue events a now_apps) × StartsFrom Tells (i + 1) more one.later_text one.mid new net queue events one.later_apps

-- all are started
pub record StartsAll {Own : Type 0} (Tells : Type 0) (text : List ℕ) (old new : Seen Own) (e now_e : Engine) : Type 0 where
  pub all : StartsFrom Tells 0 e.apps text old new e.net e.queue e.events now_e.apps
  pub net : now_e.net ≡ e.net
  pub queue : now_e.queue ≡ e.queue
  pub events : now_e.events ≡ e.events
