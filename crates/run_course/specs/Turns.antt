-- A turn of an application, in the course of a run: it is given an event, its messages are answered, one after the other, and its turn is ended: what it
-- did stays where it is done, and is undone where it failed (OpenFlow 1.0.0, 4.2 Message Handling). All of this is our own.
use Rattle.std.specs.Prelude.{◌≡◌, ◌⊎◌, ℕ, ◌+◌, Bool, true, false, not, ◌&&◌, ◌||◌, List, [], ◌∷◌, ◌++◌, filter_map, Option, Some, None, if◌then◌else◌}
use Rattle.std.specs.Option.{unwrap_or}
use Rattle.std.proofs.Common.{inl, inr}
use Rattle.of_types.specs.declared.journal.Act.TheVariants.{Gave, Gone}
use Rattle.of_match.specs.declared.key.Key.{Key}
use Rattle.of_wire.specs.declared.bodies.FlowMod.{FlowMod as Change}
use Rattle.flow_table.specs.Change.{is_delete, key_in}
use Rattle.app_frames.specs.declared.frame.Event.{Event}
use Rattle.app_frames.specs.declared.frame.EventKind.{EventKind}
use Rattle.crash_policy.specs.Asking.{rule_at}
use Rattle.outside.specs.declared.step.WorldStep.{WorldStep}
use Rattle.outside.specs.declared.step.WorldStep.TheVariants.{Acted}
use Rattle.lego_model.specs.Controller.{event_frame, says_stop, instead_by}
use Rattle.lego_model.specs.Turns.{Outcome, Completed, Failed, next_of}
use Rattle.run_course.specs.Messages.{is_refused}
use Rattle.run_course.specs.Asked.{pieces_of, AreAsked}
use Rattle.run_course.specs.Applications.{Application, listens, Restarts, Follows}
use Rattle.run_course.specs.Moves.{Holding, HoldsStill, Rests, Calls, Notes, Changes, Queries, Loses, TakesBack, OneByOne, EndMove}

-- the application is given the frame, or is gone by then
pub record IsGiven {Own : Type 0} (i : ℕ) (frame : List ℕ) (from to : Holding Own) : Type 0 where
  pub history : (to.seen.history ≡ from.seen.history ++ Acted (Gave i frame) ∷ []) ⊎ (to.seen.history ≡ from.seen.history ++ Acted (Gone i frame) ∷ [])
  pub still : HoldsStill from to

-- ---- What it asks

-- A call for the application; or what becomes of a message that it asked: the host answers, or it is a change or a request of statistics and its
-- switch does, or that is lost.
abbrev pub TalkMove : {Own : Type 0} → ℕ → Option (ℕ × List ℕ) → Holding Own → Holding Own → Type 0
TalkMove i None from to = Calls i from to
TalkMove i (Some asked) from to = Rests from to ⊎ Changes asked from to ⊎ Queries asked from to ⊎ Loses from to

-- such moves one after the other, each with what is held behind it
abbrev pub Talk : {Own : Type 0} → ℕ → List (Option (ℕ × List ℕ) × Holding Own) → Holding Own → Holding Own → Type 0
Talk i [] from to = to ≡ from
Talk i (move ∷ more) from to = TalkMove i move.0 from move.1 × Talk i more move.1 to

-- the messages that were asked, in order
abbrev pub asked_in : {Own : Type 0} → List (Option (ℕ × List ℕ) × Holding Own) → List (ℕ × List ℕ)
asked_in moves = filter_map (λ move. move.0) moves

-- the key of the entry that a change added, with its switch, where it was not refused
abbrev pub added_key : Bool → ℕ → Change → List (ℕ × Key)
added_key refused d m = if refused then [] else if is_delete m then [] else (d, key_in m) ∷ []

abbrev pub added_by : {Own : Type 0} (i : ℕ) (asked : Option (ℕ × List ℕ)) (from to : Holding Own) → TalkMove i asked from to → List (ℕ × Key)
added_by i None from to calls = []
added_by i (Some asked) from to (inl rests) = []
added_by i (Some asked) from to (inr (inl changes)) = added_key (is_refused changes.waited.awaited changes.waited.got) asked.0 changes.change
added_by i (Some asked) from to (inr (inr (inl queries))) = []
added_by i (Some asked) from to (inr (inr (inr loses))) = []

-- the keys of all entries that were added
abbrev pub added_in : {Own : Type 0} (i : ℕ) (moves : List (Option (ℕ × List ℕ) × Holding Own)) (from to : Holding Own) → Talk i moves from to → List (ℕ × Key)
added_in i [] from to talk = []
added_in i (move ∷ more) from to talk = added_by i move.0 from move.1 talk.0 ++ added_in i more move.1 to talk.1

-- ---- How it ends

-- What it did stays: the notices that were held become events, its packets are released, and the checkpoint that it handed over is the kept one.
pub record Stays {Own : Type 0} (handed : Option (List ℕ)) (left : List ℕ) (app now_app : Application) (from to : Holding Own) : Type 0 where
  pub moves : OneByOne EndMove from to
  pub kept : now_app ≡ record app { unread = left; checkpoint = unwrap_or handed app.checkpoint }

-- The entries that it added are taken back; the switches that were lost meanwhile are told; and the application goes by its policy for such events, with
-- the checkpoint that was kept before.
pub record IsUndone {Own : Type 0} (kind : EventKind) (added : List (ℕ × Key)) (i : ℕ) (app now_app : Application) (from to : Holding Own) : Type 0 where
  pub undone : Holding Own
  pub takes_back : TakesBack added from undone
  pub noted : Holding Own
  pub notes : Notes undone noted
  pub follows : Follows (rule_at app.rule kind) i (record app { unread = [] }) now_app noted.seen to.seen
  pub still : HoldsStill noted to

abbrev pub Closes : {Own : Type 0} → EventKind → Outcome → List (ℕ × Key) → ℕ → Application → Application → Holding Own → Holding Own → Type 0
Closes kind (Completed stop handed left) added i app now_app from to = Stays handed left app now_app from to
Closes kind (Failed cause) added i app now_app from to = IsUndone kind added i app now_app from to

-- ---- The whole turn

-- The application is given an event, with a number. The messages that it asks are those that stand in its unread bytes, with those that it gives
-- meanwhile, and behind them its turn ends.
pub record Talks {Own : Type 0} (number : ℕ) (event : Event) (i : ℕ) (unread : List ℕ) (from to : Holding Own) : Type 0 where
  pub moment : ℕ
  pub begun : Holding Own
  pub given : IsGiven i (event_frame number moment event) from begun
  pub talk : List (Option (ℕ × List ℕ) × Holding Own)
  pub talks : Talk i talk begun to
  pub steps : List WorldStep
  pub history : to.seen.history ≡ begun.seen.history ++ steps
  pub outcome : Outcome
  pub asked : AreAsked (asked_in talk) outcome (next_of unread (pieces_of i steps))

-- the keys of all entries that were added in it
abbrev pub keys_added : {Own : Type 0} {number : ℕ} {event : Event} {i : ℕ} {unread : List ℕ} {from to : Holding Own} → Talks number event i unread from to → List (ℕ × Key)
keys_added {i = i} {to = to} t = added_in i t.talk t.begun to t.talks

pub record HasTurn {Own : Type 0} (number : ℕ) (event : Event) (i : ℕ) (app now_app : Application) (from to : Holding Own) : Type 0 where
  pub talked : Holding Own
  pub talks : Talks number event i app.unread from talked
  pub closes : Closes event.kind talks.outcome (keys_added talks) i app now_app talked to

-- ---- What it is given in place of an event at which it failed: its turns at these events are held one after the other, each with the number of the event
-- for which they stand, up to the first that fails. Between them nothing is released, and nothing undone.

-- how it stands between two of them: with the checkpoint that was handed over last, or was kept before; the keys of all entries that were added;
-- whether a turn said stop, and whether one failed
pub record Turning : Type 0 where
  pub app : Application
  pub keys : List (ℕ × Key)
  pub stops : Bool
  pub fails : Bool

abbrev pub turning_at : Application → Turning
turning_at app = record { app = app; keys = []; stops = false; fails = false }

-- behind a turn that ended so
abbrev pub behind_one : Outcome → List (ℕ × Key) → Turning → Turning
behind_one (Completed stop handed left) keys t = record { app = record t.app { unread = left; checkpoint = unwrap_or handed t.app.checkpoint }; keys = t.keys ++ keys; stops = t.stops || stop; fails = false }
behind_one (Failed cause) keys t = record { app = record t.app { unread = [] }; keys = t.keys ++ keys; stops = t.stops; fails = true }

pub record TurnInstead {Own : Type 0} (number : ℕ) (event : Event) (i : ℕ) (t : Turning) (from : Holding Own) : Type 0 where
  pub mid : Holding Own
  pub talks : Talks number event i t.app.unread from mid

abbrev pub turning_behind : {Own : Type 0} {number : ℕ} {event : Event} {i : ℕ} {t : Turning} {from : Holding Own} → TurnInstead number event i t from → Turning
turning_behind {t = t} one = behind_one one.talks.outcome (keys_added one.talks) t

-- the others have theirs, unless it failed
abbrev pub unless_failed : Outcome → Type 0 → Type 0 → Type 0
unless_failed (Completed stop handed left) Over Goes = Goes
unless_failed (Failed cause) Over Goes = Over

abbrev pub TurnsInstead : {Own : Type 0} → ℕ → ℕ → List Event → Turning → Turning → Holding Own → Holding Own → Type 0
TurnsInstead number i [] t now_t from to = (to ≡ from) × (now_t ≡ t)
TurnsInstead number i (event ∷ events) t now_t from to =
    (one : TurnInstead number event i t from)
    × unless_failed one.talks.outcome ((to ≡ one.mid) × (now_t ≡ turning_behind one)) (TurnsInstead number i events (turning_behind one) now_t one.mid to)

-- Where all were done, what they did stays: the notices that were held become events, the packets are released, once, and the checkpoint that was handed
-- over last is the kept one.
pub record GroupStays {Own : Type 0} (t : Turning) (now_app : Application) (from to : Holding Own) : Type 0 where
  pub moves : OneByOne EndMove from to
  pub kept : now_app ≡ t.app

-- Where one failed, the entries that any of them added are taken back; the switches that were lost meanwhile are told; and the application is started
-- again, with the checkpoint that was kept before all of them.
pub record GroupIsUndone {Own : Type 0} (t : Turning) (i : ℕ) (app now_app : Application) (from to : Holding Own) : Type 0 where
  pub undone : Holding Own
  pub takes_back : TakesBack t.keys from undone
  pub noted : Holding Own
  pub notes : Notes undone noted
  pub restarts : Restarts i (record app { unread = [] }) now_app noted.seen to.seen
  pub still : HoldsStill noted to

abbrev pub GroupCloses : {Own : Type 0} → Bool → Turning → ℕ → Application → Application → Holding Own → Holding Own → Type 0
GroupCloses false t i app now_app from to = GroupStays t now_app from to
GroupCloses true t i app now_app from to = GroupIsUndone t i app now_app from to

pub record HasGroup {Own : Type 0} (number i : ℕ) (events : List Event) (app now_app : Application) (stops : Bool) (from to : Holding Own) : Type 0 where
  pub talked : Holding Own
  pub turning : Turning
  pub turns : TurnsInstead number i events (turning_at app) turning from talked
  pub closes : GroupCloses turning.fails turning i app now_app talked to
  pub stops_is : stops ≡ (not turning.fails && turning.stops)

-- where there is nothing to give, nothing is done
abbrev pub HasInstead : {Own : Type 0} → ℕ → ℕ → List Event → Application → Application → Bool → Holding Own → Holding Own → Type 0
HasInstead number i [] app now_app stops from to = (to ≡ from) × (now_app ≡ app) × (stops ≡ false)
HasInstead number i (event ∷ events) app now_app stops from to = HasGroup number i (event ∷ events) app now_app stops from to

-- what an application is given in place of an event behind a turn at it that ended so
abbrev pub instead_in : Outcome → Application → Event → List Event
instead_in (Completed stop handed left) app event = []
instead_in (Failed cause) app event = if app.alive then instead_by (rule_at app.rule event.kind) event else []

-- It has its turn at an event, and then those at what it is given in place of it.
pub record HasEvent {Own : Type 0} (number : ℕ) (event : Event) (i : ℕ) (app now_app : Application) (stops : Bool) (from to : Holding Own) : Type 0 where
  pub mid : Holding Own
  pub mid_app : Application
  pub turn : HasTurn number event i app mid_app from mid
  pub stopped : Bool
  pub instead : HasInstead number i (instead_in turn.talks.outcome mid_app event) mid_app now_app stopped mid to
  pub stops_is : stops ≡ (says_stop turn.talks.outcome || stopped)

-- ---- One application after the other

-- one that listens has its turns, and may stop the event there; another one is passed over
abbrev pub IsOffered : {Own : Type 0} → ℕ → Event → ℕ → Bool → Application × Application → Bool → Holding Own → Holding Own → Type 0
IsOffered number event i true apps stops from to = HasEvent number event i apps.0 apps.1 stops from to
IsOffered number event i false apps stops from to = (to ≡ from) × (apps.1 ≡ apps.0) × (stops ≡ false)

pub record OffersOne {Own : Type 0} (number : ℕ) (event : Event) (i : ℕ) (app : Application) (now_apps : List Application) (from : Holding Own) : Type 0 where
  pub mid : Holding Own
  pub stops : Bool
  pub now_app : Application
  pub later : List Application
  pub apps_are : now_apps ≡ now_app ∷ later
  pub offered : IsOffered number event i (listens event.kind app) (app, now_app) stops from mid

-- where the event was stopped, the others are given nothing
abbrev pub unless_stopped : Bool → Type 0 → Type 0 → Type 0
unless_stopped true Out Goes = Out
unless_stopped false Out Goes = Goes

-- The applications from an index on, in the order of the policy: each that listens to such events has its turn, until one says stop.
abbrev pub Offers : {Own : Type 0} → ℕ → Event → ℕ → List Application → List Application → Holding Own → Holding Own → Type 0
Offers number event i [] now_apps from to = (now_apps ≡ []) × (to ≡ from)
Offers number event i (app ∷ more) now_apps from to =
    (one : OffersOne number event i app now_apps from)
    × unless_stopped one.stops ((one.later ≡ more) × (to ≡ one.mid)) (Offers number event (i + 1) more one.later one.mid to)
