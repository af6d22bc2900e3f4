-- What the engine does, in the words of what is seen and kept: the facts of `run_laws`, each with its text behind what waited to be
-- written, and what was written where it was. All of this is our own.
use Rattle.std.specs.Prelude.{◌≡◌, ℕ, ◌+◌, ◌<◌, ◌⊎◌, Bool, false, List, [], ◌∷◌, ◌++◌, length, map, Option, Result, Ok, Err}
use Rattle.std.specs.Io.KnownBytes.{append_known}
use Rattle.flow_table.specs.View.{TableView}
use Rattle.app_frames.specs.declared.frame.Event.{Event}
use Rattle.app_frames.specs.declared.frame.EventKind.{EventKind}
use Rattle.app_frames.specs.declared.cause.Cause.{Cause}
use Rattle.crash_policy.specs.Policies.{AppValue, app_value}
use Rattle.crash_policy.specs.Asking.{rule_at}
use Rattle.lego_model.specs.Places.{Place}
use Rattle.lego_model.specs.Controller.{event_frame, settle}
use Rattle.lego_model.specs.RunReport.{turn_line}
use Rattle.lego_model.specs.declared.turn.TurnWord.TheVariants as words
use Rattle.outside.specs.declared.step.WorldStep.TheVariants.{NotOpened}
use Rattle.outside.specs.Seen.{Seen, Continues}
use Rattle.outside.specs.State.{state}
use Rattle.outside.specs.Conforming.{Conforming}
use Rattle.net_txn.specs.Net.{NetState}
use Rattle.net_txn.specs.Undos.{Undoes}
use Rattle.net_txn.specs.Releases.{Commits}
use Rattle.app_visor.specs.declared.state.TurnEnd.{TurnEnd}
use Rattle.app_visor.specs.declared.state.TurnEnd.TheVariants as ends
use Rattle.app_visor.specs.Turns.{Turns}
use Rattle.batch_laws.specs.Knowledge.{lost_text}
use Rattle.run_laws.specs.Engine.{Engine}
use Rattle.lego_model.specs.History.{stimuli_in}
use Rattle.run_laws.specs.Readings.{JudgesAlike}
use Rattle.run_laws.specs.Facts.{turn_word, out_text, all_told, StartsAgain, GoesAway, Follows, TakesTurn, is_taking, says_stop, Between, IsOffered, Offers, Dispatches, StartsFrom, StartsAll}
use Rattle.run_laws.specs.Moves.{AtRest, Shown, ShownIdle, ShownOver, ShownRounds, ShownToEnd}
use Rattle.lego_model.specs.ReferenceRun.{dispatch_next, times}
use Rattle.run_laws.specs.First.{engine_at_first}
use Rattle.run_course.specs.Messages.{GotNone}
use Rattle.run_laws.specs.Course.{Stage, PartByPart, RunsOn, WritesPart, first_stage}
use Rattle.run_laws.specs.Endings.{ShownStart, ShownFinish, RanOut, RanFull}
use Rattle.lego_model.specs.WholeRun.{TookFirst, is_spent, EndsAlike, LeavesAlike}
use Rattle.run_laws.specs.Cut.{CutAlike, CutWithLines, CutWriting}
use Rattle.event_dispatch.specs.declared.batch.Rest.{Rest}
use Rattle.event_dispatch.specs.declared.batch.Rest.TheVariants as rests
use Rattle.event_dispatch.specs.declared.closing.Closing.{Closing}
use Rattle.event_dispatch.specs.declared.closing.Closing.TheVariants as closings
use Rattle.event_dispatch.specs.declared.engine_core.Core.{Core}
use Rattle.event_dispatch.specs.declared.run.Managed.{Managed}
use Rattle.event_dispatch.specs.declared.run.Run.{Run}
use Rattle.event_dispatch.specs.declared.served.Served.{Served}
use Rattle.event_dispatch.specs.declared.served.Served.TheVariants as served
use Rattle.event_dispatch.specs.Shows.{application_of, focus_of, engine_of, stage_of, name_of, Stays}
use Rattle.lego_model.specs.CutRun.{NothingDone}

-- text was noted behind what waits to be written
abbrev pub Notes : List ℕ → Core → Core → Type 0
Notes text c now_c = now_c.lines.items ≡ c.lines.items ++ text

-- ---- An application

-- it was started, in some attempts, and how they ended was noted
pub record Starts {Own : Type 0} (Tells : Type 0) (old new : Seen Own) (c now_c : Core) (m now_m : Managed) : Type 0 where
  pub text : List ℕ
  pub starts : StartsAgain Tells text old new (focus_of c m) (focus_of now_c now_m)
  pub notes : Notes text c now_c

-- it is ended, and gone
pub record Leaves {Own : Type 0} (Tells : Type 0) (old new : Seen Own) (c now_c : Core) (m now_m : Managed) : Type 0 where
  pub text : List ℕ
  pub goes : GoesAway Tells text old new (focus_of c m) (focus_of now_c now_m)
  pub notes : Notes text c now_c

-- behind a turn that failed at an event of this kind it goes by its policy
pub record GoesOn {Own : Type 0} (Tells : Type 0) (kind : EventKind) (old new : Seen Own) (c now_c : Core) (m now_m : Managed) : Type 0 where
  pub text : List ℕ
  pub follows : Follows Tells (rule_at (app_value m.rule.now) kind) text old new (focus_of c m) (focus_of now_c now_m)
  pub notes : Notes text c now_c

-- how a turn ended that was closed so
abbrev pub end_of : Closing → TurnEnd
end_of (closings.Done stop out) = ends.Done stop
end_of (closings.Failed cause) = ends.Failed cause

-- a turn was played, and what it did stays, with its packets released, or is undone
abbrev pub IsPlayed : {Own : Type 0} → Type 0 → Closing → ℕ → Seen Own → Seen Own → NetState → NetState → List Event → List Event → Type 0
IsPlayed Tells (closings.Done stop out) start mid new mid_net now_net queue now_queue = Commits Tells start mid new mid_net now_net queue now_queue (Ok out.items)
IsPlayed Tells (closings.Failed cause) start mid new mid_net now_net queue now_queue = Undoes Tells start mid new mid_net now_net (Ok tt) × (now_queue ≡ queue)

pub record PlaysTurn {Own : Type 0} (Tells : Type 0) (accepts : List TableView → Bool) (app budget number : ℕ) (event : Event) (closing : Closing) (old new : Seen Own) (net now_net : NetState) (queue now_queue : List Event) (rest unread : List ℕ) : Type 0 where
  pub mid : Seen Own
  pub mid_net : NetState
  pub turns : Turns Tells accepts app budget rest (event_frame number net.moment event) old mid net mid_net (end_of closing) unread
  pub played : IsPlayed Tells closing (length net.log) mid new mid_net now_net queue now_queue

-- the turn was counted, and how it ended was noted, with the packets that were released and the switches that were lost
pub record IsCounted {Own : Type 0} (stop : Bool) (out : List (ℕ × ℕ)) (old new : Seen Own) (c now_c : Core) (m now_m : Managed) : Type 0 where
  pub seen : new ≡ old
  pub engine : focus_of now_c now_m ≡ all_told c.net c.queue (record (focus_of c m) { done = m.done + 1 })
  pub notes : Notes (turn_line (name_of m) (turn_word (ends.Done stop)) ++ (out_text out ++ lost_text c.net.left)) c now_c

-- and so it was where it failed, and the application goes by its policy
pub record IsFollowed {Own : Type 0} (Tells : Type 0) (kind : EventKind) (cause : Cause) (old new : Seen Own) (c now_c : Core) (m now_m : Managed) : Type 0 where
  pub text : List ℕ
  pub follows : Follows Tells (rule_at (app_value m.rule.now) kind) text old new (all_told c.net c.queue (record (focus_of c m) { failed = m.failed + 1 })) (focus_of now_c now_m)
  pub notes : Notes (turn_line (name_of m) (words.Failed cause) ++ (lost_text c.net.left ++ text)) c now_c

abbrev pub Closes : {Own : Type 0} → Type 0 → EventKind → Closing → Seen Own → Seen Own → Core → Core → Managed → Managed → Type 0
Closes Tells kind (closings.Done stop out) old new c now_c m now_m = IsCounted stop out.items old new c now_c m now_m
Closes Tells kind (closings.Failed cause) old new c now_c m now_m = IsFollowed Tells kind cause old new c now_c m now_m

-- it had its turn, and says whether the event goes no further
pub record TurnNoted {Own : Type 0} (Tells : Type 0) (accepts : List TableView → Bool) (event : Event) (stops : Bool) (old new : Seen Own) (c now_c : Core) (m now_m : Managed) : Type 0 where
  pub text : List ℕ
  pub takes : TakesTurn Tells accepts event text old new (focus_of c m) (focus_of now_c now_m)
  pub stops_is : stops ≡ says_stop takes.end
  pub notes : Notes text c now_c

-- how all stands between two applications
abbrev pub stand : {Own : Type 0} → Seen Own → Core → Between Own
stand seen c = record { seen = seen; net = c.net; queue = c.queue }

-- it had its turn, or was passed over
pub record OfferNoted {Own : Type 0} (Tells : Type 0) (accepts : List TableView → Bool) (event : Event) (stops : Bool) (old new : Seen Own) (c now_c : Core) (m now_m : Managed) : Type 0 where
  pub text : List ℕ
  pub offered : IsOffered Tells accepts event c.events m.state.index (is_taking event (application_of c.store m)) stops text (stand old c) (stand new now_c) (application_of c.store m) (application_of now_c.store now_m)
  pub notes : Notes text c now_c

-- so it was with all of them, in order, up to one that stopped the event
pub record AllOffered {Own : Type 0} (Tells : Type 0) (accepts : List TableView → Bool) (event : Event) (old new : Seen Own) (c now_c : Core) (apps now_apps : List Managed) : Type 0 where
  pub text : List ℕ
  pub stopped : Bool
  pub offers : Offers Tells accepts event c.events 0 (map (application_of c.store) apps) text (stand old c) (stand new now_c) (map (application_of now_c.store) now_apps) stopped
  pub notes : Notes text c now_c

-- an event was dispatched
pub record IsDispatched {Own : Type 0} (Tells : Type 0) (accepts : List TableView → Bool) (event : Event) (old new : Seen Own) (r now_r : Run) : Type 0 where
  pub text : List ℕ
  pub dispatches : Dispatches Tells accepts event text old new (engine_of r) (engine_of now_r)
  pub notes : Notes text r.core now_r.core

-- ---- Events that wait, where no line waits to be written

-- the text that was written, and then none waits
pub record Writes (text : List ℕ) (contents now_contents : Option (List ℕ)) (now_c : Core) : Type 0 where
  pub written : now_contents ≡ append_known contents text
  pub none_waits : now_c.lines.items ≡ []

-- The oldest event was dispatched and its lines written, or there was none and nothing was done.
pub record DispatchesOldest {Own : Type 0} (Tells : Type 0) (accepts : List TableView → Bool) (found : Bool) (contents now_contents : Option (List ℕ)) (old new : Seen Own) (r now_r : Run) : Type 0 where
  pub text : List ℕ
  pub shown : Shown Tells accepts [] dispatch_next text old new (engine_of r) (engine_of now_r)
  pub writes : Writes text contents now_contents now_r.core
  pub none : found ≡ false → now_r.core.queue ≡ []
  -- In every world: it was given to the applications that have a turn at it.
  pub course : PartByPart Tells accepts (stage_of old contents r) (stage_of new now_contents now_r)

-- so many times
pub record DispatchesSome {Own : Type 0} (Tells : Type 0) (accepts : List TableView → Bool) (n : ℕ) (contents now_contents : Option (List ℕ)) (old new : Seen Own) (r now_r : Run) : Type 0 where
  pub text : List ℕ
  pub shown : Shown Tells accepts [] (λ allows q. times n (dispatch_next allows) q) text old new (engine_of r) (engine_of now_r)
  pub writes : Writes text contents now_contents now_r.core
  pub course : PartByPart Tells accepts (stage_of old contents r) (stage_of new now_contents now_r)

-- up to 1,000 of them
pub record DispatchesWaiting {Own : Type 0} (Tells : Type 0) (accepts : List TableView → Bool) (contents now_contents : Option (List ℕ)) (old new : Seen Own) (r now_r : Run) : Type 0 where
  pub text : List ℕ
  pub shown : Shown Tells accepts [] settle text old new (engine_of r) (engine_of now_r)
  pub writes : Writes text contents now_contents now_r.core
  pub course : PartByPart Tells accepts (stage_of old contents r) (stage_of new now_contents now_r)

-- ---- Rounds

-- the last batch, that has no stimulus, since none is to come, and notes nothing
pub record IsLast {Own : Type 0} (Tells : Type 0) (text : List ℕ) (old new : Seen Own) (e now_e : Engine) : Type 0 where
  pub over : ShownOver Tells text old new e now_e
  pub none_noted : Tells → Conforming new → AtRest old e → text ≡ []
  pub none_to_come : Tells → Conforming new → AtRest old e → (state old).to_come ≡ []

-- a batch: one stimulus with its items, or the last one; and what was noted
abbrev pub IsBatch : {Own : Type 0} → Type 0 → Rest → List ℕ → Seen Own → Seen Own → Engine → Engine → Type 0
IsBatch Tells rests.Idle text old new e now_e = ShownIdle Tells text old new e now_e
IsBatch Tells rests.End text old new e now_e = IsLast Tells text old new e now_e

-- a batch, whose lines were written, and then the events that wait
pub record GoesRound {Own : Type 0} (Tells : Type 0) (accepts : List TableView → Bool) (rest : Rest) (contents now_contents : Option (List ℕ)) (old new : Seen Own) (r now_r : Run) : Type 0 where
  pub mid : Seen Own
  pub mid_run : Run
  pub first : Continues Tells old mid
  pub noted : List ℕ
  pub held : Option (List ℕ)
  pub batch : IsBatch Tells rest noted old mid (engine_of r) (engine_of mid_run)
  pub written : held ≡ append_known contents noted
  pub later : Continues Tells mid new
  pub dispatches : DispatchesWaiting Tells accepts held now_contents mid new mid_run now_r
  -- In every world: the messages that were kept came first in it, and then events, oldest first.
  pub course : PartByPart Tells accepts (stage_of old contents r) (stage_of new now_contents now_r)

-- so many rounds
pub record GoesRounds {Own : Type 0} (Tells : Type 0) (accepts : List TableView → Bool) (number : ℕ) (contents now_contents : Option (List ℕ)) (old new : Seen Own) (r now_r : Run) : Type 0 where
  pub text : List ℕ
  pub shown : ShownRounds Tells accepts number text old new (engine_of r) (engine_of now_r)
  pub writes : Writes text contents now_contents now_r.core
  pub course : PartByPart Tells accepts (stage_of old contents r) (stage_of new now_contents now_r)

-- in a world that keeps its word no stimulus is to come, where they are fewer than this number of rounds
pub record NoneToCome {Own : Type 0} (Tells : Type 0) (accepts : List TableView → Bool) (most : ℕ) (old new : Seen Own) (e : Engine) : Type 0 where
  pub none : (allows : List Place → Bool) → Tells → Conforming new → JudgesAlike Own allows accepts → AtRest old e → length (stimuli_in new) < most → (state new).to_come ≡ []

-- all of them, up to this number
pub record GoesToEnd {Own : Type 0} (Tells : Type 0) (accepts : List TableView → Bool) (most : ℕ) (contents now_contents : Option (List ℕ)) (old new : Seen Own) (r now_r : Run) : Type 0 where
  pub text : List ℕ
  pub shown : ShownToEnd Tells accepts most text old new (engine_of r) (engine_of now_r)
  pub none_to_come : NoneToCome Tells accepts most old new (engine_of r)
  pub writes : Writes text contents now_contents now_r.core
  pub course : PartByPart Tells accepts (stage_of old contents r) (stage_of new now_contents now_r)

-- ---- The start, and the end

-- all applications were started, and how their attempts ended was noted
pub record AllStarted {Own : Type 0} (Tells : Type 0) (old new : Seen Own) (c now_c : Core) (apps now_apps : List Managed) : Type 0 where
  pub text : List ℕ
  pub started : StartsFrom Tells 0 (map (application_of c.store) apps) text old new c.net c.queue c.events (map (application_of now_c.store) now_apps)
  pub stays : Stays c now_c
  pub notes : Notes text c now_c

pub record Begins {Own : Type 0} (Tells : Type 0) (contents now_contents : Option (List ℕ)) (old new : Seen Own) (r now_r : Run) : Type 0 where
  pub text : List ℕ
  pub shown : ShownStart Tells text old new (engine_of r) (engine_of now_r)
  pub writes : Writes text contents now_contents now_r.core
  pub all : StartsAll Tells text old new (engine_of r) (engine_of now_r)

pub record EndsReport {Own : Type 0} (Tells : Type 0) (contents now_contents : Option (List ℕ)) (last new : Seen Own) (r now_r : Run) : Type 0 where
  pub finish : ShownFinish Tells contents now_contents last new (engine_of r)
  pub events : now_r.core.events ≡ r.core.events
  pub text : List ℕ
  pub written : now_contents ≡ append_known contents text

-- The end of the report was written, where no event is left; else nothing was done.
abbrev pub Finishes : {Own : Type 0} → Type 0 → Result (Unit {0}) Served → Option (List ℕ) → Option (List ℕ) → Seen Own → Seen Own → Run → Run → Type 0
Finishes Tells (Ok x) contents now_contents last new r now_r = (r.core.queue ≡ []) × EndsReport Tells contents now_contents last new r now_r
Finishes Tells (Err (served.Ended events)) contents now_contents last new r now_r = ⊥
Finishes Tells (Err (served.EventsLeft left)) contents now_contents last new r now_r = (left ≡ length r.core.queue) × (now_contents ≡ contents) × (new ≡ last)
Finishes Tells (Err other) contents now_contents last new r now_r = Unit {0}

-- ---- A whole run of a world that was opened

-- all events were dispatched, so many
pub record RunsOut {Own : Type 0} (Tells : Type 0) (accepts : List TableView → Bool) (most events : ℕ) (contents now_contents : Option (List ℕ)) (old new : Seen Own) (e : Engine) : Type 0 where
  pub last : Engine
  pub out : RanOut Tells accepts most contents now_contents old new e last
  pub number : length last.apps ≡ length e.apps
  pub events_is : events ≡ last.events
  pub none_to_come : NoneToCome Tells accepts most old new e
  pub held : Option (List ℕ)
  pub course : RunsOn Tells accepts (record { seen = old; engine = e; written = contents }) (record { seen = out.last; engine = last; written = held }) new
  pub written : (text : List ℕ) × (now_contents ≡ append_known held text)

-- so many were left
pub record RunsFull {Own : Type 0} (Tells : Type 0) (accepts : List TableView → Bool) (most left : ℕ) (contents now_contents : Option (List ℕ)) (old new : Seen Own) (e : Engine) : Type 0 where
  pub full : RanFull Tells accepts most left contents now_contents old new e
  pub number : length full.now_engine.apps ≡ length e.apps
  pub none_to_come : NoneToCome Tells accepts most old new e
  pub course : RunsOn Tells accepts (record { seen = old; engine = e; written = contents }) (record { seen = full.last; engine = full.now_engine; written = now_contents }) new

abbrev pub GoesAs : {Own : Type 0} → Type 0 → (List TableView → Bool) → ℕ → Result (Unit {0}) Served → Option (List ℕ) → Option (List ℕ) → Seen Own → Seen Own → Run → Run → Type 0
GoesAs Tells accepts most (Ok x) contents now_contents old new r now_r = RunsOut Tells accepts most now_r.core.events contents now_contents old new (engine_of r)
GoesAs Tells accepts most (Err (served.Ended events)) contents now_contents old new r now_r = ⊥
GoesAs Tells accepts most (Err (served.EventsLeft left)) contents now_contents old new r now_r = RunsFull Tells accepts most left contents now_contents old new (engine_of r)
GoesAs Tells accepts most (Err other) contents now_contents old new r now_r = Unit {0}

abbrev pub RunsAs : {Own : Type 0} → List AppValue → Type 0 → (List TableView → Bool) → ℕ → Result ℕ Served → Option (List ℕ) → Option (List ℕ) → Seen Own → Seen Own → Type 0
RunsAs rules Tells accepts most (Ok events) contents now_contents old new = RunsOut Tells accepts most events contents now_contents old new (engine_at_first rules)
RunsAs rules Tells accepts most (Err (served.Ended events)) contents now_contents old new = ⊥
RunsAs rules Tells accepts most (Err (served.EventsLeft left)) contents now_contents old new = RunsFull Tells accepts most left contents now_contents old new (engine_at_first rules)
RunsAs rules Tells accepts most (Err other) contents now_contents old new = Unit {0}

-- why a world is not opened, and what its history tells then
abbrev pub IsUnopened : {Own : Type 0} → Type 0 → Seen Own → Seen Own → Served → Type 0
IsUnopened Tells old new served.Shut = Tells → new.history ≡ old.history ++ NotOpened ∷ []
IsUnopened Tells old new served.NoMemory = Tells → new.history ≡ old.history
IsUnopened Tells old new other = ⊥

-- ---- What a whole run promises

-- All events were dispatched. The stimuli that were taken are the first that the world was given, one for each round, or all of them.
pub record IsWhole {Own : Type 0} (rules : List AppValue) (allows : List Place → Bool) (rounds : ℕ) (seen : Seen Own) (contents now_contents : Option (List ℕ)) (events : ℕ) : Type 0 where
  pub alike : EndsAlike rules allows (is_spent rounds seen) seen contents now_contents events
  pub took_first : TookFirst rounds seen

-- Some were left after the last round.
pub record IsPart {Own : Type 0} (rules : List AppValue) (allows : List Place → Bool) (rounds : ℕ) (seen : Seen Own) (contents now_contents : Option (List ℕ)) (left : ℕ) : Type 0 where
  pub alike : LeavesAlike rules allows (is_spent rounds seen) seen contents now_contents left
  pub took_first : TookFirst rounds seen

-- How a run stands behind its last whole part. At the end of the report no event waits, and as many were given as are said to be; or as many are
-- left as are said to be. Where the sink failed it took a part of what was done last. Behind any other fault nothing more was written.
abbrev pub EndsAt : {Own : Type 0} → Type 0 → (List TableView → Bool) → Served → Option (List ℕ) → Stage Own → Type 0
EndsAt Tells accepts (served.Ended events) contents last = (last.engine.queue ≡ []) × (events ≡ last.engine.events) × (text : List ℕ) × (contents ≡ append_known last.written text)
EndsAt Tells accepts (served.EventsLeft left) contents last = (left ≡ length last.engine.queue) × (contents ≡ last.written)
EndsAt Tells accepts served.WriteFault contents last = WritesPart Tells accepts last contents
EndsAt Tells accepts other contents last = contents ≡ last.written

-- Of any world: the run goes from part to part, in each batch with the messages first that were kept, up to its end or a fault.
pub record GoesItsCourse {Own : Type 0} (rules : List AppValue) (Tells : Type 0) (accepts : List TableView → Bool) (old new : Seen Own) (contents now_contents : Option (List ℕ)) (end : Served) : Type 0 where
  pub opened : Seen Own
  pub first : Continues Tells old opened
  pub opening : Tells → GotNone old.history opened.history
  pub last : Stage Own
  pub runs : RunsOn Tells accepts (first_stage rules opened contents) last new
  pub ends : EndsAt Tells accepts end now_contents last

-- Of a world that tells, on which no call was made before: where a fault ends the run, it is the reference controller's up to a point, if
-- the world kept its word as far as there, and so is what was written. No line is missing of the start and of all events before where what
-- comes next failed, or a switch. Where the sink failed it took a part of the lines of what was done last, behind all those before. Where
-- memory was wanting the lines of the start are there, if a stimulus happened, and those of what was done.
abbrev pub IsCut : {Own : Type 0} → List AppValue → (List Place → Bool) → Seen Own → Option (List ℕ) → Option (List ℕ) → Served → Type 0
IsCut rules allows seen contents now_contents (served.Ended events) = Unit {0}
IsCut rules allows seen contents now_contents (served.EventsLeft left) = Unit {0}
IsCut rules allows seen contents now_contents served.WriteFault = CutWriting rules allows seen contents now_contents
IsCut rules allows seen contents now_contents served.Shut = NothingDone (NotOpened ∷ []) seen contents now_contents
IsCut rules allows seen contents now_contents served.NextFault = CutWithLines rules allows seen contents now_contents
IsCut rules allows seen contents now_contents (served.Txn fault) = CutWithLines rules allows seen contents now_contents
IsCut rules allows seen contents now_contents served.NoMemory = CutAlike rules allows seen contents now_contents ⊎ NothingDone [] seen contents now_contents

-- Of one that keeps its word, too: the run is the reference controller's, whole, and so is what was written.
abbrev pub IsAlike : {Own : Type 0} → List AppValue → (List Place → Bool) → (rounds : ℕ) → Seen Own → Option (List ℕ) → Option (List ℕ) → Served → Type 0
IsAlike rules allows rounds seen contents now_contents (served.Ended events) = IsWhole rules allows rounds seen contents now_contents events
IsAlike rules allows rounds seen contents now_contents (served.EventsLeft left) = IsPart rules allows rounds seen contents now_contents left
IsAlike rules allows rounds seen contents now_contents served.WriteFault = IsCut rules allows seen contents now_contents served.WriteFault
IsAlike rules allows rounds seen contents now_contents served.Shut = IsCut rules allows seen contents now_contents served.Shut
IsAlike rules allows rounds seen contents now_contents served.NextFault = IsCut rules allows seen contents now_contents served.NextFault
IsAlike rules allows rounds seen contents now_contents (served.Txn fault) = IsCut rules allows seen contents now_contents (served.Txn fault)
IsAlike rules allows rounds seen contents now_contents served.NoMemory = IsCut rules allows seen contents now_contents served.NoMemory
