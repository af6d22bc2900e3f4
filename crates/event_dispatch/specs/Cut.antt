-- A run that a fault ends, in the words of what is seen and kept: the parts that were done, and what was written of the one that was not,
-- which goes on with the dialogue with the application and leaves no quiescent point behind it. All of this is our own.
use Rattle.std.specs.Prelude.{◌≡◌, ℕ, ◌+◌, ◌^◌, ◌<◌, ◌≤◌, ◌⊎◌, Bool, true, false, List, [], ◌∷◌, ◌++◌, length, take, drop, map, Option, Result, Ok, Err}
use Rattle.std.specs.List.{list_any}
use Rattle.app_frames.specs.declared.frame.Event.{Event}
use Rattle.lego_io.specs.Sink.{TookPart}
use Rattle.flow_table.specs.View.{TableView}
use Rattle.outside.specs.Seen.{Seen, Continues, journal}
use Rattle.outside.specs.Conforming.{Conforming}
use Rattle.outside.specs.InOrder.{InOrder, BringMessages, MessagesSince}
use Rattle.net_txn.specs.Net.{NetState}
use Rattle.net_txn.specs.Abreast.{Abreast}
use Rattle.run_laws.specs.Cut.{CallsAmong}
use Rattle.switch_laws.specs.Since.{Ready}
use Rattle.lego_model.specs.AtOnce.{AtOnce}
use Rattle.run_course.specs.TurnsLeft.{EventLeft}
use Rattle.batch_laws.specs.Calm.{Calm}
use Rattle.run_laws.specs.Engine.{Engine}
use Rattle.run_laws.specs.Facts.{is_taking, Offers, DispatchesTo, StartsAll}
use Rattle.run_laws.specs.Moves.{IsAtRest, Shown}
use Rattle.lego_model.specs.ReferenceRun.{dispatch_next}
use Rattle.run_laws.specs.Endings.{Leaves as LeavesAsBefore, ShownStart}
use Rattle.run_laws.specs.LastReport.{last_text}
use Rattle.event_dispatch.specs.declared.batch.Rest.{Rest}
use Rattle.event_dispatch.specs.declared.fault.Fault.{Fault}
use Rattle.event_dispatch.specs.declared.fault.Fault.TheVariants as faults
use Rattle.event_dispatch.specs.declared.engine_core.Core.{Core}
use Rattle.event_dispatch.specs.declared.run.Managed.{Managed}
use Rattle.event_dispatch.specs.declared.run.Run.{Run}
use Rattle.event_dispatch.specs.declared.served.Served.{Served}
use Rattle.event_dispatch.specs.declared.served.Served.TheVariants as served
use Rattle.event_dispatch.specs.Why.{served_by}
use Rattle.run_laws.specs.Course.{IsPart, PartByPart}
use Rattle.event_dispatch.specs.Shows.{application_of, engine_with, engine_of, stage_of}
use Rattle.event_dispatch.specs.Talking.{KeepsTalking, GoesOnTalking}
use Rattle.event_dispatch.specs.Steady.{Reads, NoPoint, AtMostThisPoint, OwnPoint, NoneMoves}
use Rattle.event_dispatch.specs.Undone.{IsShort, DispatchLeft}
use Rattle.std.specs.Io.KnownBytes.{append_known}
use Rattle.event_dispatch.specs.Plain.{PlainTurn}
use Rattle.event_dispatch.specs.Serves.{stand, Writes, DispatchesSome, IsBatch, GoesRounds, GoesToEnd, Begins}

-- Nothing was written, and it was not the sink that failed.
abbrev pub IsStill : Fault → Option (List ℕ) → Option (List ℕ) → Type 0
IsStill faults.Write contents now_contents = ⊥
IsStill other contents now_contents = now_contents ≡ contents

-- ---- Events

-- one was dispatched, and the sink took a part of its lines
pub record EventPart {Own : Type 0} (Tells : Type 0) (accepts : List TableView → Bool) (contents now_contents : Option (List ℕ)) (old new : Seen Own) (e : Engine) : Type 0 where
  pub more : List ℕ
  pub now_engine : Engine
  pub shown : Shown Tells accepts [] dispatch_next more old new e now_engine
  pub reads : Reads Tells old new e.net now_engine.net
  pub part : TookPart contents now_contents more
  pub behind : IsPart Tells accepts (record { seen = old; engine = e; written = contents }) (record { seen = new; engine = now_engine; written = append_known contents more })

-- what is wrong with the outside ends the dispatch of an event only where an application has a turn at it
abbrev pub IsOfTurn : Fault → Bool → Type 0
IsOfTurn faults.Next takes = takes ≡ true
IsOfTurn (faults.Txn fault) takes = takes ≡ true
IsOfTurn other takes = Unit {0}

-- a fault ended what one application was to have of an event: it goes on with the dialogue with it, and what it leaves of the tables; or there was
-- no turn, and nothing was done
pub record OfferFails {Own : Type 0} (Tells : Type 0) (fault : Fault) (event : Event) (old new : Seen Own) (c : Core) (m : Managed) : Type 0 where
  pub talks : Tells → IsAtRest old m.state.index (application_of c.store m) → AtOnce m.state.index (journal new.history)
  pub of_turn : IsOfTurn fault (is_taking event (application_of c.store m))
  pub left : Tells → Conforming old → InOrder new → Ready old c.net → IsAtRest old m.state.index (application_of c.store m) → EventLeft m.state.index m.rule.now.budget (IsShort fault) old new
  pub later : Tells → OwnPoint m.state.index old new
  pub plain : PlainTurn Tells old new c.net fault

-- a fault ended the dispatch of an event behind some turns at it: it goes on with the dialogues up to there, and what it leaves of the tables
pub record StopsWithin {Own : Type 0} (Tells : Type 0) (fault : Fault) (old new : Seen Own) (e : Engine) : Type 0 where
  pub talks : GoesOnTalking Tells old new e
  pub left : DispatchLeft Tells (IsShort fault) old new e
  pub here : AtMostThisPoint Tells (length e.apps) old new
  pub plain : PlainTurn Tells old new e.net fault

-- an event was given to so many of the first applications, and then a fault ended it
pub record OffersFail {Own : Type 0} (Tells : Type 0) (accepts : List TableView → Bool) (fault : Fault) (event : Event) (old new : Seen Own) (c : Core) (apps : List Managed) : Type 0 where
  pub number : ℕ
  pub mid : Seen Own
  pub mid_core : Core
  pub mid_apps : List Managed
  pub on : Continues Tells old mid
  pub text : List ℕ
  pub front : List Managed
  pub offers : Offers Tells accepts event c.events 0 (map (application_of c.store) (take number apps)) text (stand old c) (stand mid mid_core) (map (application_of mid_core.store) front) false
  pub apps_are : map (application_of mid_core.store) mid_apps ≡ map (application_of mid_core.store) front ++ map (application_of c.store) (drop number apps)
  pub events_is : mid_core.events ≡ c.events
  pub of_turn : IsOfTurn fault (list_any (λ m. is_taking event (application_of c.store m)) apps)
  pub reads : Reads Tells old mid c.net mid_core.net
  pub later : Continues Tells mid new
  pub within : StopsWithin Tells fault mid new (engine_with mid_core mid_apps)

-- the same of the engine
pub record FailsIn {Own : Type 0} (Tells : Type 0) (accepts : List TableView → Bool) (fault : Fault) (event : Event) (old new : Seen Own) (e : Engine) : Type 0 where
  pub number : ℕ
  pub mid : Seen Own
  pub mid_engine : Engine
  pub on : Continues Tells old mid
  pub given : DispatchesTo Tells accepts event number old mid e mid_engine
  pub of_turn : IsOfTurn fault (list_any (is_taking event) e.apps)
  pub reads : Reads Tells old mid e.net mid_engine.net
  pub later : Continues Tells mid new
  pub within : StopsWithin Tells fault mid new mid_engine

-- so it was with the oldest of the events that wait, if one waits
pub record FailsNext {Own : Type 0} (Tells : Type 0) (accepts : List TableView → Bool) (fault : Fault) (old new : Seen Own) (e : Engine) : Type 0 where
  pub event : Event
  pub queue : List Event
  pub waits : e.queue ≡ event ∷ queue
  pub few : e.events + 1 < 2 ^ 64
  pub fails : FailsIn Tells accepts fault event old new (record e { queue = queue })

-- a fault ended its dispatch, or it was that
abbrev pub CutOne : {Own : Type 0} → Type 0 → (List TableView → Bool) → Fault → Option (List ℕ) → Option (List ℕ) → Seen Own → Seen Own → Engine → Type 0
CutOne Tells accepts faults.Write contents now_contents old new e = EventPart Tells accepts contents now_contents old new e
CutOne Tells accepts other contents now_contents old new e = (now_contents ≡ contents) × FailsNext Tells accepts other old new e

-- so many were settled before it
pub record CutSome {Own : Type 0} (Tells : Type 0) (accepts : List TableView → Bool) (fault : Fault) (contents now_contents : Option (List ℕ)) (old new : Seen Own) (r : Run) : Type 0 where
  pub number : ℕ
  pub mid : Seen Own
  pub mid_run : Run
  pub held : Option (List ℕ)
  pub few : number ≤ 999
  pub on : Continues Tells old mid
  pub some : DispatchesSome Tells accepts number contents held old mid r mid_run
  pub reads : Reads Tells old mid r.core.net mid_run.core.net
  pub later : Continues Tells mid new
  pub one : CutOne Tells accepts fault held now_contents mid new (engine_of mid_run)

-- ---- Rounds

-- a fault ended what came behind a batch
pub record CutBehind {Own : Type 0} (Tells : Type 0) (accepts : List TableView → Bool) (fault : Fault) (contents now_contents : Option (List ℕ)) (old new : Seen Own) (r : Run) : Type 0 where
  pub rest : Rest
  pub mid : Seen Own
  pub mid_run : Run
  pub noted : List ℕ
  pub held : Option (List ℕ)
  pub first : Continues Tells old mid
  pub batch : IsBatch Tells rest noted old mid (engine_of r) (engine_of mid_run)
  pub written : held ≡ append_known contents noted
  pub reads : Reads Tells old mid r.core.net mid_run.core.net
  pub course : PartByPart Tells accepts (stage_of old contents r) (stage_of mid held mid_run)
  pub later : Continues Tells mid new
  pub some : CutSome Tells accepts fault held now_contents mid new mid_run

-- the batch was done, and the sink took a part of its lines
pub record LossPart {Own : Type 0} (Tells : Type 0) (accepts : List TableView → Bool) (contents now_contents : Option (List ℕ)) (old new : Seen Own) (r : Run) : Type 0 where
  pub rest : Rest
  pub noted : List ℕ
  pub now_run : Run
  pub batch : IsBatch Tells rest noted old new (engine_of r) (engine_of now_run)
  pub some : noted ≡ [] → ⊥
  pub reads : Reads Tells old new r.core.net now_run.core.net
  pub part : TookPart contents now_contents noted
  pub behind : IsPart Tells accepts (stage_of old contents r) (stage_of new (append_known contents noted) now_run)

abbrev pub CutNoted : {Own : Type 0} → Type 0 → (List TableView → Bool) → Fault → Option (List ℕ) → Option (List ℕ) → Seen Own → Seen Own → Run → Type 0
CutNoted Tells accepts faults.Write contents now_contents old new r = LossPart Tells accepts contents now_contents old new r
CutNoted Tells accepts other contents now_contents old new r = ⊥

-- it ended the batch, where no quiescent point lies behind, if nothing was kept before it
pub record StopsBatch {Own : Type 0} (Tells : Type 0) (number : ℕ) (old new : Seen Own) (net : NetState) : Type 0 where
  pub here : net.kept ≡ [] → AtMostThisPoint Tells number old new
  pub own : Tells → CallsAmong number old new

-- the one or the other, or the sink failed at what the batch noted
abbrev pub CutRound : {Own : Type 0} → Type 0 → (List TableView → Bool) → Fault → Option (List ℕ) → Option (List ℕ) → Seen Own → Seen Own → Run → Type 0
CutRound Tells accepts fault contents now_contents old new r = (IsStill fault contents now_contents × KeepsTalking Tells old new × StopsBatch Tells (length r.core.store) old new r.core.net) ⊎ CutBehind Tells accepts fault contents now_contents old new r ⊎ CutNoted Tells accepts fault contents now_contents old new r

-- so many rounds were gone before it
pub record CutRounds {Own : Type 0} (Tells : Type 0) (accepts : List TableView → Bool) (fault : Fault) (contents now_contents : Option (List ℕ)) (old new : Seen Own) (r : Run) : Type 0 where
  pub number : ℕ
  pub mid : Seen Own
  pub mid_run : Run
  pub held : Option (List ℕ)
  pub on : Continues Tells old mid
  pub rounds : GoesRounds Tells accepts number contents held old mid r mid_run
  pub reads : Reads Tells old mid r.core.net mid_run.core.net
  pub later : Continues Tells mid new
  pub round : CutRound Tells accepts fault held now_contents mid new mid_run

-- ---- The start, and the end

-- the application was started, and the sink took a part of the lines
pub record StartPart {Own : Type 0} (Tells : Type 0) (contents now_contents : Option (List ℕ)) (old new : Seen Own) (e : Engine) : Type 0 where
  pub more : List ℕ
  pub now_engine : Engine
  pub shown : ShownStart Tells more old new e now_engine
  pub reads : Reads Tells old new e.net now_engine.net
  pub part : TookPart contents now_contents more
  pub all : StartsAll Tells more old new e now_engine

abbrev pub CutStart : {Own : Type 0} → Type 0 → Fault → Option (List ℕ) → Option (List ℕ) → Seen Own → Seen Own → Engine → Type 0
CutStart Tells faults.Write contents now_contents old new e = StartPart Tells contents now_contents old new e
CutStart Tells faults.NoMemory contents now_contents old new e = (now_contents ≡ contents) × KeepsTalking Tells old new × NoPoint Tells (length e.apps) old new
CutStart Tells other contents now_contents old new e = ⊥

-- what is said at the end, where these switches are lost
pub record EndSaid {Own : Type 0} (more : List ℕ) (last new : Seen Own) (e : Engine) : Type 0 where
  pub lost : List ℕ
  pub text_is : more ≡ last_text lost last e
  pub leaves : LeavesAsBefore (length e.apps) lost last new

-- the sink took a part of the lines of the end, for which switches were asked
pub record EndPart {Own : Type 0} (Tells : Type 0) (contents now_contents : Option (List ℕ)) (last new : Seen Own) (e : Engine) : Type 0 where
  pub more : List ℕ
  pub now_net : NetState
  pub shown : Tells → Conforming new → Calm last e.net → EndSaid more last new e
  pub reads : Reads Tells last new e.net now_net
  pub part : TookPart contents now_contents more

abbrev pub CutEnd : {Own : Type 0} → Type 0 → Fault → Option (List ℕ) → Option (List ℕ) → Seen Own → Seen Own → Engine → Type 0
CutEnd Tells faults.Write contents now_contents last new e = EndPart Tells contents now_contents last new e
CutEnd Tells other contents now_contents last new e = (now_contents ≡ contents) × KeepsTalking Tells last new × NoPoint Tells (length e.apps) last new

-- of a report to which no event is left
pub record CutFinish {Own : Type 0} (Tells : Type 0) (end : Served) (contents now_contents : Option (List ℕ)) (last new : Seen Own) (e : Engine) : Type 0 where
  pub fault : Fault
  pub end_is : end ≡ served_by fault
  pub none_left : e.queue ≡ []
  pub ends : CutEnd Tells fault contents now_contents last new e

abbrev pub CutFinishAs : {Own : Type 0} → Type 0 → Served → Option (List ℕ) → Option (List ℕ) → Seen Own → Seen Own → Engine → Type 0
CutFinishAs Tells (served.EventsLeft left) contents now_contents last new e = Unit {0}
CutFinishAs Tells end contents now_contents last new e = CutFinish Tells end contents now_contents last new e

-- ---- A whole run of a world that was opened

-- the application was started, and then rounds were gone
pub record CutGoing {Own : Type 0} (Tells : Type 0) (accepts : List TableView → Bool) (fault : Fault) (contents now_contents : Option (List ℕ)) (old new : Seen Own) (e : Engine) : Type 0 where
  pub text : List ℕ
  pub begun : Seen Own
  pub begun_run : Run
  pub held : Option (List ℕ)
  pub first : Continues Tells old begun
  pub starts : ShownStart Tells text old begun e (engine_of begun_run)
  pub starts_read : Reads Tells old begun e.net begun_run.core.net
  pub writes : Writes text contents held begun_run.core
  pub all : StartsAll Tells text old begun e (engine_of begun_run)
  pub later : Continues Tells begun new
  pub rounds : CutRounds Tells accepts fault held now_contents begun new begun_run

-- or all of them,
pub record WentToEnd {Own : Type 0} (Tells : Type 0) (accepts : List TableView → Bool) (most : ℕ) (contents held last_held : Option (List ℕ)) (old begun last : Seen Own) (r begun_run last_run : Run) : Type 0 where
  pub first : Continues Tells old begun
  pub begins : Begins Tells contents held old begun r begun_run
  pub starts_read : Reads Tells old begun r.core.net begun_run.core.net
  pub on : Continues Tells begun last
  pub rounds : GoesToEnd Tells accepts most held last_held begun last begun_run last_run
  pub rounds_read : Reads Tells begun last begun_run.core.net last_run.core.net

-- and then came the end
pub record CutEnding {Own : Type 0} (Tells : Type 0) (accepts : List TableView → Bool) (most : ℕ) (fault : Fault) (contents now_contents : Option (List ℕ)) (old new : Seen Own) (e : Engine) : Type 0 where
  pub text : List ℕ
  pub begun : Seen Own
  pub begun_run : Run
  pub last : Seen Own
  pub last_run : Run
  pub held : Option (List ℕ)
  pub last_held : Option (List ℕ)
  pub first : Continues Tells old begun
  pub starts : ShownStart Tells text old begun e (engine_of begun_run)
  pub starts_read : Reads Tells old begun e.net begun_run.core.net
  pub writes : Writes text contents held begun_run.core
  pub all : StartsAll Tells text old begun e (engine_of begun_run)
  pub on : Continues Tells begun last
  pub rounds : GoesToEnd Tells accepts most held last_held begun last begun_run last_run
  pub rounds_read : Reads Tells begun last begun_run.core.net last_run.core.net
  pub later : Continues Tells last new
  pub none_left : last_run.core.queue ≡ []
  pub ends : CutEnd Tells fault last_held now_contents last new (engine_of last_run)

abbrev pub CutGoes : {Own : Type 0} → Type 0 → (List TableView → Bool) → ℕ → Fault → Option (List ℕ) → Option (List ℕ) → Seen Own → Seen Own → Engine → Type 0
CutGoes Tells accepts most fault contents now_contents old new e = CutStart Tells fault contents now_contents old new e ⊎ CutGoing Tells accepts fault contents now_contents old new e ⊎ CutEnding Tells accepts most fault contents now_contents old new e

-- what ended the run, and all that came behind it, as the end of the application
pub record CutRun {Own : Type 0} (Tells : Type 0) (accepts : List TableView → Bool) (most : ℕ) (end : Served) (contents now_contents : Option (List ℕ)) (old new : Seen Own) (e : Engine) : Type 0 where
  pub fault : Fault
  pub end_is : end ≡ served_by fault
  pub stop : Seen Own
  pub before : Continues Tells old stop
  pub later : Continues Tells stop new
  pub talks : KeepsTalking Tells stop new
  pub no_point : NoPoint Tells (length e.apps) stop new
  pub none_moves : NoneMoves Tells stop new
  pub goes : CutGoes Tells accepts most fault contents now_contents old stop e

abbrev pub CutAs : {Own : Type 0} → Type 0 → (List TableView → Bool) → ℕ → Served → Option (List ℕ) → Option (List ℕ) → Seen Own → Seen Own → Engine → Type 0
CutAs Tells accepts most (served.EventsLeft left) contents now_contents old new e = Unit {0}
CutAs Tells accepts most end contents now_contents old new e = CutRun Tells accepts most end contents now_contents old new e

-- ---- What came of switches

-- all bytes that came since then are messages, where the host kept up with the switches then
pub record HasRead {Own : Type 0} (Tells : Type 0) (old new : Seen Own) (net : NetState) : Type 0 where
  pub read : Tells → InOrder new → Abreast old net → MessagesSince old new

-- so it is where no fault ended the run
abbrev pub ReadsEnd : {Own : Type 0} → Type 0 → Served → Seen Own → Seen Own → NetState → Type 0
ReadsEnd Tells (served.EventsLeft left) old new net = HasRead Tells old new net
ReadsEnd Tells other old new net = Unit {0}

abbrev pub ReadsAs : {Own T : Type 0} → Type 0 → Result T Served → Seen Own → Seen Own → NetState → Type 0
ReadsAs Tells (Ok x) old new net = HasRead Tells old new net
ReadsAs Tells (Err end) old new net = ReadsEnd Tells end old new net

-- of a whole run: all bytes that ever came are messages, where no fault ended it
abbrev pub IsReadServed : {Own : Type 0} → Seen Own → Served → Type 0
IsReadServed seen (served.Ended events) = BringMessages seen.history
IsReadServed seen (served.EventsLeft left) = BringMessages seen.history
IsReadServed seen other = Unit {0}
