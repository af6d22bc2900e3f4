-- What each part of a batch leaves: however it ended, where it was done, and where it failed. All of this is our own.
use Rattle.std.specs.Prelude.{◌≡◌, ℕ, Bool, true, false, List, [], ◌∷◌, ◌++◌, length, Option, None, Result, Ok, OnOk, IsSome}
use Rattle.of_types.specs.Fields.{IsBytes}
use Rattle.of_wire.specs.declared.message.Message.{Message}
use Rattle.of_wire.specs.Spelling.{message_bytes}
use Rattle.app_frames.specs.declared.frame.EventKind.TheVariants as kinds
use Rattle.outside.specs.declared.item.Item.{Item}
use Rattle.outside.specs.declared.step.WorldStep.{WorldStep}
use Rattle.outside.specs.Seen.{Seen, Continues}
use Rattle.outside.specs.Calls.{IsItemIn, Nexts}
use Rattle.flow_table.specs.View.{TableView}
use Rattle.net_txn.specs.Net.{NetState}
use Rattle.net_txn.specs.LinkSteps.{OnLinks, MakesNoStrayCall, AsksWithoutStrays}
use Rattle.net_txn.specs.Views.{rows_at}
use Rattle.batch_laws.specs.Items.{Departs}
use Rattle.run_laws.specs.Cut.{CallsAmong}
use Rattle.event_dispatch.specs.declared.batch.Rest.{Rest}
use Rattle.event_dispatch.specs.declared.engine_core.Core.{Core}
use Rattle.event_dispatch.specs.declared.fault.Fault.{Fault}
use Rattle.event_dispatch.specs.Runs.{AreRead, Waits}
use Rattle.run_laws.specs.Course.{BatchTaken}
use Rattle.event_dispatch.specs.Serves.{stand}
use Rattle.event_dispatch.specs.Batch.{TakesItem, TakesTold, TakesJoin, TakesKept, NextTaken, BatchShown}
use Rattle.event_dispatch.specs.Why.{IsReason, served_by}
use Rattle.event_dispatch.specs.Talking.{KeepsTalking}
use Rattle.event_dispatch.specs.Steady.{AtMostThisPoint}
use Rattle.event_dispatch.specs.Told.{OnlyMessages, NoStrayAtItem, NextPoint, GoesBegun}
use Rattle.event_dispatch.specs.Plain.{PlainCalm}
use Rattle.lego_model.specs.OwnIds.{IsShortRun, OwnIdsSoFar}
use Rattle.event_dispatch.specs.Numbers.{IdsAscend, AscendsAtItem}
use Rattle.event_dispatch.specs.Passes.{Passes}

-- whether a switch is joined, by the views
pub record IsJoinedBy (d : ℕ) (views : List TableView) (is : Bool) : Type 0 where
  pub joined : is ≡ true → IsSome (rows_at d views)
  pub out : is ≡ false → rows_at d views ≡ None

-- ---- However it ended

-- links of switches alone were used
pub record PassesOnLinks {Own T E : Type 0} (Tells : Type 0) (number : ℕ) (old new : Seen Own) (net now_net : NetState) (result : Result T E) : Type 0 where
  pub passes : Passes Tells number old new net now_net result
  pub talks : KeepsTalking Tells old new
  pub links : OnLinks Tells old new

-- so many parts of a loop
abbrev pub OnLinksSoFar : {Own : Type 0} → Type 0 → ℕ → Seen Own → Seen Own → NetState → NetState → Type 0
OnLinksSoFar Tells number old new net now_net = PassesOnLinks {T = Unit {0}} {E = Unit {0}} Tells number old new net now_net (Ok tt)

-- of an item that was told and is handled
pub record UsesLinksAt {Own T E : Type 0} (Tells : Type 0) (number : ℕ) (step : WorldStep) (old new : Seen Own) (net now_net : NetState) (result : Result T E) : Type 0 where
  pub numbers : AscendsAtItem Tells step old new net now_net result
  pub continues : Continues Tells old new
  pub talks : KeepsTalking Tells old new
  pub links : OnLinks Tells old new
  -- Where the item was told to a host that kept up with its switches, no call of a link is a stray one.
  pub places : NoStrayAtItem Tells number step old new net

-- of a switch that joins
pub record UsesLinksOf {Own T E : Type 0} (Tells : Type 0) (d : ℕ) (old new : Seen Own) (net now_net : NetState) (result : Result T E) : Type 0 where
  pub numbers : Tells → IsShortRun new → OwnIdsSoFar 0 old net.xid → IdsAscend result new now_net.xid
  pub continues : Continues Tells old new
  pub talks : KeepsTalking Tells old new
  pub links : OnLinks Tells old new
  pub places : AsksWithoutStrays Tells d old new

-- the outside was asked what comes next
pub record AsksNext {Own : Type 0} (Tells : Type 0) (old new : Seen Own) (buf now_buf : List ℕ) : Type 0 where
  pub continues : Continues Tells old new
  pub talks : KeepsTalking Tells old new
  pub no_point : (number : ℕ) → NextPoint Tells number old new
  pub places : Tells → MakesNoStrayCall old new
  -- no message is sent
  pub ids : (xid : ℕ) → Tells → OwnIdsSoFar 0 old xid → OwnIdsSoFar 0 new xid
  pub buffer : length now_buf ≡ length buf
  pub bytes : IsBytes now_buf

-- and what was told is handled
pub record PassesNext {Own T E : Type 0} (Tells : Type 0) (number : ℕ) (old new : Seen Own) (net now_net : NetState) (buf now_buf : List ℕ)
    (result : Result T E) : Type 0 where
  pub passes : Passes Tells number old new net now_net result
  pub talks : KeepsTalking Tells old new
  -- One stimulus is begun at most, before all else.
  pub no_point : NextPoint Tells number old new
  pub buffer : length now_buf ≡ length buf

-- ---- Where it was done

pub record NextDone {Own : Type 0} (Tells : Type 0) (told : Item) (buf : List ℕ) (old new : Seen Own) : Type 0 where
  pub item : IsItemIn Tells told buf
  pub nexts : Nexts Tells old new (Ok told) buf

pub record ItemDone {Own : Type 0} (Tells : Type 0) (step : WorldStep) (old new : Seen Own) (run now_run : Core) : Type 0 where
  pub waits : Waits run now_run
  pub messages : OnlyMessages Tells old new
  pub read : AreRead run.net.kept → AreRead now_run.net.kept
  pub takes : TakesItem Tells step old new run now_run

pub record ToldDone {Own : Type 0} (Tells : Type 0) (step : WorldStep) (old new : Seen Own) (run now_run : Core) : Type 0 where
  pub waits : Waits run now_run
  pub messages : OnlyMessages Tells old new
  pub read : AreRead run.net.kept → AreRead now_run.net.kept
  pub takes : TakesTold Tells step old new run now_run

pub record TakeOutDone (d : ℕ) (run now_run : Core) : Type 0 where
  pub waits : Waits run now_run
  pub xid : now_run.net.xid ≡ run.net.xid
  pub read : AreRead run.net.kept → AreRead now_run.net.kept
  pub departs : Departs d run.net now_run.net run.queue now_run.queue

pub record JoinDone {Own : Type 0} (Tells : Type 0) (d : ℕ) (m : Message) (old new : Seen Own) (run now_run : Core) : Type 0 where
  pub waits : Waits run now_run
  pub messages : OnlyMessages Tells old new
  pub read : AreRead run.net.kept → AreRead now_run.net.kept
  pub joins : TakesJoin Tells d m old new run now_run

-- the event that a switch joined was appended, or nothing
pub record Announces {T E : Type 0} (d : ℕ) (m : Message) (run now_run : Core) (result : Result T E) : Type 0 where
  pub waits : OnOk result (Waits run now_run)
  pub lines : now_run.lines ≡ run.lines
  pub queue : OnOk result (now_run.queue ≡ run.queue ++ record { kind = kinds.Join; dpid = d; body = message_bytes 0 m } ∷ [])
  pub net : now_run.net ≡ run.net

pub record KeptDone {Own : Type 0} (Tells : Type 0) (left : ℕ) (old new : Seen Own) (run now_run : Core) : Type 0 where
  pub waits : Waits run now_run
  pub lines : now_run.lines.items ≡ run.lines.items
  pub read : AreRead now_run.net.kept
  pub kept : TakesKept Tells left old new run now_run

pub record HandledNext {Own : Type 0} (Tells : Type 0) (rest : Option Rest) (old new : Seen Own) (run now_run : Core) : Type 0 where
  pub waits : Waits run now_run
  -- Where the batch goes on, a stimulus is begun.
  pub begun : GoesBegun Tells rest old new
  pub read : AreRead run.net.kept → AreRead now_run.net.kept
  pub taken : NextTaken Tells rest old new run now_run

pub record BatchDone {Own : Type 0} (Tells : Type 0) (rest : Rest) (old new : Seen Own) (run now_run : Core) : Type 0 where
  pub waits : Waits run now_run
  pub read : AreRead now_run.net.kept
  -- In every world the messages that were kept come first, oldest first, and then what is told, where switches may be lost.
  pub first : BatchTaken Tells (stand old run) (stand new now_run)
  -- Where the world keeps its word and all was calm, one stimulus was begun, and its items were told and taken, or its switch was lost at one.
  pub batch : BatchShown Tells rest old new run now_run

-- ---- Where it failed

-- it has its cause, and where the world keeps its word it is a plain one
pub record Fails (Why Plain : Type 0) : Type 0 where
  pub why : Why
  pub plain : Plain

pub record BatchFails {Own : Type 0} (Tells : Type 0) (number : ℕ) (old new : Seen Own) (net : NetState) (fault : Fault) : Type 0 where
  -- Where all was at rest and nothing was kept, no quiescent point lies behind, and no other application was called.
  pub here : net.kept ≡ [] → AtMostThisPoint Tells number old new
  pub own : Tells → CallsAmong number old new
  pub why : IsReason Tells old new 0 0 fault
  -- Where the world keeps its word and all was calm, a fault is a plain one.
  pub plain : PlainCalm Tells old new net (served_by fault)
