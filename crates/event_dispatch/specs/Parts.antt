-- What each part of a whole run leaves: of the world and of the sink however it ended; and one record where it was done, and one where a fault
-- ended it. All of this is our own.
use Rattle.std.specs.Prelude.{◌≡◌, ℕ, ◌+◌, ◌≤◌, Bool, List, [], ◌∷◌, ◌++◌, length, Option, Result, IfErr, OnOk, OnErr}
use Rattle.lego_io.specs.Count.{NeverFell}
use Rattle.flow_table.specs.View.{TableView}
use Rattle.crash_policy.specs.Policies.{AppValue}
use Rattle.outside.specs.declared.step.WorldStep.TheVariants.{Opened}
use Rattle.outside.specs.Seen.{Seen, Continues}
use Rattle.outside.specs.Calls.{Ends}
use Rattle.net_txn.specs.Net.{NetState}
use Rattle.run_laws.specs.Engine.{Engine}
use Rattle.run_laws.specs.Endings.{ShownLeaves}
use Rattle.event_dispatch.specs.declared.batch.Rest.{Rest}
use Rattle.event_dispatch.specs.declared.engine_core.Core.{Core}
use Rattle.event_dispatch.specs.declared.fault.Fault.{Fault}
use Rattle.event_dispatch.specs.declared.run.Managed.{Managed}
use Rattle.event_dispatch.specs.declared.run.Run.{Run}
use Rattle.event_dispatch.specs.declared.served.Served.{Served}
use Rattle.event_dispatch.specs.Why.{IsWhy, IsReason, served_by}
use Rattle.event_dispatch.specs.Runs.{AreGoing, Going, Waits}
use Rattle.event_dispatch.specs.Shows.{engine_of}
use Rattle.event_dispatch.specs.Plain.{IsPlainEnd, PlainCalm, PlainRun}
use Rattle.event_dispatch.specs.Talking.{KeepsTalking}
use Rattle.event_dispatch.specs.Steady.{NoStray, IsEnded, NoneRuns}
use Rattle.event_dispatch.specs.Numbers.{EndsAscending}
use Rattle.event_dispatch.specs.Passes.{Passes}
use Rattle.event_dispatch.specs.Lines.{WritesLines}
use Rattle.event_dispatch.specs.Cut.{CutRound, CutRounds, CutStart, CutEnd, CutFinishAs, CutAs, ReadsAs}
use Rattle.event_dispatch.specs.Serves.{AllStarted, GoesRound, GoesToEnd, Begins, Finishes, GoesAs, RunsAs, IsUnopened}

-- ---- The world and the sink, however a part ended

-- the world goes on, and no count of the sink falls
pub record PassesOn {Own T E : Type 0} (Tells : Type 0) (number : ℕ) (old new : Seen Own) (net now_net : NetState) (sink_old sink_new : ℕ)
    (result : Result T E) : Type 0 where
  pub passes : Passes Tells number old new net now_net result
  pub never_fell : NeverFell sink_old sink_new

-- and as much is read into as before
pub record PassesRound {Own T E : Type 0} (Tells : Type 0) (number : ℕ) (old new : Seen Own) (net now_net : NetState) (sink_old sink_new : ℕ)
    (buf now_buf : List ℕ) (result : Result T E) : Type 0 where
  pub on : PassesOn Tells number old new net now_net sink_old sink_new result
  pub buffer : length now_buf ≡ length buf

-- of a part that says how a run ended: all that came of switches are messages, where no fault ended it
pub record PassesServed {Own T : Type 0} (Tells : Type 0) (number : ℕ) (old new : Seen Own) (net : NetState) (sink_old sink_new : ℕ)
    (result : Result T Served) : Type 0 where
  pub continues : Continues Tells old new
  pub places : NoStray Tells number old new net
  pub reads : ReadsAs Tells result old new net
  pub numbers : EndsAscending Tells old new net
  pub never_fell : NeverFell sink_old sink_new

-- of a run whose applications were ended at last
pub record PassesEnded {Own T : Type 0} (Tells : Type 0) (number : ℕ) (old new : Seen Own) (net : NetState) (sink_old sink_new : ℕ)
    (result : Result T Served) : Type 0 where
  pub continues : Continues Tells old new
  pub none_runs : NoneRuns Tells number old new net
  pub reads : ReadsAs Tells result old new net
  pub numbers : EndsAscending Tells old new net
  pub never_fell : NeverFell sink_old sink_new

-- ---- The lines that a batch noted

-- they were written; where the sink failed there were some
pub record WritesNoted {T E : Type 0} (contents now_contents : Option (List ℕ)) (sink_old sink_new : ℕ) (c now_c : Core) (result : Result T E) : Type 0 where
  pub lines : WritesLines contents now_contents sink_old sink_new c now_c result
  pub some : OnErr result (c.lines.items ≡ [] → ⊥)

-- ---- The start

-- all applications were started
pub record StartedAll {Own : Type 0} (Tells : Type 0) (old new : Seen Own) (c now_c : Core) (apps now_apps : List Managed) : Type 0 where
  pub going : AreGoing now_c now_apps
  pub waits : Waits c now_c
  pub started : AllStarted Tells old new c now_c apps now_apps

-- and what was noted was written
pub record BeginDone {Own : Type 0} (Tells : Type 0) (contents now_contents : Option (List ℕ)) (old new : Seen Own) (r now_r : Run) : Type 0 where
  pub begins : Begins Tells contents now_contents old new r now_r
  pub going : Going now_r
  pub none : now_r.core.events ≡ 0
  pub number : length now_r.core.store ≡ length r.core.store

pub record BeginFails {Own : Type 0} (Tells : Type 0) (contents now_contents : Option (List ℕ)) (sink_old sink_new : ℕ) (old new : Seen Own) (r : Run)
    (fault : Fault) : Type 0 where
  pub cut : CutStart Tells fault contents now_contents old new (engine_of r)
  pub why : IsReason Tells old new sink_old sink_new fault
  pub plain : IsPlainEnd fault

-- ---- Rounds

-- one was gone
pub record RoundDone {Own : Type 0} (Tells : Type 0) (accepts : List TableView → Bool) (rest : Rest) (contents now_contents : Option (List ℕ))
    (old new : Seen Own) (r now_r : Run) : Type 0 where
  pub round : GoesRound Tells accepts rest contents now_contents old new r now_r
  pub going : Going now_r
  pub number : length now_r.core.store ≡ length r.core.store
  pub events : now_r.core.events ≤ r.core.events + 1000

pub record RoundFails {Own : Type 0} (Tells : Type 0) (accepts : List TableView → Bool) (contents now_contents : Option (List ℕ)) (sink_old sink_new : ℕ)
    (old new : Seen Own) (r : Run) (fault : Fault) : Type 0 where
  pub cut : CutRound Tells accepts fault contents now_contents old new r
  pub why : IsReason Tells old new sink_old sink_new fault
  pub plain : PlainRun Tells accepts old new (engine_of r) (served_by fault)

-- all of them
pub record RoundsDone {Own : Type 0} (Tells : Type 0) (accepts : List TableView → Bool) (most : ℕ) (contents now_contents : Option (List ℕ))
    (old new : Seen Own) (r now_r : Run) : Type 0 where
  pub to_end : GoesToEnd Tells accepts most contents now_contents old new r now_r
  pub going : Going now_r
  pub number : length now_r.core.store ≡ length r.core.store

pub record RoundsFail {Own : Type 0} (Tells : Type 0) (accepts : List TableView → Bool) (contents now_contents : Option (List ℕ)) (sink_old sink_new : ℕ)
    (old new : Seen Own) (r : Run) (fault : Fault) : Type 0 where
  pub cut : CutRounds Tells accepts fault contents now_contents old new r
  pub why : IsReason Tells old new sink_old sink_new fault
  pub plain : PlainRun Tells accepts old new (engine_of r) (served_by fault)

-- ---- The end

-- a fault ended the end of the report
pub record ReportFails {Own : Type 0} (Tells : Type 0) (contents now_contents : Option (List ℕ)) (sink_old sink_new : ℕ) (old new : Seen Own) (r : Run)
    (fault : Fault) : Type 0 where
  pub cut : CutEnd Tells fault contents now_contents old new (engine_of r)
  pub why : IsReason Tells old new sink_old sink_new fault
  pub plain : PlainCalm Tells old new r.core.net (served_by fault)

-- or events were left
pub record FinishFails {Own : Type 0} (Tells : Type 0) (contents now_contents : Option (List ℕ)) (sink_old sink_new : ℕ) (old new : Seen Own) (r : Run)
    (end : Served) : Type 0 where
  pub cut : CutFinishAs Tells end contents now_contents old new (engine_of r)
  pub why : IsWhy Tells old new sink_old sink_new end
  pub plain : PlainCalm Tells old new r.core.net end

pub record FinishesSo {Own : Type 0} (Tells : Type 0) (contents now_contents : Option (List ℕ)) (sink_old sink_new : ℕ) (old new : Seen Own) (r now_r : Run)
    (result : Result (Unit {0}) Served) : Type 0 where
  pub finishes : Finishes Tells result contents now_contents old new r now_r
  pub fails : IfErr result (FinishFails Tells contents now_contents sink_old sink_new old new r)

-- ---- A whole run

-- a fault ended it, or events were left
pub record WholeFails {Own : Type 0} (Tells : Type 0) (accepts : List TableView → Bool) (most : ℕ) (contents now_contents : Option (List ℕ))
    (sink_old sink_new : ℕ) (old new : Seen Own) (e : Engine) (end : Served) : Type 0 where
  pub cut : CutAs Tells accepts most end contents now_contents old new e
  pub why : IsWhy Tells old new sink_old sink_new end
  pub plain : PlainRun Tells accepts old new e end

pub record GoesSo {Own : Type 0} (Tells : Type 0) (accepts : List TableView → Bool) (most : ℕ) (contents now_contents : Option (List ℕ))
    (sink_old sink_new : ℕ) (old new : Seen Own) (r now_r : Run) (result : Result (Unit {0}) Served) : Type 0 where
  pub goes : GoesAs Tells accepts most result contents now_contents old new r now_r
  pub fails : IfErr result (WholeFails Tells accepts most contents now_contents sink_old sink_new old new (engine_of r))

-- of applications of these rules, of which nothing had happened
pub record RunsSo {Own : Type 0} (rules : List AppValue) (Tells : Type 0) (accepts : List TableView → Bool) (most : ℕ)
    (contents now_contents : Option (List ℕ)) (sink_old sink_new : ℕ) (old new : Seen Own) (e : Engine) (result : Result ℕ Served) : Type 0 where
  pub runs : RunsAs rules Tells accepts most result contents now_contents old new
  pub fails : IfErr result (WholeFails Tells accepts most contents now_contents sink_old sink_new old new e)

-- ---- The world is opened at first, and its applications are ended at last

-- it was opened, or it stays shut, and why
pub record Opens {Own T : Type 0} (Tells : Type 0) (old new : Seen Own) (result : Result T Served) : Type 0 where
  pub continues : Continues Tells old new
  pub opened : OnOk result (Tells → new.history ≡ old.history ++ Opened ∷ [])
  pub unopened : IfErr result (IsUnopened Tells old new)
  pub why : IfErr result (IsWhy Tells old new 0 0)

-- one application was ended, if it ran
pub record EndsOne {Own : Type 0} (Tells : Type 0) (app : ℕ) (old new : Seen Own) : Type 0 where
  pub continues : Continues Tells old new
  pub ends : Ends Tells app old new

-- all of them
pub record EndsAll {Own : Type 0} (Tells : Type 0) (apps : ℕ) (old new : Seen Own) : Type 0 where
  pub continues : Continues Tells old new
  pub ended : IsEnded Tells apps old new
  pub leaves : ShownLeaves Tells apps old new
  pub talks : KeepsTalking Tells old new
