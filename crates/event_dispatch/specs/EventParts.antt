-- What the parts of the dispatch of events leave, beside what every part leaves: where they were done, and where a fault ended them. All of this
-- is our own.
use Rattle.std.specs.Prelude.{◌≡◌, ◌+◌, ◌≤◌, ℕ, Bool, List, length, Option}
use Rattle.flow_table.specs.View.{TableView}
use Rattle.app_frames.specs.declared.frame.Event.{Event}
use Rattle.outside.specs.Seen.{Seen}
use Rattle.event_dispatch.specs.declared.engine_core.Core.{Core}
use Rattle.event_dispatch.specs.declared.fault.Fault.{Fault}
use Rattle.event_dispatch.specs.declared.run.Managed.{Managed}
use Rattle.event_dispatch.specs.declared.run.Run.{Run}
use Rattle.event_dispatch.specs.Runs.{CoreGoes, AreGoing, Going}
use Rattle.event_dispatch.specs.Shows.{engine_of}
use Rattle.event_dispatch.specs.Serves.{OfferNoted, AllOffered, IsDispatched, DispatchesOldest, DispatchesWaiting}
use Rattle.event_dispatch.specs.Stored.{KeepsOthers}
use Rattle.event_dispatch.specs.Why.{IsReason, served_by}
use Rattle.event_dispatch.specs.Plain.{PlainRun}
use Rattle.event_dispatch.specs.Cut.{OfferFails, OffersFail, FailsIn, CutOne, CutSome}

-- ---- An event is offered to an application

pub record OfferDone {Own : Type 0} (Tells : Type 0) (accepts : List TableView → Bool) (event : Event) (stops : Bool) (old new : Seen Own) (c now_c : Core)
    (m now_m : Managed) : Type 0 where
  pub goes : CoreGoes now_c
  pub events : now_c.events ≡ c.events
  pub others : KeepsOthers m.state.index c.store now_c.store
  pub index : now_m.state.index ≡ m.state.index
  pub rule : now_m.rule ≡ m.rule
  pub offered : OfferNoted Tells accepts event stops old new c now_c m now_m

pub record OfferStops {Own : Type 0} (Tells : Type 0) (event : Event) (old new : Seen Own) (c : Core) (m : Managed) (fault : Fault) : Type 0 where
  pub fails : OfferFails Tells fault event old new c m
  pub why : IsReason Tells old new 0 0 fault

-- ---- To all of them

pub record OffersDone {Own : Type 0} (Tells : Type 0) (accepts : List TableView → Bool) (event : Event) (old new : Seen Own) (c now_c : Core)
    (apps now_apps : List Managed) : Type 0 where
  pub going : AreGoing now_c now_apps
  pub events : now_c.events ≡ c.events
  pub number : length now_c.store ≡ length c.store
  pub offered : AllOffered Tells accepts event old new c now_c apps now_apps

pub record OffersStop {Own : Type 0} (Tells : Type 0) (accepts : List TableView → Bool) (event : Event) (old new : Seen Own) (c : Core) (apps : List Managed)
    (fault : Fault) : Type 0 where
  pub fails : OffersFail Tells accepts fault event old new c apps
  pub why : IsReason Tells old new 0 0 fault

-- ---- An event is dispatched

pub record DispatchDone {Own : Type 0} (Tells : Type 0) (accepts : List TableView → Bool) (event : Event) (old new : Seen Own) (r now_r : Run) : Type 0 where
  pub going : Going now_r
  pub events : now_r.core.events ≡ r.core.events + 1
  pub number : length now_r.core.store ≡ length r.core.store
  pub dispatched : IsDispatched Tells accepts event old new r now_r

pub record DispatchStops {Own : Type 0} (Tells : Type 0) (accepts : List TableView → Bool) (event : Event) (old new : Seen Own) (r : Run)
    (fault : Fault) : Type 0 where
  pub fails : FailsIn Tells accepts fault event old new (engine_of r)
  pub why : IsReason Tells old new 0 0 fault

-- ---- The oldest of those that wait

pub record OldestDone {Own : Type 0} (Tells : Type 0) (accepts : List TableView → Bool) (found : Bool) (contents now_contents : Option (List ℕ))
    (old new : Seen Own) (r now_r : Run) : Type 0 where
  pub going : Going now_r
  pub events : now_r.core.events ≤ r.core.events + 1
  pub number : length now_r.core.store ≡ length r.core.store
  pub dispatches : DispatchesOldest Tells accepts found contents now_contents old new r now_r

-- where the world keeps its word and all was settled, the fault is a plain one
pub record OldestStops {Own : Type 0} (Tells : Type 0) (accepts : List TableView → Bool) (contents now_contents : Option (List ℕ)) (sink_old sink_new : ℕ)
    (old new : Seen Own) (r : Run) (fault : Fault) : Type 0 where
  pub cut : CutOne Tells accepts fault contents now_contents old new (engine_of r)
  pub why : IsReason Tells old new sink_old sink_new fault
  pub plain : PlainRun Tells accepts old new (engine_of r) (served_by fault)

-- ---- All that wait

-- in a world that keeps its word this is what the reference controller does with the events that wait
pub record WaitingDone {Own : Type 0} (Tells : Type 0) (accepts : List TableView → Bool) (contents now_contents : Option (List ℕ)) (old new : Seen Own)
    (r now_r : Run) : Type 0 where
  pub going : Going now_r
  pub events : now_r.core.events ≤ r.core.events + 1000
  pub number : length now_r.core.store ≡ length r.core.store
  pub dispatches : DispatchesWaiting Tells accepts contents now_contents old new r now_r

-- it is so up to an event; and where the world keeps its word and all was settled, the fault is a plain one
pub record WaitingStops {Own : Type 0} (Tells : Type 0) (accepts : List TableView → Bool) (contents now_contents : Option (List ℕ)) (sink_old sink_new : ℕ)
    (old new : Seen Own) (r : Run) (fault : Fault) : Type 0 where
  pub cut : CutSome Tells accepts fault contents now_contents old new r
  pub why : IsReason Tells old new sink_old sink_new fault
  pub plain : PlainRun Tells accepts old new (engine_of r) (served_by fault)
