-- What is kept of a run beside its applications, as it is made, as lines are noted, and as they are written. All of this is our own.
use Rattle.std.specs.Prelude.{◌≡◌, ℕ, List, [], replicate, Option, Result, OnOk, OnErr}
use Rattle.lego_io.specs.Count.{Rose, NeverFell}
use Rattle.lego_io.specs.Sink.{TookPart}
use Rattle.checkpoint_store.specs.Slots.{empty_slot}
use Rattle.run_laws.specs.First.{net_at_first}
use Rattle.event_dispatch.specs.declared.engine_core.Core.{Core}
use Rattle.event_dispatch.specs.Runs.{CoreGoes, Waits}
use Rattle.event_dispatch.specs.Shows.{Stays, Adds, TellsLost}
use Rattle.event_dispatch.specs.Serves.{Writes}

-- one for so many applications, of which nothing has happened
pub record CoreAtFirst (apps : ℕ) (c : Core) : Type 0 where
  pub goes : CoreGoes c
  pub net : c.net ≡ net_at_first
  pub queue : c.queue ≡ []
  pub events : c.events ≡ 0
  pub store : c.store ≡ replicate apps empty_slot
  pub none_waits : c.lines.items ≡ []

-- text was noted, and no event dispatched
pub record OnlyNotes (text : List ℕ) (c now_c : Core) : Type 0 where
  pub waits : Waits c now_c
  pub adds : Adds text c now_c

-- the switches that were lost were told, and no event dispatched
pub record LostTold (c now_c : Core) : Type 0 where
  pub waits : Waits c now_c
  pub tells : TellsLost c now_c

-- The lines were written, and then none waits; where the sink failed it took a front of them, and not all. Nothing else happened.
pub record WritesLines {T E : Type 0} (contents now_contents : Option (List ℕ)) (faults now_faults : ℕ) (c now_c : Core) (result : Result T E) : Type 0 where
  pub waits : OnOk result (Waits c now_c)
  pub stays : Stays c now_c
  pub writes : OnOk result (Writes c.lines.items contents now_contents now_c)
  pub part : OnErr result (TookPart contents now_contents c.lines.items)
  pub rose : OnErr result (Rose faults now_faults)
  pub never_fell : NeverFell faults now_faults
