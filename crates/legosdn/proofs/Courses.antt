-- The course of a run over a world that tells, as the command says it.
use Rattle.std.proofs.Common.{◌≡◌, ℕ, Bool, List, Option, Ok, Err, sym, subst}
use Rattle.flow_table.specs.View.{TableView}
use Rattle.crash_policy.specs.Policies.{AppValue}
use Rattle.outside.specs.Seen.{Seen}
use Rattle.lego_model.specs.declared.fault.TxnFault.{TxnFault}
use Rattle.lego_model.specs.declared.fault.TxnFault.TheVariants as txn
use Rattle.event_dispatch.specs.declared.served.Served.{Served}
use Rattle.event_dispatch.specs.declared.served.Served.TheVariants as served
use Rattle.event_dispatch.specs.Serves.{GoesItsCourse}
use Rattle.run_course.specs.Parts.{TakesCourse}
use Rattle.run_laws.specs.laws.PartHoldingLaws.{writes_part, takes_course}
use Rattle.legosdn.specs.declared.stop.Stop.{Stop}
use Rattle.legosdn.specs.declared.stop.Stop.TheVariants.{WriteFault, Shut, NextFault, SwitchBroke, Diverged, EventsLeft, NoMemory}
use Rattle.legosdn.specs.Stops.{stop_of_switch}
use Rattle.legosdn.specs.Course.{StandsAt}

module _ {Own Tells : Type 0} {accepts : List TableView → Bool} (rules : List AppValue) (old new : Seen Own) (a b : Option (List ℕ)) (end : Served) (goes : GoesItsCourse rules Tells accepts old new a b end) (told : Tells) where
  -- how the engine ended is known
  known : (s : Served) → end ≡ s → GoesItsCourse rules Tells accepts old new a b s
  known s is = subst (λ (x : Served). GoesItsCourse rules Tells accepts old new a b x) is goes

  pub done_course : (events : ℕ) (x : Unit {0}) → end ≡ served.Ended events → TakesCourse rules old new a (StandsAt {T = Unit {0}} (Ok x) b)
  done_course events x is =
      let g = known (served.Ended events) is in
      takes_course accepts rules g.opened new a g.last told g.runs old (StandsAt {T = Unit {0}} (Ok x) b) (g.opening told) (g.ends.0, (g.ends.2, g.ends.3))

  pub left_course : (left : ℕ) → end ≡ served.EventsLeft left → TakesCourse rules old new a (StandsAt {T = Unit {0}} (Err (EventsLeft left)) b)
  left_course left is =
      let g = known (served.EventsLeft left) is in
      takes_course accepts rules g.opened new a g.last told g.runs old (StandsAt {T = Unit {0}} (Err (EventsLeft left)) b) (g.opening told) g.ends

  pub write_course : end ≡ served.WriteFault → TakesCourse rules old new a (StandsAt {T = Unit {0}} (Err WriteFault) b)
  write_course is =
      let g = known served.WriteFault is in
      takes_course accepts rules g.opened new a g.last told g.runs old (StandsAt {T = Unit {0}} (Err WriteFault) b) (g.opening told) (writes_part accepts rules g.opened new a g.last told g.runs b g.ends)

  pub shut_course : end ≡ served.Shut → TakesCourse rules old new a (StandsAt {T = Unit {0}} (Err Shut) b)
  shut_course is =
      let g = known served.Shut is in
      takes_course accepts rules g.opened new a g.last told g.runs old (StandsAt {T = Unit {0}} (Err Shut) b) (g.opening told) g.ends

  pub next_course : end ≡ served.NextFault → TakesCourse rules old new a (StandsAt {T = Unit {0}} (Err NextFault) b)
  next_course is =
      let g = known served.NextFault is in
      takes_course accepts rules g.opened new a g.last told g.runs old (StandsAt {T = Unit {0}} (Err NextFault) b) (g.opening told) g.ends

  pub memory_course : end ≡ served.NoMemory → TakesCourse rules old new a (StandsAt {T = Unit {0}} (Err NoMemory) b)
  memory_course is =
      let g = known served.NoMemory is in
      takes_course accepts rules g.opened new a g.last told g.runs old (StandsAt {T = Unit {0}} (Err NoMemory) b) (g.opening told) g.ends

  fault_course : (fault : TxnFault) → end ≡ served.Txn fault → TakesCourse rules old new a (StandsAt {T = Unit {0}} (Err (stop_of_switch fault)) b)
  fault_course (txn.SwitchBroke d bytes) is = let g = known (served.Txn (txn.SwitchBroke d bytes)) is in takes_course accepts rules g.opened new a g.last told g.runs old (StandsAt {T = Unit {0}} (Err (SwitchBroke d)) b) (g.opening told) g.ends
  fault_course (txn.Flooded d n) is = let g = known (served.Txn (txn.Flooded d n)) is in takes_course accepts rules g.opened new a g.last told g.runs old (StandsAt {T = Unit {0}} (Err (SwitchBroke d)) b) (g.opening told) g.ends
  fault_course (txn.Diverged d sent got) is = let g = known (served.Txn (txn.Diverged d sent got)) is in takes_course accepts rules g.opened new a g.last told g.runs old (StandsAt {T = Unit {0}} (Err (Diverged d)) b) (g.opening told) g.ends
  fault_course txn.NoMemory is = let g = known (served.Txn txn.NoMemory) is in takes_course accepts rules g.opened new a g.last told g.runs old (StandsAt {T = Unit {0}} (Err NoMemory) b) (g.opening told) g.ends

  pub switch_course : (fault : TxnFault) (stop : Stop) → end ≡ served.Txn fault → stop ≡ stop_of_switch fault → TakesCourse rules old new a (StandsAt {T = Unit {0}} (Err stop) b)
  switch_course fault stop is so = subst (λ (s : Stop). TakesCourse rules old new a (StandsAt {T = Unit {0}} (Err s) b)) (sym so) (fault_course fault is)
