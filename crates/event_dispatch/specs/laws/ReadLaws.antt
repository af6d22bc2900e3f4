-- Laws of what came of switches in a run that no fault ends: all of it are messages.
use Rattle.std.specs.Prelude.{◌≡◌, ◌<◌, ℕ, Bool, List, [], ◌∷◌, ◌++◌, Option, Result, Ok, Err, IsErrAnd, refl}
use Rattle.std.specs.List.{AllByRecursion}
use Rattle.std.proofs.Common.{true, false, sym, ap, ◌∙◌, subst}
use Rattle.std.proofs.lemmas.List.{append-nil}
use Rattle.flow_table.specs.View.{TableView}
use Rattle.outside.specs.declared.step.WorldStep.{WorldStep}
use Rattle.outside.specs.declared.step.WorldStep.TheVariants.{Opened, NotOpened}
use Rattle.outside.specs.Seen.{Seen, Continues}
use Rattle.outside.specs.State.{State, state, is_running}
use Rattle.outside.specs.Calls.{end_steps, Ends}
use Rattle.outside.specs.InOrder.{InOrder, BringMessages, MessagesSince}
use Rattle.outside.specs.laws.InOrderLaws.{InOrder-before, Conforming-on, messages-of, messages-by, messages-none, messages-then}
use Rattle.outside.specs.Quiescence.{NoneQuiescent}
use Rattle.outside.specs.laws.QuiescenceLaws.{none_since-by}
use Rattle.net_txn.specs.Net.{NetState}
use Rattle.net_txn.specs.LinkSteps.{MakesNoStrayCall}
use Rattle.crash_policy.specs.Policies.{AppValue}
use Rattle.lego_model.specs.UndoFaults.{AreExpectedOnLinks}
use Rattle.net_txn.specs.laws.LinkStrayLaws.{no_strays_by, no_strays_then}
use Rattle.run_laws.specs.Cut.{IsCallAmong}
use Rattle.run_laws.specs.First.{IsOpened, net_at_first}
use Rattle.event_dispatch.specs.declared.fault.Fault.{Fault}
use Rattle.event_dispatch.specs.declared.fault.Fault.TheVariants as faults
use Rattle.event_dispatch.specs.declared.engine_core.Core.{Core}
use Rattle.event_dispatch.specs.declared.served.Served.{Served}
use Rattle.event_dispatch.specs.declared.served.Served.TheVariants as served
use Rattle.event_dispatch.specs.Why.{served_by}
use Rattle.event_dispatch.specs.Shows.{Stays}
use Rattle.event_dispatch.specs.Steady.{NoStray, Reads, NoPoint}
use Rattle.event_dispatch.specs.Serves.{RunsAs, IsUnopened}
use Rattle.event_dispatch.specs.Cut.{HasRead, ReadsEnd, ReadsAs, IsReadServed}
use Rattle.event_dispatch.specs.laws.FrontLaws.{abreast_first, keeps_first}

-- ---- One part behind the other

-- what is kept of switches stays as it is
pub reads_engine : {Own : Type 0} {Tells : Type 0} {net : NetState} (old new : Seen Own) (mid now : Core) → Stays mid now → Reads Tells old new net mid.net → Reads Tells old new net now.net
reads_engine {Tells = Tells} {net = net} old new mid now same reads = subst (λ (n : NetState). Reads Tells old new net n) (sym same.net) reads

pub read_none : {Own : Type 0} (Tells : Type 0) (seen : Seen Own) (net : NetState) → HasRead Tells seen seen net
read_none Tells seen net = record { read = λ told order abreast. messages-none seen }

pub read_of : {Own : Type 0} {Tells : Type 0} {old new : Seen Own} {net now_net : NetState} → Reads Tells old new net now_net → HasRead Tells old new net
read_of reads = record { read = reads.read }

read_behind : {Own : Type 0} (Tells : Type 0) (old mid new : Seen Own) (net mid_net : NetState) → Continues Tells old mid → Continues Tells mid new → Reads Tells old mid net mid_net → HasRead Tells mid new mid_net → HasRead Tells old new net
read_behind Tells old mid new net mid_net before later first second = record {
  read = λ told order abreast.
      let so_far = InOrder-before told later order in
      messages-then old mid new told before later (first.read told so_far abreast) (second.read told order (first.abreast told so_far abreast));
}

pub went_read : {Own T : Type 0} (Tells : Type 0) (result : Result T Served) (old mid new : Seen Own) (net mid_net : NetState) → Continues Tells old mid → Continues Tells mid new → Reads Tells old mid net mid_net → ReadsAs Tells result mid new mid_net → ReadsAs Tells result old new net
went_read Tells (Ok x) old mid new net mid_net before later first second = read_behind Tells old mid new net mid_net before later first second
went_read Tells (Err (served.EventsLeft left)) old mid new net mid_net before later first second = read_behind Tells old mid new net mid_net before later first second
went_read Tells (Err (served.Ended events)) old mid new net mid_net before later first second = tt
went_read Tells (Err served.WriteFault) old mid new net mid_net before later first second = tt
went_read Tells (Err served.Shut) old mid new net mid_net before later first second = tt
went_read Tells (Err served.NextFault) old mid new net mid_net before later first second = tt
went_read Tells (Err (served.Txn fault)) old mid new net mid_net before later first second = tt
went_read Tells (Err served.NoMemory) old mid new net mid_net before later first second = tt

-- ---- The application is ended at last

-- an end, of an application that runs or of one that does not
record IsEnd (app : ℕ) (running : Bool) : Type 0 where
  quiet : NoneQuiescent (end_steps app running)
  own : (number : ℕ) → app < number → AllByRecursion (IsCallAmong number) (end_steps app running)
  places : (s : State) → AreExpectedOnLinks (end_steps app running) s
  messages : BringMessages (end_steps app running)

is_end : (app : ℕ) (running : Bool) → IsEnd app running
unfolding end_steps
is_end app true = record { quiet = (refl, tt); own = λ number small. (small, tt); places = λ s. (tt, tt); messages = (refl, tt) }
is_end app false = record { quiet = tt; own = λ number small. tt; places = λ s. tt; messages = tt }

pub end_quietly : {Own : Type 0} {number : ℕ} (Tells : Type 0) (app : ℕ) (old new : Seen Own) → app < number → Ends Tells app old new → NoPoint Tells number old new
end_quietly {number = number} Tells app old new small ends = record {
  none_quiescent = λ told. none_since-by old new (end_steps app (is_running app (state old))) (ends.told told).history (is_end app (is_running app (state old))).quiet;
  own = λ told. record { steps = end_steps app (is_running app (state old)); history = (ends.told told).history; all = (is_end app (is_running app (state old))).own number small };
}

pub end_places : {Own : Type 0} (Tells : Type 0) (app : ℕ) (old new : Seen Own) → Ends Tells app old new → Tells → MakesNoStrayCall old new
end_places Tells app old new ends told =
    no_strays_by old new (end_steps app (is_running app (state old))) (ends.told told).history ((is_end app (is_running app (state old))).places (state old))

pub end_messages : {Own : Type 0} (Tells : Type 0) (app : ℕ) (old new : Seen Own) → Ends Tells app old new → Tells → MessagesSince old new
end_messages Tells app old new ends told =
    messages-by old new (end_steps app (is_running app (state old))) (ends.told told).history (is_end app (is_running app (state old))).messages

read_then : {Own : Type 0} (Tells : Type 0) (old mid new : Seen Own) (net : NetState) → Continues Tells old mid → Continues Tells mid new → (Tells → MessagesSince mid new) → HasRead Tells old mid net → HasRead Tells old new net
read_then Tells old mid new net before later last first = record {
  read = λ told order abreast. messages-then old mid new told before later (first.read told (InOrder-before told later order) abreast) (last told);
}

pub ended_read : {Own T : Type 0} (Tells : Type 0) (result : Result T Served) (old mid new : Seen Own) (net : NetState) → Continues Tells old mid → Continues Tells mid new → (Tells → MessagesSince mid new) → ReadsAs Tells result old mid net → ReadsAs Tells result old new net
ended_read Tells (Ok x) old mid new net before later last first = read_then Tells old mid new net before later last first
ended_read Tells (Err (served.EventsLeft left)) old mid new net before later last first = read_then Tells old mid new net before later last first
ended_read Tells (Err (served.Ended events)) old mid new net before later last first = tt
ended_read Tells (Err served.WriteFault) old mid new net before later last first = tt
ended_read Tells (Err served.Shut) old mid new net before later last first = tt
ended_read Tells (Err served.NextFault) old mid new net before later last first = tt
ended_read Tells (Err (served.Txn fault)) old mid new net before later last first = tt
ended_read Tells (Err served.NoMemory) old mid new net before later last first = tt

-- ---- What a `?` answers

fault_reads : {Own : Type 0} (Tells : Type 0) (fault : Fault) (old new : Seen Own) (net : NetState) → ReadsEnd Tells (served_by fault) old new net
fault_reads Tells faults.Write old new net = tt
fault_reads Tells faults.Next old new net = tt
fault_reads Tells (faults.Txn fault) old new net = tt
fault_reads Tells faults.NoMemory old new net = tt

pub reads_as : {Own T : Type 0} (Tells : Type 0) (end : Served) (result : Result T Served) (old new : Seen Own) (net : NetState) → IsErrAnd result (λ e. e ≡ end) → ReadsEnd Tells end old new net → ReadsAs Tells result old new net
reads_as Tells end (Ok x) old new net is reads = absurd is
reads_as Tells end (Err e) old new net is reads = subst (λ (s : Served). ReadsEnd Tells s old new net) (sym is) reads

-- a fault
pub reads_by : {Own T : Type 0} (Tells : Type 0) (fault : Fault) (result : Result T Served) (old new : Seen Own) (net : NetState) → IsErrAnd result (λ e. e ≡ served_by fault) → ReadsAs Tells result old new net
reads_by Tells fault result old new net is = reads_as Tells (served_by fault) result old new net is (fault_reads Tells fault old new net)

-- ---- Of a world on which no call was made

-- it was opened
pub opened_places : {Own : Type 0} {number : ℕ} (Tells : Type 0) (old mid new : Seen Own) → Continues Tells old mid → Continues Tells mid new → (Tells → mid.history ≡ old.history ++ Opened ∷ []) → NoStray Tells number mid new net_at_first → Tells → old.history ≡ [] → InOrder new → MakesNoStrayCall old new
opened_places Tells old mid new before later opened places told none order =
    let first : MakesNoStrayCall old mid = no_strays_by old mid (Opened ∷ []) (opened told) (tt, tt) in
    no_strays_then old mid new told before later first (places.places told order (abreast_first mid (opened told ∙ ap (λ (steps : List WorldStep). steps ++ Opened ∷ []) none)))

-- or not
pub unopened_places : {Own : Type 0} (Tells : Type 0) (old new : Seen Own) (end : Served) → IsUnopened Tells old new end → Tells → MakesNoStrayCall old new
unopened_places Tells old new served.Shut left told = no_strays_by old new (NotOpened ∷ []) (left told) (tt, tt)
unopened_places Tells old new served.NoMemory left told = no_strays_by old new [] (left told ∙ sym (append-nil old.history)) tt
unopened_places Tells old new (served.EventsLeft n) left told = absurd left
unopened_places Tells old new (served.Ended events) left told = absurd left
unopened_places Tells old new served.WriteFault left told = absurd left
unopened_places Tells old new served.NextFault left told = absurd left
unopened_places Tells old new (served.Txn fault) left told = absurd left

pub unopened_read : {Own : Type 0} (Tells : Type 0) (old new : Seen Own) (end : Served) → IsUnopened Tells old new end → IsReadServed new end
unopened_read Tells old new served.Shut left = tt
unopened_read Tells old new served.NoMemory left = tt
unopened_read Tells old new (served.EventsLeft n) left = absurd left
unopened_read Tells old new (served.Ended events) left = absurd left
unopened_read Tells old new served.WriteFault left = tt
unopened_read Tells old new served.NextFault left = tt
unopened_read Tells old new (served.Txn fault) left = tt

-- all that came is messages
pub all_read : {Own : Type 0} (Tells : Type 0) (old mid new : Seen Own) → Continues Tells mid new → (Tells → mid.history ≡ old.history ++ Opened ∷ []) → HasRead Tells mid new net_at_first → Tells → old.history ≡ [] → InOrder new → BringMessages new.history
all_read Tells old mid new later opened has told none order =
    let is : IsOpened mid = opened told ∙ ap (λ (steps : List WorldStep). steps ++ Opened ∷ []) none in
    messages-of new (Conforming-on mid new told later (keeps_first mid is (InOrder-before told later order)) order (has.read told order (abreast_first mid is)))

pub failed_read : {Own : Type 0} (rules : List AppValue) (Tells : Type 0) (accepts : List TableView → Bool) (most : ℕ) (end : Served) (a b : Option (List ℕ)) (old mid new : Seen Own) → Continues Tells mid new → (Tells → mid.history ≡ old.history ++ Opened ∷ []) → RunsAs rules Tells accepts most (Err end) a b mid new
    → ReadsEnd Tells end mid new net_at_first → Tells → old.history ≡ [] → InOrder new → IsReadServed new end
failed_read rules Tells accepts most (served.EventsLeft left) a b old mid new later opened runs reads told none order = all_read Tells old mid new later opened reads told none order
failed_read rules Tells accepts most (served.Ended events) a b old mid new later opened runs reads told none order = absurd runs
failed_read rules Tells accepts most served.WriteFault a b old mid new later opened runs reads told none order = tt
failed_read rules Tells accepts most served.Shut a b old mid new later opened runs reads told none order = tt
failed_read rules Tells accepts most served.NextFault a b old mid new later opened runs reads told none order = tt
failed_read rules Tells accepts most (served.Txn fault) a b old mid new later opened runs reads told none order = tt
failed_read rules Tells accepts most served.NoMemory a b old mid new later opened runs reads told none order = tt
