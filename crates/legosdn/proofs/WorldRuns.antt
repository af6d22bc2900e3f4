-- The run of any world that tells in order is the reference controller's.
use Rattle.std.proofs.Common.{◌≡◌, ◌⊎◌, ℕ, ◌<◌, length, Bool, List, [], Option, refl, sym, subst, inl, inr}
use Rattle.std.specs.List.{AllByRecursion}
use Rattle.legosdn.specs.Input.{ProgramValue}
use Rattle.outside.specs.Seen.{Seen, Continues, journal}
use Rattle.outside.specs.State.{at_first}
use Rattle.outside.specs.Conforming.{Conforming}
use Rattle.outside.specs.InOrder.{BringMessages, InOrder}
use Rattle.outside.specs.laws.InOrderLaws.{in_order-Conforming, InOrder-front}
use Rattle.run_course.specs.Points.{IsLastPoint}
use Rattle.lego_model.specs.UndoFaults.{AreExpectedOnLinks}
use Rattle.net_txn.specs.LinkSteps.{MakesNoStrayCall}
use Rattle.lego_model.specs.Places.{Place}
use Rattle.lego_model.specs.AtOnce.{AtOnce}
use Rattle.lego_model.specs.OrderlySteps.{IsOrderly}
use Rattle.lego_model.specs.declared.fault.TxnFault.{TxnFault}
use Rattle.lego_model.specs.declared.fault.TxnFault.TheVariants as faults
use Rattle.lego_model.specs.BarrierWaits.{flood}
use Rattle.lego_model.specs.AllLines.{CutBehindLines, CutInLines, CutForMemory}
use Rattle.lego_model.specs.CutRun.{NothingDone}
use Rattle.run_laws.specs.Promise.{Premise, PremiseSoFar}
use Rattle.run_laws.specs.Cut.{CutAt, CutAlike, CutWithLines, CutWriting}
use Rattle.run_laws.specs.laws.DialogueLaws.{applications_in_place}
use Rattle.event_dispatch.specs.declared.served.Served.{Served}
use Rattle.event_dispatch.specs.declared.served.Served.TheVariants as served
use Rattle.event_dispatch.specs.Serves.{IsAlike, IsCut}
use Rattle.event_dispatch.specs.Cut.{IsReadServed}
use Rattle.event_dispatch.specs.Plain.{IsPlainServed, EndsPlain}
use Rattle.event_dispatch.specs.laws.LeftLaws.{behind_for}
use Rattle.legosdn.specs.declared.stop.Stop.{Stop}
use Rattle.legosdn.specs.Stops.{stop_of_switch}
use Rattle.legosdn.specs.Said.{allowed_by}
use Rattle.legosdn.specs.Headline.{UpToPoint, NoneFloods}
use Rattle.legosdn.specs.Live.{TellsInOrder, NoneStray, ServesWhole, ServesPart, ServesUntil}
use Rattle.legosdn.proofs.Places.{AreInPlace, all_among, behind_among, links_from_first, in_place, shut_in_place, idle_in_place}
use Rattle.net_guard.specs.declared.quota.ChosenJudge.{ChosenJudge}
use Rattle.net_guard.specs.Judging.{is_allowed}
use Rattle.legosdn.proofs.Judged.{judges_alike}

-- ---- What the engine promises of a world that it may call

abbrev pub Reads : {Own : Type 0} → Type 0 → Seen Own → Seen Own → Served → Type 0
Reads Tells old new end = Tells → old.history ≡ [] → InOrder new → IsReadServed new end

abbrev pub Promises : {Own : Type 0} → ProgramValue → Type 0 → ℕ → Seen Own → Seen Own → Option (List ℕ) → Option (List ℕ) → Served → Type 0
Promises program Tells rounds old new a b end = (allows : List Place → Bool) → Premise Tells (is_allowed program.judge) allows old new → IsAlike program.apps allows rounds new a b end

abbrev pub PromisesCut : {Own : Type 0} → ProgramValue → Type 0 → Seen Own → Seen Own → Option (List ℕ) → Option (List ℕ) → Served → Type 0
PromisesCut program Tells old new a b end = (allows : List Place → Bool) → PremiseSoFar Tells (is_allowed program.judge) allows old → IsCut program.apps allows new a b end

abbrev pub PromisesPlain : {Own : Type 0} → ProgramValue → Type 0 → Seen Own → Seen Own → Served → Type 0
PromisesPlain program Tells old new end = (allows : List Place → Bool) → Premise Tells (is_allowed program.judge) allows old new → EndsPlain old new end

abbrev pub NoStrays : {Own : Type 0} → Type 0 → Seen Own → Seen Own → Type 0
NoStrays Tells old new = Tells → old.history ≡ [] → InOrder new → MakesNoStrayCall old new

premise : {Own : Type 0} (judge : ChosenJudge) (Tells : Type 0) (old new : Seen Own) → TellsInOrder Tells old new → Conforming new → Premise Tells (is_allowed judge) (allowed_by judge) old new
premise {Own} judge Tells old new tells keeps = record {
  told = tells.told;
  keeps = keeps;
  judges = judges_alike Own judge;
  untouched = tells.untouched;
}

premise_so_far : {Own : Type 0} (judge : ChosenJudge) (Tells : Type 0) (old new : Seen Own) → TellsInOrder Tells old new → PremiseSoFar Tells (is_allowed judge) (allowed_by judge) old
premise_so_far {Own} judge Tells old new tells = record {
  told = tells.told;
  judges = judges_alike Own judge;
  untouched = tells.untouched;
}

-- ---- A run that no fault ends

-- the world kept its word
ended_keeps : {Own : Type 0} (Tells : Type 0) (old new : Seen Own) (end : Served) (events : ℕ) → TellsInOrder Tells old new → end ≡ served.Ended events → Reads Tells old new end → Conforming new
ended_keeps Tells old new end events tells is reads = in_order-Conforming new tells.order (subst (IsReadServed new) is (reads tells.told tells.untouched tells.order))

left_keeps : {Own : Type 0} (Tells : Type 0) (old new : Seen Own) (end : Served) (left : ℕ) → TellsInOrder Tells old new → end ≡ served.EventsLeft left → Reads Tells old new end → Conforming new
left_keeps Tells old new end left tells is reads = in_order-Conforming new tells.order (subst (IsReadServed new) is (reads tells.told tells.untouched tells.order))

pub serves_whole : {Own : Type 0} (program : ProgramValue) (Tells : Type 0) (rounds : ℕ) (old new : Seen Own) (a b : Option (List ℕ)) (end : Served) (events : ℕ) → end ≡ served.Ended events → Reads Tells old new end → Promises program Tells rounds old new a b end
    → TellsInOrder Tells old new → ServesWhole program rounds new a b
serves_whole program Tells rounds old new a b end events is reads promises tells =
    let keeps = ended_keeps Tells old new end events tells is reads in
    let whole = subst (IsAlike program.apps (allowed_by program.judge) rounds new a b) is (promises (allowed_by program.judge) (premise program.judge Tells old new tells keeps)) in
    record { events = events; alike = whole.alike; stimuli = whole.took_first }

pub serves_part : {Own : Type 0} (program : ProgramValue) (Tells : Type 0) (rounds : ℕ) (old new : Seen Own) (a b : Option (List ℕ)) (end : Served) (left : ℕ) → end ≡ served.EventsLeft left → Reads Tells old new end → Promises program Tells rounds old new a b end
    → TellsInOrder Tells old new → ServesPart program rounds new a b left
serves_part program Tells rounds old new a b end left is reads promises tells =
    let keeps = left_keeps Tells old new end left tells is reads in
    let part = subst (IsAlike program.apps (allowed_by program.judge) rounds new a b) is (promises (allowed_by program.judge) (premise program.judge Tells old new tells keeps)) in
    record { alike = part.alike; stimuli = part.took_first }

-- ---- A run that a fault ends

-- the world kept its word as far as a place where all bytes that came are messages
conforms_at : {Own : Type 0} (seen last : Seen Own) → InOrder seen → seen.given ≡ last.given → IsLastPoint last seen → BringMessages last.history → Conforming last
conforms_at seen last order given quiet messages = in_order-Conforming last (InOrder-front last seen quiet.steps given quiet.history order) messages

place_of : {Own : Type 0} (program : ProgramValue) (seen : Seen Own) (Short : Type 0) (Alike : Seen Own → Type 0) → InOrder seen → CutAt program.apps Short Alike seen → UpToPoint program seen Short Alike
place_of program seen Short Alike order cut =
    let quiet = cut.last_point order in
    let keeps = conforms_at seen cut.last order cut.given quiet (cut.messages order) in
    record {
      last = cut.last;
      given = sym cut.given;
      last_point = quiet;
      messages = cut.messages order;
      holds = cut.alike keeps;
      tables = cut.tables order;
      at_once = cut.at_once keeps;
    }

-- what the engine promises where a fault ends the run
pub cut_as : {Own : Type 0} (program : ProgramValue) (Tells : Type 0) (old new : Seen Own) (a b : Option (List ℕ)) (end fault : Served) → end ≡ fault → PromisesCut program Tells old new a b end → TellsInOrder Tells old new → IsCut program.apps (allowed_by program.judge) new a b fault
cut_as program Tells old new a b end fault is promises tells = subst (IsCut program.apps (allowed_by program.judge) new a b) is (promises (allowed_by program.judge) (premise_so_far program.judge Tells old new tells))

pub writing_place : {Own : Type 0} (program : ProgramValue) (seen : Seen Own) (a b : Option (List ℕ)) → InOrder seen → CutWriting program.apps (allowed_by program.judge) seen a b → UpToPoint program seen ⊥ (λ last. CutInLines program.apps (allowed_by program.judge) last a b)
writing_place program seen a b order cut = place_of program seen ⊥ (λ last. CutInLines program.apps (allowed_by program.judge) last a b) order cut

pub lines_place : {Own : Type 0} (program : ProgramValue) (seen : Seen Own) (a b : Option (List ℕ)) → InOrder seen → CutWithLines program.apps (allowed_by program.judge) seen a b → UpToPoint program seen ⊥ (λ last. CutBehindLines program.apps (allowed_by program.judge) last a b)
lines_place program seen a b order cut = place_of program seen ⊥ (λ last. CutBehindLines program.apps (allowed_by program.judge) last a b) order cut

pub memory_place : {Own : Type 0} (program : ProgramValue) (seen : Seen Own) (a b : Option (List ℕ)) → InOrder seen → CutAlike program.apps (allowed_by program.judge) seen a b ⊎ NothingDone [] seen a b
    → UpToPoint program seen (Unit {0}) (λ last. CutForMemory program.apps (allowed_by program.judge) seen last a b) ⊎ NothingDone [] seen a b
memory_place program seen a b order (inl cut) = inl (place_of program seen (Unit {0}) (λ last. CutForMemory program.apps (allowed_by program.judge) seen last a b) order cut)
memory_place program seen a b order (inr none) = inr none

never_short : ⊥ → Unit {0}
never_short none = tt

-- no line is missing, so that the lines of the start are there
lines_for_memory : {Own : Type 0} (program : ProgramValue) (seen : Seen Own) (a b : Option (List ℕ)) → UpToPoint program seen ⊥ (λ last. CutBehindLines program.apps (allowed_by program.judge) last a b) → UpToPoint program seen (Unit {0}) (λ last. CutForMemory program.apps (allowed_by program.judge) seen last a b)
lines_for_memory program seen a b up_to = record {
  last = up_to.last;
  given = up_to.given;
  last_point = up_to.last_point;
  messages = up_to.messages;
  holds = record { run = up_to.holds.run; done = inr up_to.holds.done };
  tables = behind_for never_short up_to.tables;
  at_once = up_to.at_once;
}

-- where no packet floods it ends plainly
ends_plainly : {Own : Type 0} (old new : Seen Own) (end : Served) → NoneFloods new → EndsPlain old new end → IsPlainServed end
ends_plainly old new end none (inl plain) = plain
ends_plainly old new end none (inr flooded) =
    let f = flooded.1.1 in
    absurd (none flooded.0 (record { mid = f.mid; given = f.given; before = (f.mid.history, refl); packet = f.packet; switch = f.switch; stands = f.stands; many = f.many; xid = f.xid; sent = f.sent }))

not_diverged : {Own : Type 0} (old new : Seen Own) (d : ℕ) (sent got : List ℕ) → EndsPlain old new (served.Txn (faults.Diverged d sent got)) → ⊥
not_diverged old new d sent got (inl plain) = plain
not_diverged old new d sent got (inr flooded) = absurd (other flooded.0 flooded.1.0)
  where
    other : (e : ℕ) → served.Txn (faults.Diverged d sent got) ≡ served.Txn (faults.Flooded e flood) → ⊥
    other e is = cc

switch_until : {Own : Type 0} (program : ProgramValue) (rounds : ℕ) (old seen : Seen Own) (a b : Option (List ℕ)) (fault : TxnFault) → (BringMessages seen.history → EndsPlain old seen (served.Txn fault)) → UpToPoint program seen ⊥ (λ last. CutBehindLines program.apps (allowed_by program.judge) last a b)
    → ServesUntil program rounds (stop_of_switch fault) seen a b
switch_until program rounds old seen a b (faults.SwitchBroke d bytes) plain place = ((λ none messages. ends_plainly old seen (served.Txn (faults.SwitchBroke d bytes)) none (plain messages)), place)
switch_until program rounds old seen a b (faults.Flooded d n) plain place = ((λ none messages. ends_plainly old seen (served.Txn (faults.Flooded d n)) none (plain messages)), place)
switch_until program rounds old seen a b (faults.Diverged d sent got) plain place = ((λ messages. not_diverged old seen d sent got (plain messages)), place)
switch_until program rounds old seen a b faults.NoMemory plain place = inl (lines_for_memory program seen a b place)

-- where it is by a switch
pub switch_serves : {Own : Type 0} (program : ProgramValue) (Tells : Type 0) (rounds : ℕ) (old new : Seen Own) (a b : Option (List ℕ)) (stop : Stop) (fault : TxnFault) (end : Served) → end ≡ served.Txn fault → stop ≡ stop_of_switch fault
    → PromisesPlain program Tells old new end → PromisesCut program Tells old new a b end → TellsInOrder Tells old new → ServesUntil program rounds stop new a b
switch_serves program Tells rounds old new a b stop fault end is so plain promises tells =
    subst (λ (s : Stop). ServesUntil program rounds s new a b) (sym so)
    (switch_until program rounds old new a b fault (λ messages. subst (EndsPlain old new) is (plain (allowed_by program.judge) (premise program.judge Tells old new tells (in_order-Conforming new tells.order messages))))
    (lines_place program new a b tells.order (cut_as program Tells old new a b end (served.Txn fault) is promises tells)))

-- ---- No call of it was a stray one

links : {Own : Type 0} (Tells : Type 0) (old new : Seen Own) → Continues Tells old new → NoStrays Tells old new → TellsInOrder Tells old new → AreExpectedOnLinks new.history (at_first new.given)
links Tells old new continues stays tells = links_from_first old new tells.untouched continues.given (stays tells.told tells.untouched tells.order)

abbrev AreAtOnce : {Own : Type 0} → ℕ → Seen Own → Type 0
AreAtOnce number seen = (i : ℕ) → i < number → AtOnce i (journal seen.history)

are_in_place : {Own : Type 0} (number : ℕ) (seen : Seen Own) → AreAtOnce number seen → AreInPlace number seen.history (at_first seen.given)
are_in_place number seen at_once = λ i lt. applications_in_place i seen (at_once i lt)

whole_strays : {Own : Type 0} (number : ℕ) (seen : Seen Own) → AllByRecursion (IsOrderly number) seen.history → AreAtOnce number seen → AreExpectedOnLinks seen.history (at_first seen.given) → NoneStray seen
whole_strays number seen in_order at_once links = in_place number seen (all_among number seen.history in_order) (are_in_place number seen at_once) links

cut_strays : {Own : Type 0} (program : ProgramValue) (seen : Seen Own) (Short : Type 0) (Alike : Seen Own → Type 0) → InOrder seen → AreExpectedOnLinks seen.history (at_first seen.given) → (cut : CutAt program.apps Short Alike seen) → (Alike cut.last → AllByRecursion (IsOrderly (length program.apps)) cut.last.history) → NoneStray seen
cut_strays program seen Short Alike order links cut in_order =
    let keeps = conforms_at seen cut.last order cut.given (cut.last_point order) (cut.messages order) in
    in_place (length program.apps) seen (behind_among (length program.apps) (in_order (cut.alike keeps)) cut.no_other_called) (are_in_place (length program.apps) seen (cut.at_once keeps)) links

memory_strays : {Own : Type 0} (program : ProgramValue) (seen : Seen Own) (a b : Option (List ℕ)) → InOrder seen → AreExpectedOnLinks seen.history (at_first seen.given) → CutAlike program.apps (allowed_by program.judge) seen a b ⊎ NothingDone [] seen a b → NoneStray seen
memory_strays program seen a b order links (inl cut) = cut_strays program seen (Unit {0}) (λ last. CutForMemory program.apps (allowed_by program.judge) seen last a b) order links cut (λ short. short.run.in_order)
memory_strays program seen a b order links (inr idle) = idle_in_place seen idle.history

-- the run ended before all was done
abbrev IsFaultEnd : Served → Type 0
IsFaultEnd (served.Ended events) = ⊥
IsFaultEnd (served.EventsLeft left) = ⊥
IsFaultEnd other = Unit {0}

fault_strays : {Own : Type 0} (program : ProgramValue) (seen : Seen Own) (a b : Option (List ℕ)) (end : Served) → InOrder seen → AreExpectedOnLinks seen.history (at_first seen.given) → IsFaultEnd end → IsCut program.apps (allowed_by program.judge) seen a b end → NoneStray seen
fault_strays program seen a b (served.Ended events) order links fault cut = absurd fault
fault_strays program seen a b (served.EventsLeft left) order links fault cut = absurd fault
fault_strays program seen a b served.WriteFault order links fault cut = cut_strays program seen ⊥ (λ last. CutInLines program.apps (allowed_by program.judge) last a b) order links cut (λ writing. writing.run.up_to.in_order)
fault_strays program seen a b served.Shut order links fault cut = shut_in_place seen cut.history
fault_strays program seen a b served.NextFault order links fault cut = cut_strays program seen ⊥ (λ last. CutBehindLines program.apps (allowed_by program.judge) last a b) order links cut (λ behind. behind.run.in_order)
fault_strays program seen a b (served.Txn fault_of) order links fault cut = cut_strays program seen ⊥ (λ last. CutBehindLines program.apps (allowed_by program.judge) last a b) order links cut (λ behind. behind.run.in_order)
fault_strays program seen a b served.NoMemory order links fault cut = memory_strays program seen a b order links cut

strays_by : {Own : Type 0} (program : ProgramValue) (Tells : Type 0) (rounds : ℕ) (old new : Seen Own) (a b : Option (List ℕ)) (whole end : Served) → whole ≡ end → AreExpectedOnLinks new.history (at_first new.given) → Reads Tells old new whole → Promises program Tells rounds old new a b whole
    → PromisesCut program Tells old new a b whole → TellsInOrder Tells old new → NoneStray new
strays_by program Tells rounds old new a b whole (served.Ended events) is links reads promises cut tells =
    let alike = (serves_whole program Tells rounds old new a b whole events is reads promises tells).alike in
    whole_strays (length program.apps) new alike.in_order alike.at_once links
strays_by program Tells rounds old new a b whole (served.EventsLeft left) is links reads promises cut tells =
    let alike = (serves_part program Tells rounds old new a b whole left is reads promises tells).alike in
    whole_strays (length program.apps) new alike.in_order alike.at_once links
strays_by program Tells rounds old new a b whole served.WriteFault is links reads promises cut tells = fault_strays program new a b served.WriteFault tells.order links tt (cut_as program Tells old new a b whole served.WriteFault is cut tells)
strays_by program Tells rounds old new a b whole served.Shut is links reads promises cut tells = fault_strays program new a b served.Shut tells.order links tt (cut_as program Tells old new a b whole served.Shut is cut tells)
strays_by program Tells rounds old new a b whole served.NextFault is links reads promises cut tells = fault_strays program new a b served.NextFault tells.order links tt (cut_as program Tells old new a b whole served.NextFault is cut tells)
strays_by program Tells rounds old new a b whole (served.Txn fault) is links reads promises cut tells = fault_strays program new a b (served.Txn fault) tells.order links tt (cut_as program Tells old new a b whole (served.Txn fault) is cut tells)
strays_by program Tells rounds old new a b whole served.NoMemory is links reads promises cut tells = fault_strays program new a b served.NoMemory tells.order links tt (cut_as program Tells old new a b whole served.NoMemory is cut tells)

pub none_stray : {Own : Type 0} (program : ProgramValue) (Tells : Type 0) (rounds : ℕ) (old new : Seen Own) (a b : Option (List ℕ)) (end : Served) → Continues Tells old new → NoStrays Tells old new → Reads Tells old new end → Promises program Tells rounds old new a b end
    → PromisesCut program Tells old new a b end → TellsInOrder Tells old new → NoneStray new
none_stray program Tells rounds old new a b end continues stays reads promises cut tells = strays_by program Tells rounds old new a b end end refl (links Tells old new continues stays tells) reads promises cut tells
