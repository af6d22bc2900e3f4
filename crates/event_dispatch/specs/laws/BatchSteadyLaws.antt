-- Laws of what a batch keeps of a world that tells in order: each part of it, and what follows of them.
use Rattle.std.specs.Prelude.{◌≡◌, ◌⊎◌, ℕ, true, List, [], Option, Some, None, Result, Ok, IsSome, take, drop, refl}
use Rattle.std.proofs.Common.{sym, ap, ◌∙◌, subst, inl, inr}
use Rattle.app_frames.specs.declared.frame.Event.{Event}
use Rattle.outside.specs.declared.item.Item.{Item}
use Rattle.outside.specs.declared.item.Item.TheVariants as items
use Rattle.outside.specs.declared.step.WorldStep.{WorldStep}
use Rattle.outside.specs.declared.step.WorldStep.TheVariants.{Joined}
use Rattle.outside.specs.Seen.{Seen, Continues}
use Rattle.outside.specs.laws.SeenLaws.{Nexts-continues}
use Rattle.outside.specs.State.{state}
use Rattle.outside.specs.Calls.{Nexts, item_step}
use Rattle.outside.specs.InOrder.{InOrder}
use Rattle.outside.specs.laws.InOrderLaws.{InOrder-before, messages-none, messages-then}
use Rattle.outside.specs.Quiescence.{IsLastQuiescent}
use Rattle.outside.specs.laws.QuiescenceLaws.{none_since-then, last_quiescent-then}
use Rattle.lego_model.specs.declared.fault.TxnFault.{TxnFault}
use Rattle.net_txn.specs.Net.{NetState}
use Rattle.net_txn.specs.Views.{rows_at}
use Rattle.net_txn.specs.LinkSteps.{OnLinks, MakesNoStrayCall, AsksWithoutStrays}
use Rattle.net_txn.specs.laws.LinkStepLaws.{OnLinks-refl}
use Rattle.net_txn.specs.laws.LinkStrayLaws.{no_strays_none, no_strays_then}
use Rattle.net_txn.specs.Arriving.{Arrives}
use Rattle.net_txn.specs.laws.AgreeLaws.{viewed}
use Rattle.net_txn.specs.laws.AbreastLaws.{links-begun, links-none_quiescent, arrives_abreast}
use Rattle.net_txn.specs.laws.ReadLaws.{arrives_read}
use Rattle.run_laws.specs.Cut.{CallsAmong}
use Rattle.batch_laws.specs.Items.{HandlesTold}
use Rattle.batch_laws.specs.laws.DeletionLaws.{handles_told}
use Rattle.run_laws.specs.laws.LastPointLaws.{last_point_of}
use Rattle.event_dispatch.specs.declared.batch.Rest.{Rest}
use Rattle.event_dispatch.specs.declared.engine_core.Core.{Core}
use Rattle.event_dispatch.specs.Runs.{AreRead, Waits}
use Rattle.event_dispatch.specs.Shows.{TellsLost}
use Rattle.event_dispatch.specs.Batch.{TakesItem, rest_by}
use Rattle.event_dispatch.specs.laws.BatchLaws.{joined_step, rest_handles, rest_undoubted}
use Rattle.event_dispatch.specs.laws.KeptLaws.{read_rest, read_same, read_alike}
use Rattle.event_dispatch.specs.Steady.{NoStray, Reads, NothingUnderWay, AtMostThisPoint}
use Rattle.event_dispatch.specs.laws.SteadyLaws.{quietly_here, calls_then, links_among}
use Rattle.event_dispatch.specs.Told.{OnlyMessages, NoStrayAtItem, CatchesUp, NextPoint, GoesBegun, BatchPoint}
use Rattle.event_dispatch.specs.laws.AbreastItemLaws.{next_tells}
use Rattle.event_dispatch.specs.laws.NextPointLaws.{next_in_place, next_messages, next_still, next_anew}
use Rattle.event_dispatch.specs.laws.CatchUpLaws.{caught_up}
use Rattle.event_dispatch.specs.laws.DispatchStrayLaws.{links_quietly}

-- ---- Links

links_own : {Own : Type 0} {Tells : Type 0} {number : ℕ} {old new : Seen Own} → OnLinks Tells old new → Tells → CallsAmong number old new
links_own {number = number} links told = links_among number (links told)

pub only_none : {Own : Type 0} (Tells : Type 0) (seen : Seen Own) → OnlyMessages Tells seen seen
only_none Tells seen = record { read = λ told. messages-none seen }

-- ---- A message of a switch that has a view

pub arrived_places : {Own : Type 0} {number : ℕ} (Tells : Type 0) (d : ℕ) (frame : List ℕ) (old new : Seen Own) (net now_net : NetState) (result : Result (Option Event) TxnFault) → IsSome (rows_at d net.views) → Arrives Tells d frame old new net now_net result → NoStray Tells number old new net
arrived_places Tells d frame old new net now_net result known arrives = record {
  places = λ told order abreast. arrives.no_strays told order (abreast.joined d ∙ viewed d net.views ∙ known);
  own = links_own arrives.links;
}

pub arrived_reads : {Own : Type 0} (Tells : Type 0) (d : ℕ) (frame : List ℕ) (old new : Seen Own) (net now_net : NetState) (event : Option Event) → IsSome (rows_at d net.views) → Arrives Tells d frame old new net now_net (Ok event) → Reads Tells old new net now_net
arrived_reads Tells d frame old new net now_net event known arrives = record {
  abreast = λ told order abreast. arrives_abreast (viewed d net.views ∙ known) arrives told abreast;
  read = λ told order abreast. arrives_read arrives refl told;
}

-- the switches that were lost are told
pub told_read : (mid now_run : Core) → TellsLost mid now_run → AreRead mid.net.kept → AreRead now_run.net.kept
told_read mid now_run tells read = read_alike mid.net.kept now_run.net.kept (ap (λ (n : NetState). n.kept) tells.net) read

-- an item was taken, and no event was dispatched
pub waits_taken : {Own Tells : Type 0} {item : WorldStep} {old new : Seen Own} (run mid now_run : Core) → Waits mid now_run → mid.events ≡ run.events → mid.store ≡ run.store → TakesItem Tells item old new run now_run → Waits run now_run
waits_taken run mid now_run waits events store takes = record {
  room = takes.handles.room;
  events = waits.events ∙ events;
  store = waits.store ∙ store;
  left = λ none. takes.handles.left;
}

pub arrived_only : {Own : Type 0} (Tells : Type 0) (d : ℕ) (frame : List ℕ) (old new : Seen Own) (net now_net : NetState) (event : Option Event) → Arrives Tells d frame old new net now_net (Ok event) → OnlyMessages Tells old new
arrived_only Tells d frame old new net now_net event arrives = record { read = λ told. arrives_read arrives refl told }

-- ---- Messages that were kept: one was taken out of what is kept, and handled

abbrev WithoutFirst : NetState → NetState → Type 0
WithoutFirst mid_net taken_net = taken_net ≡ record mid_net { kept = drop 1 mid_net.kept }

pub taken_read : (mid_net taken_net : NetState) → WithoutFirst mid_net taken_net → AreRead mid_net.kept → AreRead taken_net.kept
taken_read mid_net taken_net taken read = read_same (record mid_net { kept = drop 1 mid_net.kept }) taken_net taken (read_rest mid_net.kept read)

pub taken_waits : (run mid later : Core) (taken_net : NetState) → WithoutFirst mid.net taken_net → Waits run mid → Waits (record mid { net = taken_net }) later → Waits run later
taken_waits run mid later taken_net taken first second = record {
  room = second.room ∙ ap (λ (n : NetState). n.room) taken ∙ first.room;
  events = second.events ∙ first.events;
  store = second.store ∙ first.store;
  left = λ none. second.left (ap (λ (n : NetState). n.left) taken ∙ first.left none);
}

-- ---- An item

pub puts_none : {Own : Type 0} {number : ℕ} (Tells : Type 0) (step : WorldStep) (seen : Seen Own) (net : NetState) → NoStrayAtItem Tells number step seen seen net
puts_none Tells step seen net = record { places = λ told order at. no_strays_none seen }

pub joined_puts : {Own : Type 0} {number : ℕ} (Tells : Type 0) (d : ℕ) (bytes : List ℕ) (old new : Seen Own) (net : NetState) → AsksWithoutStrays Tells d old new → NoStrayAtItem Tells number (Joined d bytes) old new net
joined_puts Tells d bytes old new net asks = record { places = λ told order at. asks told order at.told_of.0 }

pub from_puts : {Own : Type 0} {number : ℕ} (Tells : Type 0) (item : Item) (d n : ℕ) (buf : List ℕ) (old new : Seen Own) (net : NetState) → item ≡ items.From d n → NoStray Tells number old new net → NoStrayAtItem Tells number (item_step item buf) old new net
unfolding item_step
from_puts Tells item d n buf old new net is places = rw is (record { places = λ told order at. places.places told order (record { joined = λ e. at.others e refl; none_due = at.none_due }) })

pub joined_item : {Own : Type 0} {number : ℕ} (Tells : Type 0) (item : Item) (d n : ℕ) (buf : List ℕ) (old new : Seen Own) (net : NetState) → item ≡ items.Joined d n → NoStrayAtItem Tells number (Joined d (take n buf)) old new net → NoStrayAtItem Tells number (item_step item buf) old new net
joined_item {number = number} Tells item d n buf old new net is puts = subst (λ (step : WorldStep). NoStrayAtItem Tells number step old new net) (joined_step item d n buf is) puts

-- ---- What is told next

pub next_places : {Own : Type 0} {number : ℕ} (Tells : Type 0) (old new : Seen Own) (net : NetState) → (Tells → MakesNoStrayCall old new) → NextPoint Tells number old new → NoStray Tells number old new net
next_places Tells old new net places next = record { places = λ told order abreast. places told; own = next.own }

pub handled_places : {Own : Type 0} {number : ℕ} (Tells : Type 0) (item : Item) (buf : List ℕ) (old mid new : Seen Own) (net : NetState) → Nexts Tells old mid (Ok item) buf → Continues Tells mid new → NextPoint Tells number old mid → OnLinks Tells mid new → NoStrayAtItem Tells number (item_step item buf) mid new net
    → NoStray Tells number old new net
handled_places Tells item buf old mid new net call later next links puts = record {
  places = λ told order abreast.
      let so_far = InOrder-before told later order in
      no_strays_then old mid new told (Nexts-continues call) later (next_in_place call told) (puts.places told order (next_tells net call told so_far abreast));
  own = λ told. calls_then (next.own told) (links_own links told);
}

next_reads : {Own : Type 0} (Tells : Type 0) (item : Item) (buf : List ℕ) (old mid new : Seen Own) (net now_net : NetState) → Nexts Tells old mid (Ok item) buf → Continues Tells mid new → CatchesUp Tells (item_step item buf) mid new net now_net → Reads Tells old new net now_net
next_reads Tells item buf old mid new net now_net call later catches = record {
  abreast = λ told order abreast. catches.abreast told order (next_tells net call told (InOrder-before told later order) abreast);
  read = λ told order abreast.
      let at = next_tells net call told (InOrder-before told later order) abreast in
      messages-then old mid new told (Nexts-continues call) later (next_messages call told (catches.item told order at)) (catches.read told);
}

pub handled_reads : {Own : Type 0} (Tells : Type 0) (item : Item) (buf : List ℕ) (old mid new : Seen Own) (net now_net : NetState) (queue now_queue : List Event) → Nexts Tells old mid (Ok item) buf → {text : List ℕ} → HandlesTold Tells (item_step item buf) text mid new net now_net queue now_queue
    → OnLinks Tells mid new → OnlyMessages Tells mid new → Reads Tells old new net now_net
handled_reads Tells item buf old mid new net now_net queue now_queue call handles links only = next_reads Tells item buf old mid new net now_net call handles.continues (caught_up item buf handles links only.read)

-- the batch is over
pub over_reads : {Own : Type 0} (Tells : Type 0) (item : Item) (buf : List ℕ) (old mid : Seen Own) (net : NetState) → net.left ≡ [] → (item ≡ items.Idle) ⊎ (item ≡ items.End) → Nexts Tells old mid (Ok item) buf → Reads Tells old mid net net
over_reads Tells item buf old mid net none over call =
    handled_reads Tells item buf old mid mid net net [] [] call (handles_told (item_step item buf) [] mid mid net net [] [] (rest_undoubted item buf net.views over) (rest_handles item buf mid net [] none over)) (OnLinks-refl Tells mid) (only_none Tells mid)

pub handled_quietly : {Own : Type 0} {number : ℕ} (Tells : Type 0) (old mid new : Seen Own) → Continues Tells mid new → NextPoint Tells number old mid → OnLinks Tells mid new → NextPoint Tells number old new
handled_quietly Tells old mid new later next links = record {
  last = λ told. last_quiescent-then (next.last told) (links-none_quiescent (links told));
  none_quiescent = λ told order is. none_since-then (next.none_quiescent told (InOrder-before told later order) is) (links-none_quiescent (links told));
  own = λ told. calls_then (next.own told) (links_own links told);
}

pub over_begun : {Own : Type 0} (Tells : Type 0) (rest : Rest) (old new : Seen Own) → GoesBegun Tells (Some rest) old new
over_begun Tells rest old new = record { still = λ told none is. absurd cc; anew = λ told order none at. absurd cc }

pub goes_begun : {Own : Type 0} (Tells : Type 0) (item : Item) (buf : List ℕ) (old mid new : Seen Own) → Nexts Tells old mid (Ok item) buf → Continues Tells mid new → OnLinks Tells mid new → None ≡ rest_by item → GoesBegun Tells None old new
goes_begun Tells item buf old mid new call later links goes = record {
  still = λ told none is. links-begun later (links told) ∙ next_still call told goes is;
  anew = λ told order none at. links-begun later (links told) ∙ next_anew call told (InOrder-before told later order) goes at;
}

pub next_number : {Own : Type 0} {Tells : Type 0} {old new : Seen Own} (n m : ℕ) → m ≡ n → NextPoint Tells m old new → NextPoint Tells n old new
next_number {Tells = Tells} {old = old} {new = new} n m same next = subst (λ (k : ℕ). NextPoint Tells k old new) same next

-- ---- A batch

-- behind what was done so far
last_by : {Own : Type 0} {number : ℕ} {Tells : Type 0} (old now new : Seen Own) → Tells → InOrder new → NextPoint Tells number now new → (now ≡ old) ⊎ (((state now).begun ≡ true) × IsLastQuiescent old now) → IsLastQuiescent old new
last_by old now new told order next (inl same) = subst (λ (x : Seen _). IsLastQuiescent x new) same (next.last told)
last_by old now new told order next (inr some) = last_quiescent-then some.1 (next.none_quiescent told order some.0)

begun_by : {Own : Type 0} {Tells : Type 0} (old now new : Seen Own) → Tells → InOrder new → NothingUnderWay (state old) → GoesBegun Tells None now new → (now ≡ old) ⊎ (((state now).begun ≡ true) × IsLastQuiescent old now) → (state new).begun ≡ true
begun_by old now new told order rest goes (inl same) = goes.anew told order refl (subst (λ (x : Seen _). NothingUnderWay (state x)) (sym same) rest)
begun_by old now new told order rest goes (inr some) = goes.still told refl some.0

pub here_goes : {Own : Type 0} {number : ℕ} {Tells : Type 0} (old now new : Seen Own) (net : NetState) → Continues Tells now new → BatchPoint Tells number old now net → NextPoint Tells number now new → GoesBegun Tells None now new → BatchPoint Tells number old new net
here_goes old now new net later so_far next goes = record {
  here = λ told order rest none.
      let before = so_far.here told (InOrder-before told later order) rest none in
      inr (begun_by old now new told order rest goes before, last_by old now new told order next before);
  own = λ told. calls_then (so_far.own told) (next.own told);
}

pub here_ends : {Own : Type 0} {number : ℕ} {Tells : Type 0} (old now new : Seen Own) (net : NetState) → Continues Tells now new → BatchPoint Tells number old now net → NextPoint Tells number now new → net.kept ≡ [] → AtMostThisPoint Tells number old new
here_ends old now new net later so_far next none = record {
  last = λ told order rest. last_point_of (last_by old now new told order next (so_far.here told (InOrder-before told later order) rest none));
  own = λ told. calls_then (so_far.own told) (next.own told);
}

pub here_kept : {Own : Type 0} {number : ℕ} {Tells : Type 0} (old new : Seen Own) → OnLinks Tells old new → AtMostThisPoint Tells number old new
here_kept old new links = quietly_here (links_quietly links)
