-- Laws of what each part of a batch leaves: where links alone were used, and where one part is the other's.
use Rattle.std.specs.Prelude.{◌≡◌, ◌⊎◌, ℕ, List, [], length, drop, Option, Some, None, Result, Ok, Err, OnOk, IsErr, IsSome, refl}
use Rattle.std.proofs.Common.{sym, ap, ◌∙◌, subst, inl, inr, arith}
use Rattle.std.proofs.lemmas.List.{append-nil}
use Rattle.app_frames.specs.declared.frame.Event.{Event}
use Rattle.of_types.specs.Fields.{IsBytes}
use Rattle.lego_model.specs.declared.fault.TxnFault.{TxnFault}
use Rattle.outside.specs.declared.faults.NextFault.{NextFault}
use Rattle.outside.specs.declared.item.Item.{Item}
use Rattle.outside.specs.declared.item.Item.TheVariants as items
use Rattle.outside.specs.declared.step.WorldStep.{WorldStep}
use Rattle.outside.specs.Seen.{Seen, Continues}
use Rattle.outside.specs.laws.SeenLaws.{Continues-refl, Nexts-continues, Continues-trans}
use Rattle.outside.specs.Calls.{Nexts, item_step}
use Rattle.net_txn.specs.laws.LinkStepLaws.{OnLinks-refl, OnLinks-trans}
use Rattle.net_txn.specs.Net.{NetState}
use Rattle.net_txn.specs.Views.{rows_at}
use Rattle.net_txn.specs.LinkSteps.{OnLinks, AsksWithoutStrays}
use Rattle.net_txn.specs.laws.LinkStrayLaws.{no_strays_none}
use Rattle.net_txn.specs.Arriving.{Arrives}
use Rattle.event_dispatch.specs.declared.batch.Rest.{Rest}
use Rattle.event_dispatch.specs.declared.engine_core.Core.{Core}
use Rattle.event_dispatch.specs.Runs.{Waits}
use Rattle.run_laws.specs.Course.{BatchTaken}
use Rattle.event_dispatch.specs.Serves.{stand}
use Rattle.event_dispatch.specs.Batch.{standing_of, rest_by, IsAsBefore, TakesKept, BatchGoes}
use Rattle.event_dispatch.specs.Steady.{Reads}
use Rattle.event_dispatch.specs.Told.{BatchPoint}
use Rattle.event_dispatch.specs.Taking.{PassesOnLinks, OnLinksSoFar, UsesLinksAt, UsesLinksOf, AsksNext, PassesNext, ItemDone, ToldDone, HandledNext}
use Rattle.batch_laws.specs.Items.{doubt_in}
use Rattle.batch_laws.specs.laws.DeletionLaws.{handles_told}
use Rattle.event_dispatch.specs.laws.BatchLaws.{rest_handles, rest_undoubted}
use Rattle.lego_model.specs.OwnIds.{IsShortRun, OwnIdsSoFar}
use Rattle.net_txn.specs.OwnIds.{KeepsIds}
use Rattle.net_txn.specs.laws.OwnIdLaws.{so_far_ascends}
use Rattle.outside.specs.laws.InOrderLaws.{InOrder-before}
use Rattle.event_dispatch.specs.Numbers.{IdsAscend, GoesOnAscending, AscendsAtItem}
use Rattle.event_dispatch.specs.laws.AbreastItemLaws.{next_tells}
use Rattle.event_dispatch.specs.laws.NumberLaws.{ids_ascend, ids_of, ids_failed, ids_over, keeps_numbers, next_ids}
use Rattle.event_dispatch.specs.laws.PassesLaws.{SameNext, same_next, if_failed, waits_none, passes_none, passes_then, passes_fails, passes_as, passes_waits, so_far}
use Rattle.event_dispatch.specs.laws.TalkingLaws.{keeps_none, keeps_then, keeps_links, keeps_next}
use Rattle.event_dispatch.specs.laws.NextPointLaws.{next_quietly, next_in_place}
use Rattle.event_dispatch.specs.laws.BatchSteadyLaws.{arrived_places, arrived_reads, puts_none, next_places, handled_places, over_reads, handled_quietly, over_begun, goes_begun, here_kept}

-- ---- Links alone were used

-- nothing was done
pub on_links_none : {Own T E : Type 0} {number : ℕ} (Tells : Type 0) (seen : Seen Own) (net now_net : NetState) (result : Result T E)
    → SameNext net now_net → PassesOnLinks Tells number seen seen net now_net result
on_links_none Tells seen net now_net result same = record { passes = passes_none Tells seen net now_net result same; talks = keeps_none Tells seen; links = OnLinks-refl Tells seen }

pub on_links_then : {Own A F T E Tells : Type 0} {number : ℕ} {old mid new : Seen Own} {net mid_net now_net : NetState} {x : A} {result : Result T E}
    → PassesOnLinks {T = A} {E = F} Tells number old mid net mid_net (Ok x) → PassesOnLinks Tells number mid new mid_net now_net result
    → PassesOnLinks Tells number old new net now_net result
on_links_then {Tells = Tells} {old = old} {mid = mid} {new = new} first second = record {
  passes = passes_then first.passes second.passes;
  talks = keeps_then Tells old mid new first.talks second.talks;
  links = OnLinks-trans Tells old mid new first.links second.links;
}

pub on_links_fails : {Own A F T E Tells : Type 0} {number : ℕ} {old new : Seen Own} {net mid_net : NetState} {first : Result A F} (now_net : NetState) (result : Result T E)
    → PassesOnLinks Tells number old new net mid_net first → IsErr result → PassesOnLinks Tells number old new net now_net result
on_links_fails now_net result first failed = record { passes = passes_fails now_net result first.passes failed; talks = first.talks; links = first.links }

pub on_links_as : {Own A F T E Tells : Type 0} {number : ℕ} {old new : Seen Own} {net mid_net : NetState} {x : A} (now_net : NetState) (result : Result T E)
    → PassesOnLinks {T = A} {E = F} Tells number old new net mid_net (Ok x) → SameNext mid_net now_net
    → PassesOnLinks Tells number old new net now_net result
on_links_as now_net result first same = record { passes = passes_as now_net result first.passes same; talks = first.talks; links = first.links }

pub on_links_waits : {Own T E Tells : Type 0} {old new : Seen Own} {net now_net : NetState} {result : Result T E} {c now_c : Core} → Waits c now_c
    → PassesOnLinks Tells (length now_c.store) old new net now_net result → PassesOnLinks Tells (length c.store) old new net now_net result
on_links_waits waits all = record { passes = passes_waits waits all.passes; talks = all.talks; links = all.links }

-- in a loop: no part was done yet, and one more
pub on_links_at_first : {Own : Type 0} {number : ℕ} (Tells : Type 0) (seen : Seen Own) (net : NetState) → OnLinksSoFar Tells number seen seen net net
on_links_at_first Tells seen net = on_links_none Tells seen net net (Ok tt) (same_next net)

on_links_so_far : {Own T E Tells : Type 0} {number : ℕ} {old new : Seen Own} {net now_net : NetState} {x : T}
    → PassesOnLinks {T = T} {E = E} Tells number old new net now_net (Ok x) → OnLinksSoFar Tells number old new net now_net
on_links_so_far all = record { passes = so_far all.passes; talks = all.talks; links = all.links }

-- a message came of a switch that has a view
arrived_numbers : {Own Tells : Type 0} {d : ℕ} {frame : List ℕ} {old new : Seen Own} {net now_net : NetState} (result : Result (Option Event) TxnFault)
    → Arrives Tells d frame old new net now_net result → GoesOnAscending Tells old new net now_net result
arrived_numbers {net = net} {now_net = now_net} result arrives told order abreast short before = keeps_numbers 0 net.xid now_net.xid result result (omega arith) arrives.ids (λ failed. failed) told short before

pub arrived_passes : {Own : Type 0} {number : ℕ} (Tells : Type 0) (d : ℕ) (frame : List ℕ) (old new : Seen Own) (net now_net : NetState) (result : Result (Option Event) TxnFault)
    → IsSome (rows_at d net.views) → Arrives Tells d frame old new net now_net result → PassesOnLinks Tells number old new net now_net result
arrived_passes Tells d frame old new net now_net (Ok event) known arrives = record {
  passes = record { continues = arrives.continues; places = arrived_places Tells d frame old new net now_net (Ok event) known arrives; reads = arrived_reads Tells d frame old new net now_net event known arrives; numbers = arrived_numbers (Ok event) arrives };
  talks = keeps_links Tells old new arrives.links;
  links = arrives.links;
}
arrived_passes Tells d frame old new net now_net (Err fault) known arrives = record {
  passes = record { continues = arrives.continues; places = arrived_places Tells d frame old new net now_net (Err fault) known arrives; reads = tt; numbers = arrived_numbers (Err fault) arrives };
  talks = keeps_links Tells old new arrives.links;
  links = arrives.links;
}

-- one of those that were kept was taken out of them, and handled
pub taken_passes : {Own T E Tells : Type 0} {number : ℕ} {old now new : Seen Own} {net mid_net now_net : NetState} {result : Result T E} (taken_net : NetState)
    → taken_net ≡ record mid_net { kept = drop 1 mid_net.kept } → OnLinksSoFar Tells number old now net mid_net
    → PassesOnLinks Tells number now new taken_net now_net result → PassesOnLinks Tells number old new net now_net result
taken_passes taken_net taken first second = on_links_then (on_links_as {T = Unit {0}} {E = Unit {0}} taken_net (Ok tt) first
    (record { views = ap (λ (n : NetState). n.views) taken; xid = ap (λ (n : NetState). n.xid) taken })) second

pub taken_so_far : {Own T E Tells : Type 0} {number : ℕ} {old now new : Seen Own} {net mid_net now_net : NetState} {x : T} (taken_net : NetState)
    → taken_net ≡ record mid_net { kept = drop 1 mid_net.kept } → OnLinksSoFar Tells number old now net mid_net
    → PassesOnLinks {T = T} {E = E} Tells number now new taken_net now_net (Ok x) → OnLinksSoFar Tells number old new net now_net
taken_so_far taken_net taken first second = on_links_so_far (taken_passes taken_net taken first second)

-- ---- The outside was asked what comes next

pub asked_next : {Own : Type 0} {Tells : Type 0} {old new : Seen Own} {result : Result Item NextFault} {buf now_buf : List ℕ}
    → Nexts Tells old new result now_buf → length now_buf ≡ length buf → IsBytes now_buf → AsksNext Tells old new buf now_buf
asked_next call buffer bytes = record { continues = Nexts-continues call; ids = λ xid told before. next_ids xid call told before; talks = keeps_next call; no_point = λ number. next_quietly call; places = next_in_place call; buffer = buffer; bytes = bytes }

-- it failed
next_fails_numbers : {Own T E Tells : Type 0} {old new : Seen Own} {buf now_buf : List ℕ} (net now_net : NetState) (result : Result T E) → AsksNext Tells old new buf now_buf → IsErr result
    → GoesOnAscending Tells old new net now_net result
next_fails_numbers {new = new} net now_net result asks failed told order abreast short before = ids_failed result new now_net.xid failed (so_far_ascends new net.xid 0 short (omega arith) (asks.ids net.xid told before))

pub next_fails : {Own T E Tells : Type 0} {number : ℕ} {old new : Seen Own} {buf now_buf : List ℕ} (net now_net : NetState) (result : Result T E)
    → AsksNext Tells old new buf now_buf → IsErr result → PassesNext Tells number old new net now_net buf now_buf result
next_fails {Tells = Tells} {number = number} {old = old} {new = new} net now_net result asks failed = record {
  passes = record { continues = asks.continues; places = next_places Tells old new net asks.places (asks.no_point number); reads = if_failed _ result failed; numbers = next_fails_numbers net now_net result asks failed };
  talks = asks.talks;
  no_point = asks.no_point number;
  buffer = asks.buffer;
}

-- nothing comes now, or any more
pub next_over : {Own T E Tells : Type 0} {number : ℕ} {old new : Seen Own} {buf now_buf : List ℕ} (item : Item) (net : NetState) (x : T) → net.left ≡ []
    → (item ≡ items.Idle) ⊎ (item ≡ items.End) → AsksNext Tells old new buf now_buf → Nexts Tells old new (Ok item) now_buf
    → PassesNext {T = T} {E = E} Tells number old new net net buf now_buf (Ok x)
next_over {Tells = Tells} {number = number} {old = old} {new = new} {now_buf = now_buf} item net x none over asks nexts = record {
  passes = record { continues = asks.continues; places = next_places Tells old new net asks.places (asks.no_point number); reads = over_reads Tells item now_buf old new net none over nexts; numbers = λ told order abreast short before. asks.ids net.xid told before };
  talks = asks.talks;
  no_point = asks.no_point number;
  buffer = asks.buffer;
}

pub over_done : {Own Tells : Type 0} (rest : Rest) (item : Item) (buf : List ℕ) (old new : Seen Own) (run : Core) → run.net.left ≡ []
    → (item ≡ items.Idle) ⊎ (item ≡ items.End) → Some rest ≡ rest_by item → IsBytes buf → Nexts Tells old new (Ok item) buf
    → HandledNext Tells (Some rest) old new run run
over_done {Tells = Tells} rest item buf old new run none over is fit nexts = record {
  waits = waits_none run;
  begun = over_begun Tells rest old new;
  read = λ read. read;
  taken = record {
    item = item;
    text = [];
    takes = record { mid = new; buf = buf; fit = fit; nexts = nexts; handles = handles_told (item_step item buf) [] new new run.net run.net run.queue run.queue (rest_undoubted item buf run.net.views over) (rest_handles item buf new run.net run.queue none over) };
    lines = sym (append-nil run.lines.items);
    rest_is = is;
  };
}

-- an item came and was handled, however that ended
pub next_handled : {Own A F T E Tells : Type 0} {number : ℕ} {used : Result A F} {old mid new : Seen Own} {buf now_buf : List ℕ} {net : NetState} (item : Item) (now_net : NetState) (result : Result T E)
    → AsksNext Tells old mid buf now_buf → Nexts Tells old mid (Ok item) now_buf → UsesLinksAt Tells number (item_step item now_buf) mid new net now_net used → (IsErr used → IsErr result)
    → OnOk result (Reads Tells old new net now_net) → PassesNext Tells number old new net now_net buf now_buf result
next_handled {Tells = Tells} {number = number} {used = used} {old = old} {mid = mid} {new = new} {now_buf = now_buf} {net = net} item now_net result asks nexts uses failed reads = record {
  passes = record {
    continues = Continues-trans Tells old mid new asks.continues uses.continues;
    places = handled_places Tells item now_buf old mid new net nexts uses.continues (asks.no_point number) uses.links uses.places;
    reads = reads;
    numbers = λ told order abreast short before.
        ids_over used result new now_net.xid short failed (uses.numbers told order (next_tells net nexts told (InOrder-before told uses.continues order) abreast) short (asks.ids net.xid told before));
  };
  talks = keeps_then Tells old mid new asks.talks uses.talks;
  no_point = handled_quietly Tells old mid new uses.continues (asks.no_point number) uses.links;
  buffer = asks.buffer;
}

-- an item that is in no doubt was told
pub done_told : {Own Tells : Type 0} {step : WorldStep} {old new : Seen Own} {run now_run : Core} → doubt_in step run.net.views ≡ None → ItemDone Tells step old new run now_run → ToldDone Tells step old new run now_run
done_told {step = step} {old = old} {new = new} {run = run} {now_run = now_run} none done = record {
  waits = done.waits;
  messages = done.messages;
  read = done.read;
  takes = record { text = done.takes.text; handles = handles_told step done.takes.text old new run.net now_run.net run.queue now_run.queue none done.takes.handles; lines = done.takes.lines };
}

pub handled_done : {Own T E Tells : Type 0} {number : ℕ} {result : Result T E} (item : Item) (buf : List ℕ) (old mid new : Seen Own) (run now_run : Core) → None ≡ rest_by item
    → IsBytes buf → Nexts Tells old mid (Ok item) buf → UsesLinksAt Tells number (item_step item buf) mid new run.net now_run.net result
    → ToldDone Tells (item_step item buf) mid new run now_run → HandledNext Tells None old new run now_run
handled_done {Tells = Tells} item buf old mid new run now_run goes fit nexts uses done = record {
  waits = done.waits;
  begun = goes_begun Tells item buf old mid new nexts uses.continues uses.links goes;
  read = done.read;
  taken = record {
    item = item;
    text = done.takes.text;
    takes = record { mid = mid; buf = buf; fit = fit; nexts = nexts; handles = done.takes.handles };
    lines = done.takes.lines;
    rest_is = goes;
  };
}

-- ---- An item, and a switch that joins

pub uses_none : {Own T E : Type 0} {number : ℕ} (Tells : Type 0) (step : WorldStep) (seen : Seen Own) (net now_net : NetState) (result : Result T E) → now_net.xid ≡ net.xid → UsesLinksAt Tells number step seen seen net now_net result
uses_none Tells step seen net now_net result same = record { numbers = λ told order at short before. ids_of result seen now_net.xid short (subst (λ (n : ℕ). OwnIdsSoFar 0 seen n) (sym same) before); continues = Continues-refl Tells seen; talks = keeps_none Tells seen; links = OnLinks-refl Tells seen; places = puts_none Tells step seen net }

-- nothing was done, and it failed
pub uses_not : {Own T E : Type 0} {number : ℕ} (Tells : Type 0) (step : WorldStep) (seen : Seen Own) (net now_net : NetState) (result : Result T E) → IsErr result → UsesLinksAt Tells number step seen seen net now_net result
uses_not Tells step seen net now_net result failed = record {
  numbers = λ told order at short before. ids_failed result seen now_net.xid failed (so_far_ascends seen net.xid 0 short (omega arith) before);
  continues = Continues-refl Tells seen;
  talks = keeps_none Tells seen;
  links = OnLinks-refl Tells seen;
  places = puts_none Tells step seen net;
}

pub joins_none : {Own T E : Type 0} (Tells : Type 0) (d : ℕ) (seen : Seen Own) (net now_net : NetState) (result : Result T E) → now_net.xid ≡ net.xid → UsesLinksOf Tells d seen seen net now_net result
joins_none Tells d seen net now_net result same = record { numbers = λ told short before. ids_of result seen now_net.xid short (subst (λ (n : ℕ). OwnIdsSoFar 0 seen n) (sym same) before); continues = Continues-refl Tells seen; talks = keeps_none Tells seen; links = OnLinks-refl Tells seen; places = λ told order joined. no_strays_none seen }

pub joins_on_links : {Own A F T E : Type 0} (Tells : Type 0) (d : ℕ) (old new : Seen Own) (net mid_net now_net : NetState) (joined : Result A F) (result : Result T E) → Continues Tells old new → OnLinks Tells old new
    → AsksWithoutStrays Tells d old new → KeepsIds Tells 3 old new net.xid mid_net.xid joined → (IsErr joined → IsErr result) → IsErr result ⊎ (now_net.xid ≡ mid_net.xid) → UsesLinksOf Tells d old new net now_net result
joins_on_links Tells d old new net mid_net now_net joined result continues links places ids failed next = record { numbers = λ told short before. joined_numbers told short before next; continues = continues; talks = keeps_links Tells old new links; links = links; places = places }
  where
    joined_numbers : Tells → IsShortRun new → OwnIdsSoFar 0 old net.xid → IsErr result ⊎ (now_net.xid ≡ mid_net.xid) → IdsAscend result new now_net.xid
    joined_numbers told short before (inl is) = ids_failed result new now_net.xid is (ids_ascend joined new mid_net.xid short (keeps_numbers 3 net.xid mid_net.xid joined joined (omega arith) ids (λ f. f) told short before))
    joined_numbers told short before (inr same) =
        subst (λ (n : ℕ). IdsAscend result new n) (sym same) (keeps_numbers 3 net.xid mid_net.xid joined result (omega arith) ids failed told short before)

-- what is kept of the network is as it was, but for what no run waits for
pub waits_behind : (c : Core) (net : NetState) (now_c : Core) → net.room ≡ c.net.room → net.left ≡ c.net.left → Waits (record c { net = net }) now_c
    → Waits c now_c
waits_behind c net now_c room left later = record { room = later.room ∙ room; events = later.events; store = later.store; left = λ none. later.left (left ∙ none) }

-- ---- The transaction ids, of an item that came of a switch

pub from_ascends : {Own T E Tells : Type 0} {old new : Seen Own} {net : NetState} (now_net : NetState) (result : Result T E) (item : Item) (d n : ℕ) (buf : List ℕ) → item ≡ items.From d n → GoesOnAscending Tells old new net now_net result
    → AscendsAtItem Tells (item_step item buf) old new net now_net result
unfolding item_step
from_ascends now_net result item d n buf is all = rw is (λ told order at short before. all told order (record { joined = λ e. at.others e refl; none_due = at.none_due }) short before)

-- ---- A batch begins: the messages that were kept were taken

pub goes_at_first : {Own Tells : Type 0} {left : ℕ} (old new : Seen Own) (run now_run : Core) → TakesKept Tells left old new run now_run
    → BatchGoes Tells 0 old new run now_run
goes_at_first {Own = Own} old new run now_run kept = record { so_far = λ told keeps calm. inl (refl, as_before (kept.none calm.kept).1) }
  where
    as_before : IsAsBefore old new run now_run → standing_of new now_run ≡ standing_of old run
    as_before same =
        ap (λ (seen : Seen Own). standing_of seen now_run) same.0
        ∙ ap (λ (net : NetState). record { seen = old; net = net; queue = now_run.queue; text = now_run.lines.items }) same.1
        ∙ ap (λ (queue : List Event). record { seen = old; net = run.net; queue = queue; text = now_run.lines.items }) same.2
        ∙ ap (λ (text : List ℕ). record { seen = old; net = run.net; queue = run.queue; text = text }) same.3

all_taken : {A B C : Type 0} → A ⊎ (B × C) → A ⊎ B
all_taken (inl none) = inl none
all_taken (inr most) = inr most.0

pub kept_comes_first : {Own : Type 0} {left : ℕ} (Tells : Type 0) (old new : Seen Own) (run now_run : Core) → TakesKept Tells left old new run now_run → BatchTaken Tells (stand old run) (stand new now_run)
kept_comes_first Tells old new run now_run kept = record {
  mid = stand new now_run;
  first = record { taken = kept.taken; kept_is = kept.first.kept_is; all = all_taken kept.all; knowledge = kept.first.knowledge; told = kept.first.told };
  items = [];
  told = refl;
}

pub point_at_first : {Own Tells : Type 0} {left number : ℕ} {old new : Seen Own} (run now_run : Core) → OnLinks Tells old new → TakesKept Tells left old new run now_run
    → BatchPoint Tells number old new run.net
point_at_first {old = old} {new = new} run now_run links kept = record { here = λ told order rest none. inl (kept.none none).1.0; own = (here_kept old new links).own }
