-- Laws of a batch in a world that keeps its word: how it begins, that each further item takes it on or ends it, and what is told next.
use Rattle.std.specs.Prelude.{◌≡◌, ℕ, ◌<◌, ◌⊎◌, true, false, List, [], ◌∷◌, ◌++◌, length, drop, take, filter, slice_get, Option, Some, None, Ok, IsOk, refl}
use Rattle.std.proofs.Common.{sym, ap, ◌∙◌, subst, arith, inl, inr, append_assoc, length-append, true≢false}
use Rattle.std.proofs.lemmas.List.{append-nil}
use Rattle.std.proofs.lemmas.List.Elements.{filter-append}
use Rattle.of_types.specs.declared.journal.Act.{Act}
use Rattle.of_types.specs.declared.journal.Act.TheVariants.{Stim}
use Rattle.of_types.specs.declared.journal.WorldStim.{WorldStim}
use Rattle.of_wire.specs.Reading.{reading_of}
use Rattle.flow_table.specs.Switch.{Declared}
use Rattle.app_frames.specs.declared.frame.Event.{Event}
use Rattle.lego_model.specs.Journal.{is_of, stimuli, losses}
use Rattle.lego_model.specs.laws.JournalLaws.{stimuli-append, losses-append}
use Rattle.outside.specs.declared.item.Item.{Item}
use Rattle.outside.specs.declared.item.Item.TheVariants as items
use Rattle.outside.specs.declared.step.WorldStep.{WorldStep}
use Rattle.outside.specs.declared.step.WorldStep.TheVariants.{Acted, From, Joined, End}
use Rattle.outside.specs.Seen.{Seen, journal}
use Rattle.outside.specs.laws.SeenLaws.{journal-append, Nexts-continues}
use Rattle.outside.specs.State.{State, waits_of, switch_of, upcoming, after_stim, after_act, after_step, state, waiting_in}
use Rattle.outside.specs.laws.StateLaws.{state-append, Conforming-rest, Conforming-front, Conforming-before}
use Rattle.outside.specs.Calls.{Nexts, stim_steps, item_step, next_steps}
use Rattle.outside.specs.laws.CallLaws.{MayStep-at_rest}
use Rattle.outside.specs.Conforming.{MayBegin, MayStep, MayAct, Conforming}
use Rattle.net_txn.specs.Net.{NetState}
use Rattle.switch_laws.specs.laws.OrderlyLaws.{released-still}
use Rattle.switch_laws.specs.laws.LinkLaws.{links_waits}
pub use Rattle.batch_laws.specs.laws.UpcomingLaws.{some_same}
use Rattle.batch_laws.specs.Knowledge.{Knowledge, knowledge_of}
use Rattle.batch_laws.specs.Told.{Stills}
use Rattle.batch_laws.specs.Calm.{Calm}
use Rattle.batch_laws.specs.Batches.{Standing}
use Rattle.batch_laws.specs.Deletions.{IsNoDeletion, TellsNoDeletion}
use Rattle.batch_laws.specs.Items.{HandlesStill, Handles, HandlesTold, TakesNext}
use Rattle.batch_laws.specs.laws.StimulusLaws.{none-wait}
use Rattle.batch_laws.specs.laws.DeletionLaws.{no-deletion, told_undoubted}
use Rattle.batch_laws.specs.laws.UpcomingLaws.{no_message_joined, one_due_by}
use Rattle.batch_laws.specs.laws.ItemLaws.{links_ascend, none_waiting}
use Rattle.batch_laws.specs.InBatch.{InBatch, BatchLost, BatchOver, SoFar, GoesOn, CanTake, CanTakeNext, standing}
use Rattle.batch_laws.specs.laws.HandleLaws.{end_is}
use Rattle.batch_laws.specs.laws.BatchItemLaws.{due_tells, joined_step, due_in, fresh_in, loses_none, told_in, none_upcoming, only_idle, lost_in_batch}

-- ---- The beginning

abbrev begun_now : {Own : Type 0} → WorldStim → Standing Own → Standing Own
begun_now x first = standing (record { given = first.seen.given; history = first.seen.history ++ Acted (Stim x) ∷ []; counts = first.seen.counts }) first.net first.queue first.text

pub stim_step : (x : WorldStim) (s : State) → after_step (Acted (Stim x)) s ≡ after_stim x s
unfolding after_step after_act
stim_step x s = refl

pub stim_begun : (x : WorldStim) (s : State) → (after_stim x s).begun ≡ true
unfolding after_stim
stim_begun x s = refl

stim_stimuli : (x : WorldStim) → stimuli (journal (Acted (Stim x) ∷ [])) ≡ x ∷ []
unfolding stimuli journal
stim_stimuli x = refl

stim_losses : (x : WorldStim) → losses (journal (Acted (Stim x) ∷ [])) ≡ []
unfolding losses journal
stim_losses x = refl

stim_acts : (x : WorldStim) (app : ℕ) → filter (is_of app) (journal (Acted (Stim x) ∷ [])) ≡ []
unfolding journal
stim_acts x app = refl

begins : {Own : Type 0} (x : WorldStim) (first : Standing Own) → Stills first → MayBegin first.seen.given.declared x (state first.seen) → InBatch x 0 first (begun_now x first)
begins x first still may =
    let now = begun_now x first in
    let same : state now.seen ≡ after_stim x (state first.seen) = state-append first.seen now.seen (Acted (Stim x) ∷ []) refl refl ∙ stim_step x (state first.seen) in
    let h = first.seen.history in
    record {
      given = refl;
      began = may;
      stays = record {
        opened = ap (λ (u : State). u.opened) same;
        running = ap (λ (u : State). u.running) same;
        moment = ap (λ (u : State). u.moment) same;
        to_come = ap (λ (u : State). u.to_come) same;
        marks = ap (λ (u : State). u.marks) same;
      };
      begun = ap (λ (u : State). u.begun) same ∙ stim_begun x (state first.seen);
      switches = λ d. ap (switch_of d) same;
      due = inr same;
      told = [];
      count = refl;
      read = tt;
      order = ap upcoming same;
      knowledge = refl;
      kept = still.kept;
      log = refl;
      room = refl;
      held = refl;
      left = still.left;
      text = refl;
      lost = ap losses (journal-append h (Acted (Stim x) ∷ [])) ∙ losses-append (journal h) (journal (Acted (Stim x) ∷ [])) ∙ ap (λ (xs : List ℕ). losses (journal h) ++ xs) (stim_losses x) ∙ append-nil (losses (journal h));
      stimuli_is = ap stimuli (journal-append h (Acted (Stim x) ∷ [])) ∙ stimuli-append (journal h) (journal (Acted (Stim x) ∷ [])) ∙ ap (λ (xs : List WorldStim). stimuli (journal h) ++ xs) (stim_stimuli x);
      acts = λ app. ap (filter (is_of app)) (journal-append h (Acted (Stim x) ∷ [])) ∙ filter-append (is_of app) (journal h) (journal (Acted (Stim x) ∷ []))
          ∙ ap (λ (xs : List Act). filter (is_of app) (journal h) ++ xs) (stim_acts x app) ∙ append-nil (filter (is_of app) (journal h));
      released = released-still first.seen now.seen (Acted (Stim x) ∷ []) refl (refl, tt);
      orderly = λ app. record { steps = Acted (Stim x) ∷ []; history = refl; orderly = (tt, tt) };
    }

-- ---- What is told next

stills : {Own : Type 0} (first : Standing Own) → Conforming first.seen → Calm first.seen first.net → Stills first
stills first keeps calm = record {
  none_due = calm.none_due;
  none_begun = calm.none_begun;
  waits = calm.ready.waits;
  none_wait = none-wait (state first.seen) (links_ascend first.seen keeps) calm.ready.waits;
  kept = calm.kept;
  left = calm.left;
  agrees = calm.ready.agrees;
  known = calm.ready.known;
}

nothing_upcoming : {Own : Type 0} (first : Standing Own) → Conforming first.seen → Stills first → upcoming (state first.seen) ≡ []
unfolding upcoming waits_of
nothing_upcoming first keeps still =
    let s = state first.seen in
    ap (λ (xs : List WorldStep). xs ++ waiting_in s.links) still.none_due ∙ none_waiting 1 s.links (links_ascend first.seen keeps) still.waits

next_history : {Own Tells : Type 0} {old mid : Seen Own} {item : Item} {buf : List ℕ} (told : Tells) (call : Nexts Tells old mid (Ok item) buf) (begun : Option WorldStim) → (call.told told).begun ≡ begun
    → mid.history ≡ old.history ++ (stim_steps begun ++ item_step item buf ∷ [])
unfolding next_steps
next_history {old = old} {item = item} {buf = buf} told call begun is = (call.told told).history ∙ ap (λ (o : Option WorldStim). old.history ++ (stim_steps o ++ item_step item buf ∷ [])) is

may_begin : (declared : List Declared) (x : WorldStim) (s : State) → MayStep declared (Acted (Stim x)) s → MayBegin declared x s
unfolding MayStep MayAct
may_begin declared x s may = may

end_state : (s : State) → after_step End s ≡ s
unfolding after_step
end_state s = refl

end_act : journal (End ∷ []) ≡ []
unfolding journal
end_act = refl

end_acts : {Own : Type 0} (old mid : Seen Own) → mid.history ≡ old.history ++ End ∷ [] → journal mid.history ≡ journal old.history
end_acts old mid longer = ap journal longer ∙ journal-append old.history (End ∷ []) ∙ ap (λ (xs : List Act). journal old.history ++ xs) end_act ∙ append-nil (journal old.history)

is_over : {Own Tells : Type 0} {first : Standing Own} {mid new : Seen Own} {net : NetState} {queue : List Event} {text : List ℕ} → mid.given ≡ first.seen.given → mid.history ≡ first.seen.history ++ End ∷ [] → (state first.seen).to_come ≡ []
    → HandlesStill Tells End text mid new first.net net first.queue queue → BatchOver first (standing new net queue (first.text ++ text))
is_over {first = first} {mid = mid} {new = new} {text = text} given longer none handles =
    let same : new ≡ mid = handles.does.seen in
    record {
      given = ap (λ (s : Seen _). s.given) same ∙ given;
      to_come = none;
      state_is = ap state same ∙ state-append first.seen mid (End ∷ []) given longer ∙ end_state (state first.seen);
      net = handles.does.same;
      queue = ap (λ (k : Knowledge). k.queue) (handles.knowledge ∙ end_is (knowledge_of first.net first.queue));
      text = ap (λ (xs : List ℕ). first.text ++ xs) handles.text_is ∙ append-nil first.text;
      acts = ap (λ (s : Seen _). journal s.history) same ∙ end_acts first.seen mid longer;
      orderly = λ app. record { steps = End ∷ []; history = ap (λ (s : Seen _). s.history) same ∙ longer; orderly = (tt, tt) };
    }

over_by : {Own Tells : Type 0} (n : ℕ) (first : Standing Own) {mid new : Seen Own} {net : NetState} {queue : List Event} {text : List ℕ} (item : Item) (buf : List ℕ) → item ≡ items.End → mid.given ≡ first.seen.given → mid.history ≡ first.seen.history ++ item_step item buf ∷ []
    → (state first.seen).to_come ≡ [] → HandlesTold Tells (item_step item buf) text mid new first.net net first.queue queue → GoesOn item n first (standing new net queue (first.text ++ text))
unfolding item_step
over_by {Tells = Tells} n first {mid = mid} {new = new} {net = net} {queue = queue} {text = text} item buf is given longer none handles =
    let at_end : Handles Tells End text mid new first.net net first.queue queue = told_undoubted End text mid new first.net net first.queue queue tt (subst (λ (i : Item). HandlesTold Tells (item_step i buf) text mid new first.net net first.queue queue) is handles) in
    subst (λ (i : Item). GoesOn i n first (standing new net queue (first.text ++ text))) (sym is)
    (is_over given (longer ∙ ap (λ (i : Item). first.seen.history ++ item_step i buf ∷ []) is) none (loses_none End (λ e at. at) at_end.went))

-- ---- No deletion is told

next_first : (step : WorldStep) (steps : List WorldStep) → slice_get steps 0 ≡ Some step → steps ≡ step ∷ drop 1 steps
next_first step [] is = absurd cc
next_first step (x ∷ steps) is = cc

message_told : {Own : Type 0} {x : WorldStim} {n : ℕ} {first now : Standing Own} (d : ℕ) (bytes : List ℕ) → Stills first → InBatch x n first now → MayStep now.seen.given.declared (From d bytes) (state now.seen) → IsNoDeletion (reading_of bytes)
unfolding MayStep
message_told {x = x} {first = first} {now = now} d bytes still batch may =
    let later = upcoming (state now.seen) in
    no-deletion x first.seen.given.declared (state first.seen) d bytes batch.told (drop 1 later) batch.began.stimulus still.none_wait still.none_due
    (ap (λ (xs : List WorldStep). batch.told ++ xs) (sym (next_first (From d bytes) later may.0)) ∙ batch.order)

item_told : {Own : Type 0} {x : WorldStim} {n : ℕ} {first now : Standing Own} (item : Item) (buf : List ℕ) → Stills first → InBatch x n first now → MayStep now.seen.given.declared (item_step item buf) (state now.seen) → TellsNoDeletion (item_step item buf)
unfolding item_step
item_told (items.From d k) buf still batch may = message_told d (take k buf) still batch may
item_told (items.Joined d k) buf still batch may = tt
item_told (items.Left d) buf still batch may = tt
item_told (items.Moment t) buf still batch may = tt
item_told items.Idle buf still batch may = tt
item_told items.End buf still batch may = tt

idle_told : (item : Item) (buf : List ℕ) → item ≡ items.Idle → TellsNoDeletion (item_step item buf)
unfolding item_step
idle_told item buf is = rw is tt

-- the first item
first_told : {Own Tells : Type 0} {first : Standing Own} {new : Seen Own} {net : NetState} {queue : List Event} {text : List ℕ} (item : Item) (begun : Option WorldStim) (told : Tells) (keeps : Conforming new) → Stills first
    → (takes : TakesNext Tells item text first.seen new first.net net first.queue queue) → ((takes.nexts.told told).begun ≡ begun) → GoesOn item 0 first (standing new net queue (first.text ++ text))
first_told {first = first} {new = new} item None told keeps still takes is =
    let mid = takes.mid in
    let kept : Conforming mid = Conforming-before told takes.handles.continues keeps in
    let before : Conforming first.seen = Conforming-before told (Nexts-continues takes.nexts) kept in
    let longer = next_history told takes.nexts None is in
    let may = Conforming-rest first.seen mid (item_step item takes.buf ∷ []) takes.nexts.given longer kept in
    let rests = MayStep-at_rest first.seen.given.declared item takes.buf (state first.seen) still.none_begun (nothing_upcoming first before still) may.0 in
    over_by 0 first item takes.buf rests.0 takes.nexts.given longer rests.1 takes.handles
first_told {first = first} {new = new} item (Some x) told keeps still takes is =
    let mid = takes.mid in
    let now = begun_now x first in
    let step = item_step item takes.buf in
    let kept : Conforming mid = Conforming-before told takes.handles.continues keeps in
    let longer = next_history told takes.nexts (Some x) is in
    let may = Conforming-rest first.seen mid (Acted (Stim x) ∷ step ∷ []) takes.nexts.given longer kept in
    let behind : mid.history ≡ now.seen.history ++ step ∷ [] = longer ∙ sym (append_assoc first.seen.history (Acted (Stim x) ∷ []) (step ∷ [])) in
    let before : Conforming now.seen = Conforming-front now.seen mid (step ∷ []) takes.nexts.given behind kept in
    let batch = begins x first still (may_begin first.seen.given.declared x (state first.seen) may.0) in
    let may_tell = (Conforming-rest now.seen mid (step ∷ []) takes.nexts.given behind kept).0 in
    told_in item takes.buf before still batch (record {
      told = told;
      keeps = keeps;
      kept = kept;
      given = takes.nexts.given;
      longer = behind;
      may = may_tell;
      handles = told_undoubted _ _ _ _ _ _ _ _ (item_told item takes.buf still batch may_tell) takes.handles;
    })

-- a further item
next_told : {Own Tells : Type 0} {x : WorldStim} {n : ℕ} {first now : Standing Own} {new : Seen Own} {net : NetState} {queue : List Event} {text : List ℕ} (item : Item) (begun : Option WorldStim) (told : Tells) (keeps : Conforming new) → Stills first → InBatch x n first now
    → (takes : TakesNext Tells item text now.seen new now.net net now.queue queue) → ((takes.nexts.told told).begun ≡ begun) → GoesOn item n first (standing new net queue (now.text ++ text))
next_told {now = now} {new = new} item None told keeps still batch takes is =
    let mid = takes.mid in
    let step = item_step item takes.buf in
    let kept : Conforming mid = Conforming-before told takes.handles.continues keeps in
    let before : Conforming now.seen = Conforming-before told (Nexts-continues takes.nexts) kept in
    let longer = next_history told takes.nexts None is in
    let may_tell = (Conforming-rest now.seen mid (step ∷ []) takes.nexts.given longer kept).0 in
    told_in item takes.buf before still batch (record {
      told = told;
      keeps = keeps;
      kept = kept;
      given = takes.nexts.given;
      longer = longer;
      may = may_tell;
      handles = told_undoubted _ _ _ _ _ _ _ _ (item_told item takes.buf still batch may_tell) takes.handles;
    })
next_told {now = now} {new = new} item (Some y) told keeps still batch takes is =
    let mid = takes.mid in
    let kept : Conforming mid = Conforming-before told takes.handles.continues keeps in
    let longer = next_history told takes.nexts (Some y) is in
    let may = Conforming-rest now.seen mid (Acted (Stim y) ∷ item_step item takes.buf ∷ []) takes.nexts.given longer kept in
    let h : true ≡ false = sym batch.begun ∙ (may_begin now.seen.given.declared y (state now.seen) may.0).none_begun in
    absurd (true≢false h)

-- behind a loss
after_loss : {Own Tells : Type 0} {x : WorldStim} (n : ℕ) {first now : Standing Own} {new : Seen Own} {net : NetState} {queue : List Event} {text : List ℕ} (item : Item) (begun : Option WorldStim) (told : Tells) (keeps : Conforming new) → BatchLost x true first now
    → (takes : TakesNext Tells item text now.seen new now.net net now.queue queue) → ((takes.nexts.told told).begun ≡ begun) → GoesOn item n first (standing new net queue (now.text ++ text))
after_loss n {now = now} {new = new} item None told keeps batch takes is =
    let mid = takes.mid in
    let step = item_step item takes.buf in
    let kept : Conforming mid = Conforming-before told takes.handles.continues keeps in
    let before : Conforming now.seen = Conforming-before told (Nexts-continues takes.nexts) kept in
    let longer = next_history told takes.nexts None is in
    let may = (Conforming-rest now.seen mid (step ∷ []) takes.nexts.given longer kept).0 in
    let idle = only_idle now.seen.given.declared item takes.buf (none_upcoming before batch) batch may in
    lost_in_batch n item takes.buf idle batch (record {
      told = told;
      keeps = keeps;
      kept = kept;
      given = takes.nexts.given;
      longer = longer;
      may = may;
      handles = told_undoubted _ _ _ _ _ _ _ _ (idle_told item takes.buf idle) takes.handles;
    })
after_loss n {now = now} {new = new} item (Some y) told keeps batch takes is =
    let mid = takes.mid in
    let kept : Conforming mid = Conforming-before told takes.handles.continues keeps in
    let longer = next_history told takes.nexts (Some y) is in
    let may = Conforming-rest now.seen mid (Acted (Stim y) ∷ item_step item takes.buf ∷ []) takes.nexts.given longer kept in
    let h : true ≡ false = sym batch.begun_is ∙ (may_begin now.seen.given.declared y (state now.seen) may.0).none_begun in
    absurd (true≢false h)

-- it kept its word before
before_item : {Own Tells : Type 0} (now : Standing Own) {new : Seen Own} {net : NetState} {queue : List Event} {text : List ℕ} {item : Item} → Tells → Conforming new → TakesNext Tells item text now.seen new now.net net now.queue queue → Conforming now.seen
before_item now told keeps takes = Conforming-before told (Nexts-continues takes.nexts) (Conforming-before told takes.handles.continues keeps)

before_batch : {Own : Type 0} {x : WorldStim} {n : ℕ} {first now : Standing Own} → InBatch x n first now → Conforming now.seen → Conforming first.seen
before_batch {first = first} {now = now} batch keeps = let since = batch.orderly 0 in Conforming-front first.seen now.seen since.steps batch.given since.history keeps

further_told : {Own Tells : Type 0} {x : WorldStim} {n : ℕ} {first now : Standing Own} {new : Seen Own} {net : NetState} {queue : List Event} {text : List ℕ} (item : Item) → Tells → Conforming new → Calm first.seen first.net
    → InBatch x n first now ⊎ ((n ≡ 1) × BatchLost x true first now) → TakesNext Tells item text now.seen new now.net net now.queue queue → GoesOn item n first (standing new net queue (now.text ++ text))
further_told {first = first} {now = now} item told keeps calm (inl batch) takes =
    next_told item (takes.nexts.told told).begun told keeps (stills first (before_batch batch (before_item now told keeps takes)) calm) batch takes refl
further_told {n = n} item told keeps calm (inr lost) takes = after_loss n item (takes.nexts.told told).begun told keeps lost.1 takes refl

goes_on : {Own Tells : Type 0} (n : ℕ) (first now : Standing Own) {text : List ℕ} {new : Seen Own} {net : NetState} {queue : List Event} (item : Item) → Tells → Conforming new → Calm first.seen first.net → SoFar n first now
    → TakesNext Tells item text now.seen new now.net net now.queue queue → GoesOn item n first (standing new net queue (now.text ++ text))
goes_on {Tells = Tells} n first now {text = text} {new = new} {net = net} {queue = queue} item told keeps calm (inl none) takes =
    let here : TakesNext Tells item text first.seen new first.net net first.queue queue = subst (λ (s : Standing _). TakesNext Tells item text s.seen new s.net net s.queue queue) none.1 takes in
    let done : GoesOn item 0 first (standing new net queue (first.text ++ text)) = first_told item (here.nexts.told told).begun told keeps (stills first (before_item first told keeps here) calm) here refl in
    subst (λ (s : Standing _). GoesOn item n first (standing new net queue (s.text ++ text))) (sym none.1)
    (subst (λ (k : ℕ). GoesOn item k first (standing new net queue (first.text ++ text))) (sym none.0) done)
goes_on n first now item told keeps calm (inr so_far) takes = further_told item told keeps calm so_far.1 takes

-- Each item that is told takes the batch on, or ends it.
pub next_goes_on : {Own Tells : Type 0} (n : ℕ) (first now : Standing Own) {text : List ℕ} {new : Seen Own} {net : NetState} {queue : List Event} (later : List ℕ) (item : Item) → Tells → Conforming new → Calm first.seen first.net → SoFar n first now
    → TakesNext Tells item text now.seen new now.net net now.queue queue → later ≡ now.text ++ text → GoesOn item n first (standing new net queue later)
next_goes_on n first now {new = new} {net = net} {queue = queue} later item told keeps calm so_far takes noted =
    subst (λ (xs : List ℕ). GoesOn item n first (standing new net queue xs)) (sym noted) (goes_on n first now item told keeps calm so_far takes)

-- So many items as one stimulus gives at most are not told without its end.
pub never_so_many : {Own : Type 0} {x : WorldStim} {n : ℕ} {first now : Standing Own} → Conforming first.seen → Calm first.seen first.net → InBatch x n first now → n < 1000000
never_so_many {x = x} {n = n} {first = first} {now = now} keeps calm batch =
    let none : length (upcoming (state first.seen)) ≡ 0 = ap length (nothing_upcoming first keeps (stills first keeps calm)) in
    let all : length (batch.told ++ upcoming (state now.seen)) ≡ length (upcoming (after_stim x (state first.seen))) = ap length batch.order in
    omega (arith, none, all, length-append batch.told (upcoming (state now.seen)), batch.count, batch.began.few)

-- ---- What is told next can be taken

read_told : (declared : List Declared) (d : ℕ) (bytes : List ℕ) (s : State) → MayStep declared (From d bytes) s → IsOk (reading_of bytes)
unfolding MayStep
read_told declared d bytes s may = may.1

can_joined : {Own : Type 0} {x : WorldStim} {n : ℕ} {first now : Standing Own} (d : ℕ) (bytes : List ℕ) (t : State) → Stills first → InBatch x n first now → MayStep now.seen.given.declared (Joined d bytes) (state now.seen)
    → t ≡ after_step (Joined d bytes) (state now.seen) → CanTake (Joined d bytes) t
unfolding MayStep upcoming
can_joined {now = now} d bytes t still batch may is =
    let s = state now.seen in
    let due = due_in still.none_due batch in
    let told = due_tells (Joined d bytes) s t due (no_message_joined d bytes) (is ∙ joined_step d bytes s) may in
    let one = one_due_by s.due s.links (Joined d bytes) due (no_message_joined d bytes) may in
    links_waits d s t told.links ∙ (fresh_in d bytes still.none_due still.waits batch one).waits d

can_in : {Own : Type 0} {x : WorldStim} {n : ℕ} {first now : Standing Own} (item : Item) (buf : List ℕ) (t : State) → Stills first → InBatch x n first now → MayStep now.seen.given.declared (item_step item buf) (state now.seen)
    → t ≡ after_step (item_step item buf) (state now.seen) → CanTake (item_step item buf) t
unfolding item_step
can_in {now = now} (items.From d k) buf t still batch may is = (read_told now.seen.given.declared d (take k buf) (state now.seen) may, message_told d (take k buf) still batch may)
can_in (items.Joined d k) buf t still batch may is = can_joined d (take k buf) t still batch may is
can_in (items.Left d) buf t still batch may is = tt
can_in (items.Moment m) buf t still batch may is = tt
can_in items.Idle buf t still batch may is = tt
can_in items.End buf t still batch may is = tt

can_end : (item : Item) (buf : List ℕ) (t : State) → item ≡ items.End → CanTake (item_step item buf) t
unfolding item_step
can_end item buf t is = rw is tt

first_can : {Own Tells : Type 0} (first : Standing Own) (item : Item) (buf : List ℕ) (mid : Seen Own) (begun : Option WorldStim) (told : Tells) → Conforming mid → Stills first → (call : Nexts Tells first.seen mid (Ok item) buf)
    → (call.told told).begun ≡ begun → CanTake (item_step item buf) (state mid)
first_can first item buf mid None told keeps still call is =
    let before : Conforming first.seen = Conforming-before told (Nexts-continues call) keeps in
    let longer = next_history told call None is in
    let may = Conforming-rest first.seen mid (item_step item buf ∷ []) call.given longer keeps in
    let rests = MayStep-at_rest first.seen.given.declared item buf (state first.seen) still.none_begun (nothing_upcoming first before still) may.0 in
    can_end item buf (state mid) rests.0
first_can first item buf mid (Some x) told keeps still call is =
    let now = begun_now x first in
    let step = item_step item buf in
    let longer = next_history told call (Some x) is in
    let may = Conforming-rest first.seen mid (Acted (Stim x) ∷ step ∷ []) call.given longer keeps in
    let behind : mid.history ≡ now.seen.history ++ step ∷ [] = longer ∙ sym (append_assoc first.seen.history (Acted (Stim x) ∷ []) (step ∷ [])) in
    let batch = begins x first still (may_begin first.seen.given.declared x (state first.seen) may.0) in
    can_in item buf (state mid) still batch (Conforming-rest now.seen mid (step ∷ []) call.given behind keeps).0 (state-append now.seen mid (step ∷ []) call.given behind)

later_can : {Own Tells : Type 0} {x : WorldStim} {n : ℕ} {first now : Standing Own} (item : Item) (buf : List ℕ) (mid : Seen Own) (begun : Option WorldStim) (told : Tells) → Conforming mid → Stills first → InBatch x n first now
    → (call : Nexts Tells now.seen mid (Ok item) buf) → (call.told told).begun ≡ begun → CanTake (item_step item buf) (state mid)
later_can {now = now} item buf mid None told keeps still batch call is =
    let longer = next_history told call None is in
    can_in item buf (state mid) still batch (Conforming-rest now.seen mid (item_step item buf ∷ []) call.given longer keeps).0 (state-append now.seen mid (item_step item buf ∷ []) call.given longer)
later_can {now = now} item buf mid (Some y) told keeps still batch call is =
    let longer = next_history told call (Some y) is in
    let may = Conforming-rest now.seen mid (Acted (Stim y) ∷ item_step item buf ∷ []) call.given longer keeps in
    let h : true ≡ false = sym batch.begun ∙ (may_begin now.seen.given.declared y (state now.seen) may.0).none_begun in
    absurd (true≢false h)

lost_can : {Own Tells : Type 0} {x : WorldStim} {first now : Standing Own} (item : Item) (buf : List ℕ) (mid : Seen Own) (begun : Option WorldStim) (told : Tells) → Conforming mid → BatchLost x true first now → (call : Nexts Tells now.seen mid (Ok item) buf)
    → (call.told told).begun ≡ begun → CanTake (item_step item buf) (state mid)
unfolding item_step
lost_can {now = now} item buf mid None told keeps batch call is =
    let before : Conforming now.seen = Conforming-before told (Nexts-continues call) keeps in
    let may = (Conforming-rest now.seen mid (item_step item buf ∷ []) call.given (next_history told call None is) keeps).0 in
    rw (only_idle now.seen.given.declared item buf (none_upcoming before batch) batch may) tt
lost_can {now = now} item buf mid (Some y) told keeps batch call is =
    let may = Conforming-rest now.seen mid (Acted (Stim y) ∷ item_step item buf ∷ []) call.given (next_history told call (Some y) is) keeps in
    let h : true ≡ false = sym batch.begun_is ∙ (may_begin now.seen.given.declared y (state now.seen) may.0).none_begun in
    absurd (true≢false h)

further_can : {Own Tells : Type 0} {x : WorldStim} {n : ℕ} {first now : Standing Own} → Tells → Calm first.seen first.net → InBatch x n first now ⊎ ((n ≡ 1) × BatchLost x true first now) → CanTakeNext Tells now.seen
further_can {first = first} told calm (inl batch) =
    λ item buf mid keeps call. later_can item buf mid (call.told told).begun told keeps (stills first (before_batch batch (Conforming-before told (Nexts-continues call) keeps)) calm) batch call refl
further_can told calm (inr lost) = λ item buf mid keeps call. lost_can item buf mid (call.told told).begun told keeps lost.1 call refl

-- Whatever is told next in a batch can be taken.
pub next_can : {Own Tells : Type 0} (n : ℕ) (first now : Standing Own) → Tells → Calm first.seen first.net → SoFar n first now → CanTakeNext Tells now.seen
next_can {Tells = Tells} n first now told calm (inl none) =
    subst (λ (s : Standing _). CanTakeNext Tells s.seen) (sym none.1)
    (λ item buf mid keeps call. first_can first item buf mid (call.told told).begun told keeps (stills first (Conforming-before told (Nexts-continues call) keeps) calm) call refl)
next_can n first now told calm (inr so_far) = further_can told calm so_far.1
