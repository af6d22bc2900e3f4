-- Laws of one item in a batch: it is the next that is upcoming, what the engine does at it moves no switch or loses one, and how a batch ends.
use Rattle.std.specs.Prelude.{◌≡◌, ◌==◌, not, ℕ, ◌+◌, ◌⊎◌, true, false, List, [], ◌∷◌, ◌++◌, length, drop, take, filter, Option, Some, None, is_some, slice_get, refl}
use Rattle.std.specs.List.{AllByRecursion}
use Rattle.std.specs.Option.{option_map}
use Rattle.std.proofs.Common.{sym, ap, ap₂, ◌∙◌, subst, inl, inr, append_assoc, length-append, true≢false}
use Rattle.std.proofs.lemmas.Bool.{cases_Bool, eqb-true, eqb-false}
use Rattle.std.proofs.lemmas.List.{append-nil}
use Rattle.std.proofs.lemmas.List.Elements.{filter-append}
use Rattle.of_types.specs.declared.journal.Act.{Act}
use Rattle.of_types.specs.declared.journal.Stimulus.{Stimulus}
use Rattle.of_types.specs.declared.journal.WorldStim.{WorldStim}
use Rattle.of_types.specs.declared.journal.WorldStim.TheVariants.{Join, Of}
use Rattle.flow_table.specs.declared.view.ViewRow.{ViewRow}
use Rattle.flow_table.specs.Switch.{Declared, SwitchState}
use Rattle.flow_table.specs.Step.{after_stimulus}
use Rattle.app_frames.specs.declared.frame.Event.{Event}
use Rattle.lego_model.specs.Journal.{is_of, stimuli, losses}
use Rattle.lego_model.specs.laws.JournalLaws.{stimuli-append, losses-append}
use Rattle.outside.specs.declared.item.Item.{Item}
use Rattle.outside.specs.declared.item.Item.TheVariants as items
use Rattle.outside.specs.declared.step.WorldStep.{WorldStep}
use Rattle.outside.specs.declared.step.WorldStep.TheVariants.{From, Joined, Left, Moment, Idle, End}
use Rattle.outside.specs.Seen.{Seen, journal}
use Rattle.outside.specs.laws.SeenLaws.{journal-append}
use Rattle.outside.specs.State.{Link, State, link_of, switch_in, waits_of, switch_of, upcoming, is_joined, link_stimulated, due_of, after_stim, after_step, state, waiting_in}
use Rattle.outside.specs.laws.StateLaws.{state-append}
use Rattle.outside.specs.laws.LinkLaws.{switch_of-from, switch_of-from_other, link_of-same}
use Rattle.outside.specs.Calls.{item_step}
use Rattle.outside.specs.Conforming.{IsNext, MayStep, Conforming}
use Rattle.outside.specs.laws.LinkKeptLaws.{keeps_stimulated}
use Rattle.outside.specs.laws.CallLaws.{nothing_next, joins_in}
use Rattle.net_txn.specs.Net.{NetState}
use Rattle.net_txn.specs.Views.{rows_at}
use Rattle.switch_laws.specs.Since.{ports_known}
use Rattle.switch_laws.specs.Orderly.{OrderlySince}
use Rattle.lego_model.specs.History.{released_of, lost_of}
use Rattle.lego_model.specs.Controller.{lost_at}
use Rattle.lego_model.specs.RunReport.{lost_line}
use Rattle.lego_model.specs.Answers.{rows_of_view}
use Rattle.switch_laws.specs.laws.OrderlyLaws.{released-still, orderly-then}
use Rattle.switch_laws.specs.laws.LinkLaws.{links_switch, links_waits}
use Rattle.batch_laws.specs.Knowledge.{Knowledge, knowledge_of, is_known, handled, handled_all, LosesAt, lost_text, ports_lost, known_lost}
use Rattle.lego_model.specs.Places.{table_rows}
use Rattle.batch_laws.specs.Told.{IsTold, TellsDue, TellsNone, Later, Stills, LostAlone}
use Rattle.batch_laws.specs.Batches.{Standing}
use Rattle.batch_laws.specs.Items.{HandlesStill, HandlesLost, Fresh, IsFresh, IsItem}
use Rattle.batch_laws.specs.laws.LinkTellLaws.{handled_all-append}
use Rattle.batch_laws.specs.laws.AloneLaws.{echo-alone, join-alone}
use Rattle.batch_laws.specs.laws.GoneLaws.{lost-leaves}
use Rattle.batch_laws.specs.laws.UpcomingLaws.{IsOfSwitch, no_message_joined, no_message_left, no_message_moment, IsDue, stim_is_due, none_due_by, one_due_by, stim_fresh}
use Rattle.batch_laws.specs.laws.ItemLaws.{links_ascend, told_first, none_waiting, none_waits, item_done}
use Rattle.batch_laws.specs.InBatch.{SameBesides, IsReadable, InBatch, BatchDone, BatchLost, GoesOn, standing}
use Rattle.batch_laws.specs.laws.HandleLaws.{idle_is}

-- ---- One item is told

from_tells : (declared : List Declared) (d : ℕ) (bytes : List ℕ) (s : State) (ascend : (slice_get (waiting_in s.links) 0 ≡ Some (From d bytes) → waiting_in s.links ≡ From d bytes ∷ waiting_in (after_step (From d bytes) s).links))
    → IsDue s.due → MayStep declared (From d bytes) s → IsTold (From d bytes) s (after_step (From d bytes) s)
unfolding MayStep upcoming after_step
from_tells declared d bytes s ascend due may =
    let none : s.due ≡ [] = none_due_by s.due (waiting_in s.links) d bytes due may.0 in
    let next : slice_get (waiting_in s.links) 0 ≡ Some (From d bytes) = sym (ap (λ (xs : List WorldStep). slice_get (xs ++ waiting_in s.links) 0) none) ∙ may.0 in
    record {
      first = ap (λ (xs : List WorldStep). xs ++ waiting_in s.links) none ∙ ascend next ∙ sym (ap (λ (xs : List WorldStep). From d bytes ∷ (xs ++ waiting_in (after_step (From d bytes) s).links)) none);
      besides = record { opened = refl; running = refl; moment = refl; to_come = refl; marks = refl };
      begun = refl;
      switches = λ e. elim (cases_Bool (e == d)) [
        | inl here ↦ subst (λ (n : ℕ). switch_of n (after_step (From d bytes) s) ≡ switch_of n s) (sym (eqb-true e d here)) (switch_of-from d bytes s)
        | inr other ↦ switch_of-from_other d e bytes s (eqb-false e d other)
      ];
      none_due = none;
      fresh = tt;
      readable = may.1;
    }

pub due_tells : (item : WorldStep) (s t : State) → IsDue s.due → (IsOfSwitch item → ⊥) → t ≡ record s { due = drop 1 s.due } → IsNext item s → TellsDue item s t
unfolding upcoming
due_tells item s t due other is next =
    let one : s.due ≡ item ∷ [] = one_due_by s.due s.links item due other next in
    let none : t.due ≡ [] = ap (λ (u : State). u.due) is ∙ ap (drop 1) one in
    let links : t.links ≡ s.links = ap (λ (u : State). u.links) is in
    record {
      first = ap (λ (xs : List WorldStep). xs ++ waiting_in s.links) one ∙ sym (ap₂ (λ (xs : List WorldStep) (ls : List Link). item ∷ (xs ++ waiting_in ls)) none links);
      besides = record {
        opened = ap (λ (u : State). u.opened) is;
        running = ap (λ (u : State). u.running) is;
        moment = ap (λ (u : State). u.moment) is;
        to_come = ap (λ (u : State). u.to_come) is;
        marks = ap (λ (u : State). u.marks) is;
      };
      begun = ap (λ (u : State). u.begun) is;
      links = links;
      none_due = none;
    }

tells_by_due : {item : WorldStep} {s t : State} → TellsDue item s t → IsFresh item t → IsReadable item → IsTold item s t
tells_by_due {s = s} {t = t} due fresh readable = record {
  first = due.first;
  besides = due.besides;
  begun = due.begun;
  switches = λ d. links_switch d s t due.links;
  none_due = due.none_due;
  fresh = fresh;
  readable = readable;
}

pub joined_step : (d : ℕ) (bytes : List ℕ) (s : State) → after_step (Joined d bytes) s ≡ record s { due = drop 1 s.due }
unfolding after_step
joined_step d bytes s = refl

left_step : (d : ℕ) (s : State) → after_step (Left d) s ≡ record s { due = drop 1 s.due }
unfolding after_step
left_step d s = refl

moment_step : (t : ℕ) (s : State) → after_step (Moment t) s ≡ record s { due = drop 1 s.due }
unfolding after_step
moment_step t s = refl

-- ---- In a batch

pub due_in : {Own : Type 0} {x : WorldStim} {n : ℕ} {first now : Standing Own} → (state first.seen).due ≡ [] → InBatch x n first now → IsDue (state now.seen).due
unfolding after_stim
due_in {x = x} {first = first} {now = now} none batch = by batch.due
  where
    by : ((state now.seen).due ≡ []) ⊎ (state now.seen ≡ after_stim x (state first.seen)) → IsDue (state now.seen).due
    by (inl is) = inl is
    by (inr same) =
        let is : (state now.seen).due ≡ due_of x (state first.seen) = ap (λ (s : State). s.due) same ∙ ap (λ (xs : List WorldStep). xs ++ due_of x (state first.seen)) none in
        subst (λ (xs : List WorldStep). IsDue xs) (sym is) (stim_is_due x (state first.seen))

fresh_links : (d : ℕ) (s t : State) → t.links ≡ s.links → Fresh d s → Fresh d t
fresh_links d s t same fresh = record {
  waits = λ e. links_waits e s t same ∙ fresh.waits e;
  switch = fresh.switch;
  joined = links_switch d s t same ∙ fresh.joined;
  empty = fresh.empty;
  config = fresh.config;
}

-- where a switch is to be told as joined, nothing was told yet
pub fresh_in : {Own : Type 0} {x : WorldStim} {n : ℕ} {first now : Standing Own} (d : ℕ) (bytes : List ℕ) → (state first.seen).due ≡ [] → ((e : ℕ) → waits_of e (state first.seen) ≡ []) → InBatch x n first now
    → (state now.seen).due ≡ Joined d bytes ∷ [] → Fresh d (state now.seen)
unfolding after_stim
fresh_in {x = x} {first = first} {now = now} d bytes none waits batch is = by batch.due
  where
    no_nil : (a b : List WorldStep) → a ≡ [] → a ≡ Joined d bytes ∷ [] → ⊥
    no_nil a b e f = let h : [] ≡ Joined d bytes ∷ [] = sym e ∙ f in absurd cc

    by : ((state now.seen).due ≡ []) ⊎ (state now.seen ≡ after_stim x (state first.seen)) → Fresh d (state now.seen)
    by (inl other) = absurd (no_nil (state now.seen).due [] other is)
    by (inr same) =
        let due : due_of x (state first.seen) ≡ Joined d bytes ∷ [] = sym (ap (λ (s : State). s.due) same ∙ ap (λ (xs : List WorldStep). xs ++ due_of x (state first.seen)) none) ∙ is in
        subst (λ (s : State). Fresh d s) (sym same) (stim_fresh x d bytes (state first.seen) waits due)

from_none : (d : ℕ) (bytes : List ℕ) → TellsNone (From d bytes)
unfolding stimuli journal losses
from_none d bytes = record { stimuli_is = refl; loses = refl; acts = λ app. refl; releases = refl; orderly = λ app. tt }

joined_none : (d : ℕ) (bytes : List ℕ) → TellsNone (Joined d bytes)
unfolding stimuli journal losses
joined_none d bytes = record { stimuli_is = refl; loses = refl; acts = λ app. refl; releases = refl; orderly = λ app. tt }

left_none : (d : ℕ) → TellsNone (Left d)
unfolding stimuli journal losses
left_none d = record { stimuli_is = refl; loses = refl; acts = λ app. refl; releases = refl; orderly = λ app. tt }

moment_none : (t : ℕ) → TellsNone (Moment t)
unfolding stimuli journal losses
moment_none t = record { stimuli_is = refl; loses = refl; acts = λ app. refl; releases = refl; orderly = λ app. tt }

idle_none : TellsNone Idle
unfolding stimuli journal losses
idle_none = record { stimuli_is = refl; loses = refl; acts = λ app. refl; releases = refl; orderly = λ app. tt }

stimuli_later : {Own : Type 0} (old mid : Seen Own) (item : WorldStep) → TellsNone item → mid.history ≡ old.history ++ item ∷ [] → stimuli (journal mid.history) ≡ stimuli (journal old.history)
stimuli_later old mid item none longer =
    ap (λ (h : List WorldStep). stimuli (journal h)) longer ∙ ap stimuli (journal-append old.history (item ∷ [])) ∙ stimuli-append (journal old.history) (journal (item ∷ []))
    ∙ ap (λ (xs : List WorldStim). stimuli (journal old.history) ++ xs) none.stimuli_is ∙ append-nil (stimuli (journal old.history))

lost_later : {Own : Type 0} (old mid : Seen Own) (item : WorldStep) → TellsNone item → mid.history ≡ old.history ++ item ∷ [] → lost_of mid ≡ lost_of old
lost_later old mid item none longer =
    ap (λ (h : List WorldStep). losses (journal h)) longer ∙ ap losses (journal-append old.history (item ∷ [])) ∙ losses-append (journal old.history) (journal (item ∷ []))
    ∙ ap (λ (xs : List ℕ). losses (journal old.history) ++ xs) none.loses ∙ append-nil (losses (journal old.history))

acts_later : {Own : Type 0} (old mid : Seen Own) (item : WorldStep) (app : ℕ) → TellsNone item → mid.history ≡ old.history ++ item ∷ [] → filter (is_of app) (journal mid.history) ≡ filter (is_of app) (journal old.history)
acts_later old mid item app none longer =
    ap (λ (h : List WorldStep). filter (is_of app) (journal h)) longer ∙ ap (filter (is_of app)) (journal-append old.history (item ∷ [])) ∙ filter-append (is_of app) (journal old.history) (journal (item ∷ []))
    ∙ ap (λ (xs : List Act). filter (is_of app) (journal old.history) ++ xs) (none.acts app) ∙ append-nil (filter (is_of app) (journal old.history))

released_later : {Own : Type 0} (old mid : Seen Own) (item : WorldStep) → TellsNone item → mid.history ≡ old.history ++ item ∷ [] → released_of mid ≡ released_of old
released_later old mid item none longer = released-still old mid (item ∷ []) longer (none.releases, tt)

orderly_later : {Own : Type 0} (first old mid new : Seen Own) (item : WorldStep) → TellsNone item → mid.history ≡ old.history ++ item ∷ [] → ((app : ℕ) → OrderlySince app first old) → ((app : ℕ) → OrderlySince app mid new) → (app : ℕ) → OrderlySince app first new
orderly_later first old mid new item none longer before later app =
    orderly-then app first mid new (orderly-then app first old mid (before app) (record { steps = item ∷ []; history = longer; orderly = (none.orderly app, tt) })) (later app)

-- ---- A further item

besides_then : (r s t : State) → SameBesides s r → SameBesides t s → SameBesides t r
besides_then r s t first later = record {
  opened = later.opened ∙ first.opened;
  running = later.running ∙ first.running;
  moment = later.moment ∙ first.moment;
  to_come = later.to_come ∙ first.to_come;
  marks = later.marks ∙ first.marks;
}

all_more : (P : WorldStep → Type 0) (xs : List WorldStep) (x : WorldStep) → AllByRecursion P xs → P x → AllByRecursion P (xs ++ x ∷ [])
all_more P [] x all last = (last, tt)
all_more P (y ∷ ys) x all last = (all.0, all_more P ys x all.1 last)

mid_state : {Own Tells : Type 0} {item : WorldStep} {text : List ℕ} {now : Standing Own} {mid new : Seen Own} {net : NetState} {queue : List Event} → Later Tells item text now mid new net queue → state mid ≡ after_step item (state now.seen)
mid_state {item = item} {now = now} {mid = mid} later = state-append now.seen mid (item ∷ []) later.given later.longer

more_text : (now_text first_text text more : List ℕ) → text ≡ more → now_text ≡ first_text → now_text ++ text ≡ first_text ++ more
more_text now_text first_text text more is same = ap₂ (λ (a b : List ℕ). a ++ b) same is

one_more : {Own Tells : Type 0} {x : WorldStim} {n : ℕ} {first now : Standing Own} {item : WorldStep} {text : List ℕ} {mid new : Seen Own} {net : NetState} {queue : List Event} → IsItem item → TellsNone item → InBatch x n first now
    → Later Tells item text now mid new net queue → IsTold item (state now.seen) (state mid) → HandlesStill Tells item text mid new now.net net now.queue queue → InBatch x (n + 1) first (standing new net queue (now.text ++ text))
one_more {x = x} {n = n} {first = first} {now = now} {item = item} {text = text} {mid = mid} {new = new} {net = net} {queue = queue} is none batch later told stays =
    let done = item_done item is later.told later.kept later.keeps batch.kept told.fresh later.handles.continues.given stays in
    let leaves = done.done.leaves in
    let goal = after_stim x (state first.seen) in
    record {
      given = done.done.given ∙ later.given ∙ batch.given;
      began = batch.began;
      stays = besides_then goal (state mid) (state new) (besides_then goal (state now.seen) (state mid) batch.stays told.besides) leaves.besides;
      begun = leaves.begun ∙ told.begun ∙ batch.begun;
      switches = λ d. leaves.switches d ∙ told.switches d ∙ batch.switches d;
      due = inl (leaves.due ∙ told.none_due);
      told = batch.told ++ item ∷ [];
      count = length-append batch.told (item ∷ []) ∙ ap (λ (k : ℕ). k + 1) batch.count;
      read = all_more IsReadable batch.told item batch.read told.readable;
      order = ap (λ (xs : List WorldStep). (batch.told ++ item ∷ []) ++ xs) leaves.upcoming_is ∙ append_assoc batch.told (item ∷ []) (upcoming (state mid))
          ∙ ap (λ (xs : List WorldStep). batch.told ++ xs) (sym told.first) ∙ batch.order;
      knowledge = stays.knowledge ∙ ap (handled item) batch.knowledge ∙ sym (handled_all-append batch.told (item ∷ []) (knowledge_of first.net first.queue));
      kept = done.kept;
      log = later.handles.log ∙ batch.log;
      room = later.handles.room ∙ batch.room;
      held = later.handles.held ∙ batch.held;
      left = later.handles.left;
      text = more_text now.text first.text text [] stays.text_is batch.text ∙ append-nil first.text;
      lost = done.done.lost ∙ lost_later now.seen mid item none later.longer ∙ batch.lost;
      stimuli_is = done.done.stimuli_is ∙ stimuli_later now.seen mid item none later.longer ∙ batch.stimuli_is;
      acts = λ app. done.done.acts app ∙ acts_later now.seen mid item app none later.longer ∙ batch.acts app;
      released = done.done.released ∙ released_later now.seen mid item none later.longer ∙ batch.released;
      orderly = orderly_later first.seen now.seen mid new item none later.longer batch.orderly done.done.orderly;
    }

none_of : (xs ys : List WorldStep) → xs ++ ys ≡ [] → (xs ≡ []) × (ys ≡ [])
none_of [] ys none = (refl, none)
none_of (x ∷ xs) ys none = absurd cc

nothing_waits : (d : ℕ) (s : State) → upcoming s ≡ [] → (s.due ≡ []) × (waits_of d s ≡ [])
unfolding upcoming waits_of
nothing_waits d s none = let parts = none_of s.due (waiting_in s.links) none in (parts.0, none_waits d s.links parts.1)

-- ---- A switch is lost at the item

one_lost : {Own Tells : Type 0} {x : WorldStim} {n : ℕ} {first now : Standing Own} {item : WorldStep} {text : List ℕ} {mid new : Seen Own} {net : NetState} {queue : List Event} → TellsNone item → (batch : InBatch x n first now)
    → Later Tells item text now mid new net queue → IsTold item (state now.seen) (state mid) → (loss : HandlesLost Tells item text mid new now.net net now.queue queue) → LostAlone x loss.dpid text mid batch.told (upcoming (state mid))
    → (n + 1 ≡ 1) × BatchLost x true first (standing new net queue (now.text ++ text))
one_lost {x = x} {n = n} {first = first} {now = now} {item = item} {text = text} {mid = mid} {new = new} {net = net} {queue = queue} none batch later told loss alone =
    let goal = after_stim x (state first.seen) in
    let count : n ≡ 0 = sym batch.count ∙ ap (λ (xs : List WorldStep). length xs) alone.first in
    let knowledge : knowledge_of now.net now.queue ≡ knowledge_of first.net first.queue = batch.knowledge ∙ ap (λ (xs : List WorldStep). handled_all xs (knowledge_of first.net first.queue)) alone.first in
    let gone = lost-leaves loss.dpid mid new later.told later.keeps later.handles.continues.given (λ e. (nothing_waits e (state mid) alone.last).1) alone.joined loss.links loss.no_strays loss.is_lost in (
      ap (λ (k : ℕ). k + 1) count,
      record {
        dpid = loss.dpid;
        of_stimulus = alone.of_stimulus;
        item = item;
        alone = sym batch.order ∙ ap (λ (xs : List WorldStep). xs ++ upcoming (state now.seen)) alone.first ∙ told.first ∙ ap (λ (xs : List WorldStep). item ∷ xs) alone.last;
        at = subst (λ (k : Knowledge). LosesAt loss.dpid item k) knowledge loss.at;
        given = later.handles.continues.given ∙ later.given ∙ batch.given;
        began = batch.began;
        stays = besides_then goal (state mid) (state new) (besides_then goal (state now.seen) (state mid) batch.stays told.besides) gone.rest.besides;
        begun_is = gone.rest.begun ∙ told.begun ∙ batch.begun;
        due = gone.rest.due ∙ told.none_due;
        waits = gone.waits;
        out = gone.out;
        others = λ d other. gone.others d other ∙ told.switches d ∙ batch.switches d;
        knowledge = loss.knowledge ∙ ap (λ (k : Knowledge). known_lost loss.dpid item k) knowledge;
        kept = loss.kept ∙ ap (λ (xs : List (ℕ × List ℕ)). filter (λ m. not (m.0 == loss.dpid)) xs) batch.kept;
        log = later.handles.log ∙ batch.log;
        room = later.handles.room ∙ batch.room;
        held = later.handles.held ∙ batch.held;
        left = later.handles.left;
        text = more_text now.text first.text text (lost_line loss.dpid) alone.text_is batch.text;
        lost = gone.lost ∙ ap (λ (ds : List ℕ). ds ++ loss.dpid ∷ []) (lost_later now.seen mid item none later.longer ∙ batch.lost);
        stimuli_is = gone.stimuli_is ∙ stimuli_later now.seen mid item none later.longer ∙ batch.stimuli_is;
        acts = λ app. gone.acts app ∙ acts_later now.seen mid item app none later.longer ∙ batch.acts app;
        released = gone.released ∙ released_later now.seen mid item none later.longer ∙ batch.released;
        orderly = orderly_later first.seen now.seen mid new item none later.longer batch.orderly gone.orderly;
      },
    )

-- a switch that is known is joined, and stays so where something happens to it
known_joined : (d : ℕ) (rows : Option (List ViewRow)) (o : Option SwitchState) → option_map rows_of_view rows ≡ option_map table_rows o → is_some rows ≡ true → is_some o ≡ true
known_joined d None o agrees known = absurd (true≢false (sym known))
known_joined d (Some rows) None agrees known = absurd cc
known_joined d (Some rows) (Some s) agrees known = refl

ports_text_one : (d : ℕ) (o : Option SwitchState) → is_some o ≡ true → lost_text (ports_known d o) ≡ lost_line d
ports_text_one d None joined = absurd (true≢false (sym joined))
ports_text_one d (Some s) joined = append-nil (lost_line d)

happened_stays : (x : Stimulus) (o : Option Link) → is_some (switch_in o) ≡ true → is_some (switch_in (option_map (link_stimulated x) o)) ≡ true
unfolding link_stimulated
happened_stays x None joined = absurd (true≢false (sym joined))
happened_stays x (Some l) joined = by l.switch joined
  where
    by : (o : Option SwitchState) → is_some o ≡ true → is_some (option_map (after_stimulus x) o) ≡ true
    by None is = absurd (true≢false (sym is))
    by (Some s) is = refl

joined_after : (d : ℕ) (x : Stimulus) (s : State) → is_joined d s ≡ true → is_joined d (after_stim (Of d x) s) ≡ true
unfolding switch_of after_stim
joined_after d x s joined = ap (λ (o : Option Link). is_some (switch_in o)) (link_of-same d (link_stimulated x) (keeps_stimulated x) s.links) ∙ happened_stays x (link_of d s.links) joined

-- an ECHO_REQUEST could not be answered
echo_lost : {Own Tells : Type 0} {x : WorldStim} {n : ℕ} {first now : Standing Own} {d : ℕ} {bytes text : List ℕ} {mid new : Seen Own} {net : NetState} {queue : List Event} → Stills first → (batch : InBatch x n first now)
    → IsTold (From d bytes) (state now.seen) (state mid) → (loss : HandlesLost Tells (From d bytes) text mid new now.net net now.queue queue) → LostAlone x loss.dpid text mid batch.told (upcoming (state mid))
echo_lost {x = x} {first = first} {now = now} {d = d} {bytes = bytes} {text = text} {mid = mid} still batch told loss =
    let k = knowledge_of first.net first.queue in
    let goal = after_stim x (state first.seen) in
    let order : batch.told ++ From d bytes ∷ upcoming (state mid) ≡ upcoming goal = ap (λ (xs : List WorldStep). batch.told ++ xs) (sym told.first) ∙ batch.order in
    let alone = echo-alone x (state first.seen) d bytes batch.told (upcoming (state mid)) still.none_wait still.none_due loss.at.2 order in
    let knowledge : knowledge_of now.net now.queue ≡ k = batch.knowledge ∙ ap (λ (xs : List WorldStep). handled_all xs k) alone.first in
    let same : d ≡ loss.dpid = loss.at.0 in
    let viewed : is_known loss.dpid k ≡ true = ap (is_known loss.dpid) (sym knowledge) ∙ loss.at.1 in
    let before : is_joined loss.dpid (state first.seen) ≡ true = known_joined loss.dpid (rows_at loss.dpid first.net.views) (switch_of loss.dpid (state first.seen)) (still.agrees loss.dpid) viewed in
    let what : x ≡ Of loss.dpid alone.what = alone.stimulus ∙ ap (λ (e : ℕ). Of e alone.what) same in
    let after : is_joined loss.dpid goal ≡ true = ap (λ (y : WorldStim). is_joined loss.dpid (after_stim y (state first.seen))) what ∙ joined_after loss.dpid alone.what (state first.seen) before in
    record {
      of_stimulus = ap (lost_at true) what;
      first = alone.first;
      last = alone.last;
      joined = ap joins_in (told.switches loss.dpid ∙ batch.switches loss.dpid) ∙ after;
      text_is = loss.text_is ∙ ap (λ (known : Knowledge). lost_text (ports_lost loss.dpid known.ports)) knowledge ∙ ap lost_text (still.known loss.dpid)
          ∙ ports_text_one loss.dpid (switch_of loss.dpid (state first.seen)) before;
    }

-- a switch was lost as it joined
join_lost : {Own Tells : Type 0} {x : WorldStim} {n : ℕ} {first now : Standing Own} {d : ℕ} {bytes text : List ℕ} {mid new : Seen Own} {net : NetState} {queue : List Event} → Stills first → (batch : InBatch x n first now)
    → IsTold (Joined d bytes) (state now.seen) (state mid) → (loss : HandlesLost Tells (Joined d bytes) text mid new now.net net now.queue queue) → LostAlone x loss.dpid text mid batch.told (upcoming (state mid))
join_lost {x = x} {first = first} {d = d} {bytes = bytes} {mid = mid} still batch told loss =
    let order : batch.told ++ Joined d bytes ∷ upcoming (state mid) ≡ upcoming (after_stim x (state first.seen)) = ap (λ (xs : List WorldStep). batch.told ++ xs) (sym told.first) ∙ batch.order in
    let alone = join-alone x (state first.seen) d bytes batch.told (upcoming (state mid)) still.none_wait still.none_due order in
    let same : d ≡ loss.dpid = loss.at.0 in
    record {
      of_stimulus = ap (lost_at true) (alone.stimulus ∙ ap (λ (e : ℕ). Join e) same);
      first = alone.first;
      last = alone.last;
      joined = ap (λ (e : ℕ). is_joined e (state mid)) (sym same) ∙ ap joins_in told.fresh.joined;
      text_is = loss.text_is;
    }

-- ---- Each item

-- one item more, or the loss of its switch
abbrev More : {Own : Type 0} → WorldStim → ℕ → Standing Own → Standing Own → Type 0
More x n first new = InBatch x (n + 1) first new ⊎ ((n + 1 ≡ 1) × BatchLost x true first new)

from_more : {Own Tells : Type 0} {x : WorldStim} {n : ℕ} {first now : Standing Own} {d : ℕ} {bytes text : List ℕ} {mid new : Seen Own} {net : NetState} {queue : List Event} → Stills first → InBatch x n first now → Later Tells (From d bytes) text now mid new net queue
    → IsTold (From d bytes) (state now.seen) (state mid) → HandlesStill Tells (From d bytes) text mid new now.net net now.queue queue ⊎ HandlesLost Tells (From d bytes) text mid new now.net net now.queue queue
    → More x n first (standing new net queue (now.text ++ text))
from_more {d = d} {bytes = bytes} still batch later told (inl stays) = inl (one_more tt (from_none d bytes) batch later told stays)
from_more {d = d} {bytes = bytes} still batch later told (inr loss) = inr (one_lost (from_none d bytes) batch later told loss (echo_lost still batch told loss))

joined_more : {Own Tells : Type 0} {x : WorldStim} {n : ℕ} {first now : Standing Own} {d : ℕ} {bytes text : List ℕ} {mid new : Seen Own} {net : NetState} {queue : List Event} → Stills first → InBatch x n first now → Later Tells (Joined d bytes) text now mid new net queue
    → IsTold (Joined d bytes) (state now.seen) (state mid) → HandlesStill Tells (Joined d bytes) text mid new now.net net now.queue queue ⊎ HandlesLost Tells (Joined d bytes) text mid new now.net net now.queue queue
    → More x n first (standing new net queue (now.text ++ text))
joined_more {d = d} {bytes = bytes} still batch later told (inl stays) = inl (one_more tt (joined_none d bytes) batch later told stays)
joined_more {d = d} {bytes = bytes} still batch later told (inr loss) = inr (one_lost (joined_none d bytes) batch later told loss (join_lost still batch told loss))

-- at another item none is lost
pub loses_none : {Own Tells : Type 0} (item : WorldStep) {text : List ℕ} {mid new : Seen Own} {net now_net : NetState} {queue now_queue : List Event} → ((d : ℕ) → LosesAt d item (knowledge_of net queue) → ⊥)
    → HandlesStill Tells item text mid new net now_net queue now_queue ⊎ HandlesLost Tells item text mid new net now_net queue now_queue → HandlesStill Tells item text mid new net now_net queue now_queue
loses_none item none (inl stays) = stays
loses_none item none (inr loss) = absurd (none loss.dpid loss.at)

told_from : {Own Tells : Type 0} {x : WorldStim} {n : ℕ} {first now : Standing Own} {mid new : Seen Own} {net : NetState} {queue : List Event} {text : List ℕ} (d : ℕ) (bytes : List ℕ) → Conforming now.seen → Stills first → InBatch x n first now
    → Later Tells (From d bytes) text now mid new net queue → More x n first (standing new net queue (now.text ++ text))
unfolding after_step
told_from {now = now} {mid = mid} d bytes keeps still batch later =
    let s = state now.seen in
    let told = from_tells now.seen.given.declared d bytes s (told_first d 1 bytes s.links (links_ascend now.seen keeps)) (due_in still.none_due batch) later.may in
    from_more still batch later (subst (λ (t : State). IsTold (From d bytes) s t) (sym (mid_state later)) told) later.handles.went

told_joined : {Own Tells : Type 0} {x : WorldStim} {n : ℕ} {first now : Standing Own} {mid new : Seen Own} {net : NetState} {queue : List Event} {text : List ℕ} (d : ℕ) (bytes : List ℕ) → Stills first → InBatch x n first now
    → Later Tells (Joined d bytes) text now mid new net queue → More x n first (standing new net queue (now.text ++ text))
unfolding MayStep upcoming
told_joined {now = now} {mid = mid} d bytes still batch later =
    let s = state now.seen in
    let due = due_in still.none_due batch in
    let told = due_tells (Joined d bytes) s (state mid) due (no_message_joined d bytes) (mid_state later ∙ joined_step d bytes s) later.may in
    let one = one_due_by s.due s.links (Joined d bytes) due (no_message_joined d bytes) later.may in
    let fresh = fresh_links d s (state mid) told.links (fresh_in d bytes still.none_due still.waits batch one) in
    joined_more still batch later (tells_by_due told fresh tt) later.handles.went

told_left : {Own Tells : Type 0} {x : WorldStim} {n : ℕ} {first now : Standing Own} {mid new : Seen Own} {net : NetState} {queue : List Event} {text : List ℕ} (d : ℕ) → Stills first → InBatch x n first now
    → Later Tells (Left d) text now mid new net queue → InBatch x (n + 1) first (standing new net queue (now.text ++ text))
unfolding MayStep
told_left {now = now} {mid = mid} d still batch later =
    let s = state now.seen in
    let told = due_tells (Left d) s (state mid) (due_in still.none_due batch) (no_message_left d) (mid_state later ∙ left_step d s) later.may in
    one_more tt (left_none d) batch later (tells_by_due told tt tt) (loses_none (Left d) (λ e at. at) later.handles.went)

told_moment : {Own Tells : Type 0} {x : WorldStim} {n : ℕ} {first now : Standing Own} {mid new : Seen Own} {net : NetState} {queue : List Event} {text : List ℕ} (t : ℕ) → Stills first → InBatch x n first now
    → Later Tells (Moment t) text now mid new net queue → InBatch x (n + 1) first (standing new net queue (now.text ++ text))
unfolding MayStep
told_moment {now = now} {mid = mid} t still batch later =
    let s = state now.seen in
    let told = due_tells (Moment t) s (state mid) (due_in still.none_due batch) (no_message_moment t) (mid_state later ∙ moment_step t s) later.may in
    one_more tt (moment_none t) batch later (tells_by_due told tt tt) (loses_none (Moment t) (λ e at. at) later.handles.went)

-- ---- The end of a batch

idle_state : (s : State) → after_step Idle s ≡ record s { begun = false }
unfolding after_step
idle_state s = refl

idle_upcoming : (s : State) → upcoming (record s { begun = false }) ≡ upcoming s
unfolding upcoming
idle_upcoming s = refl

idle_waits : (d : ℕ) (s : State) → waits_of d (record s { begun = false }) ≡ waits_of d s
unfolding waits_of
idle_waits d s = refl

idle_switch : (d : ℕ) (s : State) → switch_of d (record s { begun = false }) ≡ switch_of d s
unfolding switch_of
idle_switch d s = refl

idle_besides : (s t : State) → t ≡ record s { begun = false } → SameBesides t s
idle_besides s t is = record {
  opened = ap (λ (u : State). u.opened) is;
  running = ap (λ (u : State). u.running) is;
  moment = ap (λ (u : State). u.moment) is;
  to_come = ap (λ (u : State). u.to_come) is;
  marks = ap (λ (u : State). u.marks) is;
}

told_idle : {Own Tells : Type 0} {x : WorldStim} {n : ℕ} {first now : Standing Own} {mid new : Seen Own} {net : NetState} {queue : List Event} {text : List ℕ} → InBatch x n first now → Later Tells Idle text now mid new net queue → BatchDone x first (standing new net queue (now.text ++ text))
unfolding MayStep
told_idle {x = x} {first = first} {now = now} {mid = mid} {new = new} {text = text} batch later =
    let s = state now.seen in
    let goal = after_stim x (state first.seen) in
    let stays = loses_none Idle (λ e at. at) later.handles.went in
    let done = item_done Idle tt later.told later.kept later.keeps batch.kept tt later.handles.continues.given stays in
    let leaves = done.done.leaves in
    let is : state mid ≡ record s { begun = false } = mid_state later ∙ idle_state s in
    let none : upcoming s ≡ [] = later.may.1 in
    let after : upcoming (state new) ≡ [] = leaves.upcoming_is ∙ ap upcoming is ∙ idle_upcoming s ∙ none in
    let all : batch.told ≡ upcoming goal = sym (ap (λ (xs : List WorldStep). batch.told ++ xs) none ∙ append-nil batch.told) ∙ batch.order in
    record {
      given = done.done.given ∙ later.given ∙ batch.given;
      began = batch.began;
      stays = besides_then goal (state mid) (state new) (besides_then goal s (state mid) batch.stays (idle_besides s (state mid) is)) leaves.besides;
      begun = leaves.begun ∙ ap (λ (u : State). u.begun) is;
      due = (nothing_waits 0 (state new) after).0;
      waits = λ d. (nothing_waits d (state new) after).1;
      switches = λ d. leaves.switches d ∙ ap (switch_of d) is ∙ idle_switch d s ∙ batch.switches d;
      read = subst (λ (xs : List WorldStep). AllByRecursion IsReadable xs) all batch.read;
      knowledge = stays.knowledge ∙ idle_is (knowledge_of now.net now.queue) ∙ batch.knowledge ∙ ap (λ (xs : List WorldStep). handled_all xs (knowledge_of first.net first.queue)) all;
      kept = done.kept;
      log = later.handles.log ∙ batch.log;
      room = later.handles.room ∙ batch.room;
      held = later.handles.held ∙ batch.held;
      left = later.handles.left;
      text = more_text now.text first.text text [] stays.text_is batch.text ∙ append-nil first.text;
      lost = done.done.lost ∙ lost_later now.seen mid Idle idle_none later.longer ∙ batch.lost;
      stimuli_is = done.done.stimuli_is ∙ stimuli_later now.seen mid Idle idle_none later.longer ∙ batch.stimuli_is;
      acts = λ app. done.done.acts app ∙ acts_later now.seen mid Idle app idle_none later.longer ∙ batch.acts app;
      released = done.done.released ∙ released_later now.seen mid Idle idle_none later.longer ∙ batch.released;
      orderly = orderly_later first.seen now.seen mid new Idle idle_none later.longer batch.orderly done.done.orderly;
    }

no_end : {Own Tells : Type 0} {x : WorldStim} {n : ℕ} {first now : Standing Own} {mid new : Seen Own} {net : NetState} {queue : List Event} {text : List ℕ} → InBatch x n first now → Later Tells End text now mid new net queue → ⊥
unfolding MayStep
no_end batch later = let h : true ≡ false = sym batch.begun ∙ later.may.0 in absurd (true≢false h)

pub told_in : {Own Tells : Type 0} {x : WorldStim} {n : ℕ} {first now : Standing Own} {mid new : Seen Own} {net : NetState} {queue : List Event} {text : List ℕ} (item : Item) (buf : List ℕ) → Conforming now.seen → Stills first → InBatch x n first now
    → Later Tells (item_step item buf) text now mid new net queue → GoesOn item n first (standing new net queue (now.text ++ text))
unfolding item_step
told_in {x = x} (items.From d k) buf keeps still batch later = (x, told_from d (take k buf) keeps still batch later)
told_in {x = x} (items.Joined d k) buf keeps still batch later = (x, told_joined d (take k buf) still batch later)
told_in {x = x} (items.Left d) buf keeps still batch later = (x, inl (told_left d still batch later))
told_in {x = x} (items.Moment t) buf keeps still batch later = (x, inl (told_moment t still batch later))
told_in {x = x} items.Idle buf keeps still batch later = (x, inl (told_idle batch later))
told_in items.End buf keeps still batch later = absurd (no_end batch later)

-- ---- Behind a loss: nothing is upcoming, and the batch ends

pub none_upcoming : {Own : Type 0} {x : WorldStim} {first now : Standing Own} → Conforming now.seen → BatchLost x true first now → upcoming (state now.seen) ≡ []
unfolding upcoming waits_of
none_upcoming {now = now} keeps lost = ap (λ (xs : List WorldStep). xs ++ waiting_in (state now.seen).links) lost.due ∙ none_waiting 1 (state now.seen).links (links_ascend now.seen keeps) lost.waits

lost_idle : {Own Tells : Type 0} {x : WorldStim} {first now : Standing Own} {mid new : Seen Own} {net : NetState} {queue : List Event} {text : List ℕ} → BatchLost x true first now → Later Tells Idle text now mid new net queue → BatchLost x false first (standing new net queue (now.text ++ text))
lost_idle {x = x} {first = first} {now = now} {mid = mid} {new = new} {net = net} {text = text} batch later =
    let s = state now.seen in
    let goal = after_stim x (state first.seen) in
    let stays = loses_none Idle (λ e at. at) later.handles.went in
    let done = item_done Idle tt later.told later.kept later.keeps batch.kept tt later.handles.continues.given stays in
    let same : state new ≡ state mid = ap state stays.does.seen in
    let is : state new ≡ record s { begun = false } = same ∙ mid_state later ∙ idle_state s in
    record {
      dpid = batch.dpid;
      of_stimulus = batch.of_stimulus;
      item = batch.item;
      alone = batch.alone;
      at = batch.at;
      given = done.done.given ∙ later.given ∙ batch.given;
      began = batch.began;
      stays = besides_then goal s (state new) batch.stays (idle_besides s (state new) is);
      begun_is = ap (λ (u : State). u.begun) is;
      due = ap (λ (u : State). u.due) is ∙ batch.due;
      waits = λ d. ap (waits_of d) is ∙ idle_waits d s ∙ batch.waits d;
      out = ap (switch_of batch.dpid) is ∙ idle_switch batch.dpid s ∙ batch.out;
      others = λ d other. ap (switch_of d) is ∙ idle_switch d s ∙ batch.others d other;
      knowledge = stays.knowledge ∙ idle_is (knowledge_of now.net now.queue) ∙ batch.knowledge;
      kept = done.kept;
      log = later.handles.log ∙ batch.log;
      room = later.handles.room ∙ batch.room;
      held = later.handles.held ∙ batch.held;
      left = later.handles.left;
      text = more_text now.text (first.text ++ lost_line batch.dpid) text [] stays.text_is batch.text ∙ append-nil (first.text ++ lost_line batch.dpid);
      lost = done.done.lost ∙ lost_later now.seen mid Idle idle_none later.longer ∙ batch.lost;
      stimuli_is = done.done.stimuli_is ∙ stimuli_later now.seen mid Idle idle_none later.longer ∙ batch.stimuli_is;
      acts = λ app. done.done.acts app ∙ acts_later now.seen mid Idle app idle_none later.longer ∙ batch.acts app;
      released = done.done.released ∙ released_later now.seen mid Idle idle_none later.longer ∙ batch.released;
      orderly = orderly_later first.seen now.seen mid new Idle idle_none later.longer batch.orderly done.done.orderly;
    }

pub only_idle : {Own : Type 0} {x : WorldStim} {first now : Standing Own} (declared : List Declared) (item : Item) (buf : List ℕ) → upcoming (state now.seen) ≡ [] → BatchLost x true first now → MayStep declared (item_step item buf) (state now.seen) → item ≡ items.Idle
unfolding item_step MayStep
only_idle {now = now} declared (items.From d k) buf none batch may = absurd (nothing_next (From d (take k buf)) (state now.seen) none may.0)
only_idle {now = now} declared (items.Joined d k) buf none batch may = absurd (nothing_next (Joined d (take k buf)) (state now.seen) none may)
only_idle {now = now} declared (items.Left d) buf none batch may = absurd (nothing_next (Left d) (state now.seen) none may)
only_idle {now = now} declared (items.Moment t) buf none batch may = absurd (nothing_next (Moment t) (state now.seen) none may)
only_idle declared items.Idle buf none batch may = refl
only_idle declared items.End buf none batch may = let h : true ≡ false = sym batch.begun_is ∙ may.0 in absurd (true≢false h)

pub lost_in_batch : {Own Tells : Type 0} {x : WorldStim} (n : ℕ) {first now : Standing Own} {mid new : Seen Own} {net : NetState} {queue : List Event} {text : List ℕ} (item : Item) (buf : List ℕ) → item ≡ items.Idle → BatchLost x true first now
    → Later Tells (item_step item buf) text now mid new net queue → GoesOn item n first (standing new net queue (now.text ++ text))
unfolding item_step
lost_in_batch {Tells = Tells} {x = x} n {first = first} {now = now} {mid = mid} {new = new} {net = net} {queue = queue} {text = text} item buf is batch later =
    subst (λ (i : Item). GoesOn i n first (standing new net queue (now.text ++ text))) (sym is)
    (x, inr (lost_idle batch (subst (λ (i : Item). Later Tells (item_step i buf) text now mid new net queue) is later)))
