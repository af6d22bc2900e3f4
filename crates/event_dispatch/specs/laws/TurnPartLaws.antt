-- Laws of what the parts of a turn and of a start leave.
use Rattle.std.proofs.Common.{◌≡◌, ◌<◌, ◌≤◌, ◌+◌, ℕ, Bool, false, List, ◌++◌, length, Result, Ok, Err, OnOk, refl, sym, ap, ap₂, ◌∙◌, subst, append_assoc, true≢false}
use Rattle.std.specs.Prelude.{IsErr, IfOk, MatchResult, Vec}
use Rattle.std.specs.Global.{Global}
use Rattle.flow_table.specs.View.{TableView}
use Rattle.app_frames.specs.declared.cause.Cause.{Cause}
use Rattle.app_frames.specs.declared.frame.Event.{Event}
use Rattle.app_frames.specs.declared.frame.EventKind.{EventKind}
use Rattle.crash_policy.specs.Policies.{app_value}
use Rattle.crash_policy.specs.Asking.{rule_at}
use Rattle.lego_model.specs.RunReport.{turn_line}
use Rattle.lego_model.specs.declared.turn.TurnWord.TheVariants as words
use Rattle.outside.specs.Seen.{Seen, Continues}
use Rattle.net_txn.specs.Net.{NetState}
use Rattle.app_visor.specs.declared.state.TurnEnd.TheVariants as ends
use Rattle.app_visor.specs.CallsFor.{OwnSteps}
use Rattle.checkpoint_store.specs.Slots.{Slot, with_slot}
use Rattle.batch_laws.specs.Knowledge.{left_events, lost_text}
use Rattle.run_laws.specs.Engine.{Focus, focus}
use Rattle.run_laws.specs.Facts.{turn_word, out_text, all_told, Follows}
use Rattle.event_dispatch.specs.declared.closing.Closing.{Closing}
use Rattle.event_dispatch.specs.declared.closing.Closing.TheVariants as closings
use Rattle.event_dispatch.specs.declared.engine_core.Core.{Core}
use Rattle.event_dispatch.specs.declared.fault.Fault.{Fault}
use Rattle.event_dispatch.specs.declared.run.Managed.{Managed}
use Rattle.event_dispatch.specs.Runs.{AreRead, StoreRests, CoreGoes}
use Rattle.event_dispatch.specs.Shows.{application_of, focus_of, name_of}
use Rattle.net_txn.specs.Leaving.{none_left}
use Rattle.event_dispatch.specs.Lines.{OnlyNotes, LostTold}
use Rattle.event_dispatch.specs.Stored.{KeepsSlots, closes_slot, PlaysStaged}
use Rattle.event_dispatch.specs.Talking.{KeepsTalking}
use Rattle.outside.specs.InOrder.{InOrder}
use Rattle.lego_model.specs.OwnIds.{IsShortRun, OwnIdsSoFar}
use Rattle.net_txn.specs.Abreast.{Abreast}
use Rattle.event_dispatch.specs.Passes.{Passes, PassesQuietly}
use Rattle.event_dispatch.specs.laws.NumberLaws.{own_numbers, own_end}
use Rattle.event_dispatch.specs.laws.PassesLaws.{SameNext}
use Rattle.event_dispatch.specs.laws.SteadyLaws.{abreast_as}
use Rattle.event_dispatch.specs.TurnParts.{TurnFails, PlayDone, HoldDone, HoldFails, GoOnDone, CloseDone}
use Rattle.event_dispatch.specs.laws.DispatchStrayLaws.{places_as, reads_over, started_quietly, started_places, started_reads}
use Rattle.event_dispatch.specs.laws.KeptLaws.{turn_read}
use Rattle.event_dispatch.specs.laws.StoreLaws.{held, unkept}

-- ---- It failed

-- where it did, nothing is owed of what it answers
pub if_not : {T E : Type 0} (P : T → Type 0) (result : Result T E) → IsErr result → IfOk result P
if_not P (Ok x) is = absurd (true≢false (sym is))
if_not P (Err fault) is = tt

-- ---- The same switches had views before

numbers_over : {Own Tells After : Type 0} {old new : Seen Own} (net mid_net : NetState) → SameNext net mid_net → (Tells → InOrder new → Abreast old mid_net → IsShortRun new → OwnIdsSoFar 0 old mid_net.xid → After)
    → Tells → InOrder new → Abreast old net → IsShortRun new → OwnIdsSoFar 0 old net.xid → After
numbers_over {old = old} net mid_net same all told order abreast short before =
    all told order (abreast_as old net mid_net same.views abreast) short (subst (λ (n : ℕ). OwnIdsSoFar 0 old n) (sym same.xid) before)

pub passes_over : {Own T E Tells : Type 0} {number : ℕ} {old new : Seen Own} {now_net : NetState} {result : Result T E} (net mid_net : NetState)
    → SameNext net mid_net → Passes Tells number old new mid_net now_net result → Passes Tells number old new net now_net result
passes_over {now_net = now_net} {result = Ok x} net mid_net same all = record {
  continues = all.continues;
  places = places_as net mid_net same.views all.places;
  reads = reads_over net mid_net now_net now_net same.views refl all.reads;
  numbers = numbers_over net mid_net same all.numbers;
}
passes_over {now_net = now_net} {result = Err fault} net mid_net same all = record {
  continues = all.continues;
  places = places_as net mid_net same.views all.places;
  reads = tt;
  numbers = numbers_over net mid_net same all.numbers;
}

pub quiet_over : {Own T E Tells : Type 0} {number : ℕ} {old new : Seen Own} {now_net : NetState} {result : Result T E} (net mid_net : NetState)
    → SameNext net mid_net → PassesQuietly Tells number old new mid_net now_net result → PassesQuietly Tells number old new net now_net result
quiet_over net mid_net same all = record { passes = passes_over net mid_net same all.passes; no_point = all.no_point; talks = all.talks }

-- ---- Calls for one application, none of which gives it an event

pub quiet_own : {Own T E Tells : Type 0} {number : ℕ} {old new : Seen Own} (app : ℕ) (net now_net : NetState) (result : Result T E) → app < number
    → Continues Tells old new → (Tells → OwnSteps app old new) → KeepsTalking Tells old new → OnOk result (SameNext net now_net)
    → PassesQuietly Tells number old new net now_net result
quiet_own app net now_net (Ok x) small continues own talks views = record {
  passes = record { continues = continues; places = started_places app net small own; reads = started_reads app net now_net views.views continues own; numbers = own_numbers net now_net own views.xid };
  no_point = started_quietly app small own;
  talks = talks;
}
quiet_own app net now_net (Err fault) small continues own talks views = record {
  passes = record { continues = continues; places = started_places app net small own; reads = tt; numbers = own_end net own };
  no_point = started_quietly app small own;
  talks = talks;
}

-- ---- A turn is counted and told, with the switches that were lost

module _ {text : List ℕ} {c mid_c now_c : Core} (noted : OnlyNotes text c mid_c) (told : LostTold mid_c now_c) where
  told_net : now_c.net ≡ none_left c.net
  told_net = told.tells.net ∙ ap none_left noted.adds.stays.net

  told_queue : now_c.queue ≡ c.queue ++ left_events c.net.left
  told_queue = told.tells.queue ∙ ap₂ (λ (queue : List Event) (net : NetState). queue ++ left_events net.left) noted.adds.stays.queue noted.adds.stays.net

  pub told_events : now_c.events ≡ c.events
  told_events = told.tells.events ∙ noted.adds.stays.events

  pub told_store : now_c.store ≡ c.store
  told_store = told.tells.store ∙ noted.adds.stays.store

  pub told_lines : now_c.lines.items ≡ c.lines.items ++ (text ++ lost_text c.net.left)
  told_lines = told.tells.lines ∙ ap₂ (λ (lines : List ℕ) (net : NetState). lines ++ lost_text net.left) noted.adds.lines noted.adds.stays.net
      ∙ append_assoc c.lines.items text (lost_text c.net.left)

  pub told_goes : 1 ≤ c.net.room → AreRead c.net.kept → StoreRests c.store → CoreGoes now_c
  told_goes room read store = record {
    room = subst (λ (net : NetState). 1 ≤ net.room) (sym told_net) room;
    read = subst (λ (net : NetState). AreRead net.kept) (sym told_net) read;
    store = subst StoreRests (sym told_store) store;
    left = ap (λ (net : NetState). net.left) told_net;
  }

  pub told_focus : (m : Managed) → focus_of now_c m ≡ all_told c.net c.queue (focus_of c m)
  told_focus m =
      ap₂ (λ (net : NetState) (queue : List Event). focus m.state.index (application_of now_c.store m) net queue now_c.events) told_net told_queue
      ∙ ap₂ (λ (events : ℕ) (slots : List Slot). focus m.state.index (application_of slots m) (none_left c.net) (c.queue ++ left_events c.net.left) events)
      told_events told_store

  -- it was done
  pub done_so : {Own : Type 0} {Tells : Type 0} {out : Vec (ℕ × ℕ) Global} (kind : EventKind) (stop : Bool) (seen : Seen Own) (m : Managed) (turns : ℕ) → turns ≡ m.done + 1
      → 1 ≤ c.net.room → AreRead c.net.kept → StoreRests c.store → text ≡ turn_line (name_of m) (turn_word (ends.Done stop)) ++ out_text out.items
      → CloseDone Tells kind (closings.Done stop out) stop seen seen c now_c m (record m { done = turns })
  done_so {out = out} kind stop seen m turns more room read store is = record {
    goes = told_goes room read store;
    events = told_events;
    store = told_store;
    stops = refl;
    closes = record {
      seen = refl;
      engine = told_focus (record m { done = turns }) ∙ ap (λ (n : ℕ). all_told c.net c.queue (record (focus_of c m) { done = n })) more;
      notes = told_lines ∙ ap (λ (xs : List ℕ). c.lines.items ++ (xs ++ lost_text c.net.left)) is
          ∙ ap (λ (xs : List ℕ). c.lines.items ++ xs)
          (append_assoc (turn_line (name_of m) (turn_word (ends.Done stop))) (out_text out.items) (lost_text c.net.left));
    };
  }

  -- it failed, and the application goes by its policy
  pub failed_so : {Own : Type 0} {Tells : Type 0} {old new : Seen Own} {later_c : Core} (kind : EventKind) (cause : Cause) (m now_m : Managed) (turns : ℕ) → turns ≡ m.failed + 1
      → 1 ≤ c.net.room → AreRead c.net.kept → StoreRests c.store → text ≡ turn_line (name_of m) (words.Failed cause)
      → GoOnDone Tells kind old new now_c later_c (record m { failed = turns }) now_m
      → CloseDone Tells kind (closings.Failed cause) false old new c later_c m now_m
  failed_so {Tells = Tells} {old = old} {new = new} {later_c = later_c} kind cause m now_m turns more room read store is goes =
      let core = told_goes room read store in
      record {
        goes = record {
          room = subst (λ (net : NetState). 1 ≤ net.room) (sym goes.net) core.room;
          read = subst (λ (net : NetState). AreRead net.kept) (sym goes.net) core.read;
          store = subst StoreRests (sym goes.waits.store) core.store;
          left = ap (λ (net : NetState). net.left) goes.net ∙ core.left;
        };
        events = goes.waits.events ∙ told_events;
        store = goes.waits.store ∙ told_store;
        stops = refl;
        closes = record {
          text = goes.goes_on.text;
          follows = subst (λ (e : Focus). Follows Tells (rule_at (app_value m.rule.now) kind) goes.goes_on.text old new e (focus_of later_c now_m))
              (told_focus (record m { failed = turns }) ∙ ap (λ (n : ℕ). all_told c.net c.queue (record (focus_of c m) { failed = n })) more) goes.goes_on.follows;
          notes = goes.goes_on.notes ∙ ap (λ (xs : List ℕ). xs ++ goes.goes_on.text) told_lines ∙ append_assoc c.lines.items (text ++ lost_text c.net.left)
              goes.goes_on.text
              ∙ ap (λ (xs : List ℕ). c.lines.items ++ xs) (append_assoc text (lost_text c.net.left) goes.goes_on.text)
              ∙ ap (λ (xs : List ℕ). c.lines.items ++ (xs ++ (lost_text c.net.left ++ goes.goes_on.text))) is;
        };
      }

-- ---- A turn

-- it was played
pub play_so : {Own : Type 0} {Tells : Type 0} {accepts : List TableView → Bool} {app budget number : ℕ} {event : Event} {closing : Closing} {old new : Seen Own}
    {net now_net : NetState} {queue now_queue : List Event} {rest unread : List ℕ} {store now_store : List Slot} → now_net.room ≡ net.room
    → PlaysStaged Tells accepts app budget number event closing old new net now_net queue now_queue rest unread store now_store
    → PlayDone Tells accepts app budget number event closing old new net now_net queue now_queue rest unread store now_store
play_so {closing = closing} {net = net} {now_net = now_net} room plays = record { room = room; plays = plays; read = turn_read closing net now_net plays.plays }

-- and what it staged is kept or dropped
pub hold_so : (Own : Type 0) (Tells : Type 0) (accepts : List TableView → Bool) (budget number : ℕ) (event : Event) (old new : Seen Own)
    (net now_net : NetState) (queue now_queue : List Event) (rest unread : List ℕ) (closing : Result Closing Fault) (app : ℕ)
    (store mid_store now_store : List Slot)
    → app < length store → StoreRests store → KeepsSlots app store mid_store → now_store ≡ with_slot app (closes_slot closing) mid_store
    → MatchResult closing (λ end. PlayDone Tells accepts app budget number event end old new net now_net queue now_queue rest unread store mid_store)
    (TurnFails Tells app budget rest old new net)
    → MatchResult closing (λ end. HoldDone Tells accepts app budget number event end old new net now_net queue now_queue rest unread store now_store)
    (HoldFails Tells app budget rest old new net store now_store)
hold_so Own Tells accepts budget number event old new net now_net queue now_queue rest unread (Ok closing) app store mid_store now_store lt rests keeps is
    played = record {
      room = played.room;
      plays = held Own Tells accepts budget number event old new net now_net queue now_queue rest unread (Ok closing) app store mid_store now_store
          lt rests keeps is played.plays;
      read = played.read;
    }
hold_so Own Tells accepts budget number event old new net now_net queue now_queue rest unread (Err fault) app store mid_store now_store lt rests keeps is
    fails = record { unkept = unkept (Err fault) app store mid_store now_store lt rests keeps is; fails = fails }
