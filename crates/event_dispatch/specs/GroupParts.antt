-- What the turns at the events leave that an application is given in place of one at which it failed, and how they are closed: all were done, and what
-- they did is kept and released, once; or one failed, and all of it is undone. All of this is our own.
use Rattle.std.specs.Prelude.{◌≡◌, ◌+◌, ◌||◌, ℕ, Bool, true, false, List, [], ◌++◌, drop, length, nat_le, Result, Ok, Err, unwrap_or, string_bytes}
use Rattle.flow_table.specs.View.{TableView}
use Rattle.app_frames.specs.declared.frame.Event.{Event}
use Rattle.checkpoint_store.specs.Slots.{Slot, slot_of, done, dropped}
use Rattle.batch_laws.specs.Knowledge.{lost_text}
use Rattle.crash_policy.specs.Policies.{app_value}
use Rattle.crash_policy.specs.declared.policy_file.AppRule.{AppRule}
use Rattle.lego_model.specs.AtOnce.{Passes, AtOnce}
use Rattle.lego_model.specs.Controller.{event_frame}
use Rattle.lego_model.specs.RunReport.{group_line}
use Rattle.lego_model.specs.declared.fault.TxnFault.{TxnFault}
use Rattle.outside.specs.Seen.{Seen, Continues, journal}
use Rattle.outside.specs.Conforming.{Conforming}
use Rattle.outside.specs.InOrder.{InOrder}
use Rattle.net_txn.specs.Net.{NetState}
use Rattle.net_txn.specs.Undos.{Undoes}
use Rattle.net_txn.specs.Releases.{Commits}
use Rattle.app_visor.specs.declared.state.AppState.{AppState}
use Rattle.app_visor.specs.declared.state.TurnEnd.{TurnEnd}
use Rattle.app_visor.specs.Beats.{Leads, Stops, Stays}
use Rattle.app_visor.specs.CallsFor.{CallsFor}
use Rattle.app_visor.specs.Turns.{handed, Turns}
use Rattle.switch_laws.specs.Since.{Ready}
use Rattle.run_course.specs.Points.{was_given, NoPointSince}
use Rattle.run_course.specs.TurnsLeft.{GroupLeft}
use Rattle.run_laws.specs.Facts.{out_text, all_told, says_stop, end_fails, line_by, Turning, PlaysAll, StartsAgain, TakesGroup, group_stops, instead_if, TakesInstead}
use Rattle.event_dispatch.specs.declared.engine_core.Core.{Core}
use Rattle.event_dispatch.specs.declared.fault.Fault.{Fault}
use Rattle.event_dispatch.specs.declared.instead.Grouped.{Grouped}
use Rattle.event_dispatch.specs.declared.instead.Grouped.TheVariants as grouped
use Rattle.event_dispatch.specs.declared.instead.Played.{Played}
use Rattle.event_dispatch.specs.declared.run.Managed.{Managed}
use Rattle.event_dispatch.specs.Plain.{PlainTurn}
use Rattle.event_dispatch.specs.Runs.{AreRead, StoreRests, CoreGoes}
use Rattle.event_dispatch.specs.Serves.{Notes}
use Rattle.event_dispatch.specs.Shows.{focus_of, name_of}
use Rattle.event_dispatch.specs.Stored.{KeepsSlots, KeepsOthers}
use Rattle.event_dispatch.specs.Talking.{TurnTalks}
use Rattle.event_dispatch.specs.Undone.{IsShort}
use Rattle.event_dispatch.specs.Why.{IsReason}

-- ---- One turn of them

-- the checkpoint that was handed over last, or is kept from before
abbrev pub pending_of : ℕ → List Slot → List ℕ
pending_of app slots = (slot_of app slots).pending.checkpoint

-- how the turn ended is noted behind those before
pub record EndNoted (name : List ℕ) (event : Event) (end : TurnEnd) (p now_p : Played) : Type 0 where
  pub stops : now_p.stop ≡ (p.stop || says_stop end)
  pub fails : now_p.failed ≡ end_fails end
  pub text : now_p.text.items ≡ p.text.items ++ line_by name event end

-- It was held, with the number of the event for which it stands, and what it handed over is staged. `kept` is the checkpoint that would be kept.
pub record PlayedOne {Own : Type 0} (Tells : Type 0) (accepts : List TableView → Bool) (app : ℕ) (rule : AppRule) (number : ℕ) (event : Event) (p now_p : Played)
    (old new : Seen Own) (net now_net : NetState) (rest unread kept now_kept : List ℕ) : Type 0 where
  pub end : TurnEnd
  pub turns : Turns Tells accepts app rule.budget rest (event_frame number net.moment event) old new net now_net end unread
  pub kept_is : now_kept ≡ unwrap_or (handed turns.outcome) kept
  pub noted : EndNoted (string_bytes rule.name) event end p now_p

-- no quiescent point lies behind, where the application was given an event of the number before, and no other application was called
pub record QuietAgain {Own : Type 0} (app number : ℕ) (old new : Seen Own) : Type 0 where
  pub quiet : was_given app number old.history ≡ true → NoPointSince old new
  pub own : CallsFor app old new

-- however it ended: it is the same application, which has no new kept checkpoint
pub record GroupKeeps {Own : Type 0} (Tells : Type 0) (number : ℕ) (old new : Seen Own) (store now_store : List Slot) (app now_app : AppState) : Type 0 where
  pub index : now_app.index ≡ app.index
  pub alive : now_app.alive ≡ app.alive
  pub slots : KeepsSlots app.index store now_store
  pub quiet : Tells → QuietAgain app.index number old new

pub record TurnsKeep {Own : Type 0} (Tells : Type 0) (number : ℕ) (old new : Seen Own) (net now_net : NetState) (slots now_slots : List Slot) (app now_app : AppState) : Type 0 where
  pub keeps : GroupKeeps Tells number old new slots now_slots app now_app
  pub stays : Stays net now_net
  pub continues : Continues Tells old new

-- a fault ended them
pub record PlaysFail {Own : Type 0} (Tells : Type 0) (app : ℕ) (rest : List ℕ) (old new : Seen Own) (net now_net : NetState) (fault : TxnFault) : Type 0 where
  pub stops : Stops Tells app old new net now_net fault
  pub talks : TurnTalks Tells app rest old new

-- ---- All of them

-- before the first of them, where so many turns were done before and so many failed
abbrev pub turning_from : {Own : Type 0} → (done failed : ℕ) → Seen Own → NetState → (rest kept : List ℕ) → Turning Own
turning_from done failed seen net rest kept = record { seen = seen; net = net; rest = rest; kept = kept; done = done; failed = failed; stops = false; fails = false; text = [] }

-- and behind some
abbrev pub turning_of : {Own : Type 0} → (done failed : ℕ) → Seen Own → NetState → (rest kept : List ℕ) → Played → Turning Own
turning_of done failed seen net rest kept p =
    record { seen = seen; net = net; rest = rest; kept = kept; done = done; failed = failed; stops = p.stop; fails = p.failed; text = p.text.items }

abbrev pub PlaysFor : {Own : Type 0} → Type 0 → (List TableView → Bool) → (app : ℕ) → AppRule → (number : ℕ) → List Event → Turning Own → Turning Own → Type 0
PlaysFor Tells accepts app rule number events from to = PlaysAll Tells accepts app (string_bytes rule.name) rule.budget number events from to

pub record PlaysTo {Own : Type 0} (Tells : Type 0) (accepts : List TableView → Bool) (app : ℕ) (rule : AppRule) (number : ℕ) (events : List Event)
    (first : Turning Own) (new : Seen Own) (now_net : NetState) (rest kept : List ℕ) (p : Played) : Type 0 where
  pub done : ℕ
  pub failed : ℕ
  pub plays : PlaysFor Tells accepts app rule number events first (turning_of done failed new now_net rest kept p)

pub record GroupPlayed {Own : Type 0} (Tells : Type 0) (accepts : List TableView → Bool) (app : ℕ) (rule : AppRule) (number : ℕ) (events : List Event)
    (old new : Seen Own) (net now_net : NetState) (rest unread kept now_kept : List ℕ) (p : Played) : Type 0 where
  pub plays : (done failed : ℕ) → PlaysTo Tells accepts app rule number events (turning_from done failed old net rest kept) new now_net unread now_kept p

-- it goes on with the dialogue, and the application runs then, with these bytes unread, behind frames that are no messages
pub record TalksBehind {Own : Type 0} (app : ℕ) (unread : List ℕ) (new : Seen Own) : Type 0 where
  pub at_once : AtOnce app (journal new.history)
  pub runs : at_once.last.running ≡ true
  pub passes : Passes at_once.last.unread unread

-- so many were played, and the others are to come
pub record PlaysOn {Own : Type 0} (Tells : Type 0) (accepts : List TableView → Bool) (app : ℕ) (rule : AppRule) (number : ℕ) (events : List Event) (n : ℕ)
    (first : Turning Own) (now : Seen Own) (now_net : NetState) (rest kept : List ℕ) (p : Played) : Type 0 where
  pub done : ℕ
  pub failed : ℕ
  pub on : (to : Turning Own) → PlaysFor Tells accepts app rule number (drop n events) (turning_of done failed now now_net rest kept p) to → PlaysFor Tells accepts app rule number events first to

pub record PlaysSoFar {Own : Type 0} (Tells : Type 0) (accepts : List TableView → Bool) (app : ℕ) (rule : AppRule) (number : ℕ) (events : List Event) (n : ℕ)
    (old now : Seen Own) (net now_net : NetState) (rest unread kept now_kept : List ℕ) (p : Played) : Type 0 where
  pub goes : (done failed : ℕ) → PlaysOn Tells accepts app rule number events n (turning_from done failed old net rest kept) now now_net unread now_kept p
  pub whole : p.failed ≡ false
  pub leads : Leads Tells app old now net now_net
  pub talks : Tells → (a : AtOnce app (journal old.history)) → a.last.running ≡ true → Passes a.last.unread rest → TalksBehind app unread now

-- ---- They are closed

pub record IsKept {Own : Type 0} (Tells : Type 0) (stop : Bool) (out : List (ℕ × ℕ)) (text : List ℕ) (start : ℕ) (new : Seen Own) (now_net : NetState)
    (queue now_queue : List Event) (rest kept : List ℕ) (t : Turning Own) : Type 0 where
  pub whole : t.fails ≡ false
  pub stops : t.stops ≡ stop
  pub text_is : t.text ≡ text
  pub rest_is : rest ≡ t.rest
  pub kept_is : kept ≡ t.kept
  pub commits : Commits Tells start t.seen new t.net now_net queue now_queue (Ok out)

pub record IsTakenBack {Own : Type 0} (Tells : Type 0) (text : List ℕ) (start : ℕ) (new : Seen Own) (now_net : NetState) (queue now_queue : List Event)
    (rest : List ℕ) (t : Turning Own) : Type 0 where
  pub fails : t.fails ≡ true
  pub rest_is : rest ≡ t.rest
  pub text_is : t.text ≡ text
  pub queue_is : now_queue ≡ queue
  pub undoes : Undoes Tells start t.seen new t.net now_net (Ok tt)

abbrev pub IsGrouped : {Own : Type 0} → Type 0 → Grouped → ℕ → Seen Own → NetState → List Event → List Event → List ℕ → List ℕ → Turning Own → Type 0
IsGrouped Tells (grouped.Kept stop text out) start new now_net queue now_queue rest kept t = IsKept Tells stop out.items text.items start new now_net queue now_queue rest kept t
IsGrouped Tells (grouped.Undone text) start new now_net queue now_queue rest kept t = IsTakenBack Tells text.items start new now_net queue now_queue rest t

pub record GroupClosed {Own : Type 0} (Tells : Type 0) (accepts : List TableView → Bool) (app : ℕ) (rule : AppRule) (number : ℕ) (events : List Event) (first : Turning Own)
    (start : ℕ) (new : Seen Own) (now_net : NetState) (queue now_queue : List Event) (rest kept : List ℕ) (held : Grouped) : Type 0 where
  pub turning : Turning Own
  pub plays : PlaysFor Tells accepts app rule number events first turning
  pub closed : IsGrouped Tells held start new now_net queue now_queue rest kept turning

pub record GroupDone {Own : Type 0} (Tells : Type 0) (accepts : List TableView → Bool) (app : ℕ) (rule : AppRule) (number : ℕ) (events : List Event) (old new : Seen Own)
    (net now_net : NetState) (queue now_queue : List Event) (rest unread kept now_kept : List ℕ) (held : Grouped) : Type 0 where
  pub room : now_net.room ≡ net.room
  pub read : AreRead net.kept → AreRead now_net.kept
  pub closes : (done failed : ℕ) → GroupClosed Tells accepts app rule number events (turning_from done failed old net rest kept) (length net.log) new now_net queue now_queue unread now_kept held

-- Where the world tells in order, it kept its word up to the first of them, all was ready there, and the application runs, with these bytes unread: what
-- is left of them with what follows.
pub record GroupRests {Own : Type 0} (Tells Short : Type 0) (app budget : ℕ) (rest : List ℕ) (old new : Seen Own) (net : NetState) : Type 0 where
  pub left : Tells → Conforming old → InOrder new → Ready old net → (a : AtOnce app (journal old.history)) → a.last.running ≡ true → Passes a.last.unread rest
      → GroupLeft app budget Short old new

-- a fault ended them: it goes on with the dialogue, where the application runs; the fault has its cause; in a world that keeps its word it is a
-- plain one; and what is left of them
pub record GroupFails {Own : Type 0} (Tells : Type 0) (app budget : ℕ) (rest : List ℕ) (old new : Seen Own) (net : NetState) (fault : Fault) : Type 0 where
  pub talks : TurnTalks Tells app rest old new
  pub why : IsReason Tells old new 0 0 fault
  pub plain : PlainTurn Tells old new net fault
  pub rests : GroupRests Tells (IsShort fault) app budget rest old new net

-- ---- What they staged is kept or dropped

abbrev pub closes_group : Result Grouped Fault → Slot → Slot
closes_group (Ok (grouped.Kept stop text out)) slot = done slot
closes_group (Ok (grouped.Undone text)) slot = dropped slot
closes_group (Err fault) slot = dropped slot

-- however it ended, nothing that they staged is left, and the checkpoints of others stay
pub record GroupHolds {Own : Type 0} (Tells : Type 0) (number : ℕ) (old new : Seen Own) (store now_store : List Slot) (app now_app : AppState) : Type 0 where
  pub index : now_app.index ≡ app.index
  pub alive : now_app.alive ≡ app.alive
  pub rests : StoreRests now_store
  pub others : KeepsOthers app.index store now_store
  pub quiet : Tells → QuietAgain app.index number old new

-- where they are not kept, the kept checkpoint is the one before
abbrev pub UnkeptBy : Result Grouped Fault → List ℕ → List ℕ → Type 0
UnkeptBy (Ok (grouped.Kept stop text out)) kept now_kept = Unit {0}
UnkeptBy (Ok (grouped.Undone text)) kept now_kept = now_kept ≡ kept
UnkeptBy (Err fault) kept now_kept = now_kept ≡ kept

-- ---- They are counted and told

-- whether the event for which they stand goes no further
abbrev pub group_says_stop : Grouped → Bool
group_says_stop (grouped.Kept stop text out) = stop
group_says_stop (grouped.Undone text) = false

-- they were counted, and how they ended was noted, with the packets that were released and the switches that were lost
pub record GroupCounted {Own : Type 0} (turns : ℕ) (text : List ℕ) (out : List (ℕ × ℕ)) (old new : Seen Own) (c now_c : Core) (m now_m : Managed) : Type 0 where
  pub seen : new ≡ old
  pub engine : focus_of now_c now_m ≡ all_told c.net c.queue (record (focus_of c m) { done = m.done + turns })
  pub notes : Notes (text ++ (group_line (name_of m) true ++ (out_text out ++ lost_text c.net.left))) c now_c

-- and so it was where one failed, and the application is started again
pub record GroupFollowed {Own : Type 0} (Tells : Type 0) (text : List ℕ) (old new : Seen Own) (c now_c : Core) (m now_m : Managed) : Type 0 where
  pub later_text : List ℕ
  pub starts : StartsAgain Tells later_text old new (all_told c.net c.queue (record (focus_of c m) { failed = m.failed + 1 })) (focus_of now_c now_m)
  pub notes : Notes (text ++ (group_line (name_of m) false ++ (lost_text c.net.left ++ later_text))) c now_c

abbrev pub GroupCloses : {Own : Type 0} → Type 0 → ℕ → Grouped → Seen Own → Seen Own → Core → Core → Managed → Managed → Type 0
GroupCloses Tells turns (grouped.Kept stop text out) old new c now_c m now_m = GroupCounted turns text.items out.items old new c now_c m now_m
GroupCloses Tells turns (grouped.Undone text) old new c now_c m now_m = GroupFollowed Tells text.items old new c now_c m now_m

pub record GroupCloseDone {Own : Type 0} (Tells : Type 0) (turns : ℕ) (held : Grouped) (stopped : Bool) (old new : Seen Own) (c now_c : Core) (m now_m : Managed) : Type 0 where
  pub goes : CoreGoes now_c
  pub events : now_c.events ≡ c.events
  pub store : now_c.store ≡ c.store
  pub stops : stopped ≡ group_says_stop held
  pub closes : GroupCloses Tells turns held old new c now_c m now_m

-- ---- They are what a group of turns is

pub record GroupNoted {Own : Type 0} (Tells : Type 0) (accepts : List TableView → Bool) (events : List Event) (stops : Bool) (old new : Seen Own) (c now_c : Core) (m now_m : Managed) : Type 0 where
  pub text : List ℕ
  pub takes : TakesGroup Tells accepts events text old new (focus_of c m) (focus_of now_c now_m)
  pub stops_is : stops ≡ group_stops takes.turning
  pub notes : Notes text c now_c

pub record GroupTaken {Own : Type 0} (Tells : Type 0) (accepts : List TableView → Bool) (events : List Event) (stops : Bool) (old new : Seen Own) (c now_c : Core) (m now_m : Managed) : Type 0 where
  pub goes : CoreGoes now_c
  pub events_is : now_c.events ≡ c.events
  pub others : KeepsOthers m.state.index c.store now_c.store
  pub index : now_m.state.index ≡ m.state.index
  pub rule : now_m.rule ≡ m.rule
  pub group : GroupNoted Tells accepts events stops old new c now_c m now_m

-- ---- What an application is given in place of an event at which it failed

-- a frame can carry it: four bytes count its body
abbrev pub is_carried : Event → Bool
is_carried event = nat_le (length event.body) 4294967269

-- a group of turns, or nothing
pub record InsteadDone {Own : Type 0} (Tells : Type 0) (accepts : List TableView → Bool) (event : Event) (stops : Bool) (old new : Seen Own) (c now_c : Core) (m now_m : Managed) : Type 0 where
  pub goes : CoreGoes now_c
  pub events_is : now_c.events ≡ c.events
  pub others : KeepsOthers m.state.index c.store now_c.store
  pub index : now_m.state.index ≡ m.state.index
  pub rule : now_m.rule ≡ m.rule
  pub text : List ℕ
  pub takes : TakesInstead Tells accepts (instead_if true m.state.alive (app_value m.rule.now) event) stops text old new (focus_of c m) (focus_of now_c now_m)
  pub notes : Notes text c now_c

-- a fault ended it, which comes only where it is alive
pub record InsteadFails {Own : Type 0} (Tells : Type 0) (fault : Fault) (old new : Seen Own) (c : Core) (m : Managed) : Type 0 where
  pub alive : m.state.alive ≡ true
  pub fails : GroupFails Tells m.state.index m.rule.now.budget m.state.rest old new c.net fault
