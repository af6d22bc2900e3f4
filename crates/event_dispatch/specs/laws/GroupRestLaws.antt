-- Laws of what want of memory leaves behind the turns at the events that an application is given in place of one, and that they are what a group of turns
-- is.
use Rattle.std.proofs.Common.{◌≡◌, ◌≤◌, ℕ, zero, Bool, true, false, List, [], ◌∷◌, ◌++◌, length, Ok, refl, sym, ap, ap₂, ◌∙◌, subst, inl, inr, arith}
use Rattle.std.specs.Prelude.{◌+◌, ◌&&◌, not, string_bytes}
use Rattle.flow_table.specs.View.{TableView}
use Rattle.app_frames.specs.declared.frame.Event.{Event}
use Rattle.crash_policy.specs.declared.policy_file.AppRule.{AppRule}
use Rattle.checkpoint_store.specs.Slots.{Slot}
use Rattle.batch_laws.specs.Knowledge.{lost_text}
use Rattle.lego_model.specs.RunReport.{group_line}
use Rattle.outside.specs.Seen.{Seen, Continues}
use Rattle.outside.specs.laws.InOrderLaws.{InOrder-before}
use Rattle.net_txn.specs.Net.{NetState}
use Rattle.net_txn.specs.Releases.{Commits}
use Rattle.app_visor.specs.declared.state.AppState.{AppState}
use Rattle.app_visor.specs.Attempts.{kept_of}
use Rattle.app_visor.specs.CallsFor.{OwnSteps}
use Rattle.turn_laws.specs.laws.FaultLaws.{leads-undone, leads-joined, whole-moves}
use Rattle.run_course.specs.TurnsLeft.{AllDone}
use Rattle.run_laws.specs.Engine.{Focus}
use Rattle.run_laws.specs.Facts.{out_text, all_told, StartsAgain, turning_at, KeepsGroup, UndoesGroup, ClosesGroup}
use Rattle.run_laws.specs.laws.GroupMoveLaws.{plays_failed}
use Rattle.event_dispatch.specs.declared.engine_core.Core.{Core}
use Rattle.event_dispatch.specs.declared.instead.Grouped.{Grouped}
use Rattle.event_dispatch.specs.declared.instead.Grouped.TheVariants as grouped
use Rattle.event_dispatch.specs.declared.run.Managed.{Managed}
use Rattle.event_dispatch.specs.GroupParts.{turning_from, GroupClosed, GroupDone, GroupRests, UnkeptBy, group_says_stop, GroupCloses, GroupNoted}
use Rattle.event_dispatch.specs.Shows.{focus_of, name_of, played_core, played_app}
use Rattle.event_dispatch.specs.Talking.{KeepsTalking, TurnTalks}
use Rattle.event_dispatch.specs.laws.GroupLaws.{plays_lead, plays_done, group_ends}
use Rattle.event_dispatch.specs.laws.LeftLaws.{undone_is, undone_then, released_by, whole_moved}
use Rattle.event_dispatch.specs.laws.NoEventLaws.{own_stay, own_releases}

-- ---- They were closed, and memory was wanting behind them

closed_left : {Own : Type 0} (Tells : Type 0) (accepts : List TableView → Bool) (app : ℕ) (rule : AppRule) (number : ℕ) (event : Event) (events : List Event) (old mid new : Seen Own) (net mid_net : NetState) (queue now_queue : List Event) (rest unread kept now_kept : List ℕ) (held : Grouped)
    → Continues Tells old mid → Continues Tells mid new → (Tells → OwnSteps app mid new)
    → GroupClosed Tells accepts app rule number (event ∷ events) (turning_from zero zero old net rest kept) (length net.log) mid mid_net queue now_queue unread now_kept held → GroupRests Tells (Unit {0}) app rule.budget rest old new net
closed_left Tells accepts app rule number event events old mid new net mid_net queue now_queue rest unread kept now_kept (grouped.Kept stop text out) first later own c = record {
  left = λ told keeps order ready a runs passes.
      let from = turning_from zero zero old net rest kept in
      let leads = plays_lead Tells accepts app (string_bytes rule.name) rule.budget number (event ∷ events) from c.turning c.plays in
      let done = plays_done Tells accepts app (string_bytes rule.name) rule.budget number event events from c.turning told c.closed.whole c.plays (record { at_once = a; runs = runs; passes = passes }) in
      let commits = c.closed.commits in
      let joined = leads-joined told keeps (InOrder-before told commits.continues (InOrder-before told later order)) ready leads in
      let moves = released_by told joined commits in
      whole_moved old c.turning.seen mid new told later (own_releases (own told)) (own_stay later (own told)) (whole-moves (AllDone app rule.budget old) c.turning.seen mid moves.0 commits.continues.given done moves.1);
}
closed_left Tells accepts app rule number event events old mid new net mid_net queue now_queue rest unread kept now_kept (grouped.Undone text) first later own c = record {
  left = λ told keeps order ready a runs passes.
      let from = turning_from zero zero old net rest kept in
      let leads = plays_lead Tells accepts app (string_bytes rule.name) rule.budget number (event ∷ events) from c.turning c.plays in
      let undone = leads-undone mid mid_net (Ok tt) told keeps (InOrder-before told later order) ready leads c.closed.undoes in
      inr (inl (undone_then old mid new told first later (own_stay later (own told)) (undone_is old mid told undone)));
}

pub group_closed : {Own : Type 0} {Tells : Type 0} {accepts : List TableView → Bool} {app : ℕ} {rule : AppRule} {number : ℕ} {queue now_queue : List Event} {rest unread kept now_kept : List ℕ} {held : Grouped} (events : List Event) (old mid new : Seen Own) (net mid_net : NetState) → 1 ≤ length events
    → Continues Tells old mid → Continues Tells mid new → (Tells → OwnSteps app mid new) → GroupDone Tells accepts app rule number events old mid net mid_net queue now_queue rest unread kept now_kept held → GroupRests Tells (Unit {0}) app rule.budget rest old new net
group_closed [] old mid new net mid_net some first later own done = absurd (omega (arith, some))
group_closed {Tells = Tells} {accepts = accepts} {app = app} {rule = rule} {number = number} {queue = queue} {now_queue = now_queue} {rest = rest} {unread = unread} {kept = kept} {now_kept = now_kept} {held = held} (event ∷ events) old mid new net mid_net some first later own done =
    closed_left Tells accepts app rule number event events old mid new net mid_net queue now_queue rest unread kept now_kept held first later own (done.closes zero zero)

-- ---- They are what a group of turns is

-- it goes on with the dialogue, whatever followed that gives no event
pub group_talked : {Own : Type 0} {Tells : Type 0} {accepts : List TableView → Bool} {app : ℕ} {rule : AppRule} {number : ℕ} {events : List Event} {net mid_net : NetState} {queue now_queue : List Event} {rest unread kept now_kept : List ℕ} (held : Grouped) (old mid new : Seen Own)
    → GroupDone Tells accepts app rule number events old mid net mid_net queue now_queue rest unread kept now_kept held → KeepsTalking Tells mid new → TurnTalks Tells app rest old new
group_talked {Tells = Tells} {accepts = accepts} {app = app} {rule = rule} {number = number} {events = events} {net = net} {rest = rest} {kept = kept} (grouped.Kept stop text out) old mid new done later =
    let c = done.closes zero zero in
    let first = group_ends Tells accepts app (string_bytes rule.name) rule.budget number events (turning_from zero zero old net rest kept) c.turning mid c.plays c.closed.commits.links in
    record { talks = λ told a runs passes. later.talks told app (first.talks told a runs passes) }
group_talked {Tells = Tells} {accepts = accepts} {app = app} {rule = rule} {number = number} {events = events} {net = net} {rest = rest} {kept = kept} (grouped.Undone text) old mid new done later =
    let c = done.closes zero zero in
    let first = group_ends Tells accepts app (string_bytes rule.name) rule.budget number events (turning_from zero zero old net rest kept) c.turning mid c.plays c.closed.undoes.links in
    record { talks = λ told a runs passes. later.talks told app (first.talks told a runs passes) }

module _ {Own : Type 0} (Tells : Type 0) (accepts : List TableView → Bool) (events : List Event) (stops : Bool) (old mid new : Seen Own) (net : NetState) (queue : List Event) (app : AppState) (slots : List Slot) (c now_c : Core) (m now_m : Managed) (index : app.index ≡ m.state.index) (alive : app.alive ≡ m.state.alive) where
  abbrev Held : Grouped → Type 0
  Held held = GroupDone Tells accepts m.state.index m.rule.now c.events events old mid c.net net c.queue queue m.state.rest app.rest (kept_of m.state.index c.store) (kept_of m.state.index slots) held

  abbrev focus_behind : (rest kept : List ℕ) (done failed : ℕ) → List Event → Focus
  focus_behind rest kept done failed q = all_told net q (record (focus_of c m) { rest = rest; kept = kept; done = done; failed = failed })

  -- what is kept of the application behind them
  behind_is : (rest kept : List ℕ) (done failed : ℕ) (q : List Event) → q ≡ queue → rest ≡ app.rest → kept ≡ kept_of m.state.index slots
      → all_told net queue (record (focus_of (played_core net queue slots c) (played_app app m)) { done = done; failed = failed }) ≡ focus_behind rest kept done failed q
  behind_is rest kept done failed q waits rest_is kept_is =
      ap (λ (i : ℕ). all_told net queue (record (focus_of c m) { index = i; alive = app.alive; rest = app.rest; kept = kept_of i slots; done = done; failed = failed })) index
      ∙ ap (λ (b : Bool). all_told net queue (record (focus_of c m) { alive = b; rest = app.rest; kept = kept_of m.state.index slots; done = done; failed = failed })) alive
      ∙ ap₂ (λ (r k : List ℕ). all_told net queue (record (focus_of c m) { rest = r; kept = k; done = done; failed = failed })) (sym rest_is) (sym kept_is)
      ∙ ap (λ (es : List Event). focus_behind rest kept done failed es) (sym waits)

  pub group_is : (held : Grouped) → Held held → UnkeptBy (Ok held) (kept_of m.state.index c.store) (kept_of m.state.index slots) → stops ≡ group_says_stop held
      → GroupCloses Tells (length events) held mid new (played_core net queue slots c) now_c (played_app app m) now_m → GroupNoted Tells accepts events stops old new c now_c m now_m
  group_is (grouped.Kept stop text out) done unkept stops_is closes =
      let g = done.closes m.done m.failed in
      let k = g.closed in
      let e = focus_of c m in
      let lines = text.items ++ (group_line (name_of m) true ++ (out_text out.items ++ lost_text net.left)) in
      let kept : KeepsGroup Tells (length events) lines (length c.net.log) new g.turning e (focus_of now_c now_m) = record {
        net = net;
        queue = queue;
        sent = out.items;
        commits = subst (λ (s : Seen Own). Commits Tells (length c.net.log) g.turning.seen s g.turning.net net c.queue queue (Ok out.items)) (sym closes.seen) k.commits;
        engine = closes.engine ∙ behind_is g.turning.rest g.turning.kept (m.done + length events) m.failed queue refl (sym k.rest_is) (sym k.kept_is);
        text_is = ap (λ (t : List ℕ). t ++ (group_line (name_of m) true ++ (out_text out.items ++ lost_text net.left))) (sym k.text_is);
      } in
      record {
        text = lines;
        takes = record {
          turning = g.turning;
          plays = g.plays;
          closed = subst (λ (b : Bool). ClosesGroup b Tells (length events) lines (length c.net.log) new g.turning e (focus_of now_c now_m)) (sym k.whole) kept;
        };
        stops_is = stops_is ∙ sym k.stops ∙ ap (λ (b : Bool). not b && g.turning.stops) (sym k.whole);
        notes = closes.notes;
      }
  group_is (grouped.Undone text) done unkept stops_is closes =
      let g = done.closes m.done m.failed in
      let u = g.closed in
      let e = focus_of c m in
      let lines = text.items ++ (group_line (name_of m) false ++ (lost_text net.left ++ closes.later_text)) in
      let none = (plays_failed Tells accepts m.state.index (name_of m) m.rule.now.budget c.events events (turning_at old e) g.turning g.plays refl u.fails).1 in
      let undone : UndoesGroup Tells lines (length c.net.log) new g.turning e (focus_of now_c now_m) = record {
        undone = mid;
        undone_net = net;
        undoes = u.undoes;
        later_text = closes.later_text;
        starts = subst (λ (x : Focus). StartsAgain Tells closes.later_text mid new x (focus_of now_c now_m))
            (behind_is [] (kept_of m.state.index c.store) m.done (m.failed + 1) c.queue (sym u.queue_is) (sym none ∙ sym u.rest_is) (sym unkept)) closes.starts;
        text_is = ap (λ (t : List ℕ). t ++ (group_line (name_of m) false ++ (lost_text net.left ++ closes.later_text))) (sym u.text_is);
      } in
      record {
        text = lines;
        takes = record {
          turning = g.turning;
          plays = g.plays;
          closed = subst (λ (b : Bool). ClosesGroup b Tells (length events) lines (length c.net.log) new g.turning e (focus_of now_c now_m)) (sym u.fails) undone;
        };
        stops_is = stops_is ∙ ap (λ (b : Bool). not b && g.turning.stops) (sym u.fails);
        notes = closes.notes;
      }
