-- Laws of a turn: its parts, one after the other, are what the fact of the whole turn says.
use Rattle.std.proofs.Common.{◌≡◌, ℕ, ◌+◌, Bool, List, [], ◌++◌, length, Option, Result, Ok, refl, sym, ap, ap₂, ◌∙◌, subst}
use Rattle.std.specs.Prelude.{unwrap_or, Vec}
use Rattle.std.specs.Global.{Global}
use Rattle.flow_table.specs.View.{TableView}
use Rattle.app_frames.specs.declared.cause.Cause.{Cause}
use Rattle.app_frames.specs.declared.frame.Event.{Event}
use Rattle.crash_policy.specs.Asking.{rule_at}
use Rattle.crash_policy.specs.Policies.{app_value}
use Rattle.lego_model.specs.Controller.{event_frame}
use Rattle.lego_model.specs.RunReport.{turn_line}
use Rattle.lego_model.specs.declared.turn.TurnWord.TheVariants as words
use Rattle.outside.specs.Seen.{Seen}
use Rattle.lego_model.specs.declared.fault.TxnFault.{TxnFault}
use Rattle.net_txn.specs.Net.{NetState}
use Rattle.net_txn.specs.Undos.{Undoes}
use Rattle.net_txn.specs.Releases.{Commits}
use Rattle.app_visor.specs.declared.state.AppState.{AppState}
use Rattle.app_visor.specs.declared.state.TurnEnd.{TurnEnd}
use Rattle.app_visor.specs.declared.state.TurnEnd.TheVariants as ends
use Rattle.app_visor.specs.Attempts.{kept_of}
use Rattle.app_visor.specs.Turns.{StagesTurn}
use Rattle.checkpoint_store.specs.Slots.{Slot}
use Rattle.run_laws.specs.Engine.{Focus}
use Rattle.batch_laws.specs.Knowledge.{lost_text}
use Rattle.run_laws.specs.Facts.{turn_word, out_text, all_told, says_stop, Follows}
use Rattle.event_dispatch.specs.declared.closing.Closing.{Closing}
use Rattle.event_dispatch.specs.declared.closing.Closing.TheVariants as closings
use Rattle.event_dispatch.specs.declared.engine_core.Core.{Core}
use Rattle.event_dispatch.specs.declared.run.Managed.{Managed}
use Rattle.event_dispatch.specs.Shows.{focus_of, name_of, played_core, played_app}
use Rattle.event_dispatch.specs.Serves.{end_of, Closes, TurnNoted}
use Rattle.event_dispatch.specs.Stored.{PlaysStaged, HoldsTurn}
use Rattle.event_dispatch.specs.laws.StoreLaws.{none_handed}

-- ---- A turn, from its event on

pub turn_is : {Own : Type 0} (Tells : Type 0) (accepts : List TableView → Bool) (event : Event) (closing : Closing) (stops : Bool) (old mid new : Seen Own) (net : NetState) (queue : List Event) (app : AppState) (slots : List Slot) (c now_c : Core) (m now_m : Managed)
    → HoldsTurn Tells accepts m.state.index m.rule.now.budget c.events event closing old mid c.net net c.queue queue m.state.rest app.rest (kept_of m.state.index c.store) (kept_of m.state.index slots) → app.index ≡ m.state.index → app.alive ≡ m.state.alive → stops ≡ says_stop (end_of closing)
    → Closes Tells event.kind closing mid new (played_core net queue slots c) now_c (played_app app m) now_m → TurnNoted Tells accepts event stops old new c now_c m now_m
turn_is Tells accepts event (closings.Done stop out) stops old mid new net queue app slots c now_c m now_m holds index alive stops_is closes =
    let plays = holds.plays in
    record {
      text = turn_line (name_of m) (turn_word (ends.Done stop)) ++ (out_text out.items ++ lost_text net.left);
      takes = record {
        mid = plays.mid;
        mid_net = plays.mid_net;
        end = ends.Done stop;
        unread = app.rest;
        turns = plays.turns;
        closed = record {
          net = net;
          queue = queue;
          sent = out.items;
          commits = subst (λ (s : Seen _). Commits Tells (length c.net.log) plays.mid s plays.mid_net net c.queue queue (Ok out.items)) (sym closes.seen) plays.played;
          engine = closes.engine
              ∙ ap (λ (i : ℕ). all_told net queue (record (focus_of c m) { index = i; alive = app.alive; rest = app.rest; kept = kept_of i slots; done = m.done + 1 })) index
              ∙ ap (λ (b : Bool). all_told net queue (record (focus_of c m) { alive = b; rest = app.rest; kept = kept_of m.state.index slots; done = m.done + 1 })) alive
              ∙ ap (λ (kept : List ℕ). all_told net queue (record (focus_of c m) { rest = app.rest; kept = kept; done = m.done + 1 })) holds.kept_is;
          text_is = refl;
        };
      };
      stops_is = stops_is;
      notes = closes.notes;
    }
turn_is Tells accepts event (closings.Failed cause) stops old mid new net queue app slots c now_c m now_m holds index alive stops_is closes =
    let plays = holds.plays in
    let same : kept_of m.state.index slots ≡ kept_of m.state.index c.store =
    holds.kept_is ∙ ap (λ (checkpoint : Option (List ℕ)). unwrap_or checkpoint (kept_of m.state.index c.store)) (none_handed cause app.rest plays.turns.outcome plays.turns.ends) in
    record {
      text = turn_line (name_of m) (words.Failed cause) ++ (lost_text net.left ++ closes.text);
      takes = record {
        mid = plays.mid;
        mid_net = plays.mid_net;
        end = ends.Failed cause;
        unread = app.rest;
        turns = plays.turns;
        closed = record {
          undone = mid;
          undone_net = net;
          undoes = plays.played.0;
          later_text = closes.text;
          follows = subst (λ (e : Focus). Follows Tells (rule_at (app_value m.rule.now) event.kind) closes.text mid new e (focus_of now_c now_m))
              (ap (λ (i : ℕ). all_told net queue (record (focus_of c m) { index = i; alive = app.alive; rest = app.rest; kept = kept_of i slots; failed = m.failed + 1 })) index
              ∙ ap (λ (unread : List ℕ). all_told net queue (record (focus_of c m) { alive = app.alive; rest = unread; kept = kept_of m.state.index slots; failed = m.failed + 1 })) plays.turns.leaves
              ∙ ap₂ (λ (q : List Event) (b : Bool). all_told net q (record (focus_of c m) { alive = b; rest = []; kept = kept_of m.state.index slots; failed = m.failed + 1 })) plays.played.1 alive
              ∙ ap (λ (kept : List ℕ). all_told net c.queue (record (focus_of c m) { rest = []; kept = kept; failed = m.failed + 1 })) same) closes.follows;
          text_is = refl;
        };
      };
      stops_is = stops_is;
      notes = closes.notes;
    }

-- ---- A turn that was played in a transaction

pub play_done : {Own : Type 0} {Tells : Type 0} {accepts : List TableView → Bool} {app budget number start now_start : ℕ} {event : Event} {end : TurnEnd} {stop : Bool} {out : Vec (ℕ × ℕ) Global} {old mid new : Seen Own} {net txn_net mid_net left_net now_net : NetState} {queue now_queue : List Event} {rest unread : List ℕ}
    {slots now_slots : List Slot} → txn_net ≡ net → start ≡ length net.log → end ≡ ends.Done stop → StagesTurn Tells accepts app budget rest (event_frame number txn_net.moment event) old mid txn_net mid_net end unread slots now_slots → now_start ≡ start
    → now_net ≡ left_net → Commits Tells now_start mid new mid_net left_net queue now_queue (Ok out.items) → PlaysStaged Tells accepts app budget number event (closings.Done stop out) old new net now_net queue now_queue rest unread slots now_slots
play_done {Tells = Tells} {accepts = accepts} {app = app} {budget = budget} {number = number} {start = start} {now_start = now_start} {event = event} {end = end} {stop = stop} {out = out} {old = old} {mid = mid} {new = new} {net = net} {txn_net = txn_net} {mid_net = mid_net} {left_net = left_net} {queue = queue}
    {now_queue = now_queue} {rest = rest} {unread = unread} {slots = slots} {now_slots = now_slots} same at is turns kept here commits =
    let stages : StagesTurn Tells accepts app budget rest (event_frame number net.moment event) old mid net mid_net (ends.Done stop) unread slots now_slots =
    subst (λ (e : TurnEnd). StagesTurn Tells accepts app budget rest (event_frame number net.moment event) old mid net mid_net e unread slots now_slots) is
    (subst (λ (n : NetState). StagesTurn Tells accepts app budget rest (event_frame number n.moment event) old mid n mid_net end unread slots now_slots) same turns) in
    record {
      plays = record {
        mid = mid;
        mid_net = mid_net;
        turns = stages.turns;
        played = subst (λ (n : NetState). Commits Tells (length net.log) mid new mid_net n queue now_queue (Ok out.items)) (sym here)
            (subst (λ (n : ℕ). Commits Tells n mid new mid_net left_net queue now_queue (Ok out.items)) (kept ∙ at) commits);
      };
      staged_is = stages.staged_is;
    }

pub play_failed : {Own : Type 0} {Tells : Type 0} {accepts : List TableView → Bool} {app budget number start now_start : ℕ} {event : Event} {end : TurnEnd} {cause : Cause} {result : Result (Unit {0}) TxnFault} {old mid new : Seen Own} {net txn_net mid_net left_net now_net : NetState} {queue now_queue : List Event}
    {rest unread : List ℕ} {slots now_slots : List Slot} → txn_net ≡ net → start ≡ length net.log → end ≡ ends.Failed cause → StagesTurn Tells accepts app budget rest (event_frame number txn_net.moment event) old mid txn_net mid_net end unread slots now_slots → now_start ≡ start → result ≡ Ok tt → now_net ≡ left_net
    → now_queue ≡ queue → Undoes Tells now_start mid new mid_net left_net result → PlaysStaged Tells accepts app budget number event (closings.Failed cause) old new net now_net queue now_queue rest unread slots now_slots
play_failed {Tells = Tells} {accepts = accepts} {app = app} {budget = budget} {number = number} {start = start} {now_start = now_start} {event = event} {end = end} {cause = cause} {result = result} {old = old} {mid = mid} {new = new} {net = net} {txn_net = txn_net} {mid_net = mid_net}
    {left_net = left_net} {now_net = now_net} {rest = rest} {unread = unread} {slots = slots} {now_slots = now_slots} same at is turns kept ok here waits undoes =
    let stages : StagesTurn Tells accepts app budget rest (event_frame number net.moment event) old mid net mid_net (ends.Failed cause) unread slots now_slots =
    subst (λ (e : TurnEnd). StagesTurn Tells accepts app budget rest (event_frame number net.moment event) old mid net mid_net e unread slots now_slots) is
    (subst (λ (n : NetState). StagesTurn Tells accepts app budget rest (event_frame number n.moment event) old mid n mid_net end unread slots now_slots) same turns) in
    record {
      plays = record {
        mid = mid;
        mid_net = mid_net;
        turns = stages.turns;
        played = (
          subst (λ (n : NetState). Undoes Tells (length net.log) mid new mid_net n (Ok tt)) (sym here)
              (subst (λ (n : ℕ). Undoes Tells n mid new mid_net left_net (Ok tt)) (kept ∙ at) (subst (Undoes Tells now_start mid new mid_net left_net) ok undoes)),
          waits,
        );
      };
      staged_is = stages.staged_is;
    }
