-- Laws of the loop over the frames of a turn, and of the whole turn.
use Rattle.std.specs.Prelude.{◌≡◌, ℕ, zero, suc, Bool, true, false, List, [], ◌∷◌, ◌++◌, Option, Some, None, Err, ◌⊎◌, refl}
use Rattle.std.proofs.Common.{sym, ap, ◌∙◌, subst, inl, inr, true≢false}
use Rattle.flow_table.specs.View.{TableView}
use Rattle.of_types.specs.declared.journal.Act.TheVariants.{Gave, Gone}
use Rattle.app_frames.specs.declared.frame.AppFrame.{AppFrame}
use Rattle.app_frames.specs.declared.frame.AppFrame.TheVariants as frames
use Rattle.app_frames.specs.declared.frame.Answer.{Answer}
use Rattle.app_frames.specs.declared.cause.Cause.TheVariants as causes
use Rattle.lego_model.specs.Journal.{reply_of, give_act}
use Rattle.lego_model.specs.Turns.{Outcome, Completed, Failed, turn_of}
use Rattle.lego_model.specs.Scripted.{is_heard}
use Rattle.lego_model.specs.Controller.{answer_frame}
use Rattle.outside.specs.Seen.{Seen}
use Rattle.lego_model.specs.declared.fault.TxnFault.{TxnFault}
use Rattle.net_txn.specs.Net.{NetState}
use Rattle.net_txn.specs.Changes.{Changes}
use Rattle.lego_model.specs.AtOnce.{before, besides, Passes}
use Rattle.app_visor.specs.declared.came.Came.{Came}
use Rattle.app_visor.specs.declared.came.Came.TheVariants as comes
use Rattle.app_visor.specs.declared.state.TurnEnd.{TurnEnd}
use Rattle.app_visor.specs.declared.play_end.PlayEnd.{PlayEnd}
use Rattle.app_visor.specs.declared.play_end.PlayEnd.TheVariants as plays
use Rattle.checkpoint_store.specs.Slots.{Slot}
use Rattle.app_visor.specs.declared.state.TurnEnd.TheVariants as ends
use Rattle.app_visor.specs.Talks.{Told}
use Rattle.app_visor.specs.Reads.{takes, Taken, Comes}
use Rattle.app_visor.specs.Beats.{Talk, Asks, acts_in, exchange_of, IsExchange, Exchanges, Leads, Stops}
use Rattle.app_visor.specs.laws.BeatLaws.{same, Leads-refl}
use Rattle.app_visor.specs.Dialogues.{is_done}
use Rattle.journal_laws.specs.laws.AtOnceLaws.{sends_none_both}
use Rattle.app_visor.specs.laws.DialogueLaws.{Converses-refl, Converses-then, converses_told, converses_takes, takes_send_none, converses_event}
use Rattle.app_visor.specs.Turns.{IsEnd, handed, IsPlayEnd, turn_end, handed_at, LeavesNone, TurnsFrom, Turns, with_handed, StagesTurn, cause_of, Goes, EndsSo, FramePlayed, Plays, GoesOn, unread_after}
use Rattle.app_visor.specs.laws.TurnLaws.{turn_taken, goes_answered, ends_unanswered, given_more, given_none, IsUnbalanced, IsOver, turn_over}

-- ---- One message

pub stops_at_change : {Own : Type 0} {Tells : Type 0} {dpid : ℕ} {bytes : List ℕ} {old new : Seen Own} {net now_net : NetState} (app : ℕ) (fault : TxnFault)
    → Changes Tells dpid bytes old new net now_net (Err fault) → Stops Tells app old new net now_net fault
stops_at_change {dpid = dpid} {bytes = bytes} {old = old} {net = net} app fault changes =
    record { then_seen = old; then_net = net; leads = Leads-refl app old net; halts = inr (dpid, (bytes, changes)) }

pub leads_asked : {Own : Type 0} {Tells : Type 0} (app dpid : ℕ) (bytes : List ℕ) (answer : Answer) (old after : Seen Own) (net now_net : NetState) → IsExchange Tells (exchange_of dpid bytes answer old after net now_net)
    → Leads Tells app old after net now_net
leads_asked app dpid bytes answer old after net now_net is =
    record { trace = Asks (exchange_of dpid bytes answer old after net now_net) ∷ []; chain = ((refl, refl), (is, (refl, refl))) }

pub exchanges_is : {Own : Type 0} (Tells : Type 0) (app dpid : ℕ) (bytes : List ℕ) (given : Bool) (answer : Answer) (frame : List ℕ) (old after new : Seen Own) (net now_net : NetState)
    → IsExchange Tells (exchange_of dpid bytes answer old after net now_net) → frame ≡ answer_frame answer → Told Tells (give_act given app frame) after new → Exchanges Tells app dpid bytes given old new net now_net
exchanges_is Tells app dpid bytes given answer frame old after new net now_net is spelled told =
    record { answer = answer; after = after; exchange = is; told = subst (λ (f : List ℕ). Told Tells (give_act given app f) after new) spelled told }

pub plays_answered : {Own : Type 0} (Tells : Type 0) (accepts : List TableView → Bool) (app dpid : ℕ) (bytes : List ℕ) (old new : Seen Own) (net now_net : NetState) → Exchanges Tells app dpid bytes true old new net now_net
    → Plays Tells accepts app (frames.Message dpid bytes) old new net now_net None
plays_answered Tells accepts app dpid bytes old new net now_net e = record { frame_played = λ rest here next. goes_answered Tells accepts app dpid bytes rest here old new net now_net next e }

pub plays_unanswered : {Own : Type 0} (Tells : Type 0) (accepts : List TableView → Bool) (app dpid : ℕ) (bytes : List ℕ) (old new : Seen Own) (net now_net : NetState) → Exchanges Tells app dpid bytes false old new net now_net
    → Plays Tells accepts app (frames.Message dpid bytes) old new net now_net (Some (plays.Failed causes.Closed))
plays_unanswered Tells accepts app dpid bytes old new net now_net e = record { frame_played = λ rest here next. ends_unanswered Tells accepts app dpid bytes rest here old new net now_net next e }

-- ---- One frame

pub plays_came : {Own : Type 0} (Tells : Type 0) (accepts : List TableView → Bool) (app : ℕ) (result : Option PlayEnd) (frame : AppFrame) (rest left : List ℕ) (old mid new : Seen Own) (net now_net : NetState)
    → Comes Tells app rest left old mid (comes.Frame frame) → Plays Tells accepts app frame mid new net now_net result → FramePlayed Tells accepts app result rest left old new net now_net
plays_came Tells accepts app None frame rest left old mid new net now_net came plays =
    let taken : Taken Tells app rest came.unread old mid = subst (λ (s : Seen _). Taken Tells app rest came.unread old s) (sym came.came_is.1) came.taken in
    let one = plays.frame_played came.unread left came.came_is.0 in
    record {
      on = λ n later later_net end unread t. turn_taken taken (one.on n later later_net end unread t);
      speaks = λ tells since none.
          let ps = takes app taken.pieces in
          Converses-then app (before rest since) (before came.unread (since ++ ps)) (before left []) old mid new (converses_takes Tells app taken.pieces rest came.unread since old mid taken.all tells)
          (one.speaks tells (since ++ ps) (sends_none_both since ps none (takes_send_none app taken.pieces)));
    }
plays_came Tells accepts app (Some end) frame rest left old mid new net now_net came plays =
    let taken : Taken Tells app rest came.unread old mid = subst (λ (s : Seen _). Taken Tells app rest came.unread old s) (sym came.came_is.1) came.taken in
    record { turn = λ n. turn_taken taken ((plays.frame_played came.unread left came.came_is.0).turn n) }

pub ends_over : {Own : Type 0} (Tells : Type 0) (accepts : List TableView → Bool) (app : ℕ) (came : Came) (rest here : List ℕ) (old new : Seen Own) (net : NetState) → ((left : ℕ) → IsOver came left) → Comes Tells app rest here old new came
    → EndsSo Tells accepts app rest here old new net net (plays.Failed (cause_of came))
ends_over Tells accepts app came rest here old new net over comes = record { turn = λ n. turn_over Tells accepts app (suc n) came rest here here old new net (over (suc n)) comes }

-- ---- The loop

pub goes_none : {Own : Type 0} {Tells : Type 0} {accepts : List TableView → Bool} (app budget left : ℕ) (rest : List ℕ) (seen : Seen Own) (net : NetState) → left ≡ budget → GoesOn Tells accepts app budget rest seen net left rest seen net
goes_none {Tells = Tells} {accepts = accepts} app budget left rest seen net is = record {
  on = λ new now_net end unread t. subst (λ (n : ℕ). TurnsFrom Tells accepts app n rest seen new net now_net end unread) is t;
  speaks = λ tells. ([], (refl, Converses-refl app (before rest []) seen seen refl));
}

pub goes_more : {Own : Type 0} {Tells : Type 0} {accepts : List TableView → Bool} {app budget left : ℕ} {rest here there : List ℕ} {old seen mid : Seen Own} {net at_net mid_net : NetState} (less : ℕ) → left ≡ suc less
    → GoesOn Tells accepts app budget rest old net left here seen at_net → Goes Tells accepts app here there seen mid at_net mid_net → GoesOn Tells accepts app budget rest old net less there mid mid_net
goes_more {Tells = Tells} {accepts = accepts} {app = app} {rest = rest} {here = here} {there = there} {old = old} {seen = seen} {mid = mid} {at_net = at_net} less is all one = record {
  on = λ new now_net end unread t.
      all.on new now_net end unread (subst (λ (n : ℕ). TurnsFrom Tells accepts app n here seen new at_net now_net end unread) (sym is) (one.on less new now_net end unread t));
  speaks = λ tells.
      let s = all.speaks tells in
      ([], (refl, Converses-then app (before rest []) (before here s.0) (before there []) old seen mid s.1.1 (one.speaks tells s.0 s.1.0)));
}

pub ends_then : {Own : Type 0} {Tells : Type 0} {accepts : List TableView → Bool} {app budget left : ℕ} {rest here unread : List ℕ} {old seen new : Seen Own} {net at_net now_net : NetState} {end : PlayEnd} (less : ℕ) → left ≡ suc less
    → GoesOn Tells accepts app budget rest old net left here seen at_net → EndsSo Tells accepts app here unread seen new at_net now_net end → TurnsFrom Tells accepts app budget rest old new net now_net end unread
ends_then {Tells = Tells} {accepts = accepts} {app = app} {here = here} {unread = unread} {seen = seen} {new = new} {at_net = at_net} {now_net = now_net} {end = end} less is all one =
    all.on new now_net end unread (subst (λ (n : ℕ). TurnsFrom Tells accepts app n here seen new at_net now_net end unread) (sym is) (one.turn less))

over_at_zero : (came : Came) (left : ℕ) → left ≡ zero → IsOver came left
over_at_zero (comes.Frame frame) left is = is
over_at_zero (comes.Refused fault) left is = tt
over_at_zero comes.Closed left is = tt
over_at_zero comes.Silent left is = tt

pub spent_then : {Own : Type 0} {Tells : Type 0} {accepts : List TableView → Bool} {app budget left : ℕ} {rest here there : List ℕ} {old seen new : Seen Own} {net at_net : NetState} (came : Came) → left ≡ zero
    → GoesOn Tells accepts app budget rest old net left here seen at_net → Comes Tells app here there seen new came → TurnsFrom Tells accepts app budget rest old new net at_net (plays.Failed (cause_of came)) there
spent_then {Tells = Tells} {accepts = accepts} {app = app} {left = left} {here = here} {there = there} {seen = seen} {new = new} {at_net = at_net} came is all comes =
    all.on new at_net (plays.Failed (cause_of came)) there (turn_over Tells accepts app left came here there there seen new at_net (over_at_zero came left is) comes)

-- ---- The whole turn

gone_ends : {Own : Type 0} (Tells : Type 0) (accepts : List TableView → Bool) (app budget : ℕ) (rest frame : List ℕ) (old new : Seen Own) (net : NetState) → Told Tells (Gone app frame) old new
    → Turns Tells accepts app budget rest frame old new net net (ends.Failed causes.Closed) []
unfolding turn_of reply_of is_heard
gone_ends Tells accepts app budget rest frame old new net told = record {
  given = false;
  trace = [];
  chain = (same app, (new, (told, (refl, refl))));
  answers = [];
  outcome = Failed causes.Closed;
  played = refl;
  ends = refl;
  leaves = refl;
  inputs_is = given_none app frame;
  heard = refl;
  within = tt;
  speaks = λ tells event s runs passes. record {
    after = besides s (Gone app frame);
    converses = converses_told Tells app (Gone app frame) s (besides s (Gone app frame)) old new told tells (same app) (runs, refl);
    runs = λ done. absurd (true≢false (sym done));
    passes = λ done. absurd (true≢false (sym done));
  };
}

pub turns_gone : {Own : Type 0} {Tells : Type 0} {accepts : List TableView → Bool} {app : ℕ} {old new : Seen Own} (budget : ℕ) (rest left frame event : List ℕ) (net : NetState) (slots : List Slot) → left ≡ [] → frame ≡ event → Told Tells (Gone app frame) old new
    → StagesTurn Tells accepts app budget rest event old new net net (ends.Failed causes.Closed) left slots slots
unfolding gone_ends
turns_gone {Tells = Tells} {accepts = accepts} {app = app} {old = old} {new = new} budget rest left frame event net slots none is told =
    rw none (record { turns = gone_ends Tells accepts app budget rest event old new net (subst (λ (f : List ℕ). Told Tells (Gone app f) old new) is told); staged_is = refl })

ends_after : (end : PlayEnd) (unread : List ℕ) (outcome : Outcome) → IsPlayEnd end unread outcome → IsEnd (turn_end end) (unread_after (turn_end end) unread) outcome
ends_after (plays.Done stop checkpoint) unread (Completed stops handed rest) is = (is.0, is.1.0)
ends_after (plays.Done stop checkpoint) unread (Failed why) is = absurd is
ends_after (plays.Failed cause) unread (Completed stop checkpoint rest) is = absurd is
ends_after (plays.Failed cause) unread (Failed why) is = is

handed_is : (end : PlayEnd) (unread : List ℕ) (outcome : Outcome) → IsPlayEnd end unread outcome → handed_at end ≡ handed outcome
handed_is (plays.Done stop checkpoint) unread (Completed stops handed rest) is = is.1.1.0
handed_is (plays.Done stop checkpoint) unread (Failed why) is = absurd is
handed_is (plays.Failed cause) unread (Completed stop checkpoint rest) is = absurd is
handed_is (plays.Failed cause) unread (Failed why) is = refl

leaves_after : (end : PlayEnd) (unread : List ℕ) → LeavesNone (turn_end end) (unread_after (turn_end end) unread)
leaves_after (plays.Done stop checkpoint) unread = tt
leaves_after (plays.Failed cause) unread = refl

passes_after : (end : PlayEnd) (bytes unread : List ℕ) → (is_done (turn_end end) ≡ true → Passes bytes unread) → is_done (turn_end end) ≡ true → Passes bytes (unread_after (turn_end end) unread)
passes_after (plays.Done stop checkpoint) bytes unread passes done = passes done
passes_after (plays.Failed cause) bytes unread passes done = absurd (true≢false (sym done))

given_ends : {Own : Type 0} (Tells : Type 0) (accepts : List TableView → Bool) (app budget : ℕ) (rest frame unread : List ℕ) (old mid new : Seen Own) (net now_net : NetState) (end : PlayEnd) → Told Tells (Gave app frame) old mid
    → TurnsFrom Tells accepts app budget rest mid new net now_net end unread → Turns Tells accepts app budget rest frame old new net now_net (turn_end end) (unread_after (turn_end end) unread)
unfolding turn_of reply_of is_heard
given_ends Tells accepts app budget rest frame unread old mid new net now_net end told t = record {
  given = true;
  trace = t.trace;
  chain = (same app, (mid, (told, t.chain)));
  answers = t.answers;
  outcome = t.outcome;
  played = t.played;
  ends = ends_after end unread t.outcome t.ends;
  leaves = leaves_after end unread;
  inputs_is = given_more app frame (acts_in t.trace) _ t.given;
  heard = t.heard;
  within = t.within;
  speaks = λ tells event s runs passes.
      let later = t.speaks tells [] refl in
      record {
        after = later.after;
        converses = Converses-then app s (before rest []) later.after old mid new (converses_event Tells app frame rest s old mid told tells event runs passes) later.converses;
        runs = later.runs;
        passes = passes_after end later.after.unread unread later.passes;
      };
}

stages_given : {Own : Type 0} (Tells : Type 0) (accepts : List TableView → Bool) (app budget : ℕ) (rest frame unread : List ℕ) (old mid new : Seen Own) (net now_net : NetState) (end : PlayEnd) (slots now_slots : List Slot) → now_slots ≡ with_handed app (handed_at end) slots
    → Told Tells (Gave app frame) old mid → TurnsFrom Tells accepts app budget rest mid new net now_net end unread
    → StagesTurn Tells accepts app budget rest frame old new net now_net (turn_end end) (unread_after (turn_end end) unread) slots now_slots
unfolding given_ends
stages_given Tells accepts app budget rest frame unread old mid new net now_net end slots now_slots staged told t = record {
  turns = given_ends Tells accepts app budget rest frame unread old mid new net now_net end told t;
  staged_is = staged ∙ ap (λ (checkpoint : Option (List ℕ)). with_handed app checkpoint slots) (handed_is end unread t.outcome t.ends);
}

pub turns_given : {Own : Type 0} {Tells : Type 0} {accepts : List TableView → Bool} {app budget : ℕ} {rest unread : List ℕ} {old mid new : Seen Own} {net now_net : NetState} {end : PlayEnd} {slots now_slots : List Slot} (answer : TurnEnd) (left frame event taken : List ℕ)
    → answer ≡ turn_end end → left ≡ unread_after (turn_end end) unread → frame ≡ event → taken ≡ rest → now_slots ≡ with_handed app (handed_at end) slots → Told Tells (Gave app frame) old mid → TurnsFrom Tells accepts app budget taken mid new net now_net end unread
    → StagesTurn Tells accepts app budget rest event old new net now_net answer left slots now_slots
turns_given {Tells = Tells} {accepts = accepts} {app = app} {budget = budget} {rest = rest} {unread = unread} {old = old} {mid = mid} {new = new} {net = net} {now_net = now_net} {end = end} {slots = slots} {now_slots = now_slots} answer left frame event taken so is spelled begun staged told t =
    rw (so, is) (stages_given Tells accepts app budget rest event unread old mid new net now_net end slots now_slots staged (subst (λ (f : List ℕ). Told Tells (Gave app f) old mid) spelled told)
    (subst (λ (r : List ℕ). TurnsFrom Tells accepts app budget r mid new net now_net end unread) begun t))

pub leads_turn : {Own : Type 0} {Tells : Type 0} {accepts : List TableView → Bool} {app left : ℕ} {rest unread : List ℕ} {old new : Seen Own} {net now_net : NetState} {end : PlayEnd} → TurnsFrom Tells accepts app left rest old new net now_net end unread
    → Leads Tells app old new net now_net
leads_turn t = record { trace = t.trace; chain = t.chain }

pub leads_told : {Own : Type 0} {Tells : Type 0} {app : ℕ} {frame : List ℕ} {old new : Seen Own} (net : NetState) → Told Tells (Gave app frame) old new → Leads Tells app old new net net
leads_told {app = app} {frame = frame} {new = new} net told = record { trace = Talk (Gave app frame) ∷ []; chain = (same app, (new, (told, (refl, refl)))) }

pub not_frame : (came : Came) → ((frame : AppFrame) → came ≡ comes.Frame frame → ⊥) → (left : ℕ) → IsOver came left
not_frame (comes.Frame frame) not left = absurd (not frame refl)
not_frame (comes.Refused fault) not left = tt
not_frame comes.Closed not left = tt
not_frame comes.Silent not left = tt

pub is_unbalanced : (frame : AppFrame) → (frame ≡ frames.Save) ⊎ ((frame ≡ frames.Keep) ⊎ ((frame ≡ frames.Undo) ⊎ (frame ≡ frames.Ready))) → IsUnbalanced frame
is_unbalanced frame (inl is) = rw is tt
is_unbalanced frame (inr (inl is)) = rw is tt
is_unbalanced frame (inr (inr (inl is))) = rw is tt
is_unbalanced frame (inr (inr (inr is))) = rw is tt
