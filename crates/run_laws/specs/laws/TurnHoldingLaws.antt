-- Turns of applications, as the course of a run says them.
use Rattle.std.specs.Prelude.{map, ◌||◌}
use Rattle.std.specs.Option.{unwrap_or}
use Rattle.std.proofs.Common.{◌≡◌, ◌⊎◌, ℕ, ◌+◌, Bool, true, false, List, [], ◌∷◌, ◌++◌, length, drop, Option, Some, None, refl, sym, ap, ap₂, ◌∙◌, subst, inl, inr, append_assoc}
use Rattle.std.proofs.lemmas.List.{append-nil, map-append}
use Rattle.of_types.specs.declared.journal.Act.{Act}
use Rattle.of_types.specs.declared.journal.Act.TheVariants.{Gave, Gone}
use Rattle.of_match.specs.declared.key.Key.{Key}
use Rattle.flow_table.specs.View.{TableView}
use Rattle.app_frames.specs.declared.frame.Event.{Event}
use Rattle.app_frames.specs.declared.frame.EventKind.{EventKind}
use Rattle.app_frames.specs.declared.cause.Cause.{Cause}
use Rattle.crash_policy.specs.declared.policy_file.Policy.{Policy}
use Rattle.crash_policy.specs.declared.policy_file.Policy.TheVariants as policy
use Rattle.crash_policy.specs.Asking.{rule_at}
use Rattle.outside.specs.declared.step.WorldStep.{WorldStep}
use Rattle.outside.specs.declared.step.WorldStep.TheVariants.{Acted}
use Rattle.outside.specs.Seen.{Seen}
use Rattle.lego_model.specs.Journal.{is_of, pieces, give_act}
use Rattle.lego_model.specs.Controller.{event_frame, says_stop as outcome_stops}
use Rattle.lego_model.specs.Turns.{Outcome, Completed, Failed, Played, next_of}
use Rattle.net_txn.specs.declared.logged.Logged.{Logged}
use Rattle.net_txn.specs.Net.{NetState}
use Rattle.net_txn.specs.Undos.{key_logged}
use Rattle.app_visor.specs.Talks.{Told, step_of}
use Rattle.app_visor.specs.Beats.{Beat, Talk, Asks, Chain, acts_in, exchanges_in}
use Rattle.app_visor.specs.Turns.{Asking, IsEnd, LeavesNone, handed, Turns}
use Rattle.app_visor.specs.laws.JournalLaws.{chain_told}
use Rattle.app_visor.specs.declared.state.TurnEnd.{TurnEnd}
use Rattle.app_visor.specs.declared.state.TurnEnd.TheVariants as ends
use Rattle.batch_laws.specs.Knowledge.{left_events}
use Rattle.run_course.specs.Asked.{AreAsked}
use Rattle.run_course.specs.Moves.{Holding, HoldsStill, Calls, Notes, EndMove}
use Rattle.run_course.specs.Turns as course
use Rattle.run_course.specs.Turns.{asked_in, added_in, Stays, Closes, Talks, keys_added, HasTurn, TurnInstead, turning_behind, HasGroup, HasEvent}
use Rattle.run_laws.specs.Engine.{Application, Focus, focus}
use Rattle.run_laws.specs.Facts.{Follows, all_told, StaysDone, IsUndone, IsClosed, TakesTurn, is_taking, says_stop, end_fails, Turning, turning_at, turned, unless_failed, line_by, PlaysAll, ClosesGroup, TakesGroup, group_stops, instead_if, TakesInstead, TakesEvent, Between, IsOffered, AreLeftOut, if_stopped, Offers}
use Rattle.run_laws.specs.laws.HoldingLaws.{holding_of, logged_of, one_move, moves_then, holds_still, change_moves, commit_moves, ChangeMove}
use Rattle.run_laws.specs.laws.UndoHoldingLaws.{undo_moves}
use Rattle.run_laws.specs.laws.AskedMessageLaws.{message_of, turn_asked}
use Rattle.run_laws.specs.laws.TurnCallLaws.{call_of}
use Rattle.run_laws.specs.laws.HadLaws.{or_false}
use Rattle.run_laws.specs.laws.StartHoldingLaws.{focused, application_of, restarts_so, follows_so}

-- ---- The messages of a turn

talk_calls : {Own Tells : Type 0} (app : ℕ) (act : Act) (old new : Seen Own) (net : NetState) (queue : List Event) → Tells → is_of app act ≡ true → Told Tells act old new → Calls app (holding_of old net queue) (holding_of new net queue)
talk_calls app act old new net queue told is talks = record { own = call_of app act old.history new.history is (talks.history told); still = holds_still old new net net queue queue refl refl refl }

-- the moves of its beats, what was asked in them, and what they log
record TalkOf {Own : Type 0} (app : ℕ) (trace : List (Beat Own)) (log now_log : List Logged) (from to : Holding Own) : Type 0 where
  moves : List (Option (ℕ × List ℕ) × Holding Own)
  talks : course.Talk app moves from to
  asked : asked_in moves ≡ map message_of (exchanges_in trace)
  logged : now_log ≡ log ++ map logged_of (added_in app moves from to talks)

logged_then : (log mid_log now_log : List Logged) (xs ys : List (ℕ × Key)) → mid_log ≡ log ++ map logged_of xs → now_log ≡ mid_log ++ map logged_of ys → now_log ≡ log ++ map logged_of (xs ++ ys)
logged_then log mid_log now_log xs ys first second =
    second ∙ (ap (λ (l : List Logged). l ++ map logged_of ys) first ∙ (append_assoc log (map logged_of xs) (map logged_of ys) ∙ ap (λ (l : List Logged). log ++ l) (sym (map-append logged_of xs ys))))

chain_talks : {Own Tells : Type 0} (app : ℕ) (trace : List (Beat Own)) (old new : Seen Own) (net now_net : NetState) (queue : List Event) → Tells → Chain Tells app trace old new net now_net → TalkOf app trace net.log now_net.log (holding_of old net queue) (holding_of new now_net queue)
chain_talks app [] old new net now_net queue told chain = record {
  moves = [];
  talks = ap (λ (s : Seen _). holding_of s now_net queue) chain.0 ∙ ap (λ (n : NetState). holding_of old n queue) chain.1;
  asked = refl;
  logged = ap (λ (n : NetState). n.log) chain.1 ∙ sym (append-nil net.log);
}
chain_talks app (Talk act ∷ trace) old new net now_net queue told chain =
    let next = chain.1.0 in
    let rest = chain_talks app trace next new net now_net queue told chain.1.1.1 in
    record {
      moves = (None, holding_of next net queue) ∷ rest.moves;
      talks = (talk_calls app act old next net queue told chain.0 chain.1.1.0, rest.talks);
      asked = rest.asked;
      logged = rest.logged;
    }
chain_talks app (Asks x ∷ trace) old new net now_net queue told chain =
    let rest = chain_talks app trace x.after new x.now_net now_net queue told chain.1.1 in
    let there = holding_of x.after x.now_net queue in
    let first : ChangeMove app x.dpid x.bytes net.log x.now_net.log (holding_of old net queue) there =
    subst (λ (s : Seen _). ChangeMove app x.dpid x.bytes net.log x.now_net.log (holding_of s net queue) there) chain.0.0
    (subst (λ (n : NetState). ChangeMove app x.dpid x.bytes n.log x.now_net.log (holding_of x.before n queue) there) chain.0.1 (change_moves app x.net x.now_net queue x.answer told chain.1.0.changes)) in
    record {
      moves = (Some (x.dpid, x.bytes), there) ∷ rest.moves;
      talks = (first.move, rest.talks);
      asked = ap (λ (ms : List (ℕ × List ℕ)). (x.dpid, x.bytes) ∷ ms) rest.asked;
      logged = logged_then net.log x.now_net.log now_net.log
          (course.added_by app (Some (x.dpid, x.bytes)) (holding_of old net queue) there first.move) (added_in app rest.moves there (holding_of new now_net queue) rest.talks) first.logged rest.logged;
    }

-- what was logged behind what was before is what was added
keys_logged : (added : List (ℕ × Key)) → map key_logged (map logged_of added) ≡ added
keys_logged [] = refl
keys_logged (a ∷ added) = ap (λ (rest : List (ℕ × Key)). a ∷ rest) (keys_logged added)

drop_front : (xs ys : List Logged) → drop (length xs) (xs ++ ys) ≡ ys
drop_front [] ys = refl
drop_front (x ∷ xs) ys = drop_front xs ys

logged_added : (log now_log : List Logged) (added : List (ℕ × Key)) → now_log ≡ log ++ map logged_of added → map key_logged (drop (length log) now_log) ≡ added
logged_added log now_log added is =
    ap (λ (l : List Logged). map key_logged (drop (length log) l)) is ∙ (ap (λ (l : List Logged). map key_logged l) (drop_front log (map logged_of added)) ∙ keys_logged added)

-- ---- The end of a turn

-- the switches that were lost are told
told_notes : {Own : Type 0} (seen : Seen Own) (net : NetState) (queue : List Event) → Notes (holding_of seen net queue) (holding_of seen (record net { left = [] }) (queue ++ left_events net.left))
told_notes seen net queue = record { history = refl; tables = λ e. refl; kept = refl; events = left_events net.left; queued = refl }

stays_so : {Own Tells : Type 0} {checkpoint : Option (List ℕ)} {unread : List ℕ} {stop : Bool} {text : List ℕ} {start : ℕ} (mid new : Seen Own) (mid_net : NetState) (e now_e : Focus) → Tells → StaysDone Tells checkpoint unread stop text start mid new mid_net e now_e
    → Stays checkpoint unread (focused e) (focused now_e) (holding_of mid mid_net e.queue) (holding_of new now_e.net now_e.queue)
stays_so mid new mid_net e now_e told stays = record {
  moves =
      moves_then EndMove (holding_of mid mid_net e.queue) (holding_of new stays.net stays.queue) (holding_of new now_e.net now_e.queue)
      (commit_moves mid new mid_net stays.net e.queue stays.queue told stays.commits)
      (one_move EndMove (holding_of new stays.net stays.queue) (holding_of new now_e.net now_e.queue)
      (inr (inl (subst (λ (f : Focus). Notes (holding_of new stays.net stays.queue) (holding_of new f.net f.queue)) (sym stays.engine) (told_notes new stays.net stays.queue)))));
  kept = ap focused stays.engine;
}

undone_so : {Own Tells : Type 0} {kind : EventKind} {cause : Cause} {text : List ℕ} {start : ℕ} (added : List (ℕ × Key)) (mid new : Seen Own) (mid_net : NetState) (e now_e : Focus) → Tells → map key_logged (drop start mid_net.log) ≡ added → IsUndone Tells kind cause text start mid new mid_net e now_e
    → course.IsUndone kind added e.index (focused e) (focused now_e) (holding_of mid mid_net e.queue) (holding_of new now_e.net now_e.queue)
undone_so added mid new mid_net e now_e told logged is =
    let told_e = all_told is.undone_net e.queue (record e { rest = []; failed = e.failed + 1 }) in
    let follows = follows_so is.later_text _ is.undone new told_e now_e told is.follows in
    record {
      undone = holding_of is.undone is.undone_net e.queue;
      takes_back = undo_moves mid is.undone mid_net is.undone_net e.queue added told logged is.undoes;
      noted = holding_of is.undone told_e.net told_e.queue;
      notes = told_notes is.undone is.undone_net e.queue;
      follows = follows.follows;
      still = holds_still is.undone new told_e.net now_e.net told_e.queue now_e.queue (ap (λ (n : NetState). n.views) follows.net) (ap (λ (n : NetState). n.kept) follows.net) follows.queue;
    }

closes_so : {Own Tells : Type 0} (kind : EventKind) (outcome : Outcome) (unread text : List ℕ) (start : ℕ) (end : TurnEnd) (added : List (ℕ × Key)) (mid new : Seen Own) (mid_net : NetState) (e now_e : Focus) → Tells → map key_logged (drop start mid_net.log) ≡ added → IsEnd end unread outcome
    → IsClosed Tells kind end (handed outcome) unread text start mid new mid_net e now_e → Closes kind outcome added e.index (focused e) (focused now_e) (holding_of mid mid_net e.queue) (holding_of new now_e.net now_e.queue)
closes_so kind (Completed stop checkpoint left) unread text start (ends.Done stops) added mid new mid_net e now_e told logged is closed =
    subst (λ (rest : List ℕ). Stays checkpoint rest (focused e) (focused now_e) (holding_of mid mid_net e.queue) (holding_of new now_e.net now_e.queue)) is.1 (stays_so mid new mid_net e now_e told closed)
closes_so kind (Failed why) unread text start (ends.Done stops) added mid new mid_net e now_e told logged is closed = absurd is
closes_so kind (Completed stop checkpoint left) unread text start (ends.Failed cause) added mid new mid_net e now_e told logged is closed = absurd is
closes_so kind (Failed why) unread text start (ends.Failed cause) added mid new mid_net e now_e told logged is closed = undone_so added mid new mid_net e now_e told logged closed

-- ---- A turn, from its event on

given_by : (given : Bool) (app : ℕ) (frame : List ℕ) (before after : List WorldStep) → after ≡ before ++ step_of (give_act given app frame) ∷ [] → (after ≡ before ++ Acted (Gave app frame) ∷ []) ⊎ (after ≡ before ++ Acted (Gone app frame) ∷ [])
given_by true app frame before after is = inl is
given_by false app frame before after is = inr is

asked_of : (ms ns : List (ℕ × List ℕ)) (outcome other : Outcome) (rest : List ℕ) (ps qs : List (List ℕ)) → ms ≡ ns → other ≡ outcome → ps ≡ qs → AreAsked ns other (next_of rest qs) → AreAsked ms outcome (next_of rest ps)
asked_of ms ns outcome other rest ps qs same outcomes parts are = rw (same, sym outcomes, parts) are

-- the messages of a turn, with what they log
record TalksOf {Own : Type 0} (number : ℕ) (event : Event) (i : ℕ) (unread : List ℕ) (outcome : Outcome) (log now_log : List Logged) (from to : Holding Own) : Type 0 where
  talks : Talks number event i unread from to
  outcome_is : talks.outcome ≡ outcome
  logged : now_log ≡ log ++ map logged_of (keys_added talks)

talks_so : {Own Tells : Type 0} {accepts : List TableView → Bool} {app budget number : ℕ} {rest unread : List ℕ} {end : TurnEnd} (event : Event) (old new : Seen Own) (net now_net : NetState) (queue : List Event) → Tells → (turns : Turns Tells accepts app budget rest (event_frame number net.moment event) old new net now_net end unread)
    → TalksOf number event app rest turns.outcome net.log now_net.log (holding_of old net queue) (holding_of new now_net queue)
talks_so {Tells = Tells} {accepts = accepts} {app = app} {budget = budget} {number = number} {rest = rest} event old new net now_net queue told turns =
    let chain = turns.chain in
    let next = chain.1.0 in
    let begun = holding_of next net queue in
    let talk = chain_talks app turns.trace next new net now_net queue told chain.1.1.1 in
    let acts = chain_told Tells app turns.trace next new net now_net chain.1.1.1 told in
    let asked = turn_asked (accepts now_net.views) turns.given budget rest turns.trace (exchanges_in turns.trace) turns.heard (ap (λ (p : Played (Asking _)). p.state) turns.played) in
    record {
      talks = record {
        moment = net.moment;
        begun = begun;
        given = record { history = given_by turns.given app (event_frame number net.moment event) old.history next.history (chain.1.1.0.history told); still = record { tables = λ d. refl; kept = refl; queue = refl } };
        talk = talk.moves;
        talks = talk.talks;
        steps = acts.steps;
        history = acts.history;
        outcome = turns.outcome;
        asked = asked_of (asked_in talk.moves) (map message_of (exchanges_in turns.trace)) turns.outcome _ rest _ (pieces (acts_in turns.trace)) talk.asked (ap (λ (p : Played (Asking _)). p.outcome) turns.played) (ap pieces acts.acts_is) asked;
      };
      outcome_is = refl;
      logged = talk.logged;
    }

pub turn_moves : {Own Tells : Type 0} {accepts : List TableView → Bool} {text : List ℕ} (event : Event) (old new : Seen Own) (e now_e : Focus) → Tells → TakesTurn Tells accepts event text old new e now_e
    → HasTurn e.events event e.index (focused e) (focused now_e) (holding_of old e.net e.queue) (holding_of new now_e.net now_e.queue)
turn_moves event old new e now_e told takes =
    let turns = takes.turns in
    let all = talks_so event old takes.mid e.net takes.mid_net e.queue told turns in
    let keys = keys_added all.talks in
    record {
      talked = holding_of takes.mid takes.mid_net e.queue;
      talks = all.talks;
      closes = subst (λ (o : Outcome). Closes event.kind o keys e.index (focused e) (focused now_e) (holding_of takes.mid takes.mid_net e.queue) (holding_of new now_e.net now_e.queue)) (sym all.outcome_is)
          (closes_so event.kind turns.outcome takes.unread _ (length e.net.log) takes.end keys takes.mid new takes.mid_net e now_e told (logged_added e.net.log takes.mid_net.log keys all.logged) turns.ends takes.closed);
    }

end_stops : (end : TurnEnd) (unread : List ℕ) (outcome : Outcome) → IsEnd end unread outcome → says_stop end ≡ outcome_stops outcome
end_stops (ends.Done stop) unread (Completed stops checkpoint rest) is = is.0
end_stops (ends.Done stop) unread (Failed cause) is = absurd is
end_stops (ends.Failed why) unread (Completed stops checkpoint rest) is = absurd is
end_stops (ends.Failed why) unread (Failed cause) is = refl

-- ---- What it is given in place of an event

-- how it stands between two turns, where these keys were added
abbrev turning_of : {Own : Type 0} → Focus → Turning Own → List (ℕ × Key) → course.Turning
turning_of e t keys = record { app = record (focused e) { unread = t.rest; checkpoint = t.kept }; keys = keys; stops = t.stops; fails = t.fails }

one_behind : {Own : Type 0} (e : Focus) (from : Turning Own) (end : TurnEnd) (outcome : Outcome) (unread line : List ℕ) (keys more : List (ℕ × Key)) (mid : Seen Own) (mid_net : NetState) → IsEnd end unread outcome → LeavesNone end unread
    → course.behind_one outcome more (turning_of e from keys) ≡ turning_of e (turned end (handed outcome) unread mid mid_net line from) (keys ++ more)
one_behind e from (ends.Done stop) (Completed stops checkpoint rest) unread line keys more mid mid_net is leaves =
    ap₂ (λ (left : List ℕ) (b : Bool). record { app = record (focused e) { unread = left; checkpoint = unwrap_or checkpoint from.kept }; keys = keys ++ more; stops = from.stops || b; fails = false }) (sym is.1) (sym is.0)
one_behind e from (ends.Done stop) (Failed cause) unread line keys more mid mid_net is leaves = absurd is
one_behind e from (ends.Failed why) (Completed stops checkpoint rest) unread line keys more mid mid_net is leaves = absurd is
one_behind e from (ends.Failed why) (Failed cause) unread line keys more mid mid_net is leaves =
    ap₂ (λ (left : List ℕ) (b : Bool). record { app = record (focused e) { unread = left; checkpoint = from.kept }; keys = keys ++ more; stops = b; fails = true }) (sym leaves) (sym (or_false from.stops))

record PlaysHeld {Own : Type 0} (e : Focus) (events : List Event) (log : List Logged) (keys : List (ℕ × Key)) (from to : Turning Own) : Type 0 where
  keys_then : List (ℕ × Key)
  turns : course.TurnsInstead e.events e.index events (turning_of e from keys) (turning_of e to keys_then) (holding_of from.seen from.net e.queue) (holding_of to.seen to.net e.queue)
  logged : to.net.log ≡ log ++ map logged_of keys_then

held_one : {Own : Type 0} (e : Focus) (event : Event) (events : List Event) (log : List Logged) (keys : List (ℕ × Key)) (from to : Turning Own) (mid : Seen Own) (mid_net : NetState) (end : TurnEnd) (outcome : Outcome) (unread line : List ℕ)
    → from.net.log ≡ log ++ map logged_of keys → IsEnd end unread outcome → LeavesNone end unread → TalksOf e.events event e.index from.rest outcome from.net.log mid_net.log (holding_of from.seen from.net e.queue) (holding_of mid mid_net e.queue)
    → ((more : List (ℕ × Key)) → mid_net.log ≡ log ++ map logged_of more → unless_failed end (to ≡ turned end (handed outcome) unread mid mid_net line from) (PlaysHeld e events log more (turned end (handed outcome) unread mid mid_net line from) to))
    → PlaysHeld e (event ∷ events) log keys from to
held_one e event events log keys from to mid mid_net (ends.Done stop) (Completed stops checkpoint rest) unread line logged is leaves all on =
    let more = keys_added all.talks in
    let there = logged_then log from.net.log mid_net.log keys more logged all.logged in
    let next = turned (ends.Done stop) checkpoint unread mid mid_net line from in
    let h = on (keys ++ more) there in
    let here : TurnInstead e.events event e.index (turning_of e from keys) (holding_of from.seen from.net e.queue) = record { mid = holding_of mid mid_net e.queue; talks = all.talks } in
    let behind : course.behind_one all.talks.outcome more (turning_of e from keys) ≡ turning_of e next (keys ++ more) =
    ap (λ (o : Outcome). course.behind_one o more (turning_of e from keys)) all.outcome_is ∙ one_behind e from (ends.Done stop) (Completed stops checkpoint rest) unread line keys more mid mid_net is leaves in
    record {
      keys_then = h.keys_then;
      turns = (
        here,
        subst (λ (o : Outcome). course.unless_failed o ((holding_of to.seen to.net e.queue ≡ here.mid) × (turning_of e to h.keys_then ≡ turning_behind here)) (course.TurnsInstead e.events e.index events (turning_behind here) (turning_of e to h.keys_then) here.mid (holding_of to.seen to.net e.queue))) (sym all.outcome_is)
            (subst (λ (t : course.Turning). course.TurnsInstead e.events e.index events t (turning_of e to h.keys_then) here.mid (holding_of to.seen to.net e.queue)) (sym behind) h.turns),
      );
      logged = h.logged;
    }
held_one e event events log keys from to mid mid_net (ends.Done stop) (Failed cause) unread line logged is leaves all on = absurd is
held_one e event events log keys from to mid mid_net (ends.Failed why) (Completed stops checkpoint rest) unread line logged is leaves all on = absurd is
held_one e event events log keys from to mid mid_net (ends.Failed why) (Failed cause) unread line logged is leaves all on =
    let more = keys_added all.talks in
    let there = logged_then log from.net.log mid_net.log keys more logged all.logged in
    let next = turned (ends.Failed why) None unread mid mid_net line from in
    let over = on (keys ++ more) there in
    let here : TurnInstead e.events event e.index (turning_of e from keys) (holding_of from.seen from.net e.queue) = record { mid = holding_of mid mid_net e.queue; talks = all.talks } in
    let behind : course.behind_one all.talks.outcome more (turning_of e from keys) ≡ turning_of e next (keys ++ more) =
    ap (λ (o : Outcome). course.behind_one o more (turning_of e from keys)) all.outcome_is ∙ one_behind e from (ends.Failed why) (Failed cause) unread line keys more mid mid_net is leaves in
    record {
      keys_then = keys ++ more;
      turns = (
        here,
        subst (λ (o : Outcome). course.unless_failed o ((holding_of to.seen to.net e.queue ≡ here.mid) × (turning_of e to (keys ++ more) ≡ turning_behind here)) (course.TurnsInstead e.events e.index events (turning_behind here) (turning_of e to (keys ++ more)) here.mid (holding_of to.seen to.net e.queue))) (sym all.outcome_is)
            (ap (λ (t : Turning _). holding_of t.seen t.net e.queue) over, ap (λ (t : Turning _). turning_of e t (keys ++ more)) over ∙ sym behind),
      );
      logged = ap (λ (t : Turning _). t.net.log) over ∙ there;
    }

-- the step from the rest to the whole
held_on : {Own : Type 0} (Tells : Type 0) (accepts : List TableView → Bool) (e : Focus) (events : List Event) (log : List Logged) (next to : Turning Own) (end : TurnEnd) → ((more : List (ℕ × Key)) → next.net.log ≡ log ++ map logged_of more → PlaysAll Tells accepts e.index e.rule.name e.rule.budget e.events events next to → PlaysHeld e events log more next to)
    → unless_failed end (to ≡ next) (PlaysAll Tells accepts e.index e.rule.name e.rule.budget e.events events next to) → (more : List (ℕ × Key)) → next.net.log ≡ log ++ map logged_of more → unless_failed end (to ≡ next) (PlaysHeld e events log more next to)
held_on Tells accepts e events log next to (ends.Done stop) rest plays more logged = rest more logged plays
held_on Tells accepts e events log next to (ends.Failed cause) rest over more logged = over

plays_held : {Own : Type 0} (Tells : Type 0) (accepts : List TableView → Bool) (e : Focus) (events : List Event) (log : List Logged) (keys : List (ℕ × Key)) (from to : Turning Own) → Tells → from.net.log ≡ log ++ map logged_of keys → PlaysAll Tells accepts e.index e.rule.name e.rule.budget e.events events from to → PlaysHeld e events log keys from to
plays_held Tells accepts e [] log keys from to told logged none =
    subst (λ (t : Turning _). PlaysHeld e [] log keys from t) (sym none) (record { keys_then = keys; turns = (refl, refl); logged = logged })
plays_held Tells accepts e (event ∷ events) log keys from to told logged plays =
    let one = plays.0 in
    let t = one.turns in
    let next = turned one.end (handed t.outcome) one.unread one.mid one.mid_net (line_by e.rule.name event one.end) from in
    held_one e event events log keys from to one.mid one.mid_net one.end t.outcome one.unread (line_by e.rule.name event one.end) logged t.ends t.leaves (talks_so event from.seen one.mid from.net one.mid_net e.queue told t)
    (held_on Tells accepts e events log next to one.end (λ more there rest. plays_held Tells accepts e events log more next to told there rest) plays.1)

-- ---- How a group is closed

group_closes : {Own Tells : Type 0} (fails : Bool) (number : ℕ) (text : List ℕ) (keys : List (ℕ × Key)) (new : Seen Own) (t : Turning Own) (e now_e : Focus) → Tells → t.net.log ≡ e.net.log ++ map logged_of keys → ClosesGroup fails Tells number text (length e.net.log) new t e now_e
    → course.GroupCloses fails (turning_of e t keys) e.index (focused e) (focused now_e) (holding_of t.seen t.net e.queue) (holding_of new now_e.net now_e.queue)
group_closes false number text keys new t e now_e told logged stays = record {
  moves =
      moves_then EndMove (holding_of t.seen t.net e.queue) (holding_of new stays.net stays.queue) (holding_of new now_e.net now_e.queue)
      (commit_moves t.seen new t.net stays.net e.queue stays.queue told stays.commits)
      (one_move EndMove (holding_of new stays.net stays.queue) (holding_of new now_e.net now_e.queue)
      (inr (inl (subst (λ (f : Focus). Notes (holding_of new stays.net stays.queue) (holding_of new f.net f.queue)) (sym stays.engine) (told_notes new stays.net stays.queue)))));
  kept = ap focused stays.engine;
}
group_closes true number text keys new t e now_e told logged undone =
    let told_e = all_told undone.undone_net e.queue (record e { rest = []; failed = e.failed + 1 }) in
    let starts = undone.starts in
    record {
      undone = holding_of undone.undone undone.undone_net e.queue;
      takes_back = undo_moves t.seen undone.undone t.net undone.undone_net e.queue keys told (logged_added e.net.log t.net.log keys logged) undone.undoes;
      noted = holding_of undone.undone told_e.net told_e.queue;
      notes = told_notes undone.undone undone.undone_net e.queue;
      restarts = restarts_so undone.later_text undone.undone new told_e now_e told starts;
      still = subst (λ (f : Focus). HoldsStill (holding_of undone.undone told_e.net told_e.queue) (holding_of new f.net f.queue)) (sym starts.engine)
          (holds_still undone.undone new told_e.net told_e.net told_e.queue told_e.queue refl refl refl);
    }

group_held : {Own Tells : Type 0} {accepts : List TableView → Bool} {text : List ℕ} (events : List Event) (old new : Seen Own) (e now_e : Focus) → Tells → (g : TakesGroup Tells accepts events text old new e now_e)
    → HasGroup e.events e.index events (focused e) (focused now_e) (group_stops g.turning) (holding_of old e.net e.queue) (holding_of new now_e.net now_e.queue)
group_held {Tells = Tells} {accepts = accepts} {text = text} events old new e now_e told g =
    let t = g.turning in
    let held = plays_held Tells accepts e events e.net.log [] (turning_at old e) t told (sym (append-nil e.net.log)) g.plays in
    record {
      talked = holding_of t.seen t.net e.queue;
      turning = turning_of e t held.keys_then;
      turns = held.turns;
      closes = group_closes t.fails (length events) text held.keys_then new t e now_e told held.logged g.closed;
      stops_is = refl;
    }

instead_held : {Own Tells : Type 0} (accepts : List TableView → Bool) (events : List Event) (stops : Bool) (text : List ℕ) (old new : Seen Own) (e now_e : Focus) → Tells → TakesInstead Tells accepts events stops text old new e now_e
    → course.HasInstead e.events e.index events (focused e) (focused now_e) stops (holding_of old e.net e.queue) (holding_of new now_e.net now_e.queue)
unfolding group_held
instead_held accepts [] stops text old new e now_e told none =
    (ap₂ (λ (s : Seen _) (f : Focus). holding_of s f.net f.queue) none.0 none.1, ap focused none.1, none.2)
instead_held accepts (event ∷ events) stops text old new e now_e told some =
    subst (λ (b : Bool). HasGroup e.events e.index (event ∷ events) (focused e) (focused now_e) b (holding_of old e.net e.queue) (holding_of new now_e.net now_e.queue)) (sym some.1) (group_held (event ∷ events) old new e now_e told some.0)

-- what it is given
instead_same : (end : TurnEnd) (unread : List ℕ) (outcome : Outcome) (e : Focus) (event : Event) → IsEnd end unread outcome → instead_if (end_fails end) e.alive e.rule event ≡ course.instead_in outcome (focused e) event
instead_same (ends.Done stop) unread (Completed stops checkpoint rest) e event is = refl
instead_same (ends.Done stop) unread (Failed cause) e event is = absurd is
instead_same (ends.Failed why) unread (Completed stops checkpoint rest) e event is = absurd is
instead_same (ends.Failed why) unread (Failed cause) e event is = refl

-- its turn leaves its index and its number
record SameFocus (e now_e : Focus) : Type 0 where
  index : now_e.index ≡ e.index
  events : now_e.events ≡ e.events

follows_same : {Own : Type 0} (Tells : Type 0) (rule : Policy) (text : List ℕ) (old new : Seen Own) (e now_e : Focus) → Follows Tells rule text old new e now_e → SameFocus e now_e
follows_same Tells policy.None text old new e now_e gone = record { index = ap (λ (f : Focus). f.index) gone.engine; events = ap (λ (f : Focus). f.events) gone.engine }
follows_same Tells policy.Absolute text old new e now_e starts = record { index = ap (λ (f : Focus). f.index) starts.engine; events = ap (λ (f : Focus). f.events) starts.engine }
follows_same Tells policy.Equivalence text old new e now_e starts = record { index = ap (λ (f : Focus). f.index) starts.engine; events = ap (λ (f : Focus). f.events) starts.engine }

closed_same : {Own : Type 0} (Tells : Type 0) (kind : EventKind) (end : TurnEnd) (checkpoint : Option (List ℕ)) (unread text : List ℕ) (start : ℕ) (mid new : Seen Own) (mid_net : NetState) (e now_e : Focus) → IsClosed Tells kind end checkpoint unread text start mid new mid_net e now_e → SameFocus e now_e
closed_same Tells kind (ends.Done stop) checkpoint unread text start mid new mid_net e now_e stays = record { index = ap (λ (f : Focus). f.index) stays.engine; events = ap (λ (f : Focus). f.events) stays.engine }
closed_same Tells kind (ends.Failed cause) checkpoint unread text start mid new mid_net e now_e undone =
    let same = follows_same Tells (rule_at e.rule kind) undone.later_text undone.undone new (all_told undone.undone_net e.queue (record e { rest = []; failed = e.failed + 1 })) now_e undone.follows in
    record { index = same.index; events = same.events }

pub event_held : {Own Tells : Type 0} {accepts : List TableView → Bool} {stops : Bool} {text : List ℕ} (event : Event) (old new : Seen Own) (e now_e : Focus) → Tells → TakesEvent Tells accepts event stops text old new e now_e
    → HasEvent e.events event e.index (focused e) (focused now_e) stops (holding_of old e.net e.queue) (holding_of new now_e.net now_e.queue)
unfolding turn_moves talks_so
event_held {Tells = Tells} {accepts = accepts} event old new e now_e told h =
    let takes = h.takes in
    let turn = turn_moves event old h.mid e h.mid_e told takes in
    let events = instead_if (end_fails takes.end) h.mid_e.alive h.mid_e.rule event in
    let same = closed_same Tells event.kind takes.end (handed takes.turns.outcome) takes.unread h.front_text (length e.net.log) takes.mid h.mid takes.mid_net e h.mid_e takes.closed in
    let later = instead_held accepts events h.stopped h.later_text h.mid new h.mid_e now_e told h.later in
    record {
      mid = holding_of h.mid h.mid_e.net h.mid_e.queue;
      mid_app = focused h.mid_e;
      turn = turn;
      stopped = h.stopped;
      instead = subst (λ (n : ℕ). course.HasInstead n e.index (course.instead_in turn.talks.outcome (focused h.mid_e) event) (focused h.mid_e) (focused now_e) h.stopped (holding_of h.mid h.mid_e.net h.mid_e.queue) (holding_of new now_e.net now_e.queue)) same.events
          (subst (λ (i : ℕ). course.HasInstead h.mid_e.events i (course.instead_in turn.talks.outcome (focused h.mid_e) event) (focused h.mid_e) (focused now_e) h.stopped (holding_of h.mid h.mid_e.net h.mid_e.queue) (holding_of new now_e.net now_e.queue)) same.index
          (subst (λ (xs : List Event). course.HasInstead h.mid_e.events h.mid_e.index xs (focused h.mid_e) (focused now_e) h.stopped (holding_of h.mid h.mid_e.net h.mid_e.queue) (holding_of new now_e.net now_e.queue))
          (instead_same takes.end takes.unread takes.turns.outcome h.mid_e event takes.turns.ends) later));
      stops_is = h.stops_is ∙ ap (λ (b : Bool). b || h.stopped) (end_stops takes.end takes.unread takes.turns.outcome takes.turns.ends);
    }

-- ---- One application after the other

abbrev pub held_at : {Own : Type 0} → Between Own → Holding Own
held_at b = holding_of b.seen b.net b.queue

offered_so : {Own Tells : Type 0} (accepts : List TableView → Bool) (text : List ℕ) (stops : Bool) (event : Event) (number i : ℕ) (taking : Bool) (from to : Between Own) (a now_a : Application) → Tells → IsOffered Tells accepts event number i taking stops text from to a now_a
    → course.IsOffered number event i taking (application_of a, application_of now_a) stops (held_at from) (held_at to)
offered_so accepts text stops event number i true from to a now_a told offered = event_held event from.seen to.seen (focus i a from.net from.queue number) (focus i now_a to.net to.queue number) told offered.takes
offered_so accepts text stops event number i false from to a now_a told offered = (ap held_at offered.0, ap application_of offered.1, offered.2)

unless_so : (stops : Bool) (Out Goes Left Offered : Type 0) → (Out → Left) → (Goes → Offered) → if_stopped stops Out Goes → course.unless_stopped stops Left Offered
unless_so true Out Goes Left Offered out goes is = out is
unless_so false Out Goes Left Offered out goes is = goes is

pub offers_so : {Own : Type 0} (Tells : Type 0) (accepts : List TableView → Bool) (event : Event) (number i : ℕ) (apps : List Application) (text : List ℕ) (from to : Between Own) (now_apps : List Application) (stopped : Bool) → Tells → Offers Tells accepts event number i apps text from to now_apps stopped
    → course.Offers number event i (map application_of apps) (map application_of now_apps) (held_at from) (held_at to)
offers_so Tells accepts event number i [] text from to now_apps stopped told offers = (ap (map application_of) offers.2, ap held_at offers.0)
offers_so Tells accepts event number i (a ∷ more) text from to now_apps stopped told offers =
    let one = offers.0 in
    let later = map application_of one.later_apps in (
      record {
        mid = held_at one.mid;
        stops = one.stops;
        now_app = application_of one.now_app;
        later = later;
        apps_are = ap (map application_of) one.apps_is;
        offered = offered_so accepts one.front_text one.stops event number i (is_taking event a) from one.mid a one.now_app told one.offered;
      },
      unless_so one.stops (AreLeftOut more one.mid to one.later_text one.later_apps stopped) (Offers Tells accepts event number (i + 1) more one.later_text one.mid to one.later_apps stopped)
          ((later ≡ map application_of more) × (held_at to ≡ held_at one.mid)) (course.Offers number event (i + 1) (map application_of more) later (held_at one.mid) (held_at to))
          (λ out. (ap (map application_of) out.2, ap held_at out.0)) (λ goes. offers_so Tells accepts event number (i + 1) more one.later_text one.mid to one.later_apps stopped told goes) offers.1,
    )
