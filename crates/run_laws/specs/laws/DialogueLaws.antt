-- Laws of the dialogue with the application: each part of a run goes on with it, where the world tells.
use Rattle.std.specs.Prelude.{◌≡◌, ℕ, ◌+◌, Bool, true, false, List, [], ◌++◌, filter, length, Option, is_some, unwrap_or, refl}
use Rattle.std.proofs.Common.{sym, ap, ◌∙◌, subst, true≢false}
use Rattle.std.proofs.lemmas.Bool.{and_parts}
use Rattle.of_types.specs.declared.journal.Act.{Act}
use Rattle.flow_table.specs.View.{TableView}
use Rattle.app_frames.specs.declared.frame.Event.{Event}
use Rattle.app_frames.specs.declared.frame.EventKind.{EventKind}
use Rattle.crash_policy.specs.declared.policy_file.Policy.{Policy}
use Rattle.crash_policy.specs.declared.policy_file.Policy.TheVariants as policy
use Rattle.crash_policy.specs.Asking.{is_given, rule_at}
use Rattle.lego_model.specs.Journal.{is_of}
use Rattle.lego_model.specs.Controller.{attempts}
use Rattle.outside.specs.declared.step.WorldStep.{WorldStep}
use Rattle.outside.specs.Seen.{Given, Seen, journal}
use Rattle.outside.specs.laws.SeenLaws.{journal-append}
use Rattle.outside.specs.State.{at_first, is_running, state}
use Rattle.net_txn.specs.Net.{NetState}
use Rattle.lego_model.specs.AtOnce.{Before, at_first as nobody_yet, Passes, Dialogue, AtOnce}
use Rattle.journal_laws.specs.laws.AtOnceLaws.{Dialogue-append, others_say}
use Rattle.journal_laws.specs.laws.FrameLaws.{event_is}
use Rattle.app_visor.specs.declared.state.TurnEnd.{TurnEnd}
use Rattle.app_visor.specs.declared.state.TurnEnd.TheVariants as ends
use Rattle.app_visor.specs.Turns.{handed}
use Rattle.app_visor.specs.Dialogues.{Converses, Speaks, is_done, CallsKeepOrder}
use Rattle.app_visor.specs.laws.DialogueLaws.{converses_ended}
use Rattle.app_visor.specs.laws.RunningLaws.{dialogue_runs, dialogue_in_place}
use Rattle.app_visor.specs.Attempts.{ready_rest}
use Rattle.app_visor.specs.laws.TryLaws.{tries_speak}
use Rattle.run_laws.specs.Engine.{Focus}
use Rattle.run_laws.specs.Facts.{StartsAgain, GoesAway, Follows, all_told, IsClosed, takes_event, TakesTurn}
use Rattle.run_laws.specs.laws.LinkStepLaws.{link_steps-tell}
use Rattle.run_laws.specs.Moves.{Conversing}

-- ---- Behind what happened before

pub dialogue_then : {Own : Type 0} (app : ℕ) (s t : Before) (old new : Seen Own) → Dialogue app nobody_yet (journal old.history) s → Converses app s t old new → Dialogue app nobody_yet (journal new.history) t
dialogue_then app s t old new d c =
    subst (λ (acts : List Act). Dialogue app nobody_yet acts t) (sym (ap journal c.history ∙ journal-append old.history c.steps)) (Dialogue-append app (journal old.history) (journal c.steps) nobody_yet s t d c.dialogue)

abbrev pub at_once_then : {Own : Type 0} (app : ℕ) (t : Before) (old new : Seen Own) (a : AtOnce app (journal old.history)) → Converses app a.last t old new → AtOnce app (journal new.history)
at_once_then app t old new a c = record { last = t; dialogue = dialogue_then app a.last t old new a.dialogue c }

-- ---- Whether it runs

none_runs : {Own : Type 0} (app : ℕ) (given : Given Own) → false ≡ is_running app (at_first given)
unfolding at_first
none_runs app given = refl

-- the dialogue tells it as the state does
pub runs_now : {Own : Type 0} (app : ℕ) (seen : Seen Own) (a : AtOnce app (journal seen.history)) → a.last.running ≡ is_running app (state seen)
unfolding state
runs_now app seen a = dialogue_runs app seen.history nobody_yet a.last (at_first seen.given) a.dialogue (none_runs app seen.given)

-- no call for it was a stray one
pub applications_in_place : {Own : Type 0} (app : ℕ) (seen : Seen Own) → AtOnce app (journal seen.history) → CallsKeepOrder app seen.history (at_first seen.given)
applications_in_place app seen a = dialogue_in_place app seen.history nobody_yet a.last (at_first seen.given) a.dialogue (none_runs app seen.given)

-- ---- Acts of others

-- no act of the application
pub others_converse : {Own : Type 0} (app : ℕ) (s : Before) (old new : Seen Own) (steps : List WorldStep) → new.history ≡ old.history ++ steps → filter (is_of app) (journal steps) ≡ []
    → Converses app s (record s { since = s.since ++ journal steps }) old new
others_converse app s old new steps history none = record { steps = steps; history = history; dialogue = others_say app (journal steps) s none }

abbrev pub others_at_once : {Own : Type 0} (app : ℕ) (old new : Seen Own) (steps : List WorldStep) → new.history ≡ old.history ++ steps → filter (is_of app) (journal steps) ≡ [] → AtOnce app (journal old.history) → AtOnce app (journal new.history)
others_at_once app old new steps history none a = at_once_then app (record a.last { since = a.last.since ++ journal steps }) old new a (others_converse app a.last old new steps history none)

-- where the application is alive then, this went well
pub speaks_on : {Own : Type 0} (old new : Seen Own) (now_e : Focus) (well : Bool) (unread : List ℕ) (a : AtOnce now_e.index (journal old.history)) → Speaks now_e.index a.last old new well unread
    → (now_e.alive ≡ true → (well ≡ true) × (now_e.rest ≡ unread)) → Conversing new now_e
speaks_on old new now_e well unread a says so = record {
  at_once = at_once_then now_e.index says.after old new a says.converses;
  rest_is = λ alive. (says.runs (so alive).0, subst (Passes says.after.unread) (sym (so alive).1) (says.passes (so alive).0));
}

-- ---- Starts

pub starts_converse : {Own : Type 0} (Tells : Type 0) (text : List ℕ) (old new : Seen Own) (e now_e : Focus) → Tells → AtOnce e.index (journal old.history) → StartsAgain Tells text old new e now_e → Conversing new now_e
starts_converse Tells text old new e now_e told a s =
    let all = s.restarts.all in
    let found = s.restarts.found_is in
    subst (λ (x : Focus). Conversing new x) (sym s.engine)
    (speaks_on old new (record e { alive = is_some s.found; rest = unwrap_or s.found [] }) (is_some (ready_rest all)) (unwrap_or (ready_rest all) []) a
    (tries_speak Tells e.index e.kept attempts all old new a.last s.restarts.are told (runs_now e.index old a))
    (λ alive. (sym (ap (λ (o : Option (List ℕ)). is_some o) found) ∙ alive, ap (λ (o : Option (List ℕ)). unwrap_or o []) found)))

-- ---- What follows a turn that failed

-- it is ended, and does not run any more
gone_converses : {Own : Type 0} (Tells : Type 0) (text : List ℕ) (old new : Seen Own) (e now_e : Focus) → Tells → AtOnce e.index (journal old.history) → GoesAway Tells text old new e now_e → Conversing new now_e
gone_converses Tells text old new e now_e told a gone =
    let ended = converses_ended Tells e.index a.last old new gone.ends told (runs_now e.index old a) in
    subst (λ (x : Focus). Conversing new x) (sym gone.engine) (record {
      at_once = at_once_then e.index ended.0 old new a ended.1.0;
      rest_is = λ alive. absurd (true≢false (sym alive));
    })

pub follows_converse : {Own : Type 0} (Tells : Type 0) (rule : Policy) (text : List ℕ) (old new : Seen Own) (e now_e : Focus) → Tells → AtOnce e.index (journal old.history) → Follows Tells rule text old new e now_e → Conversing new now_e
follows_converse Tells policy.None text old new e now_e told a gone = gone_converses Tells text old new e now_e told a gone
follows_converse Tells policy.Absolute text old new e now_e told a s = starts_converse Tells text old new e now_e told a s
follows_converse Tells policy.Equivalence text old new e now_e told a s = starts_converse Tells text old new e now_e told a s

-- ---- A turn

-- where it has one, it is alive
pub takes_alive : (e : Focus) (event : Event) → takes_event e event ≡ true → e.alive ≡ true
takes_alive e event takes = (and_parts e.alive (is_given e.rule event.kind) takes).0

closed_converses : {Own : Type 0} (Tells : Type 0) (kind : EventKind) (end : TurnEnd) (checkpoint : Option (List ℕ)) (unread text : List ℕ) (start : ℕ) (old mid new : Seen Own) (mid_net : NetState) (e now_e : Focus) → Tells → (a : AtOnce e.index (journal old.history))
    → Speaks e.index a.last old mid (is_done end) unread → IsClosed Tells kind end checkpoint unread text start mid new mid_net e now_e → Conversing new now_e
closed_converses Tells kind (ends.Done stop) checkpoint unread text start old mid new mid_net e now_e told a says closed =
    let done : Focus = all_told closed.net closed.queue (record e { rest = unread; kept = unwrap_or checkpoint e.kept; done = e.done + 1 }) in
    let there = speaks_on old mid done true unread a says (λ alive. (refl, refl)) in
    let only = closed.commits.links told in
    subst (λ (x : Focus). Conversing new x) (sym closed.engine)
    (record { at_once = others_at_once e.index mid new only.steps only.history (link_steps-tell e.index only.steps only.all).acts there.at_once; rest_is = there.rest_is })
closed_converses Tells kind (ends.Failed cause) checkpoint unread text start old mid new mid_net e now_e told a says closed =
    let undone = closed.undone in
    let only = closed.undoes.links told in
    let there = others_at_once e.index mid undone only.steps only.history (link_steps-tell e.index only.steps only.all).acts (at_once_then e.index says.after old mid a says.converses) in
    follows_converse Tells (rule_at e.rule kind) closed.later_text undone new (all_told closed.undone_net e.queue (record e { rest = []; failed = e.failed + 1 })) now_e told there closed.follows

pub turn_converses : {Own : Type 0} (Tells : Type 0) (accepts : List TableView → Bool) (event : Event) (text : List ℕ) (old new : Seen Own) (e now_e : Focus) → Tells → e.alive ≡ true → Conversing old e → TakesTurn Tells accepts event text old new e now_e
    → Conversing new now_e
turn_converses Tells accepts event text old new e now_e told alive c turn =
    closed_converses Tells event.kind turn.end (handed turn.turns.outcome) turn.unread text (length e.net.log) old turn.mid new turn.mid_net e now_e told c.at_once
    (turn.turns.speaks told (event_is e.events e.net.moment event) c.at_once.last (c.rest_is alive).0 (c.rest_is alive).1) turn.closed
