-- Laws of steps in order in a run: no call of a link failed but by the loss of its switch where calls for an application, turns with the release of their packets, starts
-- and the end of the report succeed.
use Rattle.std.proofs.Common.{◌≡◌, ◌==◌, ◌<◌, ℕ, suc, zero, ◌+◌, Bool, true, List, [], ◌∷◌, ◌++◌, length, map, Option, Ok, ap, ◌∙◌, refl, sym, subst, true≢false, inl, inr}
use Rattle.std.specs.List.{AllByRecursion}
use Rattle.std.proofs.lemmas.Bool.{eq-eqb, eqb-true}
use Rattle.of_types.specs.declared.journal.Act.{Act}
use Rattle.of_types.specs.declared.journal.Act.TheVariants.{Stim, Started, Gave, Gone, Took, Ended, Sent, Got, Lost}
use Rattle.flow_table.specs.View.{TableView}
use Rattle.app_frames.specs.declared.frame.Event.{Event}
use Rattle.app_frames.specs.declared.frame.EventKind.{EventKind}
use Rattle.crash_policy.specs.declared.policy_file.Policy.{Policy}
use Rattle.crash_policy.specs.declared.policy_file.Policy.TheVariants as policy
use Rattle.crash_policy.specs.Asking.{rule_at}
use Rattle.lego_model.specs.Journal.{is_of, give_act}
use Rattle.lego_model.specs.Controller.{attempts, event_frame}
use Rattle.outside.specs.Seen.{Seen, Continues}
use Rattle.outside.specs.Conforming.{Conforming}
use Rattle.outside.specs.laws.SeenLaws.{Continues-trans, Ends-continues}
use Rattle.outside.specs.laws.StateLaws.{Conforming-before}
use Rattle.batch_laws.specs.laws.KeepingLaws.{Conforming-in_order}
use Rattle.outside.specs.State.{State, is_running, state}
use Rattle.net_txn.specs.Net.{NetState}
use Rattle.app_visor.specs.declared.state.TurnEnd.{TurnEnd}
use Rattle.app_visor.specs.Turns.{handed}
use Rattle.app_visor.specs.declared.state.TurnEnd.TheVariants as ends
use Rattle.app_visor.specs.Talks.{step_of}
use Rattle.app_visor.specs.Beats.{Beat, Talk, Asks, Chain}
use Rattle.app_visor.specs.Attempts.{IsTry, OneTry, AreTries}
use Rattle.journal_laws.specs.Readings.{end_acts}
use Rattle.app_visor.specs.laws.BeatLaws.{Chain-continues}
use Rattle.switch_laws.specs.Orderly.{OrderlySince}
use Rattle.switch_laws.specs.Since.{Ready, Goes}
use Rattle.switch_laws.specs.laws.SinceLaws.{begun, goes-on}
use Rattle.switch_laws.specs.laws.LossLaws.{ready-joined}
use Rattle.turn_laws.specs.laws.ChainLaws.{goes-same}
use Rattle.batch_laws.specs.Calm.{Calm}
use Rattle.lego_model.specs.OrderlySteps.{IsOrderly}
use Rattle.switch_laws.specs.laws.OrderlyLaws.{orderly-same, orderly-then, exchange-orderly, undo-orderly, release-orderly}
use Rattle.run_laws.specs.Engine.{Focus}
use Rattle.run_laws.specs.Facts.{StartsAgain, Follows, all_told, IsClosed, TakesTurn}
use Rattle.run_laws.specs.Readings.{AreRead}
use Rattle.run_laws.specs.laws.ChainLaws.{try_own, told_state, tries_continue}
use Rattle.run_laws.specs.laws.LinkStepLaws.{talk_step}
use Rattle.run_laws.specs.laws.LeaveLaws.{end-leaves}
use Rattle.run_laws.specs.laws.TellLaws.{talk_loses, chain_ready}

-- ---- Calls for an application

-- a call for one of so many
small-of : (app number of : ℕ) → (of == app) ≡ true → app < number → of < number
small-of app number of is small = subst (λ (n : ℕ). n < number) (sym (eqb-true of app is)) small

talk-orderly : (app number : ℕ) (act : Act) → app < number → is_of app act ≡ true → IsOrderly number (step_of act)
talk-orderly app number (Stim x) small is = absurd (true≢false (sym is))
talk-orderly app number (Started of stands) small is = small-of app number of is small
talk-orderly app number (Gave of bytes) small is = small-of app number of is small
talk-orderly app number (Gone of bytes) small is = small-of app number of is small
talk-orderly app number (Took of what) small is = (small-of app number of is small, refl)
talk-orderly app number (Ended of) small is = small-of app number of is small
talk-orderly app number (Sent d bytes) small is = absurd (true≢false (sym is))
talk-orderly app number (Got d bytes) small is = absurd (true≢false (sym is))
talk-orderly app number (Lost d) small is = absurd (true≢false (sym is))

talks-orderly : (app number : ℕ) (acts : List Act) → app < number → AllByRecursion (λ act. is_of app act ≡ true) acts → AllByRecursion (IsOrderly number) (map step_of acts)
talks-orderly app number [] small all = tt
talks-orderly app number (act ∷ acts) small all = (talk-orderly app number act small all.0, talks-orderly app number acts small all.1)

-- ---- Beats

-- of a turn that stands so in a world that keeps its word
pub chain-orderly : {Own : Type 0} (Tells : Type 0) (app number start : ℕ) (lost : List ℕ) (first : Seen Own) (net0 : NetState) (trace : List (Beat Own)) (old new : Seen Own) (net now_net : NetState) → Tells → app < number → Conforming new → Chain Tells app trace old new net now_net
    → Goes start lost first old net0 net → OrderlySince number old new
chain-orderly Tells app number start lost first net0 [] old new net now_net told small keeps chain goes = orderly-same number old new chain.0
chain-orderly Tells app number start lost first net0 (Talk act ∷ trace) old new net now_net told small keeps chain goes =
    let next = chain.1.0 in
    let t = chain.1.1.0 in
    let same : (state next).links ≡ (state old).links = ap (λ (s : State). s.links) (told_state Tells act old next told t) ∙ (talk_step app act (state old) chain.0).links in
    orderly-then number old next new (record { steps = step_of act ∷ []; history = t.history told; orderly = (talk-orderly app number act small chain.0, tt) })
    (chain-orderly Tells app number start lost first net0 trace next new net now_net told small keeps chain.1.1.1 (goes-same start lost first old next net0 net t.continues.given same (talk_loses app old next (act ∷ []) (t.history told) (chain.0, tt)).lost goes))
chain-orderly Tells app number start lost first net0 (Asks x ∷ trace) old new net now_net told small keeps chain goes =
    let is = chain.1.0 in
    let kept = Conforming-before told (Chain-continues Tells app trace x.after new x.now_net now_net chain.1.1) keeps in
    let here = subst (λ (n : NetState). Goes start lost first x.before net0 n) (sym chain.0.1) (subst (λ (s : Seen _). Goes start lost first s net0 net) (sym chain.0.0) goes) in
    let on = goes-on Tells x.dpid x.bytes start lost first x.before x.after net0 x.net x.now_net x.answer told kept is.changes here in
    let one = exchange-orderly number Tells x.dpid x.bytes x.before x.after x.net x.now_net (Ok x.answer) told (Conforming-in_order x.after kept) (ready-joined x.before x.net here.ready) is.changes in
    orderly-then number old x.after new (subst (λ (s : Seen _). OrderlySince number s x.after) chain.0.0 one) (chain-orderly Tells app number start (lost ++ on.more) first net0 trace x.after new x.now_net now_net told small keeps chain.1.1 on.goes)

-- ---- Attempts to start

try-orderly : {Own : Type 0} (Tells : Type 0) (app number : ℕ) (kept : List ℕ) (t : OneTry Own) (old : Seen Own) → Tells → app < number → IsTry Tells app kept t.attempt t.tried t.rest old t.after → AllByRecursion (λ act. is_of app act ≡ true) t.attempt.acts → OrderlySince number old t.after
try-orderly Tells app number kept t old told small is own =
    let running = is_running app (state old) in
    let acts = end_acts running app ++ Started app t.attempt.stands ∷ t.attempt.acts in
    record { steps = map step_of acts; history = is.history told; orderly = talks-orderly app number acts small (try_own app running t.attempt.stands t.attempt.acts (eq-eqb app app refl) own) }

tries-orderly : {Own : Type 0} (Tells : Type 0) (app number : ℕ) (kept : List ℕ) (n : ℕ) (ts : List (OneTry Own)) (old new : Seen Own) → Tells → app < number → AreTries Tells app kept n ts old new → AllByRecursion (λ t. AllByRecursion (λ act. is_of app act ≡ true) t.attempt.acts) ts → OrderlySince number old new
tries-orderly Tells app number kept zero [] old new told small are own = orderly-same number old new are
tries-orderly Tells app number kept zero (t ∷ ts) old new told small are own = absurd are
tries-orderly Tells app number kept (suc n) [] old new told small are own = absurd are
tries-orderly Tells app number kept (suc n) (t ∷ ts) old new told small are own =
    let one = try-orderly Tells app number kept t old told small are.0 own.0 in
    elim are.1 [
      | inl last ↦ subst (OrderlySince number old) (sym last.2) one
      | inr more ↦ orderly-then number old t.after new one (tries-orderly Tells app number kept n ts t.after new told small more.1 own.1)
    ]

pub starts-orderly : {Own : Type 0} (Tells : Type 0) (accepts : List TableView → Bool) (number : ℕ) (text : List ℕ) (old new : Seen Own) (e now_e : Focus) → Tells → e.index < number → AreRead Own e.index Tells accepts → StartsAgain Tells text old new e now_e → OrderlySince number old new
starts-orderly Tells accepts number text old new e now_e told small reads s =
    tries-orderly Tells e.index number e.kept attempts s.restarts.all old new told small s.restarts.are (reads.tries e.kept old new s.found s.tries told s.restarts).own

-- ---- What follows a turn that failed

follows-orderly : {Own : Type 0} (Tells : Type 0) (accepts : List TableView → Bool) (number : ℕ) (rule : Policy) (text : List ℕ) (old new : Seen Own) (e now_e : Focus) → Tells → e.index < number → AreRead Own e.index Tells accepts → Follows Tells rule text old new e now_e → OrderlySince number old new
follows-orderly Tells accepts number policy.None text old new e now_e told small reads gone = (end-leaves Tells e.index number old new told small gone.ends).orderly
follows-orderly Tells accepts number policy.Absolute text old new e now_e told small reads s = starts-orderly Tells accepts number text old new e now_e told small reads s
follows-orderly Tells accepts number policy.Equivalence text old new e now_e told small reads s = starts-orderly Tells accepts number text old new e now_e told small reads s

pub starts-continue : {Own : Type 0} (Tells : Type 0) (text : List ℕ) (old new : Seen Own) (e now_e : Focus) → StartsAgain Tells text old new e now_e → Continues Tells old new
starts-continue Tells text old new e now_e s = tries_continue Tells e.index e.kept attempts s.restarts.all old new s.restarts.are

follows-continue : {Own : Type 0} (Tells : Type 0) (rule : Policy) (text : List ℕ) (old new : Seen Own) (e now_e : Focus) → Follows Tells rule text old new e now_e → Continues Tells old new
follows-continue Tells policy.None text old new e now_e gone = Ends-continues gone.ends
follows-continue Tells policy.Absolute text old new e now_e s = starts-continue Tells text old new e now_e s
follows-continue Tells policy.Equivalence text old new e now_e s = starts-continue Tells text old new e now_e s

-- ---- A turn

closed-orderly : {Own : Type 0} (Tells : Type 0) (accepts : List TableView → Bool) (number : ℕ) (kind : EventKind) (end : TurnEnd) (checkpoint : Option (List ℕ)) (unread text : List ℕ) (start : ℕ) (mid new : Seen Own) (mid_net : NetState) (e now_e : Focus) → Tells → e.index < number → Conforming new → Ready mid mid_net → AreRead Own e.index Tells accepts
    → IsClosed Tells kind end checkpoint unread text start mid new mid_net e now_e → OrderlySince number mid new
closed-orderly Tells accepts number kind (ends.Done stop) checkpoint unread text start mid new mid_net e now_e told small keeps ready reads closed =
    release-orderly number Tells start mid new mid_net closed.net e.queue closed.queue (Ok closed.sent) told (Conforming-in_order new keeps) (ready-joined mid mid_net ready) closed.commits
closed-orderly Tells accepts number kind (ends.Failed cause) checkpoint unread text start mid new mid_net e now_e told small keeps ready reads closed =
    let undone_e = all_told closed.undone_net e.queue (record e { rest = []; failed = e.failed + 1 }) in
    let kept = Conforming-before told (follows-continue Tells (rule_at e.rule kind) closed.later_text closed.undone new undone_e now_e closed.follows) keeps in
    orderly-then number mid closed.undone new (undo-orderly number Tells start mid closed.undone mid_net closed.undone_net (Ok tt) told (Conforming-in_order closed.undone kept) (ready-joined mid mid_net ready) closed.undoes)
    (follows-orderly Tells accepts number (rule_at e.rule kind) closed.later_text closed.undone new undone_e now_e told small reads closed.follows)

closed-continues : {Own : Type 0} (Tells : Type 0) (kind : EventKind) (end : TurnEnd) (checkpoint : Option (List ℕ)) (unread text : List ℕ) (start : ℕ) (mid new : Seen Own) (mid_net : NetState) (e now_e : Focus) → IsClosed Tells kind end checkpoint unread text start mid new mid_net e now_e → Continues Tells mid new
closed-continues Tells kind (ends.Done stop) checkpoint unread text start mid new mid_net e now_e closed = closed.commits.continues
closed-continues Tells kind (ends.Failed cause) checkpoint unread text start mid new mid_net e now_e closed =
    Continues-trans Tells mid closed.undone new closed.undoes.continues
    (follows-continue Tells (rule_at e.rule kind) closed.later_text closed.undone new (all_told closed.undone_net e.queue (record e { rest = []; failed = e.failed + 1 })) now_e closed.follows)

-- the history goes on by it
pub turn-continues : {Own : Type 0} (Tells : Type 0) (accepts : List TableView → Bool) (event : Event) (text : List ℕ) (old new : Seen Own) (e now_e : Focus) → TakesTurn Tells accepts event text old new e now_e → Continues Tells old new
turn-continues Tells accepts event text old new e now_e turn =
    let trace = Talk (give_act turn.turns.given e.index (event_frame e.events e.net.moment event)) ∷ turn.turns.trace in
    Continues-trans Tells old turn.mid new (Chain-continues Tells e.index trace old turn.mid e.net turn.mid_net turn.turns.chain)
    (closed-continues Tells event.kind turn.end (handed turn.turns.outcome) turn.unread text (length e.net.log) turn.mid new turn.mid_net e now_e turn.closed)

pub turn-orderly : {Own : Type 0} (Tells : Type 0) (accepts : List TableView → Bool) (number : ℕ) (event : Event) (text : List ℕ) (old new : Seen Own) (e now_e : Focus) → Tells → e.index < number → Conforming new → Calm old e.net → AreRead Own e.index Tells accepts → TakesTurn Tells accepts event text old new e now_e → OrderlySince number old new
turn-orderly Tells accepts number event text old new e now_e told small keeps calm reads turn =
    let trace = Talk (give_act turn.turns.given e.index (event_frame e.events e.net.moment event)) ∷ turn.turns.trace in
    let kept = Conforming-before told (closed-continues Tells event.kind turn.end (handed turn.turns.outcome) turn.unread text (length e.net.log) turn.mid new turn.mid_net e now_e turn.closed) keeps in
    let first : Goes (length e.net.log) [] old old e.net e.net = record { since = begun old e.net; ready = calm.ready } in
    orderly-then number old turn.mid new
    (chain-orderly Tells e.index number (length e.net.log) [] old e.net trace old turn.mid e.net turn.mid_net told small kept turn.turns.chain first)
    (closed-orderly Tells accepts number event.kind turn.end (handed turn.turns.outcome) turn.unread text (length e.net.log) turn.mid new turn.mid_net e now_e told small keeps
    (chain_ready Tells e.index (length e.net.log) [] old e.net trace old turn.mid e.net turn.mid_net told kept turn.turns.chain first) reads turn.closed)
