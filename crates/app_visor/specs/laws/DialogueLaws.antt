-- Laws of dialogues in a world that tells: each beat of a turn goes on with the dialogue, and a change has reached its switch at once where
-- its answer is given.
use Rattle.std.specs.Prelude.{◌≡◌, ℕ, Bool, true, false, List, [], ◌∷◌, ◌++◌, Some, None, Ok, refl}
use Rattle.std.specs.List.{list_any}
use Rattle.std.proofs.Common.{sym, ap, ap₂, ◌∙◌, subst, append_assoc, inl, inr, true≢false}
use Rattle.std.proofs.lemmas.List.{append-nil, append_cancel_left}
use Rattle.of_types.specs.declared.journal.Act.{Act}
use Rattle.of_types.specs.declared.journal.Act.TheVariants.{Stim, Started, Gave, Gone, Took, Ended, Sent, Got, Lost}
use Rattle.of_types.specs.declared.journal.TookWhat.TheVariants as took
use Rattle.of_wire.specs.declared.bodies.FlowMod.{FlowMod as Change}
use Rattle.of_wire.specs.declared.bodies.Stats.{Stats as Query}
use Rattle.of_wire.specs.declared.message.Message.TheVariants as messages
use Rattle.of_wire.specs.Reading.{reading_of}
use Rattle.of_wire.specs.Grammar.{enveloped}
use Rattle.app_frames.specs.declared.frame.AppFrame.{AppFrame}
use Rattle.app_frames.specs.declared.frame.AppFrame.TheVariants as frames
use Rattle.app_frames.specs.declared.frame.Answer.{Answer}
use Rattle.app_frames.specs.declared.frame.Answer.TheVariants.{Unknown}
use Rattle.lego_model.specs.Journal.{is_of, is_event, losses}
use Rattle.lego_model.specs.Controller.{answer_frame, restore_frame}
use Rattle.outside.specs.declared.step.WorldStep.{WorldStep}
use Rattle.outside.specs.Seen.{Seen, journal}
use Rattle.outside.specs.laws.SeenLaws.{journal-append}
use Rattle.outside.specs.State.{state, is_running, is_joined}
use Rattle.outside.specs.Calls.{Ends, end_steps}
use Rattle.net_txn.specs.Net.{NetState}
use Rattle.net_txn.specs.LinkSteps.{LinkSteps}
use Rattle.net_txn.specs.Losing.{GoesOut, SaysNone, IsLost}
use Rattle.net_txn.specs.ChangeSteps.{ReachedSince}
use Rattle.net_txn.specs.Queries.{AskedSince}
use Rattle.net_txn.specs.Answering.{known_rows, answer_of_host, ByHost}
use Rattle.net_txn.specs.Changes.{ChangesJoined}
use Rattle.lego_model.specs.Answers.{as_sent, host_answer}
use Rattle.lego_model.specs.AtOnce.{Before, before, nothing_said, besides, ends_well, Passes, PassesBefore, SendsNone, is_loss_of, AnsweredAtOnce, GivesFrame, Says, Dialogue}
use Rattle.journal_laws.specs.laws.AtOnceLaws.{answer_is_one, restore_is_no_answer, event_is_no_answer, Dialogue-append, others_say, host_since, switch_since, statistics_since, loss_since}
use Rattle.journal_laws.specs.laws.FrameLaws.{restore_is_none}
use Rattle.app_visor.specs.Talks.{step_of, Told}
use Rattle.app_visor.specs.Reads.{takes, TakesAll, IsNext}
use Rattle.app_visor.specs.Beats.{Exchange, IsExchange, exchange_of, Exchanges, acts_of}
use Rattle.app_visor.specs.laws.BeatLaws.{same}
use Rattle.app_visor.specs.laws.AnswerLaws.{decided, is_unknown}
use Rattle.app_visor.specs.laws.JournalLaws.{journal_told, links_none}
use Rattle.app_visor.specs.Dialogues.{Converses}

-- a frame by which a start or a turn ended well is passed over
pub passes_next : (frame : AppFrame) (rest left : List ℕ) → ends_well frame ≡ true → IsNext frame rest left → Passes rest left
passes_next frame rest left is next = record { frame = frame; ended = is; size = next.size; read = next.read; rest_is = next.left_is }

-- ---- One part behind another

pub Converses-refl : {Own : Type 0} (app : ℕ) (s : Before) (old new : Seen Own) → new ≡ old → Converses app s s old new
unfolding journal
Converses-refl app s old new is = record { steps = []; history = ap (λ (x : Seen _). x.history) is ∙ sym (append-nil old.history); dialogue = refl }

pub Converses-then : {Own : Type 0} (app : ℕ) (s t u : Before) (a b c : Seen Own) → Converses app s t a b → Converses app t u b c → Converses app s u a c
Converses-then app s t u a b c first second = record {
  steps = first.steps ++ second.steps;
  history = second.history ∙ ap (λ (h : List WorldStep). h ++ second.steps) first.history ∙ append_assoc a.history first.steps second.steps;
  dialogue = subst (λ (acts : List Act). Dialogue app s acts u) (sym (journal-append first.steps second.steps)) (Dialogue-append app (journal first.steps) (journal second.steps) s t u first.dialogue second.dialogue);
}

-- ---- A call for the application

pub converses_told : {Own : Type 0} (Tells : Type 0) (app : ℕ) (act : Act) (s t : Before) (old new : Seen Own) → Told Tells act old new → Tells → is_of app act ≡ true → Says true act s t → Converses app s t old new
converses_told Tells app act s t old new told tells is says = record {
  steps = step_of act ∷ [];
  history = told.history tells;
  dialogue = subst (λ (acts : List Act). Dialogue app s acts t) (sym (journal_told act)) (t, (subst (λ (b : Bool). Says b act s t) (sym is) says, refl));
}

-- pieces of its bytes were taken
pub converses_takes : {Own : Type 0} (Tells : Type 0) (app : ℕ) (ps : List (List ℕ)) (rest left : List ℕ) (since : List Act) (old new : Seen Own) → TakesAll Tells app ps rest left old new → Tells
    → Converses app (before rest since) (before left (since ++ takes app ps)) old new
converses_takes Tells app [] rest left since old new all tells =
    subst (λ (t : Before). Converses app (before rest since) t old new) (ap₂ before (sym all.0) (sym (append-nil since))) (Converses-refl app (before rest since) old new all.1)
converses_takes Tells app (p ∷ ps) rest left since old new all tells =
    let act = Took app (took.Bytes p) in
    let next = before (rest ++ p) (since ++ act ∷ []) in
    Converses-then app (before rest since) next (before left (since ++ takes app (p ∷ ps))) old all.1.0 new
    (converses_told Tells app act (before rest since) next old all.1.0 all.1.1.0 tells (same app) (refl, (record { not_ended = refl; none_whole = all.0 }, refl)))
    (subst (λ (acts : List Act). Converses app next (before left acts) all.1.0 new) (append_assoc since (act ∷ []) (takes app ps))
    (converses_takes Tells app ps (rest ++ p) left (since ++ act ∷ []) all.1.0 new all.1.1.1 tells))

pub takes_send_none : (app : ℕ) (ps : List (List ℕ)) → SendsNone (takes app ps)
takes_send_none app [] = refl
takes_send_none app (p ∷ ps) = takes_send_none app ps

-- it runs, and is given an event
pub converses_event : {Own : Type 0} (Tells : Type 0) (app : ℕ) (frame rest : List ℕ) (s : Before) (old new : Seen Own) → Told Tells (Gave app frame) old new → Tells → is_event frame ≡ true → s.running ≡ true → Passes s.unread rest
    → Converses app s (before rest []) old new
converses_event Tells app frame rest s old new told tells event runs passes =
    converses_told Tells app (Gave app frame) s (before rest []) old new told tells (same app)
    (runs, subst (λ (b : Bool). GivesFrame b frame s (before rest [])) (sym (event_is_no_answer frame event)) (record { not_ended = λ other. absurd (true≢false (sym event ∙ other)); running_is = refl; passes = subst (λ (b : Bool). PassesBefore b s.unread rest) (sym event) passes; since_is = refl; ended_is = refl }))

-- it is given its checkpoint
pub converses_restored : {Own : Type 0} (Tells : Type 0) (app : ℕ) (kept : List ℕ) (old new : Seen Own) → Told Tells (Gave app (restore_frame kept)) old new → Tells → Converses app nothing_said nothing_said old new
converses_restored Tells app kept old new told tells =
    converses_told Tells app (Gave app (restore_frame kept)) nothing_said nothing_said old new told tells (same app)
    (refl, subst (λ (b : Bool). GivesFrame b (restore_frame kept) nothing_said nothing_said) (sym (restore_is_no_answer kept)) (record { not_ended = λ other. refl; running_is = refl; passes = subst (λ (b : Bool). PassesBefore b [] []) (sym (restore_is_none kept)) refl; since_is = refl; ended_is = refl }))

-- it is ended, where it runs
converses_ended_by : {Own : Type 0} (app : ℕ) (running : Bool) (s : Before) (old new : Seen Own) → s.running ≡ running → new.history ≡ old.history ++ end_steps app running → (t : Before) × (Converses app s t old new × (t.running ≡ false))
unfolding end_steps journal
converses_ended_by app true s old new runs history =
    let t : Before = record s { running = false; since = s.since ++ Ended app ∷ [] } in (
      t,
      (
        record {
          steps = end_steps app true;
          history = history;
          dialogue = (t, (subst (λ (b : Bool). Says b (Ended app) s t) (sym (same app)) (runs, refl), refl));
        },
        refl,
      ),
    )
converses_ended_by app false s old new runs history = (s, (record { steps = end_steps app false; history = history; dialogue = refl }, runs))

pub converses_ended : {Own : Type 0} (Tells : Type 0) (app : ℕ) (s : Before) (old new : Seen Own) → Ends Tells app old new → Tells → s.running ≡ is_running app (state old) → (t : Before) × (Converses app s t old new × (t.running ≡ false))
converses_ended Tells app s old new ends tells runs = converses_ended_by app (is_running app (state old)) s old new runs (ends.told tells).history

-- ---- One message and its answer

-- the history goes on by no act of the application, and the message is answered by what happened since
record IsAnswered {Own : Type 0} (app : ℕ) (since : List Act) (x : Exchange Own) : Type 0 where
  steps : List WorldStep
  history : x.after.history ≡ x.before.history ++ steps
  others : acts_of app steps ≡ []
  at_once : AnsweredAtOnce x.dpid x.bytes x.answer (since ++ journal steps)

host_answered : {Own : Type 0} (app : ℕ) (since : List Act) (x : Exchange Own) (answer : Answer) → answer_of_host x.dpid x.bytes x.net ≡ Some answer → ByHost x.dpid x.bytes answer x.before x.after x.net x.now_net (Ok x.answer) → SendsNone since → IsAnswered app since x
unfolding journal
host_answered app since x answer is by none = record {
  steps = [];
  history = ap (λ (s : Seen _). s.history) by.world ∙ sym (append-nil x.before.history);
  others = refl;
  at_once = inl (host_since x.bytes x.answer since [] none (record { rows = known_rows x.dpid x.net.views; answer_is = is ∙ ap (λ (a : Answer). Some a) (sym by.answers); none_sent = refl }));
}

-- the acts of calls of links
link_others : {Own : Type 0} (app : ℕ) (old new : Seen Own) (steps : List WorldStep) → new.history ≡ old.history ++ steps → LinkSteps old new → acts_of app steps ≡ []
link_others app old new steps history only =
    ap (acts_of app) (append_cancel_left old.history steps only.steps (sym history ∙ only.history)) ∙ links_none app only.steps only.all

switch_answered : {Own : Type 0} (Tells : Type 0) (app : ℕ) (since : List Act) (x : Exchange Own) (xid : ℕ) (m : Change) → reading_of x.bytes ≡ Ok (enveloped xid (messages.FlowMod m))
    → ReachedSince x.dpid (as_sent (messages.FlowMod m)) x.answer x.before.history x.after.history → LinkSteps x.before x.after → SendsNone since → IsAnswered app since x
switch_answered Tells app since x xid m read r only none = record {
  steps = r.steps;
  history = r.since;
  others = link_others app x.before x.after r.steps r.since only;
  at_once = inr (inl (switch_since x.dpid x.bytes x.answer since (journal r.steps) none (record {
    xid = xid;
    message = messages.FlowMod m;
    read = read;
    change = refl;
    reached = r.reached;
    error = r.error;
    error_is = r.error_is;
    answer_is = r.answer_is;
  })));
}

statistics_answered : {Own : Type 0} (Tells : Type 0) (app : ℕ) (since : List Act) (x : Exchange Own) (xid : ℕ) (q : Query) → reading_of x.bytes ≡ Ok (enveloped xid (messages.StatsRequest q))
    → AskedSince (record { dpid = x.dpid; xid = x.net.xid; query = q }) x.answer x.before.history x.after.history → LinkSteps x.before x.after → SendsNone since → IsAnswered app since x
statistics_answered Tells app since x xid q read r only none = record {
  steps = r.steps;
  history = r.since;
  others = link_others app x.before x.after r.steps r.since only;
  at_once = inr (inr (inr (statistics_since x.dpid x.bytes x.answer since (journal r.steps) none (record { number = xid; query = q; read = read; asks = r.asks; answers = r.answers }))));
}

joined_answered : {Own : Type 0} (Tells : Type 0) (app : ℕ) (since : List Act) (x : Exchange Own) → ChangesJoined Tells x.dpid x.bytes x.before x.after x.net x.now_net (Ok x.answer) → LinkSteps x.before x.after → Tells → SendsNone since → IsAnswered app since x
joined_answered Tells app since x is only tells none = elim (decided (known_rows x.dpid x.net.views) x.bytes) [
  | inl h ↦ host_answered app since x h.0 h.1.0 (is.by_host h.0 h.1.0) none
  | inr h ↦ elim h.1.1 [
    | inl m ↦ switch_answered Tells app since x h.1.0 m.0 m.1 (is.reached h.1.0 m.0 tells h.0 m.1) only none
    | inr q ↦ statistics_answered Tells app since x h.1.0 q.0 q.1 ((is.by_statistics h.1.0 q.0 h.0 q.1).reached tells) only none
  ]
]

-- ---- A switch that is lost

-- it is among the losses
loss_told : (d : ℕ) (acts : List Act) (rest : List ℕ) → losses acts ≡ d ∷ rest → list_any (is_loss_of d) acts ≡ true
unfolding losses
loss_told d [] rest is = absurd cc
loss_told d (Lost e ∷ acts) rest is = rw (head_is e d (losses acts) rest is, same d) refl
  where
    head_is : (e d : ℕ) (xs ys : List ℕ) → e ∷ xs ≡ d ∷ ys → e ≡ d
    head_is e d xs ys is = cc
loss_told d (Stim x ∷ acts) rest is = loss_told d acts rest is
loss_told d (Started of stands ∷ acts) rest is = loss_told d acts rest is
loss_told d (Gave of frame ∷ acts) rest is = loss_told d acts rest is
loss_told d (Gone of frame ∷ acts) rest is = loss_told d acts rest is
loss_told d (Took of what ∷ acts) rest is = loss_told d acts rest is
loss_told d (Ended of ∷ acts) rest is = loss_told d acts rest is
loss_told d (Sent e bytes ∷ acts) rest is = loss_told d acts rest is
loss_told d (Got e bytes ∷ acts) rest is = loss_told d acts rest is

loss_answered : {Own : Type 0} (app : ℕ) (since : List Act) (x : Exchange Own) → x.answer ≡ Unknown → GoesOut x.dpid [] x.before x.after → LinkSteps x.before x.after → IsAnswered app since x
loss_answered app since x unknown out only = record {
  steps = out.steps;
  history = out.history;
  others = link_others app x.before x.after out.steps out.history only;
  at_once = inr (inr (inl (loss_since x.dpid x.answer since (journal out.steps) (record { answer_is = unknown; lost = loss_told x.dpid (journal out.steps) [] out.lost }))));
}

-- It was out before, and so no change was sent: it is answered as a switch that is not known.
out_answered : {Own : Type 0} (app : ℕ) (since : List Act) (x : Exchange Own) → x.answer ≡ Unknown → SaysNone x.before x.after → LinkSteps x.before x.after → SendsNone since → IsAnswered app since x
unfolding host_answer
out_answered app since x unknown says only none = record {
  steps = says.steps;
  history = says.history;
  others = link_others app x.before x.after says.steps says.history only;
  at_once = inl (host_since x.bytes x.answer since (journal says.steps) none (record { rows = None; answer_is = ap (λ (a : Answer). Some a) (sym unknown); none_sent = says.none_sent }));
}

lost_answered : {Own : Type 0} (Tells : Type 0) (app : ℕ) (since : List Act) (x : Exchange Own) → x.answer ≡ Unknown → IsLost Tells x.dpid [] x.before x.after → LinkSteps x.before x.after → Tells → SendsNone since → IsAnswered app since x
lost_answered Tells app since x unknown lost only tells none = by (is_joined x.dpid (state x.before)) refl
  where
    by : (joined : Bool) → is_joined x.dpid (state x.before) ≡ joined → IsAnswered app since x
    by true joined = loss_answered app since x unknown (lost.out tells joined) only
    by false out = out_answered app since x unknown (lost.was_out tells out) only none

exchange_answered : {Own : Type 0} (Tells : Type 0) (app : ℕ) (since : List Act) (x : Exchange Own) → IsExchange Tells x → Tells → SendsNone since → IsAnswered app since x
exchange_answered Tells app since x is tells none = elim is.changes.answered [
  | inl joined ↦ joined_answered Tells app since x joined (is.changes.links tells) tells none
  | inr lost ↦ lost_answered Tells app since x (is_unknown x.answer lost.1) lost.2.is_lost (is.changes.links tells) tells none
]

-- the application was given the answer
pub converses_answered : {Own : Type 0} (Tells : Type 0) (app dpid : ℕ) (bytes rest here : List ℕ) (since : List Act) (old new : Seen Own) (net now_net : NetState) → IsNext (frames.Message dpid bytes) rest here
    → Exchanges Tells app dpid bytes true old new net now_net → Tells → SendsNone since → Converses app (before rest since) (before here []) old new
converses_answered Tells app dpid bytes rest here since old new net now_net next e tells none =
    let x = exchange_of dpid bytes e.answer old e.after net now_net in
    let said = exchange_answered Tells app since x e.exchange tells none in
    let frame = answer_frame e.answer in
    let then_is = before rest (since ++ journal said.steps) in
    Converses-then app (before rest since) then_is (before here []) old e.after new
    (record { steps = said.steps; history = said.history; dialogue = others_say app (journal said.steps) (before rest since) said.others })
    (converses_told Tells app (Gave app frame) then_is (before here []) e.after new e.told tells (same app) (
      refl,
      subst (λ (b : Bool). GivesFrame b frame then_is (before here [])) (sym (answer_is_one e.answer)) (record {
        dpid = dpid;
        bytes = bytes;
        size = next.size;
        answer = e.answer;
        read = next.read;
        frame_is = refl;
        at_once = said.at_once;
        then_is = ap (λ (u : List ℕ). before u []) next.left_is;
      }),
    ))

-- or it was gone before
pub converses_unanswered : {Own : Type 0} (Tells : Type 0) (app dpid : ℕ) (bytes : List ℕ) (s : Before) (old new : Seen Own) (net now_net : NetState) → Exchanges Tells app dpid bytes false old new net now_net → Tells → s.running ≡ true
    → (t : Before) × Converses app s t old new
converses_unanswered Tells app dpid bytes s old new net now_net e tells runs =
    let x = exchange_of dpid bytes e.answer old e.after net now_net in
    let said = exchange_answered Tells app [] x e.exchange tells refl in
    let act = Gone app (answer_frame e.answer) in
    let then_is : Before = record s { since = s.since ++ journal said.steps } in (
      besides then_is act,
      Converses-then app s then_is (besides then_is act) old e.after new
          (record { steps = said.steps; history = said.history; dialogue = others_say app (journal said.steps) s said.others })
          (converses_told Tells app act then_is (besides then_is act) e.after new e.told tells (same app) (runs, refl)),
    )
