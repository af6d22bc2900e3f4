-- Laws of dialogues: one behind another, acts of others, and what a change before others leaves.
use Rattle.std.specs.Prelude.{◌≡◌, ℕ, suc, ◌<◌, Bool, true, false, ◌||◌, List, [], ◌∷◌, ◌++◌, filter, drop, length, slice_get, refl, Option, None, Result, Err, Ok, Some}
use Rattle.std.specs.List.{list_any}
use Rattle.std.proofs.Common.{sym, ap, ◌∙◌, subst, append_assoc, arith, inl, inr}
use Rattle.std.proofs.lemmas.List.{append-nil}
use Rattle.std.proofs.lemmas.List.Elements.{filter-append}
use Rattle.of_types.specs.Fields.{number_bytes}
use Rattle.of_types.specs.declared.journal.Act.{Act}
use Rattle.of_types.specs.declared.errors.OfError.{OfError}
use Rattle.of_wire.specs.declared.bodies.FlowMod.{FlowMod as Change}
use Rattle.of_wire.specs.declared.fault.WireFault.{WireFault}
use Rattle.of_wire.specs.declared.message.Envelope.{Envelope}
use Rattle.of_wire.specs.declared.message.Message.{Message}
use Rattle.of_wire.specs.declared.bodies.Stats.{Stats as Query}
use Rattle.of_wire.specs.declared.message.Message.TheVariants.{FlowMod, StatsRequest}
use Rattle.of_wire.specs.Reading.{reading_of}
use Rattle.of_wire.specs.Grammar.{enveloped}
use Rattle.app_frames.specs.declared.frame.Answer.TheVariants.{Fine, Unknown}
use Rattle.lego_model.specs.Answers.{Rows, as_sent, host_refusal, refused_or, host_answer_read, host_answer}
use Rattle.app_frames.specs.declared.frame.Answer.{Answer}
use Rattle.app_frames.specs.Spelling.{framed, host_bytes}
use Rattle.lego_model.specs.Journal.{is_of, is_event, sends_change, ReachedAtOnce}
use Rattle.lego_model.specs.Controller.{restore_frame, answer_frame}
use Rattle.lego_model.specs.FlowQueries.{parts_in, refusals_in, IsAnswerTo}
use Rattle.lego_model.specs.AtOnce.{Before, besides, SendsNone, AnsweredByHost, first_error, AnsweredBySwitch, all_got, AsksAtOnce, AnsweredByStatistics, is_loss_of, AnsweredForLoss, is_answer, Says, Dialogue, AnsweredAtOnce}

-- ---- Frames

framed_answer : (body : List ℕ) → is_answer (framed 3 body) ≡ true
unfolding framed number_bytes
framed_answer body = refl

framed_restore : (body : List ℕ) → is_answer (framed 1 body) ≡ false
unfolding framed number_bytes
framed_restore body = refl

pub answer_is_one : (answer : Answer) → is_answer (answer_frame answer) ≡ true
unfolding host_bytes
answer_is_one answer = framed_answer _

pub restore_is_no_answer : (checkpoint : List ℕ) → is_answer (restore_frame checkpoint) ≡ false
unfolding host_bytes
restore_is_no_answer checkpoint = framed_restore _

-- an Event is no Answer
pub event_is_no_answer : (frame : List ℕ) → is_event frame ≡ true → is_answer frame ≡ false
event_is_no_answer frame is = grind (arith, is)

-- ---- One dialogue behind another

pub Dialogue-append : (app : ℕ) (xs ys : List Act) (s t u : Before) → Dialogue app s xs t → Dialogue app t ys u → Dialogue app s (xs ++ ys) u
Dialogue-append app [] ys s t u first second = subst (λ (x : Before). Dialogue app x ys u) first second
Dialogue-append app (act ∷ xs) ys s t u first second = (first.0, (first.1.0, Dialogue-append app xs ys first.0 t u first.1.1 second))

-- ---- Acts of others

none_first : (app : ℕ) (act : Act) (acts : List Act) → filter (is_of app) (act ∷ acts) ≡ [] → (is_of app act ≡ false) × (filter (is_of app) acts ≡ [])
none_first app act acts none = elim (is_of app act) as (λ t. is_of app act ≡ t → (is_of app act ≡ false) × (filter (is_of app) acts ≡ [])) [
  | true ↦ λ t. absurd (some_first (rw t at none))
  | false ↦ λ t. (t, rw t at none)
] refl
  where
    some_first : act ∷ filter (is_of app) acts ≡ [] → ⊥
    some_first is = absurd cc

says_other : (app : ℕ) (act : Act) (s : Before) → is_of app act ≡ false → Says (is_of app act) act s (besides s act)
says_other app act s other = subst (λ (b : Bool). Says b act s (besides s act)) (sym other) refl

pub others_say : (app : ℕ) (acts : List Act) (s : Before) → filter (is_of app) acts ≡ [] → Dialogue app s acts (record s { since = s.since ++ acts })
others_say app [] s none = ap (λ (acts : List Act). record s { since = acts }) (append-nil s.since)
others_say app (act ∷ acts) s none =
    let parts = none_first app act acts none in (
      besides s act,
      (
        says_other app act s parts.0,
        subst (λ (more : List Act). Dialogue app (besides s act) acts (record s { since = more })) (append_assoc s.since (act ∷ []) acts) (others_say app acts (besides s act) parts.1),
      ),
    )

-- ---- No change

pub sends_none_both : (xs ys : List Act) → SendsNone xs → SendsNone ys → SendsNone (xs ++ ys)
sends_none_both xs ys first second = filter-append sends_change xs ys ∙ ap (λ (acts : List Act). acts ++ filter sends_change ys) first ∙ second

pub host_since : (bytes : List ℕ) (answer : Answer) (xs ys : List Act) → SendsNone xs → AnsweredByHost bytes answer ys → AnsweredByHost bytes answer (xs ++ ys)
host_since bytes answer xs ys none by = record { rows = by.rows; answer_is = by.answer_is; none_sent = sends_none_both xs ys none by.none_sent }

-- ---- A change that reached its switch, behind acts that are none

place_behind : List Act → ℕ → ℕ
place_behind [] i = i
place_behind (x ∷ xs) i = suc (place_behind xs i)

at_behind : (xs ys : List Act) (i : ℕ) → slice_get (xs ++ ys) (place_behind xs i) ≡ slice_get ys i
unfolding place_behind
at_behind [] ys i = refl
at_behind (x ∷ xs) ys i = at_behind xs ys i

order_behind : (xs : List Act) (i j : ℕ) → i < j → place_behind xs i < place_behind xs j
unfolding place_behind
order_behind [] i j less = less
order_behind (x ∷ xs) i j less = let more = order_behind xs i j less in omega (arith, more)

pub reached_since : (dpid : ℕ) (change : Message) (xs ys : List Act) → SendsNone xs → ReachedAtOnce dpid change ys → ReachedAtOnce dpid change (xs ++ ys)
reached_since dpid change xs ys none r = record {
  xid = r.xid;
  barrier = r.barrier;
  sent = place_behind xs r.sent;
  asked = place_behind xs r.asked;
  told = place_behind xs r.told;
  change_sent = at_behind xs ys r.sent ∙ r.change_sent;
  barrier_sent = at_behind xs ys r.asked ∙ r.barrier_sent;
  reply_got = at_behind xs ys r.told ∙ r.reply_got;
  in_order = (order_behind xs r.sent r.asked r.in_order.0, order_behind xs r.asked r.told r.in_order.1);
  alone = ap (λ (acts : List Act). length acts) (filter-append sends_change xs ys ∙ ap (λ (acts : List Act). acts ++ filter sends_change ys) none) ∙ r.alone;
}

drop_behind : (xs ys : List Act) (i : ℕ) → drop (place_behind xs i) (xs ++ ys) ≡ drop i ys
unfolding place_behind
drop_behind [] ys i = refl
drop_behind (x ∷ xs) ys i = drop_behind xs ys i

pub switch_since : (dpid : ℕ) (bytes : List ℕ) (answer : Answer) (xs ys : List Act) → SendsNone xs → AnsweredBySwitch dpid bytes answer ys → AnsweredBySwitch dpid bytes answer (xs ++ ys)
unfolding reached_since
switch_since dpid bytes answer xs ys none by = record {
  xid = by.xid;
  message = by.message;
  read = by.read;
  change = by.change;
  reached = reached_since dpid _ xs ys none by.reached;
  error = by.error;
  error_is = by.error_is ∙ ap (λ (acts : List Act). first_error dpid by.reached.xid by.reached.barrier acts) (sym (drop_behind xs ys by.reached.sent));
  answer_is = by.answer_is;
}

-- ---- Statistics that were asked for, behind acts that send no change

pub asks_since : (dpid : ℕ) (q : Query) (xs ys : List Act) → SendsNone xs → AsksAtOnce dpid q ys → AsksAtOnce dpid q (xs ++ ys)
asks_since dpid q xs ys none r = record {
  xid = r.xid;
  barrier = r.barrier;
  sent = place_behind xs r.sent;
  asked = place_behind xs r.asked;
  told = place_behind xs r.told;
  query_sent = at_behind xs ys r.sent ∙ r.query_sent;
  barrier_sent = at_behind xs ys r.asked ∙ r.barrier_sent;
  reply_got = at_behind xs ys r.told ∙ r.reply_got;
  in_order = (order_behind xs r.sent r.asked r.in_order.0, order_behind xs r.asked r.told r.in_order.1);
  none_sent = sends_none_both xs ys none r.none_sent;
}

pub statistics_since : (dpid : ℕ) (bytes : List ℕ) (answer : Answer) (xs ys : List Act) → SendsNone xs → AnsweredByStatistics dpid bytes answer ys → AnsweredByStatistics dpid bytes answer (xs ++ ys)
unfolding asks_since
statistics_since dpid bytes answer xs ys none by =
    let same : drop (place_behind xs by.asks.sent) (xs ++ ys) ≡ drop by.asks.sent ys = drop_behind xs ys by.asks.sent in
    record {
      number = by.number;
      query = by.query;
      read = by.read;
      asks = asks_since dpid by.query xs ys none by.asks;
      answers = subst (λ (acts : List Act). IsAnswerTo by.query.kind (refusals_in by.asks.xid (all_got dpid acts)) (parts_in by.asks.xid (all_got dpid acts)) answer) (sym same) by.answers;
    }

-- ---- A switch that is lost

loss_behind : (dpid : ℕ) (xs ys : List Act) → list_any (is_loss_of dpid) ys ≡ true → list_any (is_loss_of dpid) (xs ++ ys) ≡ true
loss_behind dpid [] ys lost = lost
loss_behind dpid (x ∷ xs) ys lost = rw (loss_behind dpid xs ys lost) (or_true (is_loss_of dpid x))
  where
    or_true : (x : Bool) → (x || true) ≡ true
    or_true true = refl
    or_true false = refl

pub loss_since : (dpid : ℕ) (answer : Answer) (xs ys : List Act) → AnsweredForLoss dpid answer ys → AnsweredForLoss dpid answer (xs ++ ys)
loss_since dpid answer xs ys by = record { answer_is = by.answer_is; lost = loss_behind dpid xs ys by.lost }

-- ---- A change that is fine

fine_by_host : (rows : Option Rows) (bytes : List ℕ) (xid : ℕ) (m : Change) → reading_of bytes ≡ Ok (enveloped xid (FlowMod m)) → host_answer rows bytes ≡ Some Fine → ⊥
unfolding host_answer
fine_by_host None bytes xid m read is = absurd cc
fine_by_host (Some rows) bytes xid m read is = not_fine (host_refusal rows (FlowMod m)) (sym (ap (host_answer_read rows) read) ∙ is)
  where
    not_fine : (refusal : Option OfError) → refused_or refusal None ≡ Some Fine → ⊥
    not_fine None fine = absurd cc
    not_fine (Some error) fine = absurd cc

abbrev message_or : Message → Result Envelope WireFault → Message
message_or other (Ok envelope) = envelope.message
message_or other (Err fault) = other

-- a change that was answered so reached its switch
pub fine_reached : (dpid : ℕ) (bytes : List ℕ) (since : List Act) (xid : ℕ) (m : Change) → reading_of bytes ≡ Ok (enveloped xid (FlowMod m)) → AnsweredAtOnce dpid bytes Fine since → ReachedAtOnce dpid (as_sent (FlowMod m)) since
fine_reached dpid bytes since xid m read (inl by) = absurd (fine_by_host by.rows bytes xid m read by.answer_is)
fine_reached dpid bytes since xid m read (inr (inr (inl by))) = absurd (not_unknown by.answer_is)
  where
    not_unknown : Fine ≡ Unknown → ⊥
    not_unknown is = absurd cc
fine_reached dpid bytes since xid m read (inr (inr (inr by))) = absurd (no_query by.query m (ap (message_or (FlowMod m)) (sym by.read ∙ read)))
  where
    no_query : (q : Query) (m : Change) → StatsRequest q ≡ FlowMod m → ⊥
    no_query q m is = cc
fine_reached dpid bytes since xid m read (inr (inl by)) =
    subst (λ (x : Message). ReachedAtOnce dpid (as_sent x) since) (ap (message_or by.message) (sym by.read ∙ read)) by.reached
