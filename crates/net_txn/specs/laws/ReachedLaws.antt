-- A change that was asked reached its switch at once, and its answer is the first ERROR for it.
use Rattle.std.specs.Prelude.{◌≡◌, ℕ, true, false, List, [], ◌∷◌, ◌++◌, length, filter, filter_map, Option, Some, None, Ok, slice_get, refl}
use Rattle.std.specs.List.{AllByRecursion}
use Rattle.std.proofs.Common.{suc, sym, ap, ◌∙◌, append_assoc, arith}
use Rattle.std.proofs.lemmas.Bool.{eq-eqb}
use Rattle.std.proofs.lemmas.List.Elements.{filter-append, filter_map-append}
use Rattle.of_types.specs.declared.errors.OfError.{OfError}
use Rattle.of_types.specs.declared.journal.Act.{Act}
use Rattle.of_types.specs.declared.journal.Act.TheVariants.{Sent, Got}
use Rattle.of_wire.specs.declared.bodies.FlowMod.{FlowMod as Change}
use Rattle.of_wire.specs.declared.message.Message.{Message}
use Rattle.of_wire.specs.declared.message.Message.TheVariants.{FlowMod, BarrierRequest, BarrierReply}
use Rattle.of_wire.specs.Reading.{reading_of}
use Rattle.of_wire.specs.Spelling.{message_bytes}
use Rattle.of_wire.specs.Grammar.{enveloped}
use Rattle.of_wire.specs.laws.ReadingLaws.{reading_of-message_bytes}
use Rattle.app_frames.specs.declared.frame.Answer.{Answer}
use Rattle.lego_model.specs.Answers.{as_sent}
use Rattle.lego_model.specs.AtOnce.{error_said, error_got, first_error}
use Rattle.lego_model.specs.Journal.{is_change, sends_change}
use Rattle.lego_model.specs.declared.wait.Refusal.{Refusal}
use Rattle.outside.specs.Seen.{Seen, journal}
use Rattle.outside.specs.laws.SeenLaws.{journal-append}
use Rattle.lego_model.specs.declared.wait.Awaited.{Awaited}
use Rattle.lego_model.specs.declared.wait.Heard.{Heard}
use Rattle.lego_model.specs.declared.wait.Heard.TheVariants.{Reply, Refused, Notice, Echo, Other}
use Rattle.net_txn.specs.Waits.{IsRead, refusal_in, first_of, first_refusal, Brought}
use Rattle.lego_model.specs.BarrierWaits.{heard, steps_by, heard_steps, wait_steps, barrier_sent, reply_got, echo_reply, next_xid}
use Rattle.net_txn.specs.laws.EchoLaws.{echo_reply-reading}
use Rattle.net_txn.specs.Net.{NetState, awaited_from}
use Rattle.net_txn.specs.laws.SentLaws.{reading_of-as_sent}
use Rattle.net_txn.specs.laws.HeardLaws.{IsMessage-barrier, next_xid-lt, heard-reply}
use Rattle.net_txn.specs.Answering.{change_sent, error_in, Asked}
use Rattle.net_txn.specs.ChangeSteps.{ReachedSince}

-- ---- Which acts send a change

pub sends_by : (d xid : ℕ) (m : Message) (bytes : List ℕ) → reading_of bytes ≡ Ok (enveloped xid m) → sends_change (Sent d bytes) ≡ is_change m
sends_by d xid m bytes read = rw read refl

steps_send_none : (d : ℕ) (h : Heard) (bytes : List ℕ) → IsRead bytes → filter sends_change (journal (steps_by d h bytes)) ≡ []
unfolding journal
steps_send_none d Reply bytes is = refl
steps_send_none d (Refused r) bytes is = refl
steps_send_none d Notice bytes is = refl
steps_send_none d Echo bytes is =
    let none : sends_change (Sent d (echo_reply bytes)) ≡ false = sends_by d _ _ (echo_reply bytes) (echo_reply-reading bytes is.0 is.1) in
    rw none refl
steps_send_none d Other bytes is = refl

heard_sends_none : (a : Awaited) (bytes : List ℕ) → IsRead bytes → filter sends_change (journal (heard_steps a bytes)) ≡ []
unfolding journal
heard_sends_none a bytes is = steps_send_none a.dpid (heard a bytes) bytes is

pub wait_sends_none : (a : Awaited) (got : List (List ℕ)) → AllByRecursion IsRead got → filter sends_change (journal (wait_steps a got)) ≡ []
unfolding journal
wait_sends_none a [] all = refl
wait_sends_none a (b ∷ bs) all =
    ap (filter sends_change) (journal-append (heard_steps a b) (wait_steps a bs)) ∙ filter-append sends_change (journal (heard_steps a b)) (journal (wait_steps a bs))
    ∙ ap (λ (acts : List Act). acts ++ filter sends_change (journal (wait_steps a bs))) (heard_sends_none a b all.0) ∙ wait_sends_none a bs all.1

-- ---- The first error

errors_of : Option OfError → List OfError
errors_of None = []
errors_of (Some e) = e ∷ []

errors_at : (a : Awaited) (bytes : List ℕ) (h : Heard) → error_got a (Got a.dpid bytes) ≡ error_said h → filter_map (error_got a) (Got a.dpid bytes ∷ journal (steps_by a.dpid h bytes)) ≡ errors_of (error_said h)
unfolding journal errors_of
errors_at a bytes Reply is = rw is refl
errors_at a bytes (Refused r) is = rw is refl
errors_at a bytes Notice is = rw is refl
errors_at a bytes Echo is = rw is refl
errors_at a bytes Other is = rw is refl

got_said : (a : Awaited) (bytes : List ℕ) → error_got a (Got a.dpid bytes) ≡ error_said (heard a bytes)
got_said a bytes = rw (eq-eqb a.dpid a.dpid refl) refl

errors_heard : (a : Awaited) (bytes : List ℕ) → filter_map (error_got a) (journal (heard_steps a bytes)) ≡ errors_of (error_said (heard a bytes))
unfolding journal
errors_heard a bytes = errors_at a bytes (heard a bytes) (got_said a bytes)

first_then : (h : Heard) (later : List OfError) (refusal : Option Refusal) → slice_get later 0 ≡ error_in refusal → slice_get (errors_of (error_said h) ++ later) 0 ≡ error_in (first_of (refusal_in h) refusal)
unfolding errors_of
first_then Reply later refusal is = is
first_then (Refused r) later refusal is = refl
first_then Notice later refusal is = is
first_then Echo later refusal is = is
first_then Other later refusal is = is

-- of messages in a wait, and acts behind it that have none
first_waited : (a : Awaited) (got : List (List ℕ)) (last : List Act) → filter_map (error_got a) last ≡ [] → slice_get (filter_map (error_got a) (journal (wait_steps a got) ++ last)) 0 ≡ error_in (first_refusal a got)
unfolding journal
first_waited a [] last none = ap (λ (es : List OfError). slice_get es 0) none
first_waited a (b ∷ bs) last none =
    let here = journal (heard_steps a b) in
    let rest = journal (wait_steps a bs) ++ last in
    ap (λ (acts : List Act). slice_get (filter_map (error_got a) acts) 0) (ap (λ (acts : List Act). acts ++ last) (journal-append (heard_steps a b) (wait_steps a bs)) ∙ append_assoc here (journal (wait_steps a bs)) last)
    ∙ ap (λ (es : List OfError). slice_get es 0) (filter_map-append (error_got a) here rest ∙ ap (λ (es : List OfError). es ++ filter_map (error_got a) rest) (errors_heard a b))
    ∙ first_then (heard a b) (filter_map (error_got a) rest) (first_refusal a bs) (first_waited a bs last none)

reply_no_error : (a : Awaited) → filter_map (error_got a) (Got a.dpid (message_bytes a.barrier BarrierReply) ∷ []) ≡ []
unfolding journal errors_of
reply_no_error a = errors_at a (message_bytes a.barrier BarrierReply) Reply (got_said a (message_bytes a.barrier BarrierReply) ∙ ap error_said (heard-reply a))

first_behind : (a : Awaited) (got : List (List ℕ)) → slice_get (filter_map (error_got a) (journal (wait_steps a got ++ reply_got a ∷ []))) 0 ≡ error_in (first_refusal a got)
unfolding journal
first_behind a got =
    ap (λ (acts : List Act). slice_get (filter_map (error_got a) acts) 0) (journal-append (wait_steps a got) (reply_got a ∷ []))
    ∙ first_waited a got (Got a.dpid (message_bytes a.barrier BarrierReply) ∷ []) (reply_no_error a)

-- ---- Where the acts stand

pub last_at : (acts : List Act) (act : Act) → slice_get (acts ++ act ∷ []) (length acts) ≡ Some act
last_at [] act = refl
last_at (x ∷ xs) act = last_at xs act

pub reached : {Own : Type 0} {Tells : Type 0} (d : ℕ) (old new : Seen Own) (net now_net : NetState) (answer : Answer) (m : Change) → Tells → Asked Tells d m old new net now_net answer → ReachedSince d (as_sent (FlowMod m)) answer old.history new.history
unfolding journal first_error
reached d old new net now_net answer m told asked =
    let a = awaited_from d net.xid in
    let got = asked.waits.got in
    let hears = asked.waits.hears in
    let behind = wait_steps a got ++ reply_got a ∷ [] in
    let inner = journal (wait_steps a got) in
    let split : journal behind ≡ inner ++ Got d (message_bytes (next_xid net.xid) BarrierReply) ∷ [] = journal-append (wait_steps a got) (reply_got a ∷ []) in
    let change : sends_change (Sent d (message_bytes net.xid (as_sent (FlowMod m)))) ≡ true = sends_by d net.xid (as_sent (FlowMod m)) _ (reading_of-as_sent net.xid m asked.is_xid.1 asked.message) in
    let barrier : sends_change (Sent d (message_bytes (next_xid net.xid) BarrierRequest)) ≡ false = sends_by d (next_xid net.xid) BarrierRequest _ (reading_of-message_bytes (next_xid net.xid) BarrierRequest (next_xid-lt net.xid asked.is_xid.1) IsMessage-barrier) in
    let none : filter sends_change (journal behind) ≡ [] = ap (filter sends_change) split ∙ filter-append sends_change inner (Got d (message_bytes (next_xid net.xid) BarrierReply) ∷ []) ∙ ap (λ (acts : List Act). acts ++ []) (wait_sends_none a got hears.read) in
    record {
      steps = change_sent d net.xid m ∷ barrier_sent a ∷ behind;
      since = hears.told told;
      reached = record {
        xid = net.xid;
        barrier = next_xid net.xid;
        sent = 0;
        asked = 1;
        told = suc (suc (length inner));
        change_sent = refl;
        barrier_sent = refl;
        reply_got = ap (λ (acts : List Act). slice_get acts (length inner)) split ∙ last_at inner (Got d (message_bytes (next_xid net.xid) BarrierReply));
        in_order = (omega arith, omega arith);
        alone = rw (change, barrier, none) refl;
      };
      error = error_in asked.refusal;
      error_is = ap (λ (b : Brought). error_in b.refusal) hears.answer_is ∙ sym (first_behind a got);
      answer_is = asked.answer_is;
    }
