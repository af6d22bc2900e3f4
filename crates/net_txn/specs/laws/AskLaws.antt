-- Laws of what comes of a request.
use Rattle.std.specs.Prelude.{◌≡◌, ◌==◌, ℕ, ◌≤◌, ◌<◌, Bool, true, false, ◌&&◌, ◌||◌, nat_le, List, [], ◌∷◌, ◌++◌, length, take, map, All, Result, Ok, Err, IfOk, IfErr, OnOk, OnErr, MatchResult, if◌then◌else◌, refl}
use Rattle.std.proofs.Common.{get_or, inr, sym, ap, subst, ◌∙◌, arith}
use Rattle.std.proofs.lemmas.Bool.{eqb-true, leb-true, and_parts}
use Rattle.std.proofs.lemmas.List.{length-map, map-append, take-map}
use Rattle.std.proofs.lemmas.List.Elements.{All-nil, All-cons, All-append}
use Rattle.std.proofs.lemmas.Option.{slice_get-get_or}
use Rattle.of_types.specs.Fields.{number_at}
use Rattle.of_types.specs.declared.journal.Act.TheVariants.{Sent}
use Rattle.of_wire.specs.declared.message.Message.TheVariants.{BarrierReply}
use Rattle.of_wire.specs.Spelling.{message_bytes}
use Rattle.of_stats.specs.declared.flow_row.FlowRow.{FlowRow}
use Rattle.of_stats.specs.Parts.{IsFirstBad}
use Rattle.outside.specs.declared.step.WorldStep.{WorldStep}
use Rattle.outside.specs.declared.step.WorldStep.TheVariants.{Acted}
use Rattle.outside.specs.Seen.{Seen}
use Rattle.lego_model.specs.declared.fault.TxnFault.{TxnFault}
use Rattle.lego_model.specs.declared.fault.TxnFault.TheVariants.{SwitchBroke, Diverged, Flooded, NoMemory}
use Rattle.lego_model.specs.declared.wait.Awaited.{Awaited}
use Rattle.net_txn.specs.declared.halt.Halt.{Halt}
use Rattle.net_txn.specs.Waits.{Brought, Waits, IfFlooded, KeptMore}
use Rattle.lego_model.specs.BarrierWaits.{barrier_sent, next_xid}
use Rattle.net_txn.specs.laws.WaitLaws.{waits_kept, of_switch}
use Rattle.net_txn.specs.laws.ChangeLaws.{kept_for}
use Rattle.app_frames.specs.declared.frame.Answer.{Answer}
use Rattle.app_frames.specs.declared.frame.HostFrame.TheVariants as host
use Rattle.app_frames.specs.Frames.{HostFits}
use Rattle.net_txn.specs.Asks.{Inquiry, inquiry_sent, AreRowsOf, IsPartsFault, IsRepliesFault, AnsweredFor, Answered, GivesRows, IsAskCause}
use Rattle.net_txn.specs.Queries.{GivesAnswer, IsFaultOf, IsQueryCause}
use Rattle.lego_model.specs.FlowQueries.{query_bytes, flows_request, asked_from, is_about, part_in, refusal_in, parts_in, refusals_in, others_in, part_of, all_parts, WhyBroken, IsAnswerTo}

abbrev pub IsLong : List ℕ → Type 0
IsLong bytes = 12 ≤ length bytes

long_about : (xid kind : ℕ) (bytes : List ℕ) → is_about xid kind bytes ≡ true → IsLong bytes
unfolding is_about
long_about xid kind bytes is = leb-true _ _ (and_parts (nat_le 12 (length bytes)) (number_at 4 4 bytes == xid && number_at 1 1 bytes == kind) is).0

-- a message has one type
pub part_refuses_not : (xid : ℕ) (bytes : List ℕ) → is_about xid 17 bytes ≡ true → is_about xid 1 bytes ≡ false
unfolding is_about
part_refuses_not xid bytes is =
    let about = and_parts (nat_le 12 (length bytes)) (number_at 4 4 bytes == xid && number_at 1 1 bytes == 17) is in
    let id = and_parts (number_at 4 4 bytes == xid) (number_at 1 1 bytes == 17) about.1 in
    let kind : number_at 1 1 bytes ≡ 17 = eqb-true _ _ id.1 in
    rw (about.0, id.0, kind) refl

-- a part has 12 bytes at least
long_if : (b : Bool) (bytes : List ℕ) → (b ≡ true → IsLong bytes) → All IsLong (if b then bytes ∷ [] else [])
long_if true bytes is = All-cons IsLong bytes [] (is refl) (All-nil IsLong)
long_if false bytes is = All-nil IsLong

pub long_parts : (xid : ℕ) (came : List (ℕ × List ℕ)) → All IsLong (parts_in xid came)
long_parts xid [] = All-nil IsLong
long_parts xid (m ∷ ms) = All-append IsLong (part_in xid m) (parts_in xid ms) (long_if (is_about xid 17 m.1) m.1 (long_about xid 17 m.1)) (long_parts xid ms)

pub long_refusals : (xid : ℕ) (came : List (ℕ × List ℕ)) → All IsLong (refusals_in xid came)
long_refusals xid [] = All-nil IsLong
long_refusals xid (m ∷ ms) = All-append IsLong (refusal_in xid m) (refusals_in xid ms) (long_if (is_about xid 1 m.1) m.1 (long_about xid 1 m.1)) (long_refusals xid ms)

-- ---- Which message is at fault

pub within_messages : (place : ℕ) (messages : List (List ℕ)) → 0 < length messages → IsFirstBad place (all_parts messages) → place < length messages
within_messages place messages some bad = omega (arith, bad.within, length-map messages part_of)

pub broken_at : (kind d place : ℕ) (messages : List (List ℕ)) → place < length messages → WhyBroken kind messages place → IsPartsFault kind d messages (SwitchBroke d (get_or messages place []))
broken_at kind d place messages within why = (refl, (place, slice_get-get_or messages place [] within, why))

-- ---- What is kept

other_one : (d : ℕ) (about : Bool) (b : List ℕ) → (rest : List (List ℕ)) × ((if about then [] else (d, b) ∷ []) ≡ map (of_switch d) rest)
other_one d true b = ([], refl)
other_one d false b = (b ∷ [], refl)

others_of : (d xid : ℕ) (more : List (List ℕ)) → (rest : List (List ℕ)) × (others_in xid (map (of_switch d) more) ≡ map (of_switch d) rest)
others_of d xid [] = ([], refl)
others_of d xid (b ∷ bs) =
    let first = other_one d (is_about xid 17 b || is_about xid 1 b) b in
    let rest = others_of d xid bs in
    (first.0 ++ rest.0, ap (λ (ms : List (ℕ × List ℕ)). ms ++ others_in xid (map (of_switch d) bs)) first.1 ∙ ap (λ (ms : List (ℕ × List ℕ)). map (of_switch d) first.0 ++ ms) rest.1 ∙ sym (map-append (of_switch d) first.0 rest.0))

pub sorted_more : (d xid : ℕ) (came kept now_kept : List (ℕ × List ℕ)) → KeptMore d [] came → now_kept ≡ kept ++ others_in xid came → KeptMore d kept now_kept
sorted_more d xid came kept now_kept more is =
    let rest = others_of d xid more.0 in
    (rest.0, is ∙ ap (λ (ms : List (ℕ × List ℕ)). kept ++ others_in xid ms) more.1 ∙ ap (λ (ms : List (ℕ × List ℕ)). kept ++ ms) rest.1)

pub sorted_some : (d xid n : ℕ) (came kept now_kept : List (ℕ × List ℕ)) → KeptMore d [] came → now_kept ≡ kept ++ others_in xid (take n came) → KeptMore d kept now_kept
sorted_some d xid n came kept now_kept more is =
    sorted_more d xid (take n came) kept now_kept (take n more.0, ap (take n) more.1 ∙ take-map (of_switch d) n more.0) is

-- ---- The whole

pub came_more : {Own : Type 0} (Tells : Type 0) (d xid : ℕ) (a : Awaited) (front : List WorldStep) (old new : Seen Own) (before came : List (ℕ × List ℕ)) (result : Result Brought Halt)
    → a ≡ asked_from d xid → before ≡ [] → IfOk result (Waits Tells a front old new before came) → OnErr result (KeptMore a.dpid before came) → KeptMore d [] came
came_more Tells d xid a front old new before came (Ok answer) is none ok err = kept_for d a.dpid before [] came (ap (λ (x : Awaited). x.dpid) is) none (waits_kept ok)
came_more Tells d xid a front old new before came (Err fault) is none ok err = kept_for d a.dpid before [] came (ap (λ (x : Awaited). x.dpid) is) none err

pub asked_waits : {Own : Type 0} {Tells : Type 0} (i : Inquiry) (a : Awaited) (frame : List ℕ) (old new : Seen Own) (before came : List (ℕ × List ℕ)) (refusal : Brought)
    → a ≡ asked_from i.dpid i.xid → frame ≡ query_bytes i.xid i.query → before ≡ [] → Waits Tells a (Acted (Sent a.dpid frame) ∷ barrier_sent a ∷ []) old new before came refusal
    → Waits Tells (asked_from i.dpid i.xid) (inquiry_sent i) old new [] came refusal
asked_waits {Tells = Tells} i a frame old new before came refusal is spelled none w =
    let here = asked_from i.dpid i.xid in
    let w1 = subst (λ (x : Awaited). Waits Tells x (Acted (Sent x.dpid frame) ∷ barrier_sent x ∷ []) old new before came refusal) is w in
    let w2 = subst (λ (b : List ℕ). Waits Tells here (Acted (Sent i.dpid b) ∷ barrier_sent here ∷ []) old new before came refusal) spelled w1 in
    subst (λ (k : List (ℕ × List ℕ)). Waits Tells here (inquiry_sent i) old new k came refusal) none w2

pub answer_by_replies : {Own : Type 0} {Tells : Type 0} (d xid : ℕ) (old new : Seen Own) (kept now_kept came : List (ℕ × List ℕ)) (parts refusals : List (List ℕ)) (request : List ℕ) (barrier : ℕ) (result : Result (List FlowRow) TxnFault)
    → Answered Tells d xid old new kept now_kept came → parts ≡ parts_in xid came → refusals ≡ refusals_in xid came → request ≡ flows_request xid → barrier ≡ next_xid xid
    → IfOk result (AreRowsOf parts) → OnOk result (refusals ≡ []) → IfErr result (IsRepliesFault d request (message_bytes barrier BarrierReply) parts refusals)
    → MatchResult result (GivesRows Tells d xid old new kept now_kept) (IsAskCause Tells d xid old new kept now_kept)
answer_by_replies d xid old new kept now_kept came parts refusals request barrier (Ok rows) answered parts_are refusals_are request_is barrier_is ok none err = record {
  came = came;
  answered = answered;
  no_refusal = sym refusals_are ∙ none;
  rows_is = subst (λ (ps : List (List ℕ)). AreRowsOf ps rows) parts_are ok;
}
answer_by_replies d xid old new kept now_kept came parts refusals request barrier (Err fault) answered parts_are refusals_are request_is barrier_is ok none err =
    let e1 = subst (λ (ps : List (List ℕ)). IsRepliesFault d request (message_bytes barrier BarrierReply) ps refusals fault) parts_are err in
    let e2 = subst (λ (rs : List (List ℕ)). IsRepliesFault d request (message_bytes barrier BarrierReply) (parts_in xid came) rs fault) refusals_are e1 in
    let e3 = subst (λ (b : List ℕ). IsRepliesFault d b (message_bytes barrier BarrierReply) (parts_in xid came) (refusals_in xid came) fault) request_is e2 in
    inr (came, answered, subst (λ (x : ℕ). IsRepliesFault d (flows_request xid) (message_bytes x BarrierReply) (parts_in xid came) (refusals_in xid came) fault) barrier_is e3)

-- the same of statistics that an application asked for
pub answer_by_parts : {Own : Type 0} {Tells : Type 0} (i : Inquiry) (old new : Seen Own) (kept now_kept came : List (ℕ × List ℕ)) (parts refusals : List (List ℕ)) (request : List ℕ) (barrier : ℕ) (result : Result Answer TxnFault)
    → AnsweredFor Tells i old new kept now_kept came → parts ≡ parts_in i.xid came → refusals ≡ refusals_in i.xid came → request ≡ query_bytes i.xid i.query → barrier ≡ next_xid i.xid
    → IfOk result (IsAnswerTo i.query.kind refusals parts) → IfOk result (λ answer. HostFits (host.Answer answer)) → IfErr result (IsFaultOf i.query.kind i.dpid request (message_bytes barrier BarrierReply) parts refusals)
    → MatchResult result (GivesAnswer Tells i old new kept now_kept) (IsQueryCause Tells i old new kept now_kept)
answer_by_parts i old new kept now_kept came parts refusals request barrier (Ok answer) answered parts_are refusals_are request_is barrier_is ok fits err = record {
  came = came;
  answered = answered;
  answers = subst (λ (ps : List (List ℕ)). IsAnswerTo i.query.kind (refusals_in i.xid came) ps answer) parts_are (subst (λ (rs : List (List ℕ)). IsAnswerTo i.query.kind rs parts answer) refusals_are ok);
  fits = fits;
}
answer_by_parts i old new kept now_kept came parts refusals request barrier (Err fault) answered parts_are refusals_are request_is barrier_is ok fits err =
    let kind = i.query.kind in
    let d = i.dpid in
    let e1 = subst (λ (ps : List (List ℕ)). IsFaultOf kind d request (message_bytes barrier BarrierReply) ps refusals fault) parts_are err in
    let e2 = subst (λ (rs : List (List ℕ)). IsFaultOf kind d request (message_bytes barrier BarrierReply) (parts_in i.xid came) rs fault) refusals_are e1 in
    let e3 = subst (λ (b : List ℕ). IsFaultOf kind d b (message_bytes barrier BarrierReply) (parts_in i.xid came) (refusals_in i.xid came) fault) request_is e2 in
    inr (record { came = came; answered = answered; why = subst (λ (x : ℕ). IsFaultOf kind d (query_bytes i.xid i.query) (message_bytes x BarrierReply) (parts_in i.xid came) (refusals_in i.xid came) fault) barrier_is e3 })

-- ---- A flood

pub no_flood_by : {Own : Type 0} (Tells : Type 0) (kind d : ℕ) (a : Awaited) (front : List WorldStep) (old new : Seen Own) (request reply : List ℕ) (parts refusals : List (List ℕ)) (fault : TxnFault) → IsFaultOf kind d request reply parts refusals fault → IfFlooded Tells a front old new fault
no_flood_by Tells kind d a front old new request reply parts refusals (SwitchBroke of bytes) is = tt
no_flood_by Tells kind d a front old new request reply parts refusals (Diverged of sent got) is = tt
no_flood_by Tells kind d a front old new request reply parts refusals (Flooded of n) is = absurd is
no_flood_by Tells kind d a front old new request reply parts refusals NoMemory is = tt

pub no_flood_of : {Own : Type 0} (Tells : Type 0) (d xid : ℕ) (a : Awaited) (front : List WorldStep) (old new : Seen Own) (request reply : List ℕ) (parts refusals : List (List ℕ)) (fault : TxnFault) → IsRepliesFault d request reply parts refusals fault → IfFlooded Tells a front old new fault
no_flood_of Tells d xid a front old new request reply parts refusals (SwitchBroke of bytes) is = tt
no_flood_of Tells d xid a front old new request reply parts refusals (Diverged of sent got) is = tt
no_flood_of Tells d xid a front old new request reply parts refusals (Flooded of n) is = absurd is
no_flood_of Tells d xid a front old new request reply parts refusals NoMemory is = tt
