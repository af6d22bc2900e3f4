-- Where a world keeps its word, a packet moves its switch alone, and what the switch sends for it becomes events.
use Rattle.std.specs.Prelude.{◌≡◌, ◌≢◌, ◌⊎◌, ℕ, ◌^◌, ◌<◌, ◌≤◌, false, List, [], ◌∷◌, ◌++◌, length, drop, map, Some, refl}
use Rattle.std.specs.List.{AllByRecursion}
use Rattle.std.proofs.Common.{sym, ap, ◌∙◌, subst, inl, inr, arith}
use Rattle.std.proofs.lemmas.List.{map-append}
use Rattle.of_types.specs.declared.journal.Act.TheVariants.{Sent, Got}
use Rattle.of_wire.specs.declared.bodies.PacketOut.{PacketOut as Packet}
use Rattle.of_wire.specs.declared.message.Message.TheVariants.{PacketOut, BarrierRequest, BarrierReply}
use Rattle.of_wire.specs.Spelling.{message_bytes}
use Rattle.of_wire.specs.Grammar.{IsMessage}
use Rattle.of_wire.specs.laws.ReadingLaws.{reading_of-message_bytes}
use Rattle.flow_table.specs.Switch.{Declared, SwitchState}
use Rattle.flow_table.specs.Step.{after_message, sent_by_message}
use Rattle.app_frames.specs.declared.frame.Event.{Event}
use Rattle.outside.specs.declared.step.WorldStep.{WorldStep}
use Rattle.outside.specs.declared.step.WorldStep.TheVariants.{Acted}
use Rattle.outside.specs.Seen.{Seen, Continues}
use Rattle.outside.specs.State.{State, after_step, after_steps, state, switch_of, waits_of}
use Rattle.outside.specs.laws.StateLaws.{state-append, Conforming-rest}
use Rattle.outside.specs.laws.LinkLaws.{waits_of-got}
use Rattle.outside.specs.Conforming.{MaySteps, Conforming}
use Rattle.lego_model.specs.declared.fault.TxnFault.{TxnFault}
use Rattle.lego_model.specs.declared.fault.TxnFault.TheVariants.{SwitchBroke, Diverged, Flooded, NoMemory}
use Rattle.lego_model.specs.declared.wait.Awaited.{Awaited}
use Rattle.lego_model.specs.declared.wait.Heard.TheVariants.{Other}
use Rattle.lego_model.specs.BarrierWaits.{flood, next_xid, heard, is_reply, heard_steps, wait_steps, kept_of, reply_got}
use Rattle.lego_model.specs.Controller.{events_of}
use Rattle.net_txn.specs.Causes.{IsCause, IsPlain}
use Rattle.net_txn.specs.Waits.{Brought, Waits, Floods, IfFlooded}
use Rattle.net_txn.specs.Net.{NetState}
use Rattle.net_txn.specs.Undos.{SameSwitch}
use Rattle.net_txn.specs.Releases.{Knows, packet_steps, takes_all, PacketInStep, IsFloodBy}
use Rattle.lego_model.specs.FlowQueries.{asked_from}
use Rattle.net_txn.specs.laws.FloodLaws.{IsGotAlone, few_got, ends_read}
use Rattle.net_txn.specs.laws.HeardLaws.{IsMessage-barrier, next_xid-lt}
use Rattle.net_txn.specs.laws.PartLaws.{steps_other}
use Rattle.net_txn.specs.laws.RestoreLaws.{wait_of}
use Rattle.net_txn.specs.laws.SaidLaws.{all_two}
use Rattle.net_txn.specs.laws.StepLaws.{told_switch, told_waits, barrier_sends, barrier_stays, gots, gots_switch, gots_empty, first_got, reply_alone, other_steps, other_no_reply}
use Rattle.net_txn.specs.laws.PacketHeardLaws.{AllNews, packet_news, packet_events, packet_many, all_taken}
use Rattle.net_txn.specs.laws.WaitLaws.{of_switch}
use Rattle.lego_model.specs.UndoFaults.{IsStepOf}
use Rattle.net_txn.specs.laws.InStepLaws.{reply_to}
use Rattle.net_txn.specs.laws.WaitMoveLaws.{some_switch}

-- ---- Messages that are nothing to a wait

abbrev AllOther : Awaited → List (List ℕ) → Type 0
AllOther a ws = AllByRecursion (λ w. heard a w ≡ Other) ws

news_other : (d xid : ℕ) (ws : List (List ℕ)) → AllNews ws → AllOther (asked_from d xid) ws
news_other d xid [] all = tt
news_other d xid (w ∷ ws) all = (all.0.unawaited d xid, news_other d xid ws all.1)

others_alone : (a : Awaited) (ws : List (List ℕ)) → AllOther a ws → AllByRecursion (IsGotAlone a) ws
others_alone a [] all = tt
others_alone a (w ∷ ws) all = (other_steps a w all.0, others_alone a ws all.1)

others_steps : (a : Awaited) (ws : List (List ℕ)) → AllOther a ws → wait_steps a ws ≡ gots a.dpid ws
others_steps a [] all = refl
others_steps a (w ∷ ws) all = ap (λ (steps : List WorldStep). steps ++ wait_steps a ws) (other_steps a w all.0) ∙ ap (λ (steps : List WorldStep). Acted (Got a.dpid w) ∷ steps) (others_steps a ws all.1)

others_kept : (a : Awaited) (ws : List (List ℕ)) → AllOther a ws → kept_of a ws ≡ map (of_switch a.dpid) ws
others_kept a [] all = refl
others_kept a (w ∷ ws) all = rw all.0 (ap (λ (ms : List (ℕ × List ℕ)). (a.dpid, w) ∷ ms) (others_kept a ws all.1))

-- where they wait before the reply, they alone came before it
others_came : (declared : List Declared) (a : Awaited) (ws got : List (List ℕ)) (t : State) → AllOther a ws → waits_of a.dpid t ≡ ws ++ message_bytes a.barrier BarrierReply ∷ [] → MaySteps declared (wait_steps a got ++ reply_got a ∷ []) t
    → AllByRecursion (λ b. is_reply (heard a b) ≡ false) got → got ≡ ws
others_came declared a [] got t all waits may before = reply_alone declared a got t waits may before
others_came declared a (w ∷ ws) [] t all waits may before =
    absurd (other_no_reply a w all.0 (first_got declared a.dpid (message_bytes a.barrier BarrierReply) w (ws ++ message_bytes a.barrier BarrierReply ∷ []) [] t waits may))
others_came declared a (w ∷ ws) (b ∷ bs) t all waits may before =
    let reply = message_bytes a.barrier BarrierReply in
    let is : b ≡ w = first_got declared a.dpid b w (ws ++ reply ∷ []) _ t waits may in
    let here = subst (λ (x : List ℕ). MaySteps declared ((heard_steps a x ++ wait_steps a bs) ++ reply_got a ∷ []) t) is may in
    let steps = subst (λ (xs : List WorldStep). MaySteps declared ((xs ++ wait_steps a bs) ++ reply_got a ∷ []) t) (other_steps a w all.0) here in
    let left : waits_of a.dpid (after_step (Acted (Got a.dpid w)) t) ≡ ws ++ reply ∷ [] = waits_of-got a.dpid w t ∙ ap (drop 1) waits in
    let rest : bs ≡ ws = others_came declared a ws bs (after_step (Acted (Got a.dpid w)) t) all.1 left steps.1 before.1 in
    ap (λ (x : List ℕ). x ∷ bs) is ∙ ap (λ (xs : List (List ℕ)). w ∷ xs) rest

-- ---- The packet and the barrier were sent

abbrev after_both : ℕ → ℕ → Packet → State → State
after_both d xid packet t = after_steps (packet_steps d xid packet) t

record BothSent (d xid : ℕ) (packet : Packet) (s : SwitchState) (mid : State) : Type 0 where
  switch : switch_of d mid ≡ Some (after_message (PacketOut packet) s)
  waits : waits_of d mid ≡ sent_by_message xid (PacketOut packet) s ++ reply_to xid ∷ []

both_sent : (d xid : ℕ) (packet : Packet) (s : SwitchState) (t : State) → xid < 2 ^ 32 → IsMessage (PacketOut packet) → switch_of d t ≡ Some s → waits_of d t ≡ [] → BothSent d xid packet s (after_both d xid packet t)
both_sent d xid packet s t lt is here none =
    let bytes = message_bytes xid (PacketOut packet) in
    let barrier = message_bytes (next_xid xid) BarrierRequest in
    let one = after_step (Acted (Sent d bytes)) t in
    let moved = after_message (PacketOut packet) s in
    let read = reading_of-message_bytes xid (PacketOut packet) lt is in
    let barrier_read = reading_of-message_bytes (next_xid xid) BarrierRequest (next_xid-lt xid lt) IsMessage-barrier in
    let there : switch_of d one ≡ Some moved = told_switch d xid (PacketOut packet) bytes t s read here in
    let waits_one : waits_of d one ≡ sent_by_message xid (PacketOut packet) s = told_waits d xid (PacketOut packet) bytes t s read here ∙ ap (λ (ws : List (List ℕ)). ws ++ sent_by_message xid (PacketOut packet) s) none in
    record {
      switch = told_switch d (next_xid xid) BarrierRequest barrier one moved barrier_read there ∙ ap some_switch (barrier_stays moved);
      waits = told_waits d (next_xid xid) BarrierRequest barrier one moved barrier_read there ∙ ap (λ (ws : List (List ℕ)). waits_of d one ++ ws) (barrier_sends (next_xid xid) moved) ∙ ap (λ (ws : List (List ℕ)). ws ++ reply_to xid ∷ []) waits_one;
    }

all_of : (d xid : ℕ) (packet : Packet) (got : List (List ℕ)) → AllByRecursion (IsStepOf d) (packet_steps d xid packet ++ (wait_steps (asked_from d xid) got ++ reply_got (asked_from d xid) ∷ []))
all_of d xid packet got =
    let a = asked_from d xid in
    (refl, (refl, all_two (IsStepOf d) (wait_steps a got) (reply_got a ∷ []) (wait_of a got) (refl, tt)))

-- ---- What was taken

abbrev net_of : Knows → NetState
net_of k = k.0

abbrev queue_of : Knows → List Event
queue_of k = k.1

abbrev pub with_xid : NetState → ℕ → NetState
with_xid net xid = record net { xid = xid }

same_but_xid : (net now_net : NetState) (xid : ℕ) → now_net ≡ with_xid net xid → now_net ≡ with_xid net now_net.xid
same_but_xid net now_net xid is = let x : now_net.xid ≡ xid = ap (λ (n : NetState). n.xid) is in is ∙ ap (with_xid net) (sym x)

-- ---- The whole

pub packet_in_step : {Own : Type 0} {Tells : Type 0} (d : ℕ) (packet : Packet) (s : SwitchState) (old new : Seen Own) (net now_net : NetState) (queue now_queue : List Event) (came : List (ℕ × List ℕ)) (refusal : Brought)
    → net.xid < 2 ^ 32 → IsMessage (PacketOut packet) → Waits Tells (asked_from d net.xid) (packet_steps d net.xid packet) old new [] came refusal
    → (now_net, now_queue) ≡ takes_all came (with_xid net (next_xid (next_xid net.xid)), queue)
    → Tells → Conforming new → switch_of d (state old) ≡ Some s → waits_of d (state old) ≡ [] → PacketInStep d packet s old new net now_net queue now_queue
packet_in_step d packet s old new net now_net queue now_queue came refusal lt is w taken told keeps here none =
    let xid = net.xid in
    let a = asked_from d xid in
    let ws = sent_by_message xid (PacketOut packet) s in
    let reply = reply_to xid in
    let steps = packet_steps d xid packet ++ (wait_steps a w.got ++ reply_got a ∷ []) in
    let mid = after_both d xid packet (state old) in
    let may = Conforming-rest old new steps w.hears.continues.given (w.hears.told told) keeps in
    let after : state new ≡ after_steps steps (state old) = state-append old new steps w.hears.continues.given (w.hears.told told) in
    let b = both_sent d xid packet s (state old) lt is here none in
    let news = packet_news xid packet s lt in
    let others = news_other d xid ws news in
    let same : w.got ≡ ws = others_came old.given.declared a ws w.got mid others b.waits may.1.1 w.hears.before_reply in
    let as_got : List ℕ → WorldStep = λ x. Acted (Got d x) in
    let rest : wait_steps a w.got ++ reply_got a ∷ [] ≡ gots d (ws ++ reply ∷ []) =
    ap (λ (g : List (List ℕ)). wait_steps a g ++ reply_got a ∷ []) same ∙ ap (λ (xs : List WorldStep). xs ++ reply_got a ∷ []) (others_steps a ws others) ∙ sym (map-append as_got ws (reply ∷ [])) in
    let end : state new ≡ after_steps (gots d (ws ++ reply ∷ [])) mid = after ∙ ap (λ (xs : List WorldStep). after_steps xs mid) rest in
    let came_is : came ≡ map (of_switch d) ws = w.hears.kept_is ∙ ap (kept_of a) same ∙ others_kept a ws others in
    let later = with_xid net (next_xid (next_xid xid)) in
    let knows : (now_net, now_queue) ≡ (later, queue ++ events_of d ws) = taken ∙ ap (λ (ms : List (ℕ × List ℕ)). takes_all ms (later, queue)) came_is ∙ all_taken d ws (later, queue) news in
    let still : (e : ℕ) → e ≢ d → SameSwitch e (state old) (after_steps steps (state old)) = λ e other. steps_other d e steps (state old) other (all_of d xid packet w.got) in
    record {
      moved = ap (switch_of d) end ∙ gots_switch d (ws ++ reply ∷ []) mid ∙ b.switch;
      waits = ap (waits_of d) end ∙ gots_empty d (ws ++ reply ∷ []) mid b.waits;
      others = λ e other. ap (switch_of e) after ∙ (still e other).0;
      others_wait = λ e other. ap (waits_of e) after ∙ (still e other).1;
      net_is = same_but_xid net now_net (next_xid (next_xid xid)) (ap net_of knows);
      queue_is = ap queue_of knows ∙ ap (λ (es : List Event). queue ++ es) (packet_events d xid packet s lt);
    }

-- ---- A fault

many_sent : {Own : Type 0} {Tells : Type 0} (d xid : ℕ) (packet : Packet) (s : SwitchState) (old new : Seen Own) → xid < 2 ^ 32 → IsMessage (PacketOut packet) → Tells → Conforming new → switch_of d (state old) ≡ Some s → waits_of d (state old) ≡ []
    → Floods Tells (asked_from d xid) (packet_steps d xid packet) old new → flood ≤ length (sent_by_message 0 (PacketOut packet) s)
many_sent d xid packet s old new lt is told keeps here none f =
    let a = asked_from d xid in
    let ws = sent_by_message xid (PacketOut packet) s in
    let may = Conforming-rest old new (packet_steps d xid packet ++ wait_steps a f.got) f.continues.given (f.told told) keeps in
    let b = both_sent d xid packet s (state old) lt is here none in
    let few = few_got old.given.declared a ws f.got (after_both d xid packet (state old)) (others_alone a ws (news_other d xid ws (packet_news xid packet s lt))) b.waits may.1.1 f.before_reply in
    omega (arith, f.many, few, packet_many xid packet s)

pub packet_plain : {Own : Type 0} {Tells : Type 0} (d xid : ℕ) (packet : Packet) (s : SwitchState) (old new : Seen Own) (fault : TxnFault) → xid < 2 ^ 32 → IsMessage (PacketOut packet) → Continues Tells old new → IsCause Tells d old new fault
    → IfFlooded Tells (asked_from d xid) (packet_steps d xid packet) old new fault → Tells → Conforming new → switch_of d (state old) ≡ Some s → waits_of d (state old) ≡ [] → IsPlain fault ⊎ IsFloodBy (d, packet) s fault
packet_plain d xid packet s old new (SwitchBroke of bytes) lt is later cause f told keeps here none = absurd (ends_read d bytes old new later.given (cause.2 told) keeps cause.1)
packet_plain d xid packet s old new (Diverged of sent got) lt is later cause f told keeps here none = absurd cause
packet_plain d xid packet s old new (Flooded of n) lt is later cause f told keeps here none = inr (cause.0, cause.1, many_sent d xid packet s old new lt is told keeps here none f)
packet_plain d xid packet s old new NoMemory lt is later cause f told keeps here none = inl tt
