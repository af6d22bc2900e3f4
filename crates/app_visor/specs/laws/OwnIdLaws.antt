-- The transaction ids of the messages of a turn ascend.
use Rattle.std.specs.Prelude.{◌≡◌, ℕ, true, List, [], ◌∷◌, ◌++◌, map, refl}
use Rattle.std.proofs.Common.{sym, ap, ◌∙◌, subst, inl, inr, arith}
use Rattle.std.proofs.lemmas.List.{append-nil}
use Rattle.of_types.specs.declared.journal.Act.{Act}
use Rattle.of_types.specs.declared.journal.Act.TheVariants.{Stim, Started, Gave, Gone, Took, Ended, Sent, Got, Lost}
use Rattle.outside.specs.declared.step.WorldStep.{WorldStep}
use Rattle.outside.specs.Seen.{Seen, journal}
use Rattle.lego_model.specs.declared.fault.TxnFault.{TxnFault}
use Rattle.lego_model.specs.Journal.{is_of}
use Rattle.lego_model.specs.OwnIds.{own_ids, AscendWithin, IsShortRun, OwnIdsSoFar}
use Rattle.net_txn.specs.Net.{NetState}
use Rattle.net_txn.specs.laws.OwnIdLaws.{own_ids_two, so_far_then, so_far_none, short_before}
use Rattle.journal_laws.specs.Readings.{is_call, Calls}
use Rattle.app_visor.specs.CallsFor.{OwnSteps}
use Rattle.app_visor.specs.Talks.{step_of}
use Rattle.app_visor.specs.Beats.{Beat, Talk, Asks, Chain, Halts, Stops}
use Rattle.app_visor.specs.laws.BeatLaws.{Chain-continues, halts_continue}

-- ---- Calls for an application send no message

own_none : (app : ℕ) (act : Act) → is_of app act ≡ true → own_ids (journal (step_of act ∷ [])) ≡ []
unfolding own_ids journal
own_none app (Stim x) is = refl
own_none app (Started of stands) is = refl
own_none app (Gave of bytes) is = refl
own_none app (Gone of bytes) is = refl
own_none app (Took of what) is = refl
own_none app (Ended of) is = refl
own_none app (Sent d bytes) is = absurd cc
own_none app (Got d bytes) is = refl
own_none app (Lost d) is = refl

call_none : (app : ℕ) (act : Act) → is_call app act ≡ true → own_ids (journal (step_of act ∷ [])) ≡ []
unfolding own_ids journal
call_none app (Stim x) is = refl
call_none app (Started of stands) is = refl
call_none app (Gave of bytes) is = refl
call_none app (Gone of bytes) is = refl
call_none app (Took of what) is = refl
call_none app (Ended of) is = refl
call_none app (Sent d bytes) is = absurd cc
call_none app (Got d bytes) is = refl
call_none app (Lost d) is = refl

calls_none : (app : ℕ) (acts : List Act) → Calls app acts → own_ids (journal (map step_of acts)) ≡ []
unfolding own_ids journal
calls_none app [] all = refl
calls_none app (act ∷ acts) all = own_ids_two (step_of act ∷ []) (map step_of acts) ∙ ap (λ (ids : List ℕ). ids ++ own_ids (journal (map step_of acts))) (call_none app act all.0) ∙ calls_none app acts all.1

-- steps that send none keep them
pub none_sent_ids : {Own : Type 0} {more : ℕ} (old new : Seen Own) (steps : List WorldStep) (xid : ℕ) → new.history ≡ old.history ++ steps → own_ids (journal steps) ≡ [] → OwnIdsSoFar more old xid → OwnIdsSoFar more new xid
none_sent_ids {more = more} old new steps xid history none before =
    so_far_then more more old new steps xid xid history (subst (λ (ids : List ℕ). AscendWithin xid ids xid) (sym none) (omega arith)) (omega arith) before

pub own_steps_ids : {Own : Type 0} {app : ℕ} {old new : Seen Own} (more xid : ℕ) → OwnSteps app old new → OwnIdsSoFar more old xid → OwnIdsSoFar more new xid
own_steps_ids {app = app} {old = old} {new = new} more xid own before = none_sent_ids old new (map step_of own.acts) xid own.history (calls_none app own.acts own.all) before

-- ---- Beats

pub chain_ids : {Own : Type 0} (Tells : Type 0) (app : ℕ) (xs : List (Beat Own)) (old new : Seen Own) (net now_net : NetState) → Chain Tells app xs old new net now_net → Tells → IsShortRun new → OwnIdsSoFar 0 old net.xid → OwnIdsSoFar 0 new now_net.xid
chain_ids Tells app [] old new net now_net chain told short before = rw (chain.0, chain.1) before
chain_ids Tells app (Talk act ∷ xs) old new net now_net chain told short before =
    let next = chain.1.0 in
    let said = chain.1.1.0 in
    chain_ids Tells app xs next new net now_net chain.1.1.1 told short (none_sent_ids old next (step_of act ∷ []) net.xid (said.history told) (own_none app act chain.0) before)
chain_ids Tells app (Asks x ∷ xs) old new net now_net chain told short before =
    let short_here = short_before told (Chain-continues Tells app xs x.after new x.now_net now_net chain.1.1) short in
    let here : OwnIdsSoFar 0 x.before x.net.xid = rw (chain.0.0, chain.0.1) before in
    chain_ids Tells app xs x.after new x.now_net now_net chain.1.1 told short (chain.1.0.changes.ids told short_here here)

-- ---- A turn that stopped

halts_ids : {Own : Type 0} (Tells : Type 0) (old new : Seen Own) (net now_net : NetState) (fault : TxnFault) → Halts Tells old new net now_net fault → Tells → IsShortRun new → OwnIdsSoFar 0 old net.xid → OwnIdsSoFar 2 new now_net.xid
unfolding own_ids journal
halts_ids Tells old new net now_net fault (inl h) told short before =
    let same : OwnIdsSoFar 0 new net.xid = none_sent_ids old new [] net.xid (h.2.history told ∙ sym (append-nil old.history)) refl before in
    rw h.1 (so_far_none 0 2 new net.xid (omega arith) same)
halts_ids Tells old new net now_net fault (inr h) told short before = h.1.1.ids told short before

pub stops_ids : {Own : Type 0} {Tells : Type 0} {app : ℕ} {old new : Seen Own} {net now_net : NetState} {fault : TxnFault} → Stops Tells app old new net now_net fault → Tells → IsShortRun new → OwnIdsSoFar 0 old net.xid → OwnIdsSoFar 2 new now_net.xid
stops_ids {Tells = Tells} {app = app} {old = old} {new = new} {net = net} {now_net = now_net} {fault = fault} s told short before =
    let later = halts_continue Tells s.then_seen new s.then_net now_net fault s.halts in
    halts_ids Tells s.then_seen new s.then_net now_net fault s.halts told short
    (chain_ids Tells app s.leads.trace old s.then_seen net s.then_net s.leads.chain told (short_before told later short) before)
