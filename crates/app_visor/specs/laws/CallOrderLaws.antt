-- Laws of what turns and attempts to start leave of the switches, in a world that tells in order: calls of links are in place, the host goes
-- on to keep up with its switches, and what came of them are messages.
use Rattle.std.specs.Prelude.{◌≡◌, ℕ, true, List, [], ◌∷◌, map, IsSome, refl}
use Rattle.std.specs.Option.{is_some}
use Rattle.std.proofs.Common.{sym, ap, ◌∙◌, subst, inl, inr, true≢false}
use Rattle.std.proofs.lemmas.List.{append-nil}
use Rattle.of_types.specs.declared.journal.Act.{Act}
use Rattle.of_types.specs.declared.journal.Act.TheVariants.{Stim, Started, Gave, Gone, Took, Ended, Sent, Got, Lost}
use Rattle.lego_model.specs.Journal.{is_of}
use Rattle.outside.specs.Seen.{Seen, Continues}
use Rattle.outside.specs.State.{Link, State, state, after_step, is_joined, switch_in, switch_of, link_of}
use Rattle.outside.specs.laws.StateLaws.{state-append}
use Rattle.outside.specs.InOrder.{brings_message, BringMessages, MessagesSince, InOrder}
use Rattle.outside.specs.laws.InOrderLaws.{InOrder-before, messages-by, messages-none, messages-then}
use Rattle.lego_model.specs.declared.fault.TxnFault.{TxnFault}
use Rattle.net_txn.specs.Net.{NetState}
use Rattle.net_txn.specs.Views.{rows_at}
use Rattle.net_txn.specs.LinkSteps.{MakesNoStrayCall}
use Rattle.lego_model.specs.UndoFaults.{IsExpectedOnLink, AreExpectedOnLinks}
use Rattle.net_txn.specs.laws.LinkStrayLaws.{no_strays_by, no_strays_none, no_strays_then}
use Rattle.net_txn.specs.laws.ViewLaws.{viewed}
use Rattle.net_txn.specs.Abreast.{Abreast}
use Rattle.net_txn.specs.laws.AbreastLaws.{changes_abreast}
use Rattle.journal_laws.specs.Readings.{Calls}
use Rattle.journal_laws.specs.laws.CallLaws.{calls_own}
use Rattle.app_visor.specs.Talks.{step_of, Told}
use Rattle.app_visor.specs.Beats.{Beat, Talk, Asks, Chain, Halts, Stops}
use Rattle.app_visor.specs.laws.BeatLaws.{Chain-continues, halts_continue, Leads-continues}
use Rattle.app_visor.specs.CallsFor.{OwnSteps}
use Rattle.app_visor.specs.laws.TellingLaws.{beside_one, links_one, apart_called, told_state}

-- ---- One call for an application

step_place : (act : Act) (s : State) → IsExpectedOnLink (step_of act) s
step_place (Stim x) s = tt
step_place (Started app stands) s = tt
step_place (Gave app bytes) s = tt
step_place (Gone app bytes) s = tt
step_place (Took app what) s = tt
step_place (Ended app) s = tt
step_place (Sent d bytes) s = tt
step_place (Got d bytes) s = tt
step_place (Lost d) s = tt

step_brings : (app : ℕ) (act : Act) → is_of app act ≡ true → brings_message (step_of act) ≡ true
step_brings app (Stim x) is = refl
step_brings app (Started of stands) is = refl
step_brings app (Gave to bytes) is = refl
step_brings app (Gone to bytes) is = refl
step_brings app (Took from what) is = refl
step_brings app (Ended of) is = refl
step_brings app (Sent d bytes) is = refl
step_brings app (Got d bytes) is = absurd (true≢false (sym is))
step_brings app (Lost d) is = absurd (true≢false (sym is))

joined_by : (d : ℕ) (s t : State) → t.links ≡ s.links → is_joined d t ≡ is_joined d s
unfolding switch_of
joined_by d s t is = ap (λ (ls : List Link). is_some (switch_in (link_of d ls))) is

-- the same switches, and no item more that is due
abreast_by : {Own : Type 0} (old new : Seen Own) (net : NetState) → (state new).links ≡ (state old).links → (state new).due ≡ (state old).due → Abreast old net → Abreast new net
abreast_by old new net links due abreast = record {
  joined = λ d. joined_by d (state old) (state new) links ∙ abreast.joined d;
  none_due = due ∙ abreast.none_due;
}

told_abreast : {Own : Type 0} {Tells : Type 0} {old new : Seen Own} (app : ℕ) (act : Act) (net : NetState) → is_of app act ≡ true → Told Tells act old new → Tells → Abreast old net → Abreast new net
told_abreast {old = old} {new = new} app act net is told tells abreast =
    abreast_by old new net (ap (λ (s : State). s.links) (told_state told tells) ∙ links_one app act (state old) is)
    (ap (λ (s : State). s.due) (told_state told tells) ∙ (beside_one app act (state old) is).due) abreast

told_places : {Own : Type 0} {Tells : Type 0} {act : Act} {old new : Seen Own} → Told Tells act old new → Tells → MakesNoStrayCall old new
told_places {act = act} {old = old} {new = new} told tells = no_strays_by old new (step_of act ∷ []) (told.history tells) (step_place act (state old), tt)

told_messages : {Own : Type 0} {Tells : Type 0} {old new : Seen Own} (app : ℕ) (act : Act) → is_of app act ≡ true → Told Tells act old new → Tells → MessagesSince old new
told_messages {old = old} {new = new} app act is told tells = messages-by old new (step_of act ∷ []) (told.history tells) (step_brings app act is, tt)

-- ---- Calls for an application alone

acts_place : (acts : List Act) (s : State) → AreExpectedOnLinks (map step_of acts) s
acts_place [] s = tt
acts_place (act ∷ acts) s = (step_place act s, acts_place acts (after_step (step_of act) s))

acts_bring : (app : ℕ) (acts : List Act) → Calls app acts → BringMessages (map step_of acts)
acts_bring app [] all = tt
acts_bring app (act ∷ acts) all = (step_brings app act (calls_own app (act ∷ acts) all).0, acts_bring app acts all.1)

pub own_places : {Own : Type 0} {app : ℕ} {old new : Seen Own} → OwnSteps app old new → MakesNoStrayCall old new
own_places {old = old} {new = new} own = no_strays_by old new (map step_of own.acts) own.history (acts_place own.acts (state old))

pub own_messages : {Own : Type 0} {app : ℕ} {old new : Seen Own} → OwnSteps app old new → MessagesSince old new
own_messages {app = app} {old = old} {new = new} own = messages-by old new (map step_of own.acts) own.history (acts_bring app own.acts own.all)

pub own_abreast : {Own : Type 0} {Tells : Type 0} {app : ℕ} {old new : Seen Own} (net : NetState) → Continues Tells old new → OwnSteps app old new → Abreast old net → Abreast new net
own_abreast {app = app} {old = old} {new = new} net continues own abreast =
    let is = state-append old new (map step_of own.acts) continues.given own.history in
    let apart = apart_called app own.acts (state old) own.all in
    abreast_by old new net (ap (λ (s : State). s.links) is ∙ apart.links) (ap (λ (s : State). s.due) is ∙ apart.beside.due) abreast

-- ---- One message for a switch

-- a switch with a view is joined
pub abreast_joined : {Own : Type 0} {seen : Seen Own} {net : NetState} (d : ℕ) → Abreast seen net → IsSome (rows_at d net.views) → is_joined d (state seen) ≡ true
abreast_joined {net = net} d abreast there = abreast.joined d ∙ viewed d net.views ∙ there

-- ---- Beats

pub chain_abreast : {Own : Type 0} (Tells : Type 0) (app : ℕ) (trace : List (Beat Own)) (old new : Seen Own) (net now_net : NetState) → Chain Tells app trace old new net now_net → Tells → Abreast old net → Abreast new now_net
chain_abreast Tells app [] old new net now_net chain tells abreast = rw (chain.0, chain.1) abreast
chain_abreast Tells app (Talk act ∷ trace) old new net now_net chain tells abreast =
    chain_abreast Tells app trace chain.1.0 new net now_net chain.1.1.1 tells (told_abreast app act net chain.0 chain.1.1.0 tells abreast)
chain_abreast Tells app (Asks x ∷ trace) old new net now_net chain tells abreast =
    let here : Abreast x.before x.net = rw (chain.0.0, chain.0.1) abreast in
    chain_abreast Tells app trace x.after new x.now_net now_net chain.1.1 tells (changes_abreast chain.1.0.changes tells here)

pub chain_places : {Own : Type 0} (Tells : Type 0) (app : ℕ) (trace : List (Beat Own)) (old new : Seen Own) (net now_net : NetState) → Chain Tells app trace old new net now_net → Tells → InOrder new → Abreast old net → MakesNoStrayCall old new
chain_places Tells app [] old new net now_net chain tells order abreast = rw chain.0 (no_strays_none old)
chain_places Tells app (Talk act ∷ trace) old new net now_net chain tells order abreast =
    let next = chain.1.0 in
    no_strays_then old next new tells chain.1.1.0.continues (Chain-continues Tells app trace next new net now_net chain.1.1.1) (told_places chain.1.1.0 tells)
    (chain_places Tells app trace next new net now_net chain.1.1.1 tells order (told_abreast app act net chain.0 chain.1.1.0 tells abreast))
chain_places Tells app (Asks x ∷ trace) old new net now_net chain tells order abreast =
    let changes = chain.1.0.changes in
    let here : Abreast x.before x.net = rw (chain.0.0, chain.0.1) abreast in
    let later = Chain-continues Tells app trace x.after new x.now_net now_net chain.1.1 in
    subst (λ (s : Seen _). MakesNoStrayCall s new) chain.0.0
    (no_strays_then x.before x.after new tells changes.continues later (changes.no_strays tells (InOrder-before tells later order) (λ there. abreast_joined x.dpid here there))
    (chain_places Tells app trace x.after new x.now_net now_net chain.1.1 tells order (changes_abreast changes tells here)))

pub chain_messages : {Own : Type 0} (Tells : Type 0) (app : ℕ) (trace : List (Beat Own)) (old new : Seen Own) (net now_net : NetState) → Chain Tells app trace old new net now_net → Tells → MessagesSince old new
chain_messages Tells app [] old new net now_net chain tells = rw chain.0 (messages-none old)
chain_messages Tells app (Talk act ∷ trace) old new net now_net chain tells =
    let next = chain.1.0 in
    messages-then old next new tells chain.1.1.0.continues (Chain-continues Tells app trace next new net now_net chain.1.1.1) (told_messages app act chain.0 chain.1.1.0 tells)
    (chain_messages Tells app trace next new net now_net chain.1.1.1 tells)
chain_messages Tells app (Asks x ∷ trace) old new net now_net chain tells =
    let changes = chain.1.0.changes in
    subst (λ (s : Seen _). MessagesSince s new) chain.0.0
    (messages-then x.before x.after new tells changes.continues (Chain-continues Tells app trace x.after new x.now_net now_net chain.1.1) (changes.read refl tells)
    (chain_messages Tells app trace x.after new x.now_net now_net chain.1.1 tells))

-- ---- A turn that stopped

halts_abreast : {Own : Type 0} (Tells : Type 0) (old new : Seen Own) (net now_net : NetState) (fault : TxnFault) → Halts Tells old new net now_net fault → Tells → Abreast old net → Abreast new now_net
halts_abreast Tells old new net now_net fault (inl h) tells abreast =
    let is = state-append old new [] h.2.continues.given (h.2.history tells ∙ sym (append-nil old.history)) in
    rw h.1 (abreast_by old new net (ap (λ (s : State). s.links) is) (ap (λ (s : State). s.due) is) abreast)
halts_abreast Tells old new net now_net fault (inr h) tells abreast = changes_abreast h.1.1 tells abreast

halts_places : {Own : Type 0} (Tells : Type 0) (old new : Seen Own) (net now_net : NetState) (fault : TxnFault) → Halts Tells old new net now_net fault → Tells → InOrder new → Abreast old net → MakesNoStrayCall old new
halts_places Tells old new net now_net fault (inl h) tells order abreast = no_strays_by old new [] (h.2.history tells ∙ sym (append-nil old.history)) tt
halts_places Tells old new net now_net fault (inr h) tells order abreast = h.1.1.no_strays tells order (λ there. abreast_joined h.0 abreast there)

pub stops_abreast : {Own : Type 0} {Tells : Type 0} {app : ℕ} {old new : Seen Own} {net now_net : NetState} {fault : TxnFault} → Stops Tells app old new net now_net fault → Tells → Abreast old net → Abreast new now_net
stops_abreast {Tells = Tells} {app = app} {old = old} {new = new} {net = net} {now_net = now_net} {fault = fault} s tells abreast =
    halts_abreast Tells s.then_seen new s.then_net now_net fault s.halts tells (chain_abreast Tells app s.leads.trace old s.then_seen net s.then_net s.leads.chain tells abreast)

pub stops_places : {Own : Type 0} {Tells : Type 0} {app : ℕ} {old new : Seen Own} {net now_net : NetState} {fault : TxnFault} → Stops Tells app old new net now_net fault → Tells → InOrder new → Abreast old net → MakesNoStrayCall old new
stops_places {Tells = Tells} {app = app} {old = old} {new = new} {net = net} {now_net = now_net} {fault = fault} s tells order abreast =
    let later = halts_continue Tells s.then_seen new s.then_net now_net fault s.halts in
    let here = chain_abreast Tells app s.leads.trace old s.then_seen net s.then_net s.leads.chain tells abreast in
    no_strays_then old s.then_seen new tells (Leads-continues s.leads) later
    (chain_places Tells app s.leads.trace old s.then_seen net s.then_net s.leads.chain tells (InOrder-before tells later order) abreast)
    (halts_places Tells s.then_seen new s.then_net now_net fault s.halts tells order here)
