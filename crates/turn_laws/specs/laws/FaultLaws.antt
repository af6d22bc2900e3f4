-- What follows of a turn that ends in a fault, or whose undo or commit does, in a world that tells in order: each switch has its entries
-- again, unless it failed in the undo, or was lost; or the turn was whole, and its changes stay.
use Rattle.std.proofs.Common.{◌≡◌, ◌⊎◌, ℕ, Bool, true, List, [], ◌∷◌, ◌++◌, length, Result, Err, sym, ap, ◌∙◌, subst, inl, inr}
use Rattle.std.proofs.lemmas.List.{append-nil, append_assoc, append_cancel_left}
use Rattle.std.specs.Option.{option_map}
use Rattle.flow_table.specs.View.{TableView}
use Rattle.app_frames.specs.declared.frame.Event.{Event}
use Rattle.outside.specs.declared.step.WorldStep.{WorldStep}
use Rattle.outside.specs.Seen.{Seen, Continues, Longer, journal}
use Rattle.outside.specs.State.{State, state, switch_of}
use Rattle.outside.specs.laws.StateLaws.{state-append}
use Rattle.outside.specs.Conforming.{Conforming}
use Rattle.outside.specs.InOrder.{InOrder}
use Rattle.outside.specs.laws.InOrderLaws.{InOrder-before, Conforming-on}
use Rattle.lego_model.specs.declared.fault.TxnFault.{TxnFault}
use Rattle.lego_model.specs.declared.fault.TxnFault.TheVariants.{NoMemory}
use Rattle.lego_model.specs.Journal.{released, give_act}
use Rattle.lego_model.specs.Packets.{Held}
use Rattle.net_txn.specs.Net.{NetState}
use Rattle.net_txn.specs.Undos.{keys_of, AreJoined, Undoes}
use Rattle.net_txn.specs.Releases.{committed, StopsRelease, Commits}
use Rattle.app_visor.specs.declared.state.TurnEnd.{TurnEnd}
use Rattle.app_visor.specs.Beats.{Beat, Talk, Chain, Leads, Halts, Stops}
use Rattle.app_visor.specs.laws.BeatLaws.{Chain-continues, Leads-continues, halts_continue, Stops-continues}
use Rattle.app_visor.specs.laws.CallOrderLaws.{chain_messages}
use Rattle.app_visor.specs.Turns.{Turns}
use Rattle.switch_laws.specs.Since.{Ready, Goes, logged_since, JoinedSince, TablesSince}
use Rattle.lego_model.specs.AfterFault.{WasLost, UndoneButFailed, TurnDone, TurnKept, after_packets, TurnReleasing}
use Rattle.lego_model.specs.Controller.{leavers}
use Rattle.switch_laws.specs.Released.{MovesOrLoses}
use Rattle.switch_laws.specs.laws.SinceLaws.{begun}
use Rattle.switch_laws.specs.laws.FaultLaws.{lost-still, tables-since, fault-since, undone-but-failed}
use Rattle.switch_laws.specs.laws.LossLaws.{ready-joined}
use Rattle.switch_laws.specs.laws.ReleaseLaws.{release-moves, moves-or, moves-then}
use Rattle.run_course.specs.TurnsLeft.{StaysWhole, IsReleasing}
use Rattle.turn_laws.specs.laws.ChainLaws.{chain-shown}

-- ---- The beats before

-- how a transaction goes, with the switches that were lost in it
record GoesLosing {Own : Type 0} (old mid : Seen Own) (net mid_net : NetState) : Type 0 where
  lost : List ℕ
  goes : Goes (length net.log) lost old mid net mid_net

chain-goes : {Own : Type 0} (Tells : Type 0) (app : ℕ) (trace : List (Beat Own)) (old mid : Seen Own) (net mid_net : NetState) → Tells → Conforming old → InOrder mid → Ready old net → Chain Tells app trace old mid net mid_net
    → GoesLosing old mid net mid_net
chain-goes Tells app trace old mid net mid_net told keeps order ready chain =
    let first : Goes (length net.log) [] old old net net = record { since = begun old net; ready = ready } in
    let on = Chain-continues Tells app trace old mid net mid_net chain in
    let kept = Conforming-on old mid told on keeps order (chain_messages Tells app trace old mid net mid_net chain told) in
    let leads = chain-shown Tells app (λ places. true) (length net.log) [] old net trace old mid net mid_net told kept chain first in
    record { lost = leavers leads.left; goes = leads.goes }

-- ---- Where it stopped

-- memory was wanting, and nothing was done
wanting-since : {Own : Type 0} (start : ℕ) (first old new : Seen Own) (net : NetState) → Longer old.history new.history → state new ≡ state old → TablesSince start first old net → TablesSince start first new net
wanting-since start first old new net longer same since = record {
  joined = λ d s is. elim (since.joined d s is) [
    | inl here ↦ inl (here.0, subst (λ (t : State). JoinedSince (keys_of d (logged_since start net)) s (switch_of d t)) (sym same) here.1)
    | inr gone ↦ inr (gone.0, lost-still first old new d gone.1 longer (ap (switch_of d) same ∙ gone.1.out))
  ];
  out = λ d is. let o = since.out d is in (o.0, ap (switch_of d) same ∙ o.1);
}

halt-since : {Own : Type 0} (Tells : Type 0) (start : ℕ) (lost : List ℕ) (first old new : Seen Own) (net0 net now_net : NetState) (fault : TxnFault) → Tells → Continues Tells first old → Goes start lost first old net0 net → Halts Tells old new net now_net fault
    → TablesSince start first new now_net
halt-since Tells start lost first old new net0 net now_net fault told later goes (inl wants) =
    let same : state new ≡ state old = state-append old new [] wants.2.continues.given (wants.2.history told ∙ sym (append-nil old.history)) in
    subst (λ (n : NetState). TablesSince start first new n) (sym wants.1)
    (wanting-since start first old new net (wants.2.continues.told told) same (tables-since Tells start lost first old net0 net told later goes))
halt-since Tells start lost first old new net0 net now_net fault told later goes (inr failed) =
    fault-since Tells failed.0 failed.1.0 start lost first old new net0 net now_net fault told later failed.1.1 goes

stop-since : {Own : Type 0} (Tells : Type 0) (app : ℕ) (old new : Seen Own) (net now_net : NetState) (fault : TxnFault) → Tells → Conforming old → InOrder new → Ready old net → Stops Tells app old new net now_net fault
    → TablesSince (length net.log) old new now_net
stop-since Tells app old new net now_net fault told keeps order ready stops =
    let before = InOrder-before told (halts_continue Tells stops.then_seen new stops.then_net now_net fault stops.halts) order in
    let g = chain-goes Tells app stops.leads.trace old stops.then_seen net stops.then_net told keeps before ready stops.leads.chain in
    halt-since Tells (length net.log) g.lost old stops.then_seen new net stops.then_net now_net fault told (Chain-continues Tells app stops.leads.trace old stops.then_seen net stops.then_net stops.leads.chain) g.goes stops.halts

-- ---- The undo behind it

-- A turn that stopped, and was undone, however the undo ended.
pub stop-undone : {Own : Type 0} (Tells : Type 0) (app : ℕ) (old mid new : Seen Own) (net mid_net now_net : NetState) (fault : TxnFault) (result : Result (Unit {0}) TxnFault) → Tells → Conforming old → InOrder new → Ready old net
    → Stops Tells app old mid net mid_net fault → Undoes Tells (length net.log) mid new mid_net now_net result → UndoneButFailed Tells old new
stop-undone Tells app old mid new net mid_net now_net fault result told keeps order ready stops undoes =
    let since = stop-since Tells app old mid net mid_net fault told keeps (InOrder-before told undoes.continues order) ready stops in
    undone-but-failed Tells (length net.log) old mid new mid_net now_net result told (Stops-continues stops) since undoes

-- Beats that led somewhere, and were undone, however the undo ended.
pub leads-undone : {Own : Type 0} {Tells : Type 0} {app : ℕ} {old mid : Seen Own} {net mid_net : NetState} (new : Seen Own) (now_net : NetState) (result : Result (Unit {0}) TxnFault) → Tells → Conforming old → InOrder new → Ready old net
    → Leads Tells app old mid net mid_net → Undoes Tells (length net.log) mid new mid_net now_net result → UndoneButFailed Tells old new
leads-undone {Tells = Tells} {app = app} {old = old} {mid = mid} {net = net} {mid_net = mid_net} new now_net result told keeps order ready leads undoes =
    let g = chain-goes Tells app leads.trace old mid net mid_net told keeps (InOrder-before told undoes.continues order) ready leads.chain in
    let later = Leads-continues leads in
    undone-but-failed Tells (length net.log) old mid new mid_net now_net result told later (tables-since Tells (length net.log) g.lost old mid net mid_net told later g.goes) undoes

-- the beats of a turn
pub turn-leads : {Own : Type 0} {Tells : Type 0} {accepts : List TableView → Bool} {app budget : ℕ} {rest frame unread : List ℕ} {old new : Seen Own} {net now_net : NetState} {end : TurnEnd}
    → Turns Tells accepts app budget rest frame old new net now_net end unread → Leads Tells app old new net now_net
turn-leads {app = app} {frame = frame} t = record { trace = Talk (give_act t.given app frame) ∷ t.trace; chain = t.chain }

-- A turn that ended, and was undone, however the undo ended.
pub turn-undone : {Own : Type 0} (Tells : Type 0) (accepts : List TableView → Bool) (app budget : ℕ) (rest frame : List ℕ) (old mid new : Seen Own) (net mid_net now_net : NetState) (end : TurnEnd) (unread : List ℕ) (result : Result (Unit {0}) TxnFault) → Tells
    → Conforming old → InOrder new → Ready old net → Turns Tells accepts app budget rest frame old mid net mid_net end unread → Undoes Tells (length net.log) mid new mid_net now_net result → UndoneButFailed Tells old new
turn-undone Tells accepts app budget rest frame old mid new net mid_net now_net end unread result told keeps order ready t undoes = leads-undone new now_net result told keeps order ready (turn-leads t) undoes

-- ---- The release of what it held

-- behind beats each switch that has a view is joined
pub leads-joined : {Own : Type 0} {Tells : Type 0} {app : ℕ} {old mid : Seen Own} {net mid_net : NetState} → Tells → Conforming old → InOrder mid → Ready old net → Leads Tells app old mid net mid_net → AreJoined mid_net.views (state mid)
leads-joined {Tells = Tells} {app = app} {old = old} {mid = mid} {net = net} {mid_net = mid_net} told keeps order ready leads =
    let g = chain-goes Tells app leads.trace old mid net mid_net told keeps order ready leads.chain in
    ready-joined mid mid_net g.goes.ready

pub turn-joined : {Own : Type 0} (Tells : Type 0) (accepts : List TableView → Bool) (app budget : ℕ) (rest frame : List ℕ) (old mid : Seen Own) (net mid_net : NetState) (end : TurnEnd) (unread : List ℕ) → Tells → Conforming old → InOrder mid → Ready old net
    → Turns Tells accepts app budget rest frame old mid net mid_net end unread → AreJoined mid_net.views (state mid)
turn-joined Tells accepts app budget rest frame old mid net mid_net end unread told keeps order ready t = leads-joined told keeps order ready (turn-leads t)

module _ {Own : Type 0} (Whole : Seen Own → Type 0) (mid new : Seen Own) where
  moved-left : (packets : List Held) (steps : List WorldStep) → new.given ≡ mid.given → Whole mid → new.history ≡ mid.history ++ steps → released (journal steps) ≡ packets
      → ((d : ℕ) → (switch_of d (state new) ≡ option_map (after_packets d packets) (switch_of d (state mid))) ⊎ WasLost d mid new) → ((new.history ≡ mid.history) × StaysWhole Whole new) ⊎ IsReleasing Whole new
  moved-left packets [] given done history so moved =
      inl (history ∙ append-nil mid.history, record { mid = mid; given = given; done = done; later = ([], history); stay = λ d. ap (λ (s : State). switch_of d s) (state-append mid new [] given history) })
  moved-left packets (first ∷ steps) given done history so moved =
      inr (record {
        mid = mid;
        given = given;
        done = done;
        first = first;
        steps = steps;
        history = history;
        moved = λ d. elim (moved d) [
          | inl same ↦ inl (same ∙ ap (λ (ps : List Held). option_map (after_packets d ps) (switch_of d (state mid))) (sym so))
          | inr lost ↦ inr lost
        ];
      })

-- What was whole, and whose packets were being released: nothing was done since, or the release was begun.
pub whole-moves : {Own : Type 0} (Whole : Seen Own → Type 0) (mid new : Seen Own) (packets : List Held) → new.given ≡ mid.given → Whole mid → MovesOrLoses packets mid new → ((new.history ≡ mid.history) × StaysWhole Whole new) ⊎ IsReleasing Whole new
whole-moves Whole mid new packets given done moves = moved-left Whole mid new packets moves.steps given done moves.history moves.released_is moves.moved

-- so it is with one turn
kept-turn : {Own : Type 0} (app budget : ℕ) (old new : Seen Own) → StaysWhole (TurnDone app budget old) new → TurnKept app budget old new
kept-turn app budget old new k = record { mid = k.mid; given = k.given; done = k.done; later = k.later; stay = k.stay }

releasing-turn : {Own : Type 0} (app budget : ℕ) (old new : Seen Own) → IsReleasing (TurnDone app budget old) new → TurnReleasing app budget old new
releasing-turn app budget old new r = record { mid = r.mid; given = r.given; done = r.done; first = r.first; steps = r.steps; history = r.history; moved = r.moved }

-- A whole turn whose packets were being released: nothing was done since, or the release was begun.
pub moves-left : {Own : Type 0} (app budget : ℕ) (old mid new : Seen Own) (packets : List Held) → new.given ≡ mid.given → TurnDone app budget old mid → MovesOrLoses packets mid new → ((new.history ≡ mid.history) × TurnKept app budget old new) ⊎ TurnReleasing app budget old new
moves-left app budget old mid new packets given done moves = elim (whole-moves (TurnDone app budget old) mid new packets given done moves) [
  | inl kept ↦ inl (kept.0, kept-turn app budget old new kept.1)
  | inr releasing ↦ inr (releasing-turn app budget old new releasing)
]

nothing-behind : {X : Type 0} (xs ys : List X) → xs ++ ys ≡ [] → ys ≡ []
nothing-behind [] ys none = none
nothing-behind (x ∷ xs) ys none = absurd cc

-- where nothing was done in both parts, nothing was done in the second
still-there : {Own : Type 0} (a b c : Seen Own) (first second : List WorldStep) → b.history ≡ a.history ++ first → c.history ≡ b.history ++ second → c.history ≡ a.history → c.history ≡ b.history
still-there a b c first second before behind same =
    let both : a.history ++ (first ++ second) ≡ a.history ++ [] =
    sym (append_assoc a.history first second) ∙ ap (λ (h : List WorldStep). h ++ second) (sym before) ∙ sym behind ∙ same ∙ sym (append-nil a.history) in
    let none = nothing-behind first second (append_cancel_left a.history (first ++ second) [] both) in
    behind ∙ ap (λ (steps : List WorldStep). b.history ++ steps) none ∙ append-nil b.history

stop-left : {Own : Type 0} (Tells : Type 0) (Whole : Seen Own → Type 0) (start : ℕ) (mid new : Seen Own) (mid_net : NetState) (queue : List Event) (fault : TxnFault) → Tells → AreJoined mid_net.views (state mid) → new.given ≡ mid.given → Whole mid
    → StopsRelease Tells start mid new mid_net queue fault → ((fault ≡ NoMemory) × StaysWhole Whole new) ⊎ IsReleasing Whole new
stop-left Tells Whole start mid new mid_net queue fault told joined given done stops =
    let front = release-moves Tells stops.front stops.sent mid stops.mid (committed start mid_net) stops.mid_net (queue ++ mid_net.held.notices) stops.mid_queue told joined stops.before in
    let broken = stops.breaks.moves told in
    elim (whole-moves Whole mid new _ given done (moves-then mid stops.mid new _ _ front (moves-or _ stops.mid new broken))) [
      | inl kept ↦ inl (stops.breaks.begun told (still-there mid stops.mid new front.steps broken.steps front.history broken.history kept.0), kept.1)
      | inr releasing ↦ inr releasing
    ]

-- Beats that led to something whole, whose commit ended in a fault.
pub leads-commit : {Own : Type 0} {Tells : Type 0} {app : ℕ} {old mid : Seen Own} {net mid_net : NetState} (Whole : Seen Own → Type 0) (new : Seen Own) (now_net : NetState) (queue now_queue : List Event) (fault : TxnFault) → Tells
    → Conforming old → InOrder new → Ready old net → Leads Tells app old mid net mid_net → Whole mid → Commits Tells (length net.log) mid new mid_net now_net queue now_queue (Err fault)
    → UndoneButFailed Tells old new ⊎ ((fault ≡ NoMemory) × StaysWhole Whole new) ⊎ IsReleasing Whole new
leads-commit {Tells = Tells} {old = old} {mid = mid} {net = net} {mid_net = mid_net} Whole new now_net queue now_queue fault told keeps order ready leads done commits = elim commits.ended [
  | inl u ↦ inl (leads-undone new now_net u.result told keeps order ready leads u.undoes)
  | inr stops ↦
      (let joined = leads-joined told keeps (InOrder-before told commits.continues order) ready leads in
      inr (stop-left Tells Whole (length net.log) mid new mid_net queue fault told joined commits.continues.given done stops))
]

-- A whole turn whose commit ended in a fault.
pub commit-left : {Own : Type 0} (Tells : Type 0) (accepts : List TableView → Bool) (app budget : ℕ) (rest frame : List ℕ) (old mid new : Seen Own) (net mid_net now_net : NetState) (end : TurnEnd) (unread : List ℕ) (queue now_queue : List Event) (fault : TxnFault) → Tells
    → Conforming old → InOrder new → Ready old net → Turns Tells accepts app budget rest frame old mid net mid_net end unread → TurnDone app budget old mid → Commits Tells (length net.log) mid new mid_net now_net queue now_queue (Err fault)
    → UndoneButFailed Tells old new ⊎ ((fault ≡ NoMemory) × TurnKept app budget old new) ⊎ TurnReleasing app budget old new
commit-left Tells accepts app budget rest frame old mid new net mid_net now_net end unread queue now_queue fault told keeps order ready t done commits = elim (leads-commit (TurnDone app budget old) new now_net queue now_queue fault told keeps order ready (turn-leads t) done commits) [
  | inl undone ↦ inl undone
  | inr (inl kept) ↦ inr (inl (kept.0, kept-turn app budget old new kept.1))
  | inr (inr releasing) ↦ inr (inr (releasing-turn app budget old new releasing))
]
