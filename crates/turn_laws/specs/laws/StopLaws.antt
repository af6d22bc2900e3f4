-- What follows of a turn that stops in a world that keeps its word, where all was ready, or of the release behind one: memory was wanting, or
-- a packet made its switch send too many messages.
use Rattle.std.proofs.Common.{◌≡◌, ℕ, ◌^◌, ◌<◌, Bool, true, List, [], length, Option, Some, None, Ok, Err, refl, sym, subst, inl, inr}
use Rattle.flow_table.specs.View.{TableView}
use Rattle.app_frames.specs.declared.frame.Answer.{Answer}
use Rattle.app_frames.specs.declared.frame.Answer.TheVariants.{Unknown}
use Rattle.app_frames.specs.declared.frame.Event.{Event}
use Rattle.outside.specs.Seen.{Seen, Longer}
use Rattle.outside.specs.laws.SeenLaws.{Longer-trans}
use Rattle.outside.specs.laws.StateLaws.{Conforming-before}
use Rattle.outside.specs.Conforming.{Conforming}
use Rattle.lego_model.specs.declared.fault.TxnFault.{TxnFault}
use Rattle.lego_model.specs.declared.fault.TxnFault.TheVariants.{SwitchBroke, Diverged, Flooded, NoMemory}
use Rattle.lego_model.specs.SwitchFaults.{FloodedByPacket}
use Rattle.net_txn.specs.Net.{NetState}
use Rattle.net_txn.specs.Answering.{known_rows}
use Rattle.net_txn.specs.Causes.{IsPlain}
use Rattle.net_txn.specs.Changes.{answer_of_host, ChangesJoined, Changes}
use Rattle.net_txn.specs.Releases.{Commits}
use Rattle.app_visor.specs.declared.state.TurnEnd.{TurnEnd}
use Rattle.app_visor.specs.Beats.{Leads, Halts, Stops}
use Rattle.app_visor.specs.laws.BeatLaws.{Leads-continues, halts_continue}
use Rattle.app_visor.specs.Turns.{Turns}
use Rattle.of_stats.specs.Flows.{AreRows}
use Rattle.flow_table.specs.Switch.{SwitchState}
use Rattle.outside.specs.State.{state, switch_of}
use Rattle.net_txn.specs.AskSteps.{own_rows, IsAskFault}
use Rattle.switch_laws.specs.Sound.{Sound}
use Rattle.switch_laws.specs.laws.AskedLaws.{asked, passed-viewed}
use Rattle.switch_laws.specs.laws.ClockLaws.{switch-in_time, moment-within}
use Rattle.switch_laws.specs.laws.LossLaws.{ready-joined, joined-stays}
use Rattle.switch_laws.specs.laws.SoundLaws.{rows-are}
use Rattle.switch_laws.specs.Released.{StopsFor}
use Rattle.switch_laws.specs.Since.{Ready, Goes}
use Rattle.switch_laws.specs.laws.SinceLaws.{begun}
use Rattle.switch_laws.specs.laws.ReleaseLaws.{release-plain}
use Rattle.turn_laws.specs.laws.ChainLaws.{chain-shown}
use Rattle.turn_laws.specs.laws.FaultLaws.{turn-leads}

no_memory : (fault : TxnFault) → fault ≡ NoMemory → IsPlain fault
no_memory fault is = subst IsPlain (sym is) tt

-- where its own rows have a spelling
asks-plain : (d : ℕ) (s : SwitchState) (fault : TxnFault) → AreRows (own_rows s) → IsAskFault d s fault → IsPlain fault
asks-plain d s (SwitchBroke of bytes) fits asks = asks.1 fits
asks-plain d s (Diverged of sent got) fits asks = asks
asks-plain d s (Flooded of n) fits asks = asks
asks-plain d s NoMemory fits asks = tt

-- one message whose switch was not lost, by whether the host had an answer
message-plain : {Own : Type 0} (Tells : Type 0) (d : ℕ) (bytes : List ℕ) (old new : Seen Own) (net now_net : NetState) (fault : TxnFault) → Tells → Conforming old → Conforming new → Ready old net → Sound (state old) → ChangesJoined Tells d bytes old new net now_net (Err fault)
    → (o : Option Answer) → answer_of_host d bytes net ≡ o → IsPlain fault
message-plain Tells d bytes old new net now_net fault told before keeps ready sound changes (Some a) host = no_memory fault (changes.by_host a host).fault
message-plain Tells d bytes old new net now_net fault told before keeps ready sound changes None host = elim (asked (known_rows d net.views) bytes host) [
  | inl read ↦ changes.in_step read.xid read.change told host read.read keeps (ready.waits d) (ready.agrees d)
  | inr query ↦
      let s = joined-stays (switch_of d (state old)) (ready-joined old net ready d (passed-viewed d bytes net host)) in
      let time = switch-in_time old before d s.switch s.stands in
      let small = subst (λ (n : ℕ). n < 2 ^ 32) (sym time.moment_is) (moment-within old before) in
      asks-plain d s.switch fault (rows-are s.switch (sound.entries d s.switch s.stands) small) ((changes.by_statistics query.xid query.query host query.read).in_step s.switch told keeps s.stands (ready.waits d))
]

change-plain : {Own : Type 0} (Tells : Type 0) (d : ℕ) (bytes : List ℕ) (old new : Seen Own) (net now_net : NetState) (fault : TxnFault) → Tells → Conforming new → Ready old net → Sound (state old) → Changes Tells d bytes old new net now_net (Err fault) → IsPlain fault
change-plain Tells d bytes old new net now_net fault told keeps ready sound changes = elim changes.answered [
  | inl joined ↦ message-plain Tells d bytes old new net now_net fault told (Conforming-before told changes.continues keeps) keeps ready sound joined (answer_of_host d bytes net) refl
  | inr gone ↦ absurd (no_answer Unknown gone.1)
]
  where
    no_answer : (a : Answer) → Err fault ≡ Ok a → ⊥
    no_answer a h = cc

halt-plain : {Own : Type 0} (Tells : Type 0) (old new : Seen Own) (net now_net : NetState) (fault : TxnFault) → Tells → Conforming new → Ready old net → Sound (state old) → Halts Tells old new net now_net fault → IsPlain fault
halt-plain Tells old new net now_net fault told keeps ready sound (inl wants) = no_memory fault wants.0
halt-plain Tells old new net now_net fault told keeps ready sound (inr failed) = change-plain Tells failed.0 failed.1.0 old new net now_net fault told keeps ready sound failed.1.1

pub stop-plain : {Own : Type 0} (Tells : Type 0) (app : ℕ) (old new : Seen Own) (net now_net : NetState) (fault : TxnFault) → Tells → Conforming new → Ready old net → (stops : Stops Tells app old new net now_net fault) → Sound (state stops.then_seen) → IsPlain fault
stop-plain Tells app old new net now_net fault told keeps ready stops sound =
    let first : Goes (length net.log) [] old old net net = record { since = begun old net; ready = ready } in
    let kept = Conforming-before told (halts_continue Tells stops.then_seen new stops.then_net now_net fault stops.halts) keeps in
    let leads = chain-shown Tells app (λ places. true) (length net.log) [] old net stops.leads.trace old stops.then_seen net stops.then_net told kept stops.leads.chain first in
    halt-plain Tells stops.then_seen new stops.then_net now_net fault told keeps leads.goes.ready sound stops.halts

-- Beats leave all ready.
pub leads-ready : {Own : Type 0} {Tells : Type 0} {app : ℕ} {old new : Seen Own} {net now_net : NetState} → Tells → Conforming new → Ready old net → Leads Tells app old new net now_net → Ready new now_net
leads-ready {Tells = Tells} {app = app} {old = old} {new = new} {net = net} {now_net = now_net} told keeps ready leads =
    let first : Goes (length net.log) [] old old net net = record { since = begun old net; ready = ready } in
    (chain-shown Tells app (λ places. true) (length net.log) [] old net leads.trace old new net now_net told keeps leads.chain first).goes.ready

-- ---- The release behind it

-- a packet did so since an earlier point, too
pub flooded-since : {Own : Type 0} {d : ℕ} (old mid new : Seen Own) → Longer old.history mid.history → FloodedByPacket d mid new → FloodedByPacket d old new
flooded-since old mid new longer f = record {
  mid = f.mid;
  given = f.given;
  before = Longer-trans old.history mid.history f.mid.history longer f.before;
  packet = f.packet;
  switch = f.switch;
  stands = f.stands;
  many = f.many;
  xid = f.xid;
  sent = f.sent;
}

pub leads-commit-plain : {Own : Type 0} {Tells : Type 0} {app : ℕ} {old mid : Seen Own} {net mid_net : NetState} (new : Seen Own) (now_net : NetState) (queue now_queue : List Event) (fault : TxnFault) → Tells
    → Conforming new → Ready old net → Leads Tells app old mid net mid_net → Commits Tells (length net.log) mid new mid_net now_net queue now_queue (Err fault) → StopsFor old new fault
leads-commit-plain {Tells = Tells} {old = old} {mid = mid} {net = net} {mid_net = mid_net} new now_net queue now_queue fault told keeps ready leads commits = elim commits.ended [
  | inl u ↦ inl (no_memory fault u.fault_is)
  | inr stops ↦
      (let there = leads-ready told (Conforming-before told commits.continues keeps) ready leads in
      elim (release-plain Tells (length net.log) mid new mid_net queue fault told keeps commits.continues stops there) [
        | inl plain ↦ inl plain
        | inr flooded ↦ inr (flooded.0, (flooded.1.0, flooded-since old mid new ((Leads-continues leads).told told) flooded.1.1))
      ])
]

pub commit-plain : {Own : Type 0} (Tells : Type 0) (accepts : List TableView → Bool) (app budget : ℕ) (rest frame : List ℕ) (old mid new : Seen Own) (net mid_net now_net : NetState) (end : TurnEnd) (unread : List ℕ) (queue now_queue : List Event) (fault : TxnFault) → Tells
    → Conforming new → Ready old net → Turns Tells accepts app budget rest frame old mid net mid_net end unread → Commits Tells (length net.log) mid new mid_net now_net queue now_queue (Err fault) → StopsFor old new fault
commit-plain Tells accepts app budget rest frame old mid new net mid_net now_net end unread queue now_queue fault told keeps ready t commits = leads-commit-plain new now_net queue now_queue fault told keeps ready (turn-leads t) commits
