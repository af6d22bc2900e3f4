-- Laws of a message that is told: a notice in doubt is settled by what its switch answers, and any other message is taken as one that was kept.
use Rattle.std.specs.Prelude.{◌≡◌, ◌⊎◌, ℕ, Bool, true, false, List, [], ◌++◌, Option, Some, None, Result, Ok, Err, IsOk, IsErr, IsSome, refl}
use Rattle.std.proofs.Common.{sym, ap, ap₂, ◌∙◌, subst, inl, inr, arith}
use Rattle.std.proofs.lemmas.List.{append-nil}
use Rattle.of_types.specs.Fields.{IsBytes}
use Rattle.of_match.specs.declared.key.Key.{Key}
use Rattle.of_wire.specs.declared.message.Envelope.{Envelope}
use Rattle.of_wire.specs.declared.fault.WireFault.{WireFault}
use Rattle.of_wire.specs.Reading.{reading_of}
use Rattle.app_frames.specs.declared.frame.Answer.{Answer}
use Rattle.app_frames.specs.declared.frame.Event.{Event}
use Rattle.outside.specs.declared.step.WorldStep.TheVariants.{From}
use Rattle.outside.specs.Seen.{Seen, Continues}
use Rattle.outside.specs.laws.SeenLaws.{Continues-refl, Continues-trans}
use Rattle.outside.specs.InOrder.{MessagesSince}
use Rattle.outside.specs.laws.InOrderLaws.{messages-then}
use Rattle.lego_model.specs.Echoes.{IsEchoRead}
use Rattle.lego_model.specs.declared.fault.TxnFault.{TxnFault}
use Rattle.lego_model.specs.declared.fault.TxnFault.TheVariants.{SwitchBroke, Diverged, Flooded, NoMemory}
use Rattle.net_txn.specs.declared.ports.KnownPorts.{KnownPorts}
use Rattle.net_txn.specs.declared.logged.Logged.{Logged}
use Rattle.net_txn.specs.Net.{NetState}
use Rattle.net_txn.specs.Views.{rows_at}
use Rattle.net_txn.specs.LinkSteps.{OnLinks}
use Rattle.net_txn.specs.Asks.{Inquiry}
use Rattle.net_txn.specs.Queries.{Queried}
use Rattle.net_txn.specs.Arriving.{IsArrivalCause, Arrives}
use Rattle.net_txn.specs.Settling.{doubted, key_inquiry, shows_gone, TakesIfGone, SettlesBy, Settles, ArrivesOrSettles}
use Rattle.net_txn.specs.laws.AgreeLaws.{viewed}
use Rattle.net_txn.specs.laws.FloodLaws.{both_ways}
use Rattle.net_txn.specs.laws.LinkStepLaws.{OnLinks-refl}
use Rattle.net_txn.specs.laws.ReadLaws.{arrives_read}
use Rattle.net_txn.specs.laws.SettleLaws.{still_joined}
use Rattle.batch_laws.specs.Knowledge.{with_event, left_events, lost_text}
use Rattle.batch_laws.specs.Items.{HandlesStill, HandlesLost, Handles, WentBy, HandlesTold, SettledBy}
use Rattle.batch_laws.specs.laws.DeletionLaws.{doubt-of, no-doubt, handles_told}
use Rattle.batch_laws.specs.laws.HandleLaws.{arrived_handles}
use Rattle.event_dispatch.specs.declared.engine_core.Core.{Core}
use Rattle.event_dispatch.specs.declared.fault.Fault.TheVariants as faults
use Rattle.event_dispatch.specs.Batch.{TakesItem, TakesTold}
use Rattle.event_dispatch.specs.Numbers.{GoesOnAscending}
use Rattle.event_dispatch.specs.Plain.{PlainItem}
use Rattle.event_dispatch.specs.Runs.{AreRead, Waits}
use Rattle.event_dispatch.specs.Shows.{TellsLost}
use Rattle.event_dispatch.specs.Taking.{PassesOnLinks}
use Rattle.event_dispatch.specs.Told.{OnlyMessages}
use Rattle.event_dispatch.specs.Why.{fault_of, served_by, WhyMessage}
use Rattle.event_dispatch.specs.laws.BatchLaws.{message_taken}
use Rattle.event_dispatch.specs.laws.BatchSteadyLaws.{arrived_only}
use Rattle.event_dispatch.specs.laws.CatchUpLaws.{asked_abreast}
use Rattle.event_dispatch.specs.laws.FaultLaws.{arrival_why, query_why}
use Rattle.event_dispatch.specs.laws.ItemLaws.{message_memory}
use Rattle.event_dispatch.specs.laws.KeptLaws.{arrived_read, query_read, read_same}
use Rattle.event_dispatch.specs.laws.NumberLaws.{keeps_numbers}
use Rattle.event_dispatch.specs.laws.PassesLaws.{next_of}
use Rattle.event_dispatch.specs.laws.PlainLaws.{read_arrived}
use Rattle.event_dispatch.specs.laws.SteadyLaws.{links_among}
use Rattle.event_dispatch.specs.laws.TakingLaws.{on_links_none, on_links_then, on_links_fails, on_links_as, arrived_passes}
use Rattle.event_dispatch.specs.laws.TalkingLaws.{keeps_links}
use Rattle.event_dispatch.specs.laws.WhyLaws.{why_then}

-- ---- How it ended

err_by : {T : Type 0} (result : Result T TxnFault) (fault : TxnFault) → result ≡ Err fault → IsErr result
err_by result fault is = rw is refl

no_ok : {T X : Type 0} (x : T) (fault : TxnFault) → Ok x ≡ Err fault → X
no_ok x fault is = absurd cc

no_err : {T X : Type 0} (x : T) (fault : TxnFault) → Err fault ≡ Ok x → X
no_err x fault is = absurd cc

abbrev took : Option Event → Result (Option Event) TxnFault
took event = Ok event

same_ok : (a b : Option Event) → took a ≡ took b → a ≡ b
same_ok a b is = cc

abbrev failed : TxnFault → Result (Option Event) TxnFault
failed fault = Err fault

same_fault : (a b : TxnFault) → failed a ≡ failed b → a ≡ b
same_fault a b is = cc

-- ---- Links alone were used

-- a switch that has a view was asked for statistics
asked_ids : {Own Tells : Type 0} {i : Inquiry} {old new : Seen Own} {net now_net : NetState} (result : Result Answer TxnFault) → Queried Tells i old new net now_net result → GoesOnAscending Tells old new net now_net result
asked_ids {net = net} {now_net = now_net} result asked told order abreast short before = keeps_numbers 2 net.xid now_net.xid result result (omega arith) asked.ids (λ failed. failed) told short before

asked_passes : {Own : Type 0} {number : ℕ} (Tells : Type 0) (i : Inquiry) (old new : Seen Own) (net now_net : NetState) (result : Result Answer TxnFault) → IsSome (rows_at i.dpid net.views) → Queried Tells i old new net now_net result
    → PassesOnLinks Tells number old new net now_net result
asked_passes {number = number} Tells i old new net now_net (Ok answer) known asked = record {
  passes = record {
    continues = asked.continues;
    places = record { places = λ told order abreast. asked.no_strays told order (abreast.joined i.dpid ∙ viewed i.dpid net.views ∙ known); own = λ told. links_among number (asked.links told) };
    reads = record { abreast = λ told order abreast. asked_abreast net now_net answer asked (viewed i.dpid net.views ∙ known) told abreast; read = λ told order abreast. asked.read refl told };
    numbers = asked_ids (Ok answer) asked;
  };
  talks = keeps_links Tells old new asked.links;
  links = asked.links;
}
asked_passes {number = number} Tells i old new net now_net (Err fault) known asked = record {
  passes = record {
    continues = asked.continues;
    places = record { places = λ told order abreast. asked.no_strays told order (abreast.joined i.dpid ∙ viewed i.dpid net.views ∙ known); own = λ told. links_among number (asked.links told) };
    reads = tt;
    numbers = asked_ids (Err fault) asked;
  };
  talks = keeps_links Tells old new asked.links;
  links = asked.links;
}

module _ {Own : Type 0} {number : ℕ} (Tells : Type 0) (d : ℕ) (frame : List ℕ) (key : Key) (old new : Seen Own) (net now_net : NetState) (result : Result (Option Event) TxnFault) (known : IsSome (rows_at d net.views)) where
  passes_by : (answer : Answer) (mid : Seen Own) (mid_net : NetState) (gone : Bool) → Queried Tells (key_inquiry d net.xid key) old mid net mid_net (Ok answer) → shows_gone key answer ≡ gone → TakesIfGone Tells d frame gone mid new mid_net now_net result
      → PassesOnLinks Tells number old new net now_net result
  passes_by answer mid mid_net true asked gone arrives =
      let first = asked_passes Tells (key_inquiry d net.xid key) old mid net mid_net (Ok answer) known asked in
      on_links_then first (arrived_passes Tells d frame mid new mid_net now_net result (still_joined (key_inquiry d net.xid key) key old mid net mid_net answer asked gone known) arrives)
  passes_by answer mid mid_net false asked gone dropped =
      let first = asked_passes Tells (key_inquiry d net.xid key) old mid net mid_net (Ok answer) known asked in
      subst (λ (s : Seen Own). PassesOnLinks Tells number old s net now_net result) (sym dropped.1) (on_links_as now_net result first (next_of dropped.2))

  settles_passes : Settles Tells d frame key old new net now_net result → PassesOnLinks Tells number old new net now_net result
  settles_passes (inl short) = subst (λ (s : Seen Own). PassesOnLinks Tells number old s net now_net result) (sym short.1) (on_links_none Tells old net now_net result (next_of short.2))
  settles_passes (inr (inl vain)) = on_links_fails now_net result (asked_passes Tells (key_inquiry d net.xid key) old new net now_net (Err vain.fault) known vain.asked) (err_by result vain.fault vain.result_is)
  settles_passes (inr (inr by)) = elim by.takes [
    | inl takes ↦ passes_by by.answer by.mid by.mid_net (shows_gone key by.answer) by.asked refl takes
    | inr short ↦ subst (λ (s : Seen Own). PassesOnLinks Tells number old s net now_net result) (sym short.1)
        (on_links_fails now_net result (asked_passes Tells (key_inquiry d net.xid key) old by.mid net by.mid_net (Ok by.answer) known by.asked) (err_by result NoMemory short.0))
  ]

pub settled_passes : {Own : Type 0} {number : ℕ} (Tells : Type 0) (d : ℕ) (frame : List ℕ) (doubt : Option Key) (old new : Seen Own) (net now_net : NetState) (result : Result (Option Event) TxnFault) → IsSome (rows_at d net.views)
    → ArrivesOrSettles Tells d frame doubt old new net now_net result → PassesOnLinks Tells number old new net now_net result
settled_passes Tells d frame None old new net now_net result known arrives = arrived_passes Tells d frame old new net now_net result known arrives
settled_passes Tells d frame (Some key) old new net now_net result known settles = settles_passes Tells d frame key old new net now_net result known settles

-- ---- It was taken or dropped

-- what stays of the network where there is an answer
record AskStays (net now_net : NetState) : Type 0 where
  log : now_net.log ≡ net.log
  room : now_net.room ≡ net.room
  held : now_net.held ≡ net.held

ask_stays : {Own Tells : Type 0} {i : Inquiry} {old new : Seen Own} (net now_net : NetState) (answer : Answer) → Queried Tells i old new net now_net (Ok answer) → AskStays net now_net
ask_stays net now_net answer asked = elim asked.queried [
  | inl q ↦ record { log = ap (λ (n : NetState). n.log) q.stays; room = ap (λ (n : NetState). n.room) q.stays; held = ap (λ (n : NetState). n.held) q.stays }
  | inr lost ↦ record { log = ap (λ (n : NetState). n.log) lost.1.net_is; room = ap (λ (n : NetState). n.room) lost.1.net_is; held = ap (λ (n : NetState). n.held) lost.1.net_is }
]

-- where the entry is gone no switch was lost
none_lost : {Own Tells : Type 0} {i : Inquiry} {old new : Seen Own} (key : Key) (net now_net : NetState) (answer : Answer) → Queried Tells i old new net now_net (Ok answer) → shows_gone key answer ≡ true → net.left ≡ [] → now_net.left ≡ []
none_lost key net now_net answer asked gone none = elim asked.queried [
  | inl q ↦ ap (λ (n : NetState). n.left) q.stays ∙ none
  | inr lost ↦ absurd cc (gone, lost.0)
]

-- and a notice is no ECHO_REQUEST, at which one may be lost
notice_still : {Own Tells : Type 0} {d : ℕ} {bytes text : List ℕ} {old new : Seen Own} {net now_net : NetState} {queue now_queue : List Event} → (IsEchoRead (reading_of bytes) → ⊥)
    → HandlesStill Tells (From d bytes) text old new net now_net queue now_queue ⊎ HandlesLost Tells (From d bytes) text old new net now_net queue now_queue → HandlesStill Tells (From d bytes) text old new net now_net queue now_queue
notice_still none (inl still) = still
notice_still none (inr lost) = absurd (none lost.at.2)

module _ {Own : Type 0} (Tells : Type 0) (d : ℕ) (bytes : List ℕ) (key : Key) (old new : Seen Own) (run mid now_run : Core) (event : Option Event) (none_left : run.net.left ≡ []) (known : IsSome (rows_at d run.net.views)) (fit : IsBytes bytes)
    (doubt : doubted d run.net.views (reading_of bytes) ≡ Some key) (waits : mid.queue ≡ with_event event run.queue) (lines : mid.lines.items ≡ run.lines.items) (tells : TellsLost mid now_run) where
  no_echo : IsEchoRead (reading_of bytes) → ⊥
  no_echo is =
      let of = doubt-of d run.net.views (reading_of bytes) key doubt in
      subst IsEchoRead of.read_is is

  taken_so : HandlesTold Tells (From d bytes) (lost_text mid.net.left) old new run.net now_run.net run.queue now_run.queue → TakesTold Tells (From d bytes) old new run now_run
  taken_so handles = record { text = lost_text mid.net.left; handles = handles; lines = tells.lines ∙ ap (λ (t : List ℕ). t ++ lost_text mid.net.left) lines }

  told_by : (answer : Answer) (asked : Seen Own) (asked_net : NetState) (gone : Bool) → Queried Tells (key_inquiry d run.net.xid key) old asked run.net asked_net (Ok answer) → shows_gone key answer ≡ gone → TakesIfGone Tells d bytes gone asked new asked_net mid.net (Ok event)
      → HandlesTold Tells (From d bytes) (lost_text mid.net.left) old new run.net now_run.net run.queue now_run.queue
  told_by answer asked asked_net true is gone arrives =
      let there = still_joined (key_inquiry d run.net.xid key) key old asked run.net asked_net answer is gone known in
      let none = none_lost key run.net asked_net answer is gone none_left in
      let stays = ask_stays run.net asked_net answer is in
      let handles : Handles Tells (From d bytes) (lost_text mid.net.left) asked new asked_net now_run.net run.queue now_run.queue =
      arrived_handles d bytes asked new asked_net mid.net now_run.net run.queue mid.queue now_run.queue (lost_text mid.net.left) event none there fit arrives waits tells.net tells.queue refl in
      record {
        continues = Continues-trans Tells old asked new is.continues arrives.continues;
        log = handles.log ∙ stays.log;
        room = handles.room ∙ stays.room;
        held = handles.held ∙ stays.held;
        left = handles.left;
        went = subst (λ (o : Option Key). WentBy Tells (From d bytes) (lost_text mid.net.left) o old new run.net now_run.net run.queue now_run.queue) (sym doubt) (record {
          dpid = d;
          bytes = bytes;
          item_is = refl;
          doubt = doubt;
          none_left = none_left;
          answer = answer;
          mid = asked;
          mid_net = asked_net;
          asked = is;
          later = arrives.continues;
          links = arrives.links;
          settled = subst (λ (b : Bool). SettledBy Tells (From d bytes) (lost_text mid.net.left) b asked new asked_net now_run.net run.queue now_run.queue) (sym gone) (notice_still no_echo handles.went);
        });
      }
  told_by answer asked asked_net false is gone dropped =
      let stays = ask_stays run.net asked_net answer is in
      let none : event ≡ None = same_ok event None dropped.0 in
      let net_is : now_run.net ≡ record asked_net { left = [] } = tells.net ∙ ap (λ (n : NetState). record n { left = [] }) dropped.2 in
      let queue_is : mid.queue ≡ run.queue = waits ∙ ap (λ (o : Option Event). with_event o run.queue) none in
      record {
        continues = subst (λ (s : Seen Own). Continues Tells old s) (sym dropped.1) is.continues;
        log = ap (λ (n : NetState). n.log) net_is ∙ stays.log;
        room = ap (λ (n : NetState). n.room) net_is ∙ stays.room;
        held = ap (λ (n : NetState). n.held) net_is ∙ stays.held;
        left = ap (λ (n : NetState). n.left) net_is;
        went = subst (λ (o : Option Key). WentBy Tells (From d bytes) (lost_text mid.net.left) o old new run.net now_run.net run.queue now_run.queue) (sym doubt) (record {
          dpid = d;
          bytes = bytes;
          item_is = refl;
          doubt = doubt;
          none_left = none_left;
          answer = answer;
          mid = asked;
          mid_net = asked_net;
          asked = is;
          later = subst (λ (s : Seen Own). Continues Tells asked s) (sym dropped.1) (Continues-refl Tells asked);
          links = subst (λ (s : Seen Own). OnLinks Tells asked s) (sym dropped.1) (OnLinks-refl Tells asked);
          settled = subst (λ (b : Bool). SettledBy Tells (From d bytes) (lost_text mid.net.left) b asked new asked_net now_run.net run.queue now_run.queue) (sym gone)
              (dropped.1, net_is, tells.queue ∙ ap₂ (λ (q : List Event) (ks : List KnownPorts). q ++ left_events ks) queue_is (ap (λ (n : NetState). n.left) dropped.2), ap (λ (n : NetState). lost_text n.left) dropped.2);
        });
      }

  settles_taken : Settles Tells d bytes key old new run.net mid.net (Ok event) → TakesTold Tells (From d bytes) old new run now_run
  settles_taken (inl short) = no_ok event NoMemory short.0
  settles_taken (inr (inl vain)) = no_ok event vain.fault vain.result_is
  settles_taken (inr (inr by)) = elim by.takes [
    | inl takes ↦ taken_so (told_by by.answer by.mid by.mid_net (shows_gone key by.answer) by.asked refl takes)
    | inr short ↦ no_ok event NoMemory short.0
  ]

taken_told : {Own Tells : Type 0} (d : ℕ) (bytes : List ℕ) (old new : Seen Own) (run now_run : Core) → doubted d run.net.views (reading_of bytes) ≡ None → TakesItem Tells (From d bytes) old new run now_run → TakesTold Tells (From d bytes) old new run now_run
taken_told d bytes old new run now_run none takes = record { text = takes.text; handles = handles_told (From d bytes) takes.text old new run.net now_run.net run.queue now_run.queue none takes.handles; lines = takes.lines }

pub settled_taken : {Own : Type 0} (Tells : Type 0) (d : ℕ) (bytes : List ℕ) (doubt : Option Key) (old new : Seen Own) (run mid now_run : Core) (event : Option Event) → run.net.left ≡ [] → IsSome (rows_at d run.net.views) → IsBytes bytes
    → doubted d run.net.views (reading_of bytes) ≡ doubt → ArrivesOrSettles Tells d bytes doubt old new run.net mid.net (Ok event) → mid.queue ≡ with_event event run.queue → mid.lines.items ≡ run.lines.items → TellsLost mid now_run
    → TakesTold Tells (From d bytes) old new run now_run
settled_taken Tells d bytes None old new run mid now_run event none known fit is arrives waits lines tells = taken_told d bytes old new run now_run is (message_taken d bytes old new run mid now_run event none known fit arrives waits lines tells)
settled_taken Tells d bytes (Some key) old new run mid now_run event none known fit is settles waits lines tells = settles_taken Tells d bytes key old new run mid now_run event none known fit is waits lines tells settles

-- no event was dispatched
pub waits_told : {Own Tells : Type 0} {d : ℕ} {bytes : List ℕ} {old new : Seen Own} (run mid now_run : Core) → Waits mid now_run → mid.events ≡ run.events → mid.store ≡ run.store → TakesTold Tells (From d bytes) old new run now_run → Waits run now_run
waits_told run mid now_run waits events store takes = record {
  room = takes.handles.room;
  events = waits.events ∙ events;
  store = waits.store ∙ store;
  left = λ none. takes.handles.left;
}

-- ---- What came are messages, and so is what is kept

settles_only : {Own : Type 0} (Tells : Type 0) (d : ℕ) (frame : List ℕ) (old mid new : Seen Own) (net mid_net now_net : NetState) (i : Inquiry) (answer : Answer) (event : Option Event) (gone : Bool) → Queried Tells i old mid net mid_net (Ok answer) → TakesIfGone Tells d frame gone mid new mid_net now_net (Ok event) → OnlyMessages Tells old new
settles_only Tells d frame old mid new net mid_net now_net i answer event true asked arrives = record { read = λ told. messages-then old mid new told asked.continues arrives.continues (asked.read refl told) (arrives_read arrives refl told) }
settles_only Tells d frame old mid new net mid_net now_net i answer event false asked dropped = record { read = λ told. subst (λ (s : Seen _). MessagesSince old s) (sym dropped.1) (asked.read refl told) }

pub settled_only : {Own : Type 0} (Tells : Type 0) (d : ℕ) (frame : List ℕ) (doubt : Option Key) (old new : Seen Own) (net now_net : NetState) (event : Option Event) → ArrivesOrSettles Tells d frame doubt old new net now_net (Ok event) → OnlyMessages Tells old new
settled_only Tells d frame None old new net now_net event arrives = arrived_only Tells d frame old new net now_net event arrives
settled_only Tells d frame (Some key) old new net now_net event (inl short) = no_ok event NoMemory short.0
settled_only Tells d frame (Some key) old new net now_net event (inr (inl vain)) = no_ok event vain.fault vain.result_is
settled_only Tells d frame (Some key) old new net now_net event (inr (inr by)) = elim by.takes [
  | inl takes ↦ settles_only Tells d frame old by.mid new net by.mid_net now_net (key_inquiry d net.xid key) by.answer event (shows_gone key by.answer) by.asked takes
  | inr short ↦ no_ok event NoMemory short.0
]

settles_read : {Own : Type 0} (Tells : Type 0) (d : ℕ) (mid new : Seen Own) (frame : List ℕ) (mid_net now_net : NetState) (event : Option Event) (gone : Bool) → TakesIfGone Tells d frame gone mid new mid_net now_net (Ok event) → AreRead mid_net.kept → AreRead now_net.kept
settles_read Tells d mid new frame mid_net now_net event true arrives read = arrived_read frame mid_net now_net event arrives read
settles_read Tells d mid new frame mid_net now_net event false dropped read = read_same mid_net now_net dropped.2 read

pub settled_read : {Own : Type 0} (Tells : Type 0) (d : ℕ) (old new : Seen Own) (frame : List ℕ) (doubt : Option Key) (net now_net : NetState) (event : Option Event) → ArrivesOrSettles Tells d frame doubt old new net now_net (Ok event) → AreRead net.kept → AreRead now_net.kept
settled_read Tells d old new frame None net now_net event arrives read = arrived_read frame net now_net event arrives read
settled_read Tells d old new frame (Some key) net now_net event (inl short) read = no_ok event NoMemory short.0
settled_read Tells d old new frame (Some key) net now_net event (inr (inl vain)) read = no_ok event vain.fault vain.result_is
settled_read Tells d old new frame (Some key) net now_net event (inr (inr by)) read = elim by.takes [
  | inl takes ↦ settles_read Tells d by.mid new frame by.mid_net now_net event (shows_gone key by.answer) takes (query_read net by.mid_net by.answer by.asked read)
  | inr short ↦ no_ok event NoMemory short.0
]

-- ---- Why it was not

-- behind an answer memory alone may be wanting
arrival_memory : {Own : Type 0} (d : ℕ) (frame : List ℕ) (old new : Seen Own) (fault : TxnFault) → IsOk (reading_of frame) → IsArrivalCause d frame old new fault → fault ≡ NoMemory
arrival_memory d frame old new (SwitchBroke e bytes) read cause = absurd (both_ways (reading_of frame) read cause.2)
arrival_memory d frame old new (Diverged e sent got) read cause = absurd cause
arrival_memory d frame old new (Flooded e n) read cause = absurd cause
arrival_memory d frame old new NoMemory read cause = refl

module _ {Own : Type 0} (Tells : Type 0) (d : ℕ) (frame : List ℕ) (key : Key) (old new : Seen Own) (net now_net : NetState) (fault : TxnFault) (doubt : doubted d net.views (reading_of frame) ≡ Some key) where
  read_ok : IsOk (reading_of frame)
  read_ok = let of = doubt-of d net.views (reading_of frame) key doubt in rw of.read_is refl

  of_memory : fault ≡ NoMemory → WhyMessage Tells d frame old new (fault_of fault)
  of_memory is = subst (λ (f : TxnFault). WhyMessage Tells d frame old new (fault_of f)) (sym is) (message_memory d frame old new)

  taken_why : (mid : Seen Own) (mid_net : NetState) (gone : Bool) → TakesIfGone Tells d frame gone mid new mid_net now_net (Err fault) → WhyMessage Tells d frame old new (fault_of fault)
  taken_why mid mid_net true arrives = of_memory (arrival_memory d frame mid new fault read_ok arrives.cause)
  taken_why mid mid_net false dropped = no_err None fault dropped.0

  settles_why : Settles Tells d frame key old new net now_net (Err fault) → WhyMessage Tells d frame old new (fault_of fault)
  settles_why (inl short) = of_memory (same_fault fault NoMemory short.0)
  settles_why (inr (inl vain)) =
      subst (λ (f : TxnFault). WhyMessage Tells d frame old new (fault_of f)) (sym (same_fault fault vain.fault vain.result_is))
      (record { why = λ before first told. why_then before old new (served_by (fault_of vain.fault)) first (query_why (key_inquiry d net.xid key) old new net now_net vain.fault vain.asked) })
  settles_why (inr (inr by)) = elim by.takes [
    | inl takes ↦ taken_why by.mid by.mid_net (shows_gone key by.answer) takes
    | inr short ↦ of_memory (same_fault fault NoMemory short.0)
  ]

pub settled_why : {Own : Type 0} (Tells : Type 0) (d : ℕ) (frame : List ℕ) (doubt : Option Key) (old new : Seen Own) (net now_net : NetState) (fault : TxnFault) → doubted d net.views (reading_of frame) ≡ doubt → ArrivesOrSettles Tells d frame doubt old new net now_net (Err fault)
    → WhyMessage Tells d frame old new (fault_of fault)
settled_why Tells d frame None old new net now_net fault is arrives = arrival_why d frame old new fault arrives.continues arrives.cause
settled_why Tells d frame (Some key) old new net now_net fault is settles = settles_why Tells d frame key old new net now_net fault is settles

-- where the message can be taken it is in no doubt
pub settled_plain : {Own : Type 0} (Tells : Type 0) (d : ℕ) (frame : List ℕ) (doubt : Option Key) (old new : Seen Own) (net now_net : NetState) (fault : TxnFault) → doubted d net.views (reading_of frame) ≡ doubt → ArrivesOrSettles Tells d frame doubt old new net now_net (Err fault)
    → PlainItem Tells (From d frame) old new (fault_of fault)
settled_plain Tells d frame None old new net now_net fault is arrives = record { plain = λ told keeps can. (read_arrived d frame old new fault arrives.cause).plain can.0 }
settled_plain Tells d frame (Some key) old new net now_net fault is settles = record { plain = λ told keeps can. absurd (no-doubt d net.views (reading_of frame) key is can.1) }

pub told_memory : {Own Tells : Type 0} (d : ℕ) (frame : List ℕ) (old new : Seen Own) → PlainItem Tells (From d frame) old new faults.NoMemory
told_memory d frame old new = record { plain = λ told keeps can. tt }
