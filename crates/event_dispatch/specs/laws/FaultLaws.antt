-- Each fault of the network has its cause in what happened.
use Rattle.std.proofs.Common.{◌≡◌, ◌⊎◌, ◌==◌, ℕ, zero, suc, Bool, true, false, ◌&&◌, if◌then◌else◌, List, [], ◌∷◌, ◌++◌, length, Option, Some, None, Ok, Err, IsErr, slice_get, nat_le, refl, sym, ap, ◌∙◌, subst, append_assoc, arith, inl, inr, true≢false}
use Rattle.std.specs.Prelude.{take}
use Rattle.std.specs.List.{flat_map}
use Rattle.std.proofs.lemmas.List.{append-nil}
use Rattle.std.proofs.lemmas.Bool.{eqb-true}
use Rattle.of_types.specs.Fields.{number_at}
use Rattle.of_types.specs.declared.journal.Act.TheVariants.{Sent, Got}
use Rattle.of_wire.specs.declared.bodies.PacketOut.{PacketOut as Packet}
use Rattle.of_wire.specs.Reading.{reading_of}
use Rattle.of_wire.specs.Spelling.{message_bytes}
use Rattle.of_wire.specs.declared.message.Message.TheVariants.{PacketOut, BarrierReply}
use Rattle.app_frames.specs.declared.frame.Answer.{Answer}
use Rattle.app_frames.specs.declared.frame.Answer.TheVariants.{Unknown}
use Rattle.app_frames.specs.declared.frame.Event.{Event}
use Rattle.outside.specs.declared.step.WorldStep.{WorldStep}
use Rattle.outside.specs.declared.step.WorldStep.TheVariants.{Acted, From}
use Rattle.outside.specs.Seen.{Seen, Continues}
use Rattle.lego_model.specs.declared.fault.TxnFault.{TxnFault}
use Rattle.lego_model.specs.declared.fault.TxnFault.TheVariants.{SwitchBroke, Diverged, Flooded, NoMemory}
use Rattle.lego_model.specs.declared.wait.Awaited.{Awaited}
use Rattle.lego_model.specs.declared.wait.Heard.{Heard}
use Rattle.lego_model.specs.declared.wait.Heard.TheVariants.{Reply, Refused, Notice, Echo, Other}
use Rattle.run_laws.specs.laws.TurnCallLaws.{both_first}
use Rattle.net_txn.specs.Net.{NetState}
use Rattle.lego_model.specs.Packets.{Held}
use Rattle.net_txn.specs.Releases.{packet_steps, BreaksAt, committed, StopsRelease, UndoneForMemory, Commits}
use Rattle.switch_laws.specs.laws.ReleaseLaws.{releases-continue}
use Rattle.lego_model.specs.AfterFault.{IsWhyUndo}
use Rattle.net_txn.specs.laws.RestoreLaws.{runs_here, runs_older}
use Rattle.net_txn.specs.laws.UndoFailureLaws.{stuck_in_undo}
use Rattle.lego_model.specs.BarrierWaits.{next_xid, flood, heard, kept_by, kept_of, steps_by, heard_steps, wait_steps, barrier_sent, reply_got}
use Rattle.net_txn.specs.Arriving.{IsArrivalCause}
use Rattle.net_txn.specs.Causes.{EndsByGot, IsCause}
use Rattle.net_txn.specs.Joining.{greeting, greeted_from}
use Rattle.net_txn.specs.Waits.{Floods, IfFlooded}
use Rattle.net_txn.specs.Answering.{known_rows}
use Rattle.net_txn.specs.Changes.{answer_of_host, change_sent, ChangesJoined, Changes}
use Rattle.net_txn.specs.Asks.{Inquiry, inquiry_sent, rows_inquiry, IsRefusal, IsRepliesFault, IsAskCause, Asks}
use Rattle.net_txn.specs.laws.QueryReachedLaws.{about_in}
use Rattle.net_txn.specs.Queries.{IsFaultOf, IsReplyCause, Queried}
use Rattle.of_wire.specs.declared.bodies.Stats.{Stats as Query}
use Rattle.lego_model.specs.FlowQueries.{query_bytes, query_sent, flows_query, IsBroken, is_about, flows_request, request_sent, asked_from, parts_in, refusals_in}
use Rattle.net_txn.specs.laws.LostPartLaws.{faulty}
use Rattle.net_txn.specs.Undos.{Part, part_steps, steps_of, parts_of, fault_in, first_fault_of, first_fault, IsRun, ended_by as undo_ended, Undoes}
use Rattle.app_visor.specs.Beats.{Halts, Stops}
use Rattle.app_visor.specs.laws.BeatLaws.{Leads-continues}
use Rattle.switch_laws.specs.laws.AskedLaws.{asked}
use Rattle.event_dispatch.specs.Why.{IsWhy, fault_of, ended_by, IsReason, WhyMessage}
use Rattle.lego_model.specs.SwitchFaults.{query_steps, Happened, CameFrom, SentThenGot, rows_steps, came_for, IsBadPart, IsUnanswered, IsErrorFor, IsFlood, IsWhyTxn}
use Rattle.event_dispatch.specs.laws.WhyLaws.{IsWhy-behind}
use Rattle.lego_model.specs.laws.SwitchFaultLaws.{happened_before}
use Rattle.net_txn.specs.laws.StepLaws.{some_is}

-- ---- A flood

-- too many messages behind what was sent and a barrier
flood_of : {Own Tells : Type 0} (a : Awaited) (first : List WorldStep) (old new : Seen Own) → Floods Tells a (first ++ barrier_sent a ∷ []) old new → IsFlood Tells a.dpid flood old new
flood_of a first old new f = record {
  awaited = a;
  of_switch = refl;
  got = f.got;
  many = f.many;
  before_reply = f.before_reply;
  told = λ told. record {
    before = first;
    behind = [];
    told = f.told told ∙ ap (λ (xs : List WorldStep). old.history ++ xs) (append_assoc first (barrier_sent a ∷ []) (wait_steps a f.got))
        ∙ ap (λ (xs : List WorldStep). old.history ++ (first ++ (barrier_sent a ∷ xs))) (sym (append-nil (wait_steps a f.got)));
  };
}

-- what a fault of a call tells where it may be Flooded
abbrev FloodSo : {Own : Type 0} → Type 0 → ℕ → Seen Own → Seen Own → TxnFault → Type 0
FloodSo Tells d old new (Flooded of n) = IsFlood Tells d flood old new
FloodSo Tells d old new (SwitchBroke of bytes) = Unit {0}
FloodSo Tells d old new (Diverged of sent got) = Unit {0}
FloodSo Tells d old new NoMemory = Unit {0}

-- ---- Any call

got_last : (d : ℕ) (bytes : List ℕ) (old new : List WorldStep) → EndsByGot d bytes old new → CameFrom d bytes old new
got_last d bytes old new last = inr (record { before = last.0; behind = []; told = last.1 })

cause_why : {Own : Type 0} (Tells : Type 0) (d : ℕ) (old new : Seen Own) (fault : TxnFault) → IsCause Tells d old new fault → FloodSo Tells d old new fault → IsWhy Tells old new 0 0 (ended_by fault)
cause_why Tells d old new (SwitchBroke e bytes) cause flooded =
    subst (λ (n : ℕ). (Tells → CameFrom n bytes old.history new.history) × (IsErr (reading_of bytes) ⊎ IsBadPart Tells n bytes old new)) (sym cause.0) ((λ told. got_last d bytes old.history new.history (cause.2 told)), inl cause.1)
cause_why Tells d old new (Diverged e sent got) cause flooded = absurd cause
cause_why Tells d old new (Flooded e n) cause flooded =
    subst (λ (x : ℕ). (n ≡ flood) × IsFlood Tells x n old new) (sym cause.0) (cause.1, subst (λ (m : ℕ). IsFlood Tells d m old new) (sym cause.1) flooded)
cause_why Tells d old new NoMemory cause flooded = tt

-- ---- A message that came of itself

arrived_why : {Own Tells : Type 0} (d : ℕ) (frame : List ℕ) (before old new : Seen Own) (fault : TxnFault) → Continues Tells before old → Continues Tells old new → (IsErr (reading_of frame) → Tells → Happened (From d frame ∷ []) before.history old.history)
    → IsArrivalCause d frame old new fault → IsWhy Tells before new 0 0 (ended_by fault)
arrived_why {Tells = Tells} d frame before old new (SwitchBroke e bytes) first later told cause =
    let here : (Tells → CameFrom d frame before.history new.history) × (IsErr (reading_of frame) ⊎ IsBadPart Tells d frame before new) =
    ((λ tells. inl (happened_before _ before.history old.history new.history (later.told tells) (told cause.2 tells))), inl cause.2) in
    let there = subst (λ (n : ℕ). (Tells → CameFrom n frame before.history new.history) × (IsErr (reading_of frame) ⊎ IsBadPart Tells n frame before new)) (sym cause.0) here in
    subst (λ (b : List ℕ). (Tells → CameFrom e b before.history new.history) × (IsErr (reading_of b) ⊎ IsBadPart Tells e b before new)) (sym cause.1) there
arrived_why d frame before old new (Diverged e sent got) first later told cause = absurd cause
arrived_why d frame before old new (Flooded e n) first later told cause = absurd cause
arrived_why d frame before old new NoMemory first later told cause = tt

pub arrival_why : {Own Tells : Type 0} (d : ℕ) (frame : List ℕ) (old new : Seen Own) (fault : TxnFault) → Continues Tells old new → IsArrivalCause d frame old new fault → WhyMessage Tells d frame old new (fault_of fault)
arrival_why d frame old new fault later cause = record { why = λ before first told. arrived_why d frame before old new fault first later told cause }

-- ---- A switch that joins

join_flood : {Own : Type 0} (Tells : Type 0) (d xid : ℕ) (old new : Seen Own) (fault : TxnFault) → IfFlooded Tells (greeted_from d xid) (greeting d xid) old new fault → FloodSo Tells d old new fault
join_flood Tells d xid old new (Flooded of n) f = flood_of (greeted_from d xid) (take 2 (greeting d xid)) old new f
join_flood Tells d xid old new (SwitchBroke of bytes) f = tt
join_flood Tells d xid old new (Diverged of sent got) f = tt
join_flood Tells d xid old new NoMemory f = tt

pub join_why : {Own : Type 0} (Tells : Type 0) (d xid : ℕ) (old new : Seen Own) (fault : TxnFault) → IsCause Tells d old new fault → IfFlooded Tells (greeted_from d xid) (greeting d xid) old new fault → IsReason Tells old new 0 0 (fault_of fault)
join_why Tells d xid old new fault cause flooded = cause_why Tells d old new fault cause (join_flood Tells d xid old new fault flooded)

-- ---- A request of rows: what answers it are parts and errors, which came from the switch

second_of : (p q : Bool) → (p && q) ≡ true → q ≡ true
second_of true q h = h
second_of false q h = absurd (true≢false (sym h))

about_kind : (xid kind : ℕ) (bytes : List ℕ) → is_about xid kind bytes ≡ true → number_at 1 1 bytes ≡ kind
unfolding is_about
about_kind xid kind bytes h =
    eqb-true (number_at 1 1 bytes) kind (second_of (number_at 4 4 bytes == xid) (number_at 1 1 bytes == kind) (second_of (nat_le 12 (length bytes)) (number_at 4 4 bytes == xid && number_at 1 1 bytes == kind) h))

about_xid : (xid kind : ℕ) (bytes : List ℕ) → is_about xid kind bytes ≡ true → number_at 4 4 bytes ≡ xid
unfolding is_about
about_xid xid kind bytes h =
    eqb-true (number_at 4 4 bytes) xid (both_first (number_at 4 4 bytes == xid) (number_at 1 1 bytes == kind) (second_of (nat_le 12 (length bytes)) (number_at 4 4 bytes == xid && number_at 1 1 bytes == kind) h))

-- a message that answers, and the steps around it
record IsGot (d xid kind : ℕ) (bytes : List ℕ) (steps : List WorldStep) : Type 0 where
  about : is_about xid kind bytes ≡ true
  before : List WorldStep
  behind : List WorldStep
  steps_is : steps ≡ before ++ (Acted (Got d bytes) ∷ behind)

abbrev StandsIn : ℕ → ℕ → List ℕ → List (ℕ × List ℕ) → Type 0
StandsIn xid kind bytes came = (place : ℕ) × (slice_get (flat_map (about_in xid kind) came) place ≡ Some bytes)

-- it is this message, or stands among the others
first_or : (xid kind : ℕ) (b : List ℕ) (rest : List (List ℕ)) (place : ℕ) (bytes : List ℕ) (is : Bool) → is_about xid kind b ≡ is → slice_get ((if is then b ∷ [] else []) ++ rest) place ≡ Some bytes
    → ((is_about xid kind b ≡ true) × (b ≡ bytes)) ⊎ ((n : ℕ) × (slice_get rest n ≡ Some bytes))
first_or xid kind b rest zero bytes true about at = inl (about, some_is b bytes at)
first_or xid kind b rest (suc n) bytes true about at = inr (n, at)
first_or xid kind b rest place bytes false about at = inr (place, at)

heard_or : (d xid kind : ℕ) (h : Heard) (b : List ℕ) (came : List (ℕ × List ℕ)) (bytes : List ℕ) → StandsIn xid kind bytes (kept_by d h b ++ came) → ((is_about xid kind b ≡ true) × (b ≡ bytes)) ⊎ StandsIn xid kind bytes came
heard_or d xid kind Reply b came bytes at = inr at
heard_or d xid kind (Refused refusal) b came bytes at = inr at
heard_or d xid kind Notice b came bytes at = inr at
heard_or d xid kind Echo b came bytes at = inr at
heard_or d xid kind Other b came bytes at = first_or xid kind b (flat_map (about_in xid kind) came) at.0 bytes (is_about xid kind b) refl at.1

got_first : (a : Awaited) (xid kind : ℕ) (b bytes : List ℕ) (rest : List WorldStep) → is_about xid kind b ≡ true → b ≡ bytes → IsGot a.dpid xid kind bytes (heard_steps a b ++ rest)
got_first a xid kind b bytes rest about same = record {
  about = subst (λ (x : List ℕ). is_about xid kind x ≡ true) same about;
  before = [];
  behind = steps_by a.dpid (heard a b) b ++ rest;
  steps_is = ap (λ (x : List ℕ). Acted (Got a.dpid x) ∷ (steps_by a.dpid (heard a b) b ++ rest)) same;
}

got_later : (d xid kind : ℕ) (bytes : List ℕ) (front steps : List WorldStep) → IsGot d xid kind bytes steps → IsGot d xid kind bytes (front ++ steps)
got_later d xid kind bytes front steps is = record {
  about = is.about;
  before = front ++ is.before;
  behind = is.behind;
  steps_is = ap (λ (xs : List WorldStep). front ++ xs) is.steps_is ∙ sym (append_assoc front is.before (Acted (Got d bytes) ∷ is.behind));
}

got_in : (a : Awaited) (xid kind : ℕ) (got : List (List ℕ)) (bytes : List ℕ) → StandsIn xid kind bytes (kept_of a got) → IsGot a.dpid xid kind bytes (wait_steps a got)
got_in a xid kind [] bytes at = absurd (none_there at.0 bytes at.1)
  where
    none_there : (n : ℕ) (bytes : List ℕ) → slice_get [] n ≡ Some bytes → ⊥
    none_there n bytes h = cc
got_in a xid kind (b ∷ bs) bytes at =
    elim (heard_or a.dpid xid kind (heard a b) b (kept_of a bs) bytes at) [
      | inl here ↦ got_first a xid kind b bytes (wait_steps a bs) here.0 here.1
      | inr later ↦ got_later a.dpid xid kind bytes (heard_steps a b) (wait_steps a bs) (got_in a xid kind bs bytes later)
    ]

-- what was asked, by what was got
module _ {Own Tells : Type 0} (d xid : ℕ) (q : Query) (got : List (List ℕ)) (old new : Seen Own) (told : Tells → Happened (query_steps d xid q got) old.history new.history) where
  came_among : (kind : ℕ) (bytes : List ℕ) → IsGot d xid kind bytes (wait_steps (asked_from d xid) got) → Tells → CameFrom d bytes old.history new.history
  came_among kind bytes is tells =
      let h = told tells in
      let reply = reply_got (asked_from d xid) ∷ [] in
      let front = query_sent d xid q ∷ barrier_sent (asked_from d xid) ∷ [] in
      inr (record {
        before = h.before ++ (front ++ is.before);
        behind = (is.behind ++ reply) ++ h.behind;
        told = h.told ∙ ap (λ (w : List WorldStep). old.history ++ (h.before ++ ((front ++ (w ++ reply)) ++ h.behind))) is.steps_is ∙ ap (λ (w : List WorldStep). old.history ++ w) (regroup h.before front is.before (Acted (Got d bytes)) is.behind reply h.behind);
      })
    where
      regroup : (b f x : List WorldStep) (g : WorldStep) (y r k : List WorldStep) → b ++ ((f ++ ((x ++ (g ∷ y)) ++ r)) ++ k) ≡ (b ++ (f ++ x)) ++ ((g ∷ []) ++ ((y ++ r) ++ k))
      regroup b f x g y r k = simp append_assoc

  sent_among : (kind : ℕ) (bytes : List ℕ) → IsGot d xid kind bytes (wait_steps (asked_from d xid) got) → Tells → SentThenGot d (query_bytes xid q) bytes old.history new.history
  sent_among kind bytes is tells =
      let h = told tells in
      let reply = reply_got (asked_from d xid) ∷ [] in
      let ask = query_sent d xid q in
      let bar = barrier_sent (asked_from d xid) in (
        bar ∷ is.before,
        record {
          before = h.before;
          behind = (is.behind ++ reply) ++ h.behind;
          told = h.told ∙ ap (λ (w : List WorldStep). old.history ++ (h.before ++ ((ask ∷ bar ∷ (w ++ reply)) ++ h.behind))) is.steps_is
              ∙ ap (λ (w : List WorldStep). old.history ++ (h.before ++ (ask ∷ bar ∷ w))) (regroup is.before (Acted (Got d bytes)) is.behind reply h.behind);
        },
      )
    where
      regroup : (x : List WorldStep) (g : WorldStep) (y r k : List WorldStep) → ((x ++ (g ∷ y)) ++ r) ++ k ≡ (x ++ (g ∷ [])) ++ ((y ++ r) ++ k)
      regroup x g y r k = simp append_assoc

  part_why : (e : ℕ) (bytes : List ℕ) → (e ≡ d) × (refusals_in xid (came_for d xid got) ≡ []) × IsBroken q.kind (parts_in xid (came_for d xid got)) bytes → IsWhyTxn Tells old new (SwitchBroke e bytes)
  part_why e bytes is =
      let part = got_in (asked_from d xid) xid 17 got bytes (is.2.0, is.2.1) in
      let bad : IsBadPart Tells d bytes old new = record { xid = xid; query = q; got = got; kind = about_kind xid 17 bytes part.about; no_refusal = is.1; broken = is.2; told = told } in
      subst (λ (n : ℕ). (Tells → CameFrom n bytes old.history new.history) × (IsErr (reading_of bytes) ⊎ IsBadPart Tells n bytes old new)) (sym is.0) (came_among 17 bytes part, inr bad)

  unanswered_why : refusals_in xid (came_for d xid got) ≡ [] → parts_in xid (came_for d xid got) ≡ [] → IsWhyTxn Tells old new (Diverged d (query_bytes xid q) (message_bytes (next_xid xid) BarrierReply))
  unanswered_why none_refused no_part =
      let reply = message_bytes (next_xid xid) BarrierReply in (
        (λ tells. (barrier_sent (asked_from d xid) ∷ wait_steps (asked_from d xid) got, told tells)),
        inr (record { xid = xid; query = q; got = got; sent_is = refl; reply_is = refl; no_part = no_part; no_refusal = none_refused; told = told }),
      )

  fault_why : (fault : TxnFault) → IsFaultOf q.kind d (query_bytes xid q) (message_bytes (next_xid xid) BarrierReply) (parts_in xid (came_for d xid got)) (refusals_in xid (came_for d xid got)) fault → IsWhy Tells old new 0 0 (ended_by fault)
  fault_why (SwitchBroke e bytes) is = part_why e bytes is
  fault_why (Diverged e sent bytes) is =
      subst (λ (n : ℕ). IsWhyTxn Tells old new (Diverged n sent bytes)) (sym is.0) (subst (λ (s : List ℕ). IsWhyTxn Tells old new (Diverged d s bytes)) (sym is.1)
      (subst (λ (b : List ℕ). IsWhyTxn Tells old new (Diverged d (query_bytes xid q) b)) (sym is.4) (unanswered_why is.2 is.3)))
  fault_why (Flooded e n) is = absurd is
  fault_why NoMemory is = tt

-- the rows of all flows
module _ {Own Tells : Type 0} (d xid : ℕ) (got : List (List ℕ)) (old new : Seen Own) (told : Tells → Happened (rows_steps d xid got) old.history new.history) where
  error_why : (bytes : List ℕ) → slice_get (refusals_in xid (came_for d xid got)) 0 ≡ Some bytes → IsWhyTxn Tells old new (Diverged d (flows_request xid) bytes)
  error_why bytes at =
      let is = got_in (asked_from d xid) xid 1 got bytes (0, at) in
      (sent_among d xid flows_query got old new told 1 bytes is, inl (record { kind = about_kind xid 1 bytes is.about; sent_is = inr (ap (λ (n : ℕ). flows_request n) (sym (about_xid xid 1 bytes is.about))) }))

  refused_why : (bytes : List ℕ) → IsRefusal (parts_in xid (came_for d xid got)) (refusals_in xid (came_for d xid got)) (message_bytes (next_xid xid) BarrierReply) bytes → IsWhyTxn Tells old new (Diverged d (flows_request xid) bytes)
  refused_why bytes (inl first) = error_why bytes first
  refused_why bytes (inr none) = subst (λ (b : List ℕ). IsWhyTxn Tells old new (Diverged d (flows_request xid) b)) (sym none.2) (unanswered_why d xid flows_query got old new told none.0 none.1)

  replies_why : (fault : TxnFault) → IsRepliesFault d (flows_request xid) (message_bytes (next_xid xid) BarrierReply) (parts_in xid (came_for d xid got)) (refusals_in xid (came_for d xid got)) fault → IsWhy Tells old new 0 0 (ended_by fault)
  replies_why (SwitchBroke e bytes) is = part_why d xid flows_query got old new told e bytes is
  replies_why (Diverged e sent bytes) is =
      subst (λ (n : ℕ). IsWhyTxn Tells old new (Diverged n sent bytes)) (sym is.0) (subst (λ (s : List ℕ). IsWhyTxn Tells old new (Diverged d s bytes)) (sym is.1) (refused_why bytes is.2))
  replies_why (Flooded e n) is = absurd is
  replies_why NoMemory is = tt

query_flood : {Own : Type 0} (Tells : Type 0) (i : Inquiry) (old new : Seen Own) (fault : TxnFault) → IfFlooded Tells (asked_from i.dpid i.xid) (inquiry_sent i) old new fault → FloodSo Tells i.dpid old new fault
query_flood Tells i old new (Flooded of n) f = flood_of (asked_from i.dpid i.xid) (query_sent i.dpid i.xid i.query ∷ []) old new f
query_flood Tells i old new (SwitchBroke of bytes) f = tt
query_flood Tells i old new (Diverged of sent got) f = tt
query_flood Tells i old new NoMemory f = tt

ask_why : {Own Tells : Type 0} (d xid : ℕ) (old new : Seen Own) (kept now_kept : List (ℕ × List ℕ)) (fault : TxnFault) → IfFlooded Tells (asked_from d xid) (request_sent d xid ∷ barrier_sent (asked_from d xid) ∷ []) old new fault
    → IsAskCause Tells d xid old new kept now_kept fault → IsWhy Tells old new 0 0 (ended_by fault)
ask_why {Tells = Tells} d xid old new kept now_kept fault flooded (inl cause) = cause_why Tells d old new fault cause (query_flood Tells (rows_inquiry d xid) old new fault flooded)
ask_why {Tells = Tells} d xid old new kept now_kept fault flooded (inr asks) =
    let waits = asks.1.waits in
    let steps = rows_steps d xid waits.got in
    let told : (Tells → Happened steps old.history new.history) = λ tells. record { before = []; behind = []; told = waits.hears.told tells ∙ ap (λ (xs : List WorldStep). old.history ++ xs) (sym (append-nil steps)) } in
    replies_why d xid waits.got old new told fault
    (subst (λ (came : List (ℕ × List ℕ)). IsRepliesFault d (flows_request xid) (message_bytes (next_xid xid) BarrierReply) (parts_in xid came) (refusals_in xid came) fault) waits.hears.kept_is asks.2)

pub asks_why : {Own : Type 0} {Tells : Type 0} {d : ℕ} {old new : Seen Own} {net now_net : NetState} (fault : TxnFault) → Asks Tells d old new net now_net (Err fault) → IsWhy Tells old new 0 0 (ended_by fault)
asks_why {d = d} {old = old} {new = new} {net = net} {now_net = now_net} fault asks = ask_why d net.xid old new net.kept now_net.kept fault asks.asks.flooded asks.asks.answer

-- ---- An undo

undone_why : {Own : Type 0} (Tells : Type 0) (old new : Seen Own) (d : ℕ) (fault : TxnFault) → IsWhyUndo Tells d old new fault → IsWhy Tells old new 0 0 (ended_by fault)
undone_why Tells old new d (SwitchBroke e bytes) why =
    subst (λ (n : ℕ). (Tells → CameFrom n bytes old.history new.history) × (IsErr (reading_of bytes) ⊎ IsBadPart Tells n bytes old new)) (sym why.0) ((λ tells. inr (why.2 tells)), inl why.1)
undone_why Tells old new d (Diverged e inverse bytes) why =
    subst (λ (n : ℕ). (Tells → SentThenGot n inverse bytes old.history new.history) × (IsErrorFor inverse bytes ⊎ IsUnanswered Tells n inverse bytes old new)) (sym why.0)
    (why.2, inl (record { kind = why.1.kind; sent_is = inl (why.1.key, why.1.inverse_is) }))
undone_why Tells old new d (Flooded e n) why = subst (λ (x : ℕ). (n ≡ flood) × IsFlood Tells x n old new) (sym why.0) (why.1, why.2)
undone_why Tells old new d NoMemory why = tt

module _ {Own Tells : Type 0} (old new : Seen Own) where
  stuck_why : (d : ℕ) (p : Part) (older : List (ℕ × Part)) (rest : List WorldStep) (fault : TxnFault) → (Tells → new.history ≡ old.history ++ ((steps_of older ++ part_steps d p) ++ rest)) → IsRun old.counts new.counts d (p ∷ parts_of d older) → fault_in p ≡ Some fault
      → IsWhy Tells old new 0 0 (ended_by fault)
  stuck_why d p older rest fault told run is =
      let f = faulty d old.counts new.counts p (parts_of d older) fault run is in
      undone_why Tells old new d fault
      (stuck_in_undo old new d older f.steps rest fault (λ tells. told tells ∙ ap (λ (steps : List WorldStep). old.history ++ ((steps_of older ++ steps) ++ rest)) f.steps_is) f.cause)

module _ {Own Tells : Type 0} (old new : Seen Own) where
  by_older : (p : ℕ × Part) (older : List (ℕ × Part)) (rest : List WorldStep) (fault : TxnFault) → (Tells → new.history ≡ old.history ++ ((steps_of older ++ part_steps p.0 p.1) ++ rest)) → ((d : ℕ) → IsRun old.counts new.counts d (parts_of d (p ∷ older)))
      → (first_fault older ≡ Some fault → IsWhy Tells old new 0 0 (ended_by fault)) → (o : Option TxnFault) → first_fault older ≡ o → first_fault_of o (fault_in p.1) ≡ Some fault → IsWhy Tells old new 0 0 (ended_by fault)
  by_older p older rest fault told runs earlier None none h = stuck_why old new p.0 p.1 older rest fault told (runs_here old.counts new.counts p older runs) h
  by_older p older rest fault told runs earlier (Some first) some h = earlier (some ∙ h)

  parts_why : (parts : List (ℕ × Part)) (rest : List WorldStep) (fault : TxnFault) → (Tells → new.history ≡ old.history ++ (steps_of parts ++ rest)) → ((d : ℕ) → IsRun old.counts new.counts d (parts_of d parts)) → first_fault parts ≡ Some fault
      → IsWhy Tells old new 0 0 (ended_by fault)
  parts_why [] rest fault told runs is = absurd cc
  parts_why (p ∷ older) rest fault told runs is =
      let steps = part_steps p.0 p.1 in
      by_older p older rest fault told runs
      (λ first. parts_why older (steps ++ rest) fault (λ tells. told tells ∙ ap (λ (w : List WorldStep). old.history ++ w) (append_assoc (steps_of older) steps rest)) (runs_older old.counts new.counts p older runs) first)
      (first_fault older) refl is

faulted : (o : Option TxnFault) (fault : TxnFault) → Err fault ≡ undo_ended o → o ≡ Some fault
faulted None fault h = absurd cc
faulted (Some x) fault h = cc

pub undo_why : {Own : Type 0} {Tells : Type 0} (start : ℕ) (old new : Seen Own) (net now_net : NetState) (fault : TxnFault) → Undoes Tells start old new net now_net (Err fault) → IsWhy Tells old new 0 0 (ended_by fault)
undo_why start old new net now_net fault u =
    parts_why old new u.parts [] fault (λ tells. u.told tells ∙ ap (λ (w : List WorldStep). old.history ++ w) (sym (append-nil (steps_of u.parts)))) (λ d. (u.each d).run) (faulted (first_fault u.parts) fault u.result_is)

-- ---- A turn that stopped

change_flood : {Own Tells : Type 0} (d : ℕ) (bytes : List ℕ) (old new : Seen Own) (net now_net : NetState) (fault : TxnFault) → ChangesJoined Tells d bytes old new net now_net (Err fault) → (o : Option Answer) → answer_of_host d bytes net ≡ o → FloodSo Tells d old new fault
change_flood {Tells = Tells} d bytes old new net now_net fault changes (Some a) host = subst (λ (f : TxnFault). FloodSo Tells d old new f) (sym (changes.by_host a host).fault) tt
change_flood {Tells = Tells} d bytes old new net now_net (Flooded of n) changes None host = elim (asked (known_rows d net.views) bytes host) [
  | inl read ↦ let given = changes.flooded read.xid read.change host read.read in flood_of _ (change_sent d net.xid read.change ∷ []) old new given.2
  | inr query ↦ query_flood Tells (record { dpid = d; xid = net.xid; query = query.query }) old new (Flooded of n) (changes.by_statistics query.xid query.query host query.read).flooded
]
change_flood {Tells = Tells} d bytes old new net now_net (SwitchBroke of came) changes None host = tt
change_flood {Tells = Tells} d bytes old new net now_net (Diverged of sent got) changes None host = tt
change_flood {Tells = Tells} d bytes old new net now_net NoMemory changes None host = tt

-- what came for a request of statistics
reply_why : {Own Tells : Type 0} (i : Inquiry) (old new : Seen Own) (kept now_kept : List (ℕ × List ℕ)) (fault : TxnFault) → IsReplyCause Tells i old new kept now_kept fault → IsWhy Tells old new 0 0 (ended_by fault)
reply_why {Tells = Tells} i old new kept now_kept fault reply =
    let waits = reply.answered.waits in
    let steps = query_steps i.dpid i.xid i.query waits.got in
    let told : (Tells → Happened steps old.history new.history) = λ tells. record { before = []; behind = []; told = waits.hears.told tells ∙ ap (λ (xs : List WorldStep). old.history ++ xs) (sym (append-nil steps)) } in
    fault_why i.dpid i.xid i.query waits.got old new told fault
    (subst (λ (came : List (ℕ × List ℕ)). IsFaultOf i.query.kind i.dpid (query_bytes i.xid i.query) (message_bytes (next_xid i.xid) BarrierReply) (parts_in i.xid came) (refusals_in i.xid came) fault) waits.hears.kept_is reply.why)

-- statistics that the host asked for itself
pub query_why : {Own Tells : Type 0} (i : Inquiry) (old new : Seen Own) (net now_net : NetState) (fault : TxnFault) → Queried Tells i old new net now_net (Err fault) → IsWhy Tells old new 0 0 (ended_by fault)
query_why {Tells = Tells} i old new net now_net fault asked = elim asked.queried [
  | inl q ↦ elim q.answer [
    | inl cause ↦ cause_why Tells i.dpid old new fault cause (query_flood Tells i old new fault q.flooded)
    | inr reply ↦ reply_why i old new net.kept now_net.kept fault reply
  ]
  | inr lost ↦ absurd (no_answer Unknown lost.0)
]
  where
    no_answer : (a : Answer) → Err fault ≡ Ok a → ⊥
    no_answer a h = cc

change_why : {Own Tells : Type 0} (d : ℕ) (bytes : List ℕ) (old new : Seen Own) (net now_net : NetState) (fault : TxnFault) → Changes Tells d bytes old new net now_net (Err fault) → IsWhy Tells old new 0 0 (ended_by fault)
change_why {Tells = Tells} d bytes old new net now_net fault changes = elim changes.answered [
  | inl joined ↦ elim changes.cause [
    | inl cause ↦ cause_why Tells d old new fault cause (change_flood d bytes old new net now_net fault joined (answer_of_host d bytes net) refl)
    | inr reply ↦ reply_why reply.0 old new net.kept now_net.kept fault reply.2
  ]
  | inr gone ↦ absurd (no_answer Unknown gone.1)
]
  where
    no_answer : (a : Answer) → Err fault ≡ Ok a → ⊥
    no_answer a h = cc

pub stops_why : {Own : Type 0} {Tells : Type 0} {app : ℕ} (old new : Seen Own) (net now_net : NetState) (fault : TxnFault) → Stops Tells app old new net now_net fault → IsWhy Tells old new 0 0 (ended_by fault)
stops_why {Own} {Tells} old new net now_net fault stops =
    IsWhy-behind old stops.then_seen new 0 0 0 (ended_by fault) (Leads-continues stops.leads) (omega arith) (halts_why stops.then_seen stops.then_net stops.halts)
  where
    halts_why : (mid : Seen Own) (mid_net : NetState) → Halts Tells mid new mid_net now_net fault → IsWhy Tells mid new 0 0 (ended_by fault)
    halts_why mid mid_net (inl wants) = subst (λ (f : TxnFault). IsWhy Tells mid new 0 0 (ended_by f)) (sym wants.0) tt
    halts_why mid mid_net (inr failed) = change_why failed.0 failed.1.0 mid new mid_net now_net fault failed.1.1

-- ---- A release that stopped

packet_flood : {Own : Type 0} (Tells : Type 0) (d xid : ℕ) (packet : Packet) (old new : Seen Own) (fault : TxnFault) → IfFlooded Tells (asked_from d xid) (packet_steps d xid packet) old new fault → FloodSo Tells d old new fault
packet_flood Tells d xid packet old new (Flooded of n) f = flood_of (asked_from d xid) (Acted (Sent d (message_bytes xid (PacketOut packet))) ∷ []) old new f
packet_flood Tells d xid packet old new (SwitchBroke of bytes) f = tt
packet_flood Tells d xid packet old new (Diverged of sent got) f = tt
packet_flood Tells d xid packet old new NoMemory f = tt

breaks_why : {Own : Type 0} {Tells : Type 0} (held : Held) (old new : Seen Own) (net : NetState) (fault : TxnFault) → BreaksAt Tells held old new net fault → IsWhy Tells old new 0 0 (ended_by fault)
breaks_why {Tells = Tells} held old new net fault breaks = cause_why Tells held.0 old new fault breaks.cause (packet_flood Tells held.0 net.xid held.1 old new fault breaks.flooded)

committed_why : {Own : Type 0} {Tells : Type 0} (start : ℕ) (old new : Seen Own) (net now_net : NetState) (queue now_queue : List Event) (fault : TxnFault) → UndoneForMemory Tells start old new net now_net queue now_queue fault ⊎ StopsRelease Tells start old new net queue fault
    → IsWhy Tells old new 0 0 (ended_by fault)
committed_why {Tells = Tells} start old new net now_net queue now_queue fault (inl undone) = subst (λ (f : TxnFault). IsWhy Tells old new 0 0 (ended_by f)) (sym undone.fault_is) tt
committed_why {Tells = Tells} start old new net now_net queue now_queue fault (inr stops) =
    IsWhy-behind old stops.mid new 0 0 0 (ended_by fault) (releases-continue Tells stops.front stops.sent old stops.mid (committed start net) stops.mid_net (queue ++ net.held.notices) stops.mid_queue stops.before) (omega arith)
    (breaks_why stops.broken stops.mid new stops.mid_net fault stops.breaks)

pub commit_why : {Own : Type 0} {Tells : Type 0} (start : ℕ) (old new : Seen Own) (net now_net : NetState) (queue now_queue : List Event) (fault : TxnFault) → Commits Tells start old new net now_net queue now_queue (Err fault) → IsWhy Tells old new 0 0 (ended_by fault)
commit_why start old new net now_net queue now_queue fault commits = committed_why start old new net now_net queue now_queue fault commits.ended
