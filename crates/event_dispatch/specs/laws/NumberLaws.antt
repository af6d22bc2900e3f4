-- Laws of the transaction ids of the engine's own messages, over parts of a run that follow one another.
use Rattle.std.specs.Prelude.{◌≡◌, ◌≤◌, ◌^◌, ℕ, ◌++◌, Bool, List, [], ◌∷◌, Option, Some, None, IsOk, IsErr, Result, Ok, Err, refl}
use Rattle.std.proofs.Common.{sym, ap, ◌∙◌, subst, append_assoc, arith, true≢false}
use Rattle.std.proofs.lemmas.List.{append-nil}
use Rattle.of_types.specs.declared.journal.WorldStim.{WorldStim}
use Rattle.of_stats.specs.declared.flow_row.FlowRow.{FlowRow}
use Rattle.flow_table.specs.View.{TableView}
use Rattle.app_frames.specs.declared.frame.Event.{Event}
use Rattle.outside.specs.declared.faults.NextFault.{NextFault}
use Rattle.outside.specs.declared.faults.NextFault.TheVariants as coming
use Rattle.outside.specs.declared.item.Item.{Item}
use Rattle.outside.specs.declared.item.Item.TheVariants as items
use Rattle.outside.specs.declared.step.WorldStep.{WorldStep}
use Rattle.outside.specs.declared.step.WorldStep.TheVariants.{Opened, NotOpened}
use Rattle.outside.specs.Seen.{Seen, Continues, journal}
use Rattle.outside.specs.Calls.{Nexts, item_step, next_steps}
use Rattle.outside.specs.InOrder.{InOrder}
use Rattle.outside.specs.laws.InOrderLaws.{InOrder-before}
use Rattle.lego_model.specs.declared.fault.TxnFault.{TxnFault}
use Rattle.lego_model.specs.OwnIds.{own_ids, AscendWithin, IsShortRun, OwnIdsAscend, OwnIdsSoFar}
use Rattle.net_txn.specs.Net.{NetState}
use Rattle.net_txn.specs.Asks.{Asks}
use Rattle.net_txn.specs.OwnIds.{KeepsIds}
use Rattle.net_txn.specs.Undos.{Undoes}
use Rattle.net_txn.specs.Releases.{Commits}
use Rattle.net_txn.specs.Abreast.{Abreast}
use Rattle.net_txn.specs.laws.AbreastLaws.{viewed_joined}
use Rattle.net_txn.specs.laws.OwnIdLaws.{own_ids_two, so_far_ascends, short_before}
use Rattle.net_txn.specs.laws.UndoIdLaws.{undone_ids}
use Rattle.app_visor.specs.Beats.{Leads, Stops}
use Rattle.app_visor.specs.CallsFor.{OwnSteps}
use Rattle.app_visor.specs.laws.CallOrderLaws.{chain_abreast, stops_abreast}
use Rattle.app_visor.specs.laws.OwnIdLaws.{none_sent_ids, own_steps_ids, chain_ids, stops_ids}
use Rattle.turn_laws.specs.laws.FaultLaws.{turn-leads}
use Rattle.run_laws.specs.First.{net_at_first}
use Rattle.event_dispatch.specs.declared.served.Served.{Served}
use Rattle.event_dispatch.specs.declared.served.Served.TheVariants as served
use Rattle.event_dispatch.specs.declared.closing.Closing.{Closing}
use Rattle.event_dispatch.specs.declared.closing.Closing.TheVariants as closings
use Rattle.event_dispatch.specs.Serves.{PlaysTurn, IsUnopened}
use Rattle.event_dispatch.specs.Steady.{Reads, NoOwnMessage}
use Rattle.event_dispatch.specs.Numbers.{IdsAscend, AscendSoFar, GoesOnAscending, EndsAscending}
use Rattle.event_dispatch.specs.laws.FrontLaws.{abreast_first}

-- ---- They ascend, however the part ended

pub ids_ascend : {Own T E : Type 0} (result : Result T E) (seen : Seen Own) (next : ℕ) → IsShortRun seen → IdsAscend result seen next → OwnIdsAscend seen
ids_ascend (Ok x) seen next short so_far = so_far_ascends seen next 0 short (omega arith) so_far
ids_ascend (Err fault) seen next short ascend = ascend

-- of a result whose next id is this
pub ids_of : {Own T E : Type 0} (result : Result T E) (seen : Seen Own) (next : ℕ) → IsShortRun seen → OwnIdsSoFar 0 seen next → IdsAscend result seen next
ids_of (Ok x) seen next short so_far = so_far
ids_of (Err fault) seen next short so_far = so_far_ascends seen next 0 short (omega arith) so_far

pub ids_failed : {Own T E : Type 0} (result : Result T E) (seen : Seen Own) (next : ℕ) → IsErr result → OwnIdsAscend seen → IdsAscend result seen next
ids_failed (Ok x) seen next failed ascend = absurd (true≢false (sym failed))
ids_failed (Err fault) seen next failed ascend = ascend

pub ids_over : {Own A F T E : Type 0} (used : Result A F) (result : Result T E) (seen : Seen Own) (next : ℕ) → IsShortRun seen → (IsErr used → IsErr result) → IdsAscend used seen next → IdsAscend result seen next
ids_over (Ok x) result seen next short failed so_far = ids_of result seen next short so_far
ids_over (Err fault) result seen next short failed ascend = ids_failed result seen next (failed refl) ascend

-- ---- Nothing was done, and parts that follow one another

pub same_numbers : {Own : Type 0} (Tells : Type 0) (seen : Seen Own) (net now_net : NetState) → now_net.xid ≡ net.xid → AscendSoFar Tells seen seen net now_net
same_numbers Tells seen net now_net same told order abreast short before = subst (λ (n : ℕ). OwnIdsSoFar 0 seen n) (sym same) before

-- a part behind which no message is sent
pub end_none : {Own : Type 0} (Tells : Type 0) (seen : Seen Own) (net : NetState) → EndsAscending Tells seen seen net
end_none Tells seen net told order abreast short before = so_far_ascends seen net.xid 0 short (omega arith) before

pub end_done : {Own Tells : Type 0} {old new : Seen Own} {net : NetState} (mid_net : NetState) → AscendSoFar Tells old new net mid_net → EndsAscending Tells old new net
end_done {new = new} mid_net first told order abreast short before = so_far_ascends new mid_net.xid 0 short (omega arith) (first told order abreast short before)

pub numbers_end : {Own T E Tells : Type 0} {old new : Seen Own} {net : NetState} (now_net : NetState) (result : Result T E) → GoesOnAscending Tells old new net now_net result → EndsAscending Tells old new net
numbers_end {new = new} now_net result numbers told order abreast short before = ids_ascend result new now_net.xid short (numbers told order abreast short before)

-- it failed
pub numbers_failed : {Own T E Tells : Type 0} {old new : Seen Own} {net : NetState} (next : ℕ) (result : Result T E) → IsErr result → EndsAscending Tells old new net
    → Tells → InOrder new → Abreast old net → IsShortRun new → OwnIdsSoFar 0 old net.xid → IdsAscend result new next
numbers_failed {new = new} next result failed end told order abreast short before = ids_failed result new next failed (end told order abreast short before)

-- a part that was done, and what is so behind it
pub numbers_then : {Own Tells After : Type 0} {old mid new : Seen Own} {net mid_net : NetState} → Continues Tells mid new → Reads Tells old mid net mid_net → AscendSoFar Tells old mid net mid_net
    → (Tells → InOrder new → Abreast mid mid_net → IsShortRun new → OwnIdsSoFar 0 mid mid_net.xid → After) → Tells → InOrder new → Abreast old net → IsShortRun new → OwnIdsSoFar 0 old net.xid → After
numbers_then later reads first second told order abreast short before =
    let so_far = InOrder-before told later order in
    second told order (reads.abreast told so_far abreast) short (first told so_far abreast (short_before told later short) before)

-- the world was not called behind it, and no id was taken
pub numbers_as : {Own Tells : Type 0} {old new : Seen Own} {net : NetState} (mid_net now_net : NetState) → AscendSoFar Tells old new net mid_net → now_net.xid ≡ mid_net.xid → AscendSoFar Tells old new net now_net
numbers_as {new = new} mid_net now_net first same told order abreast short before = subst (λ (n : ℕ). OwnIdsSoFar 0 new n) (sym same) (first told order abreast short before)

-- no message was sent behind it
pub end_ended : {Own Tells : Type 0} {old mid new : Seen Own} {net : NetState} → Continues Tells mid new → (Tells → NoOwnMessage mid new) → EndsAscending Tells old mid net → EndsAscending Tells old new net
end_ended {old = old} {mid = mid} {new = new} later none first told order abreast short before =
    let last = none told in
    let ascend = first told (InOrder-before told later order) abreast (short_before told later short) before in
    let same : own_ids (journal new.history) ≡ own_ids (journal mid.history) =
    ap (λ (h : List WorldStep). own_ids (journal h)) last.history ∙ own_ids_two mid.history last.steps ∙ ap (λ (ids : List ℕ). own_ids (journal mid.history) ++ ids) last.none ∙ append-nil (own_ids (journal mid.history)) in
    subst (λ (ids : List ℕ). AscendWithin 1 ids (2 ^ 32)) (sym same) ascend

pub none_sent_none : {Own : Type 0} (seen : Seen Own) → NoOwnMessage seen seen
unfolding own_ids journal
none_sent_none seen = record { steps = []; history = sym (append-nil seen.history); none = refl }

pub none_sent_then : {Own : Type 0} {old mid new : Seen Own} → NoOwnMessage old mid → NoOwnMessage mid new → NoOwnMessage old new
none_sent_then {old = old} first second = record {
  steps = first.steps ++ second.steps;
  history = second.history ∙ ap (λ (xs : List WorldStep). xs ++ second.steps) first.history ∙ append_assoc old.history first.steps second.steps;
  none = own_ids_two first.steps second.steps ∙ ap (λ (ids : List ℕ). ids ++ own_ids (journal second.steps)) first.none ∙ second.none;
}

-- ---- What keeps the ids keeps them so

pub keeps_numbers : {Own T E A F Tells : Type 0} {old new : Seen Own} (most xid now_xid : ℕ) (kept : Result A F) (result : Result T E) → most ≤ 8 → KeepsIds Tells most old new xid now_xid kept → (IsErr kept → IsErr result)
    → Tells → IsShortRun new → OwnIdsSoFar 0 old xid → IdsAscend result new now_xid
keeps_numbers {new = new} most xid now_xid (Ok x) result le keeps failed told short before = ids_of result new now_xid short (keeps told short before)
keeps_numbers {new = new} most xid now_xid (Err fault) result le keeps failed told short before = ids_failed result new now_xid (failed refl) (so_far_ascends new now_xid most short le (keeps told short before))

-- a request of rows
pub asked_numbers : {Own Tells : Type 0} {d : ℕ} {old new : Seen Own} {net now_net : NetState} (rows : Option (List FlowRow)) → Asks Tells d old new net now_net (Ok rows) → AscendSoFar Tells old new net now_net
asked_numbers rows asks told order abreast short before = asks.ids told short before

pub asked_end : {Own Tells : Type 0} {d : ℕ} {old new : Seen Own} {net now_net : NetState} (fault : TxnFault) → Asks Tells d old new net now_net (Err fault) → EndsAscending Tells old new net
asked_end {new = new} {now_net = now_net} fault asks told order abreast short before = so_far_ascends new now_net.xid 2 short (omega arith) (asks.ids told short before)

-- calls for an application
pub own_numbers : {Own Tells : Type 0} {app : ℕ} {old new : Seen Own} (net now_net : NetState) → (Tells → OwnSteps app old new) → now_net.xid ≡ net.xid → AscendSoFar Tells old new net now_net
own_numbers {new = new} net now_net own same told order abreast short before = subst (λ (n : ℕ). OwnIdsSoFar 0 new n) (sym same) (own_steps_ids 0 net.xid (own told) before)

pub own_end : {Own Tells : Type 0} {app : ℕ} {old new : Seen Own} (net : NetState) → (Tells → OwnSteps app old new) → EndsAscending Tells old new net
own_end {new = new} net own told order abreast short before = so_far_ascends new net.xid 0 short (omega arith) (own_steps_ids 0 net.xid (own told) before)

-- ---- A turn, and how it was closed

-- a turn that was released, or not
module _ {Own Tells : Type 0} {app start : ℕ} {old mid new : Seen Own} {at_net mid_net now_net : NetState} {queue now_queue : List Event} {closed : Result (List (ℕ × ℕ)) TxnFault} (net : NetState) (begun : at_net ≡ net)
    (leads : Leads Tells app old mid at_net mid_net) (commits : Commits Tells start mid new mid_net now_net queue now_queue closed) where
  committed_ids : Tells → InOrder new → Abreast old net → IsShortRun new → OwnIdsSoFar 0 old net.xid → OwnIdsAscend new × (IsOk closed → OwnIdsSoFar 0 new now_net.xid)
  committed_ids told order abreast short before =
      let here = subst (λ (n : NetState). Abreast old n) (sym begun) abreast in
      let first = subst (λ (n : NetState). OwnIdsSoFar 0 old n.xid) (sym begun) before in
      let turned = chain_ids Tells app leads.trace old mid at_net mid_net leads.chain told (short_before told commits.continues short) first in
      commits.ids told short (viewed_joined (chain_abreast Tells app leads.trace old mid at_net mid_net leads.chain told here)) turned

  pub committed_numbers : IsOk closed → AscendSoFar Tells old new net now_net
  committed_numbers is told order abreast short before = (committed_ids told order abreast short before).1 is

  pub committed_end : EndsAscending Tells old new net
  committed_end told order abreast short before = (committed_ids told order abreast short before).0

-- a turn that was undone, or not
module _ {Own Tells : Type 0} {app start : ℕ} {old mid new : Seen Own} {at_net mid_net now_net : NetState} {closed : Result (Unit {0}) TxnFault} (net : NetState) (begun : at_net ≡ net)
    (leads : Leads Tells app old mid at_net mid_net) (undone : Undoes Tells start mid new mid_net now_net closed) where
  undoing_ids : Tells → InOrder new → Abreast old net → IsShortRun new → OwnIdsSoFar 0 old net.xid → OwnIdsAscend new × (IsOk closed → OwnIdsSoFar 0 new now_net.xid)
  undoing_ids told order abreast short before =
      let here = subst (λ (n : NetState). Abreast old n) (sym begun) abreast in
      let first = subst (λ (n : NetState). OwnIdsSoFar 0 old n.xid) (sym begun) before in
      let turned = chain_ids Tells app leads.trace old mid at_net mid_net leads.chain told (short_before told undone.continues short) first in
      undone_ids undone told short (viewed_joined (chain_abreast Tells app leads.trace old mid at_net mid_net leads.chain told here)) 0 (omega arith) turned

  pub undone_numbers : IsOk closed → AscendSoFar Tells old new net now_net
  undone_numbers is told order abreast short before = (undoing_ids told order abreast short before).1 is

  pub undone_end : EndsAscending Tells old new net
  undone_end told order abreast short before = (undoing_ids told order abreast short before).0

pub played_numbers : {Own Tells : Type 0} {accepts : List TableView → Bool} {app budget number : ℕ} {event : Event} {old new : Seen Own} {queue now_queue : List Event} {rest unread : List ℕ} (closing : Closing) (net now_net : NetState)
    → PlaysTurn Tells accepts app budget number event closing old new net now_net queue now_queue rest unread → AscendSoFar Tells old new net now_net
played_numbers (closings.Done stop out) net now_net plays = committed_numbers net refl (turn-leads plays.turns) plays.played refl
played_numbers (closings.Failed cause) net now_net plays = undone_numbers net refl (turn-leads plays.turns) plays.played.0 refl

pub stopped_end : {Own Tells : Type 0} {app start : ℕ} {old mid new : Seen Own} {at_net mid_net now_net : NetState} {fault : TxnFault} {closed : Result (Unit {0}) TxnFault} (net : NetState) → at_net ≡ net
    → Stops Tells app old mid at_net mid_net fault → Undoes Tells start mid new mid_net now_net closed → EndsAscending Tells old new net
stopped_end {old = old} net begun s undone told order abreast short before =
    let here = subst (λ (n : NetState). Abreast old n) (sym begun) abreast in
    let first = subst (λ (n : NetState). OwnIdsSoFar 0 old n.xid) (sym begun) before in
    let stopped = stops_ids s told (short_before told undone.continues short) first in
    (undone_ids undone told short (viewed_joined (stops_abreast s told here)) 2 (omega arith) stopped).0

-- ---- What is told next sends none

item_none : (item : Item) (buf : List ℕ) → own_ids (journal (item_step item buf ∷ [])) ≡ []
unfolding item_step own_ids journal
item_none (items.From d n) buf = refl
item_none (items.Joined d n) buf = refl
item_none (items.Left d) buf = refl
item_none (items.Moment t) buf = refl
item_none items.Idle buf = refl
item_none items.End buf = refl

next_none : (begun : Option WorldStim) (result : Result Item NextFault) (buf : List ℕ) → own_ids (journal (next_steps begun result buf)) ≡ []
unfolding next_steps own_ids journal
next_none None (Ok item) buf = item_none item buf
next_none (Some x) (Ok item) buf = item_none item buf
next_none begun (Err coming.Failed) buf = refl
next_none begun (Err coming.Short) buf = refl

pub next_ids : {Own Tells : Type 0} {old new : Seen Own} {result : Result Item NextFault} {buf : List ℕ} (xid : ℕ) → Nexts Tells old new result buf → Tells → OwnIdsSoFar 0 old xid → OwnIdsSoFar 0 new xid
next_ids {old = old} {new = new} {result = result} {buf = buf} xid call told before = none_sent_ids old new (next_steps (call.told told).begun result buf) xid (call.told told).history (next_none (call.told told).begun result buf) before

-- ---- Of a world on which no call was made

ids_at_first : {Own : Type 0} (seen : Seen Own) (steps : List WorldStep) → seen.history ≡ steps → own_ids (journal steps) ≡ [] → OwnIdsSoFar 0 seen 1
ids_at_first seen steps is none = record {
  ascend = subst (λ (ids : List ℕ). AscendWithin 1 ids 1) (sym (ap (λ (h : List WorldStep). own_ids (journal h)) is ∙ none)) (omega arith);
  few = omega arith;
}

-- it was opened
pub opened_ids : {Own : Type 0} (Tells : Type 0) (old mid new : Seen Own) → (Tells → mid.history ≡ old.history ++ Opened ∷ []) → EndsAscending Tells mid new net_at_first → Tells → old.history ≡ [] → InOrder new → IsShortRun new → OwnIdsAscend new
unfolding own_ids journal
opened_ids Tells old mid new opened numbers told none order short =
    let is = opened told ∙ ap (λ (h : List WorldStep). h ++ Opened ∷ []) none in
    numbers told order (abreast_first mid is) short (ids_at_first mid (Opened ∷ []) is refl)

-- or not
pub unopened_ids : {Own : Type 0} (Tells : Type 0) (old new : Seen Own) (end : Served) → IsUnopened Tells old new end → Tells → old.history ≡ [] → IsShortRun new → OwnIdsAscend new
unfolding own_ids journal
unopened_ids Tells old new served.Shut left told none short = so_far_ascends new 1 0 short (omega arith) (ids_at_first new (NotOpened ∷ []) (left told ∙ ap (λ (h : List WorldStep). h ++ NotOpened ∷ []) none) refl)
unopened_ids Tells old new served.NoMemory left told none short = so_far_ascends new 1 0 short (omega arith) (ids_at_first new [] (left told ∙ none) refl)
unopened_ids Tells old new (served.EventsLeft n) left told none short = absurd left
unopened_ids Tells old new (served.Ended events) left told none short = absurd left
unopened_ids Tells old new served.WriteFault left told none short = absurd left
unopened_ids Tells old new served.NextFault left told none short = absurd left
unopened_ids Tells old new (served.Txn fault) left told none short = absurd left
