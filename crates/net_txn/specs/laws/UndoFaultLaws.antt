-- Where a world keeps its word and nothing waited of any joined switch, an undo gives no cause for a fault but by memory.
use Rattle.std.specs.Prelude.{◌≡◌, ℕ, ◌≤◌, true, false, List, [], ◌∷◌, ◌++◌, length, Option, Some, None, Result, IsErr, IfErr, refl}
use Rattle.std.proofs.Common.{sym, ap, ◌∙◌, subst, inl, inr, arith}
use Rattle.of_types.specs.declared.journal.Act.TheVariants.{Got}
use Rattle.of_match.specs.declared.key.Key.{Key}
use Rattle.of_wire.specs.declared.message.Message.TheVariants.{BarrierRequest, BarrierReply}
use Rattle.of_wire.specs.Reading.{reading_of}
use Rattle.of_wire.specs.Spelling.{message_bytes}
use Rattle.of_wire.specs.laws.ReadingLaws.{reading_of-message_bytes}
use Rattle.flow_table.specs.View.{TableView}
use Rattle.flow_table.specs.Switch.{Declared, SwitchState}
use Rattle.outside.specs.declared.step.WorldStep.{WorldStep}
use Rattle.outside.specs.declared.step.WorldStep.TheVariants.{Acted}
use Rattle.outside.specs.Seen.{Counts, Seen}
use Rattle.outside.specs.State.{State, after_step, after_steps, state, switch_of, waits_of}
use Rattle.outside.specs.laws.StateLaws.{Conforming-rest, MaySteps-front, MaySteps-rest}
use Rattle.outside.specs.Conforming.{MaySteps, Conforming}
use Rattle.lego_model.specs.declared.fault.TxnFault.{TxnFault}
use Rattle.lego_model.specs.declared.fault.TxnFault.TheVariants.{SwitchBroke, Diverged, Flooded, NoMemory}
use Rattle.net_txn.specs.Causes.{IsPlain}
use Rattle.lego_model.specs.BarrierWaits.{barrier_sent}
use Rattle.net_txn.specs.laws.HeardLaws.{IsMessage-barrier}
use Rattle.net_txn.specs.laws.StepLaws.{told_waits, barrier_sends}
use Rattle.net_txn.specs.laws.FloodLaws.{both_ways, got_reads, few_got}
use Rattle.net_txn.specs.laws.NoticeLaws.{with_entries}
use Rattle.net_txn.specs.laws.TableBoundLaws.{table_few}
use Rattle.net_txn.specs.laws.JoiningFaultLaws.{notices_got}
use Rattle.net_txn.specs.declared.halt.Halt.TheVariants.{Lost, Fault}
use Rattle.net_txn.specs.Undos.{IsFaultOf, IsRun, Part, Inverse, BarrierPassed, Stuck, part_steps, steps_of, parts_of, is_stuck, inverses_of, fault_in, first_fault, ended_by, StandsReady}
use Rattle.lego_model.specs.UndoFaults.{EndsBy, Overruns}
use Rattle.net_txn.specs.Views.{is_viewed}
use Rattle.net_txn.specs.laws.RestoreLaws.{AllRun, runs_here, runs_older, entries_left, Left, left_all, left_refused, earlier_or, one_fault}
use Rattle.net_txn.specs.laws.KeepLaws.{AreReady, ready_here, ready_older, ready_all}

-- ---- One switch

-- what was got is a message
not_broke : (declared : List Declared) (d : ℕ) (bytes : List ℕ) (steps : List WorldStep) (t : State) → EndsBy d bytes steps → MaySteps declared steps t → IsErr (reading_of bytes) → ⊥
not_broke declared d bytes steps t ends may broken =
    let last = Acted (Got d bytes) ∷ [] in
    let going = subst (λ (xs : List WorldStep). MaySteps declared xs t) ends.1 may in
    both_ways (reading_of bytes) (got_reads declared d bytes (after_steps ends.0 t) (MaySteps-rest declared ends.0 last t going)) broken

-- the reply comes behind no more messages than the table had entries
not_overrun : (declared : List Declared) (d : ℕ) (steps : List WorldStep) (s : SwitchState) (older : List Part) (t : State) → Overruns d steps → MaySteps declared steps t → Left d s older t → length s.table.entries ≤ 4096 → ⊥
not_overrun declared d steps s older t r may l small =
    let a = r.awaited in
    let here = subst (λ (n : ℕ). Left n s older t) (sym r.of_switch) l in
    let now = with_entries (entries_left older s.table.entries) s in
    let reply = message_bytes a.barrier BarrierReply in
    let read = reading_of-message_bytes a.barrier BarrierRequest r.is_xid IsMessage-barrier in
    let u = after_step (barrier_sent a) t in
    let waits : waits_of a.dpid u ≡ waits_of a.dpid t ++ reply ∷ [] = told_waits a.dpid a.barrier BarrierRequest (message_bytes a.barrier BarrierRequest) t now read here.switch ∙ ap (λ (ws : List (List ℕ)). waits_of a.dpid t ++ ws) (barrier_sends a.barrier now) in
    let going = subst (λ (xs : List WorldStep). MaySteps declared xs t) r.steps_is may in
    let few = few_got declared a (waits_of a.dpid t) r.got u (notices_got a (waits_of a.dpid t) here.notices) waits going.1 r.before_reply in
    omega (arith, few, r.many, here.few, small)

plain_cause : (declared : List Declared) (old new : Counts) (d : ℕ) (sent : List (ℕ × Key)) (steps : List WorldStep) (fault : TxnFault) (s : SwitchState) (older : List Part) (t : State) → IsFaultOf d sent old new steps fault → MaySteps declared steps t → Left d s older t → length s.table.entries ≤ 4096 → IsPlain fault
plain_cause declared old new d sent steps (SwitchBroke e bytes) s older t cause may l small = not_broke declared d bytes steps t cause.2 may cause.1
plain_cause declared old new d sent steps (Diverged e inverse bytes) s older t cause may l small = left_refused declared d sent steps inverse bytes s older t cause.1 may l
plain_cause declared old new d sent steps (Flooded e n) s older t cause may l small = not_overrun declared d steps s older t cause.2 may l small
plain_cause declared old new d sent steps NoMemory s older t cause may l small = tt

plain_part : (declared : List Declared) (old new : Counts) (d : ℕ) (p : Part) (fault : TxnFault) (s : SwitchState) (older : List Part) (t : State) → IsRun old new d (p ∷ older) → fault_in p ≡ Some fault → MaySteps declared (part_steps d p) t
    → (is_stuck older ≡ false → Left d s older t) → length s.table.entries ≤ 4096 → IsPlain fault
plain_part declared old new d (Inverse xid k) fault s older t run is may l small = absurd cc
plain_part declared old new d (BarrierPassed xid got) fault s older t run is may l small = absurd cc
plain_part declared old new d (Stuck xid Lost steps) fault s older t run is may l small = absurd cc
plain_part declared old new d (Stuck xid (Fault first) steps) fault s older t run is may l small =
    subst IsPlain (one_fault first fault is) (plain_cause declared old new d (inverses_of older) steps first s older t run.0.cause may (l run.1) small)

-- ---- All parts

-- each table has 4,096 entries at most
abbrev AreSmall : State → Type 0
AreSmall t = (d : ℕ) (s : SwitchState) → switch_of d t ≡ Some s → length s.table.entries ≤ 4096

all_plain : (declared : List Declared) (old new : Counts) (parts : List (ℕ × Part)) (t : State) (fault : TxnFault) → AllRun old new parts → MaySteps declared (steps_of parts) t → AreReady parts t → AreSmall t → first_fault parts ≡ Some fault → IsPlain fault
all_plain declared old new [] t fault all may ready small first = absurd cc
all_plain declared old new (p ∷ older) t fault all may ready small first =
    let may_older = MaySteps-front declared (steps_of older) (part_steps p.0 p.1) t may in
    let may_part = MaySteps-rest declared (steps_of older) (part_steps p.0 p.1) t may in
    let runs = runs_older old new p older all in
    let s = ready_here p older t ready in
    elim (earlier_or (first_fault older) (fault_in p.1) fault first) [
      | inl earlier ↦ all_plain declared old new older t fault runs may_older (ready_older p older t ready) small earlier
      | inr now ↦ plain_part declared old new p.0 p.1 fault s.switch (parts_of p.0 older) (after_steps (steps_of older) t) (runs_here old new p older all) now.1 may_part
          (λ free. left_all declared old new p.0 s.switch older t runs free may_older s.stands s.waits) (small p.0 s.switch s.stands)
    ]

plain_end : (o : Option TxnFault) → ((fault : TxnFault) → o ≡ Some fault → IsPlain fault) → IfErr (ended_by o) IsPlain
plain_end None each = tt
plain_end (Some fault) each = each fault refl

pub plain : {Own : Type 0} (old new : Seen Own) (views : List TableView) (parts : List (ℕ × Part)) (result : Result (Unit {0}) TxnFault) → new.given ≡ old.given → new.history ≡ old.history ++ steps_of parts → AllRun old.counts new.counts parts
    → ((d : ℕ) → is_viewed d views ≡ false → parts_of d parts ≡ []) → result ≡ ended_by (first_fault parts) → Conforming old → Conforming new → ((d : ℕ) → is_viewed d views ≡ true → StandsReady d (state old)) → IfErr result IsPlain
plain old new views parts result given told all unknown ended before keeps_word ready =
    let may = Conforming-rest old new (steps_of parts) given told keeps_word in
    subst (λ (r : Result (Unit {0}) TxnFault). IfErr r IsPlain) (sym ended)
    (plain_end (first_fault parts) (λ fault first. all_plain old.given.declared old.counts new.counts parts (state old) fault all may (ready_all views parts (state old) unknown ready) (λ d s is. table_few old d s before is) first))
