-- Where a world keeps its word, nothing of a switch waited, and its view agreed with its table, a change gives no cause for a fault.
use Rattle.std.specs.Prelude.{◌≡◌, ℕ, ◌^◌, ◌<◌, ◌≤◌, false, List, [], ◌∷◌, length, Option, Some, None, Ok, refl}
use Rattle.std.specs.List.{AllByRecursion}
use Rattle.std.proofs.Common.{sym, ap, ◌∙◌, subst, arith}
use Rattle.of_types.specs.declared.errors.OfError.{OfError}
use Rattle.of_wire.specs.declared.bodies.FlowMod.{FlowMod as Change}
use Rattle.of_wire.specs.declared.message.Message.TheVariants.{FlowMod}
use Rattle.of_wire.specs.Reading.{reading_of}
use Rattle.of_wire.specs.Grammar.{enveloped}
use Rattle.flow_table.specs.Switch.{SwitchState}
use Rattle.flow_table.specs.Refusals.{message_refusal}
use Rattle.flow_table.specs.Step.{sent_by_message, error_bytes}
use Rattle.flow_table.specs.laws.RefusalLaws.{refused_sent}
use Rattle.lego_model.specs.Answers.{rows_of_table, as_sent, would_touch}
use Rattle.outside.specs.Seen.{Seen, Continues}
use Rattle.outside.specs.State.{state, switch_of, waits_of}
use Rattle.outside.specs.laws.StateLaws.{Conforming-rest}
use Rattle.outside.specs.Conforming.{Conforming}
use Rattle.lego_model.specs.declared.fault.TxnFault.{TxnFault}
use Rattle.lego_model.specs.declared.fault.TxnFault.TheVariants.{SwitchBroke, Diverged, Flooded, NoMemory}
use Rattle.net_txn.specs.declared.halt.Halt.TheVariants.{Fault}
use Rattle.lego_model.specs.declared.wait.Heard.TheVariants.{Refused}
use Rattle.net_txn.specs.Causes.{IsCause, IsPlain}
use Rattle.lego_model.specs.BarrierWaits.{heard, wait_steps, barrier_sent}
use Rattle.net_txn.specs.Net.{NetState, awaited_from}
use Rattle.net_txn.specs.laws.SentLaws.{reading_of-as_sent}
use Rattle.net_txn.specs.laws.RowLaws.{sent}
use Rattle.net_txn.specs.laws.HeardLaws.{IsSmall, small_refusal, next_xid-lt, heard-error}
use Rattle.net_txn.specs.laws.FloodLaws.{IsGotAlone, few_got, ends_read}
use Rattle.net_txn.specs.Answering.{answer_of_host, change_sent, IfGivenUp}
use Rattle.net_txn.specs.ChangeSteps.{Agrees}
use Rattle.net_txn.specs.laws.InStepLaws.{after_both, both_sent, taken_sends, small_of, passed}
use Rattle.lego_model.specs.Places.{table_rows}
use Rattle.app_frames.specs.laws.BodyLaws.{map_some}

-- ---- A change sends one message at most, an ERROR.

record IsOne (d xid : ℕ) (ws : List (List ℕ)) : Type 0 where
  few : length ws ≤ 1
  alone : AllByRecursion (IsGotAlone (awaited_from d xid)) ws

one_none : (d xid : ℕ) → IsOne d xid []
one_none d xid = record { few = omega arith; alone = tt }

one_sent : (d xid : ℕ) (m : Change) (s : SwitchState) → xid < 2 ^ 32 → would_touch m (rows_of_table s.table.entries) ≡ false → (o : Option OfError) → message_refusal s (as_sent (FlowMod m)) ≡ o → IsOne d xid (sent_by_message xid (as_sent (FlowMod m)) s)
one_sent d xid m s lt none None is = subst (IsOne d xid) (sym (taken_sends xid m s is none)) (one_none d xid)
one_sent d xid m s lt none (Some e) is =
    let small = small_of e (subst IsSmall is (small_refusal s (sent m))) in
    let refused : heard (awaited_from d xid) (error_bytes xid (as_sent (FlowMod m)) e) ≡ Refused (record { xid = xid; error = e }) = heard-error d xid (as_sent (FlowMod m)) e lt small in
    subst (IsOne d xid) (sym (refused_sent xid (as_sent (FlowMod m)) s e is)) (record { few = omega arith; alone = (rw refused refl, tt) })

not_flooded : {Own : Type 0} {Tells : Type 0} (d : ℕ) (bytes : List ℕ) (old new : Seen Own) (net : NetState) (n : ℕ) (m : Change) (xid : ℕ) → Tells → IfGivenUp Tells d m old new net (Fault (Flooded d n))
    → answer_of_host d bytes net ≡ None → reading_of bytes ≡ Ok (enveloped xid (FlowMod m)) → Conforming new → waits_of d (state old) ≡ [] → Agrees d net.views (state old) → ⊥
not_flooded d bytes old new net n m xid told given host read keeps waits agrees =
    let p = passed d bytes m net xid host read in
    let joined = map_some table_rows (switch_of d (state old)) p.rows (sym agrees ∙ p.known) in
    let s = joined.0 in
    let none_touched : would_touch m (table_rows s) ≡ false = ap (would_touch m) joined.2 ∙ p.touches_none in
    let a = awaited_from d net.xid in
    let f = given.2 in
    let may = Conforming-rest old new (change_sent d net.xid m ∷ barrier_sent a ∷ wait_steps a f.got) f.continues.given (f.told told) keeps in
    let sending = both_sent d net.xid m s (state old) (reading_of-as_sent net.xid m given.1 given.0) (next_xid-lt net.xid given.1) joined.1 waits in
    let one = one_sent d net.xid m s given.1 none_touched (message_refusal s (as_sent (FlowMod m))) refl in
    let few = few_got old.given.declared a (sent_by_message net.xid (as_sent (FlowMod m)) s) f.got (after_both d net.xid m (state old)) one.alone sending.waits may.1.1 f.before_reply in
    omega (arith, f.many, few, one.few)

pub change_fault : {Own : Type 0} {Tells : Type 0} (d : ℕ) (bytes : List ℕ) (old new : Seen Own) (net : NetState) (fault : TxnFault) (m : Change) (xid : ℕ) → Tells → Continues Tells old new → IsCause Tells d old new fault → IfGivenUp Tells d m old new net (Fault fault)
    → answer_of_host d bytes net ≡ None → reading_of bytes ≡ Ok (enveloped xid (FlowMod m)) → Conforming new → waits_of d (state old) ≡ [] → Agrees d net.views (state old) → IsPlain fault
change_fault d bytes old new net (SwitchBroke of got) m xid told later cause given host read keeps waits agrees = ends_read d got old new later.given (cause.2 told) keeps cause.1
change_fault d bytes old new net (Diverged of first second) m xid told later cause given host read keeps waits agrees = cause
change_fault d bytes old new net (Flooded of n) m xid told later cause given host read keeps waits agrees = not_flooded d bytes old new net n m xid told given host read keeps waits agrees
change_fault d bytes old new net NoMemory m xid told later cause given host read keeps waits agrees = tt
