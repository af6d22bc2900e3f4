-- What the parts of an undo leave of a switch: those of other switches leave it as it is, an inverse takes its key out of the table,
-- and a barrier whose reply was got leaves nothing waiting.
use Rattle.std.specs.Prelude.{◌≡◌, ◌≢◌, ℕ, ◌^◌, ◌<◌, List, [], ◌∷◌, Ok, refl}
use Rattle.std.specs.List.{AllByRecursion}
use Rattle.std.proofs.Common.{◌∙◌, arith}
use Rattle.of_types.specs.declared.journal.Act.{Act}
use Rattle.of_types.specs.declared.journal.Act.TheVariants.{Stim, Started, Gave, Gone, Took, Ended, Sent, Got, Lost}
use Rattle.of_match.specs.declared.key.Key.{Key}
use Rattle.of_wire.specs.declared.message.Message.TheVariants.{FlowMod}
use Rattle.of_wire.specs.Reading.{reading_of}
use Rattle.of_wire.specs.Spelling.{message_size}
use Rattle.of_wire.specs.Grammar.{IsMessage, enveloped}
use Rattle.of_wire.specs.laws.ReadingLaws.{reading_of-message_bytes}
use Rattle.outside.specs.declared.step.WorldStep.{WorldStep}
use Rattle.outside.specs.declared.step.WorldStep.TheVariants.{Acted, TookInto, From, Joined, Left, Moment, Idle, End, Opened, NotOpened, NextFailed, SendLost, RecvLost, SendFailed, RecvFailed}
use Rattle.outside.specs.State.{State, after_step, after_steps}
use Rattle.outside.specs.laws.LinkLaws.{switch_of-sent_other, waits_of-sent_other, switch_of-got_other, waits_of-got_other, switch_of-send_lost_other, waits_of-send_lost_other, switch_of-recv_lost_other, waits_of-recv_lost_other, switch_of-send_failed, waits_of-send_failed, switch_of-recv_failed, waits_of-recv_failed}
use Rattle.lego_model.specs.UndoFaults.{delete_strict, inverse_bytes, IsStepOf}
use Rattle.net_txn.specs.Undos.{SameSwitch, CanBeSent}

-- ---- Steps of another switch

act_other : (d c : ℕ) (act : Act) (t : State) → c ≢ d → IsStepOf d (Acted act) → SameSwitch c t (after_step (Acted act) t)
act_other d c (Stim x) t other of = absurd of
act_other d c (Started app ok) t other of = absurd of
act_other d c (Gave app bytes) t other of = absurd of
act_other d c (Gone app bytes) t other of = absurd of
act_other d c (Took app what) t other of = absurd of
act_other d c (Ended app) t other of = absurd of
act_other d c (Sent e bytes) t other of = (switch_of-sent_other e c bytes t (λ same. other (same ∙ of)), waits_of-sent_other e c bytes t (λ same. other (same ∙ of)))
act_other d c (Got e bytes) t other of = (switch_of-got_other e c bytes t (λ same. other (same ∙ of)), waits_of-got_other e c bytes t (λ same. other (same ∙ of)))
act_other d c (Lost e) t other of = absurd of

pub step_other : (d c : ℕ) (step : WorldStep) (t : State) → c ≢ d → IsStepOf d step → SameSwitch c t (after_step step t)
step_other d c (Acted act) t other of = act_other d c act t other of
step_other d c (TookInto app what room) t other of = absurd of
step_other d c (From e bytes) t other of = absurd of
step_other d c (Joined e bytes) t other of = absurd of
step_other d c (Left e) t other of = absurd of
step_other d c (Moment n) t other of = absurd of
step_other d c Idle t other of = absurd of
step_other d c End t other of = absurd of
step_other d c Opened t other of = absurd of
step_other d c NotOpened t other of = absurd of
step_other d c NextFailed t other of = absurd of
step_other d c (SendLost e) t other of = (switch_of-send_lost_other e c t (λ same. other (same ∙ of)), waits_of-send_lost_other e c t (λ same. other (same ∙ of)))
step_other d c (RecvLost e) t other of = (switch_of-recv_lost_other e c t (λ same. other (same ∙ of)), waits_of-recv_lost_other e c t (λ same. other (same ∙ of)))
step_other d c (SendFailed e) t other of = (switch_of-send_failed e c t, waits_of-send_failed e c t)
step_other d c (RecvFailed e) t other of = (switch_of-recv_failed e c t, waits_of-recv_failed e c t)

pub steps_other : (d c : ℕ) (steps : List WorldStep) (t : State) → c ≢ d → AllByRecursion (IsStepOf d) steps → SameSwitch c t (after_steps steps t)
steps_other d c [] t other of = (refl, refl)
steps_other d c (step ∷ steps) t other of =
    let first = step_other d c step t other of.0 in
    let rest = steps_other d c steps (after_step step t) other of.1 in
    (rest.0 ∙ first.0, rest.1 ∙ first.1)

-- ---- An inverse is read as it is

IsMessage-delete : (k : Key) → k.priority < 2 ^ 16 → IsMessage (FlowMod (delete_strict k))
unfolding message_size
IsMessage-delete k lt = record {
  fields = (omega arith, (omega arith, (omega arith, (omega arith, (omega (arith, lt), (omega arith, (omega arith, (omega arith, tt))))))));
  tail = tt;
  size = omega arith;
}

pub reading_of-inverse : (xid : ℕ) (k : Key) → CanBeSent xid k → reading_of (inverse_bytes xid k) ≡ Ok (enveloped xid (FlowMod (delete_strict k)))
unfolding inverse_bytes
reading_of-inverse xid k can = reading_of-message_bytes xid (FlowMod (delete_strict k)) can.is_xid (IsMessage-delete k can.priority)
