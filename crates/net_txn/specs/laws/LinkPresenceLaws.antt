-- Laws of steps of links: a switch goes out where it is lost and stays in else, none comes in, nothing is made due, no stimulus is begun, and
-- no point is quiescent.
use Rattle.std.specs.Prelude.{◌≡◌, ℕ, ◌==◌, Bool, true, false, not, ◌&&◌, ◌||◌, List, [], ◌∷◌, ◌++◌, Option, Some, None, Result, Ok, Err, refl}
use Rattle.std.specs.List.{list_any, flat_map}
use Rattle.std.specs.Option.{is_some}
use Rattle.std.proofs.Common.{sym, ap, ◌∙◌, subst, inl, inr}
use Rattle.std.proofs.lemmas.Bool.{cases_eq, eq-eqb, ne_eqb, or_parts}
use Rattle.of_types.specs.declared.journal.Act.{Act}
use Rattle.of_types.specs.declared.journal.Act.TheVariants.{Stim, Started, Gave, Gone, Took, Ended, Sent, Got, Lost}
use Rattle.of_wire.specs.declared.message.Envelope.{Envelope}
use Rattle.of_wire.specs.declared.fault.WireFault.{WireFault}
use Rattle.of_wire.specs.Reading.{reading_of}
use Rattle.flow_table.specs.Switch.{SwitchState}
use Rattle.outside.specs.declared.step.WorldStep.{WorldStep}
use Rattle.outside.specs.declared.step.WorldStep.TheVariants.{Acted, TookInto, From, Joined, Left, Moment, Idle, End, Opened, NotOpened, NextFailed, SendLost, RecvLost, SendFailed, RecvFailed}
use Rattle.outside.specs.Seen.{journal}
use Rattle.outside.specs.State.{State, after_step, after_act, after_steps, switch_of, switch_told, is_joined}
use Rattle.outside.specs.laws.LinkLaws.{switch_of-sent, switch_of-sent_other, switch_of-got, switch_of-got_other, switch_of-send_lost, switch_of-send_lost_other, switch_of-recv_lost, switch_of-recv_lost_other, switch_of-send_failed, switch_of-recv_failed}
use Rattle.outside.specs.Quiescence.{is_quiescent}
use Rattle.lego_model.specs.Journal.{losses}
use Rattle.lego_model.specs.UndoFaults.{loses}
use Rattle.net_txn.specs.LinkSteps.{is_link_step, AreLinkSteps}
use Rattle.of_types.specs.Membership.{is_among}
use Rattle.outside.specs.laws.CallLaws.{joins_in}
use Rattle.net_txn.specs.laws.LostPartLaws.{among-append}

-- ---- Which switches are joined

told_joined : (r : Result Envelope WireFault) (o : Option SwitchState) → is_some (switch_told r o) ≡ is_some o
told_joined (Ok e) None = refl
told_joined (Ok e) (Some s) = refl
told_joined (Err fault) o = refl

-- which switch is lost by a step
abbrev pub lost_by : WorldStep → List ℕ
lost_by (SendLost d) = d ∷ []
lost_by (RecvLost d) = d ∷ []
lost_by other = []

-- it is joined before, and not one of those that are lost
abbrev pub stays_in : ℕ → List ℕ → Bool → Bool
stays_in e lost joined = joined && not (is_among e lost)

pub stays-none : (e : ℕ) (b : Bool) → b ≡ stays_in e [] b
stays-none e true = refl
stays-none e false = refl

sent_joined : (d e : ℕ) (bytes : List ℕ) (s : State) → is_joined e (after_step (Acted (Sent d bytes)) s) ≡ is_joined e s
sent_joined d e bytes s =
    elim (cases_eq d e) [
      | inl same ↦ subst (λ (n : ℕ). is_joined n (after_step (Acted (Sent d bytes)) s) ≡ is_joined n s) same (ap joins_in (switch_of-sent d bytes s) ∙ told_joined (reading_of bytes) (switch_of d s))
      | inr other ↦ ap joins_in (switch_of-sent_other d e bytes s (λ same. other (sym same)))
    ]

got_joined : (d e : ℕ) (bytes : List ℕ) (s : State) → is_joined e (after_step (Acted (Got d bytes)) s) ≡ is_joined e s
got_joined d e bytes s =
    elim (cases_eq d e) [
      | inl same ↦ subst (λ (n : ℕ). is_joined n (after_step (Acted (Got d bytes)) s) ≡ is_joined n s) same (ap joins_in (switch_of-got d bytes s))
      | inr other ↦ ap joins_in (switch_of-got_other d e bytes s (λ same. other (sym same)))
    ]

none_in : (e : ℕ) (b : Bool) → stays_in e (e ∷ []) b ≡ false
none_in e true = rw (eq-eqb e e refl) refl
none_in e false = refl

other_in : (d e : ℕ) (b : Bool) → (d == e) ≡ false → stays_in e (d ∷ []) b ≡ b
other_in d e true apart = rw apart refl
other_in d e false apart = refl

send_lost : (d e : ℕ) (s : State) → is_joined e (after_step (SendLost d) s) ≡ stays_in e (d ∷ []) (is_joined e s)
send_lost d e s =
    elim (cases_eq d e) [
      | inl same ↦ subst (λ (n : ℕ). is_joined n (after_step (SendLost d) s) ≡ stays_in n (d ∷ []) (is_joined n s)) same (ap joins_in (switch_of-send_lost d s) ∙ sym (none_in d (is_joined d s)))
      | inr other ↦ ap joins_in (switch_of-send_lost_other d e s (λ same. other (sym same))) ∙ sym (other_in d e (is_joined e s) (ne_eqb d e other))
    ]

recv_lost : (d e : ℕ) (s : State) → is_joined e (after_step (RecvLost d) s) ≡ stays_in e (d ∷ []) (is_joined e s)
recv_lost d e s =
    elim (cases_eq d e) [
      | inl same ↦ subst (λ (n : ℕ). is_joined n (after_step (RecvLost d) s) ≡ stays_in n (d ∷ []) (is_joined n s)) same (ap joins_in (switch_of-recv_lost d s) ∙ sym (none_in d (is_joined d s)))
      | inr other ↦ ap joins_in (switch_of-recv_lost_other d e s (λ same. other (sym same))) ∙ sym (other_in d e (is_joined e s) (ne_eqb d e other))
    ]

-- ---- One step of a link

-- The same switches are joined but those that are lost, the same items are due, and a stimulus is begun as before.
pub record LeavesSo (lost : List ℕ) (old new : State) : Type 0 where
  pub joined : (d : ℕ) → is_joined d new ≡ stays_in d lost (is_joined d old)
  pub due : new.due ≡ old.due
  pub begun : new.begun ≡ old.begun

-- that, and the point before the step is not quiescent
pub record IsLinkStep (step : WorldStep) (s : State) : Type 0 where
  pub leaves : LeavesSo (lost_by step) s (after_step step s)
  pub none_quiescent : is_quiescent step ≡ false

act_leaves : (act : Act) (s : State) → is_link_step (Acted act) ≡ true → IsLinkStep (Acted act) s
unfolding after_step after_act
act_leaves (Stim x) s is = absurd cc
act_leaves (Started app ok) s is = absurd cc
act_leaves (Gave app bytes) s is = absurd cc
act_leaves (Gone app bytes) s is = absurd cc
act_leaves (Took app what) s is = absurd cc
act_leaves (Ended app) s is = absurd cc
act_leaves (Sent d bytes) s is = record { leaves = record { joined = λ e. sent_joined d e bytes s ∙ stays-none e (is_joined e s); due = refl; begun = refl }; none_quiescent = refl }
act_leaves (Got d bytes) s is = record { leaves = record { joined = λ e. got_joined d e bytes s ∙ stays-none e (is_joined e s); due = refl; begun = refl }; none_quiescent = refl }
act_leaves (Lost d) s is = absurd cc

pub step_leaves : (step : WorldStep) (s : State) → is_link_step step ≡ true → IsLinkStep step s
unfolding after_step
step_leaves (Acted act) s is = act_leaves act s is
step_leaves (TookInto app what room) s is = absurd cc
step_leaves (From d bytes) s is = absurd cc
step_leaves (Joined d bytes) s is = absurd cc
step_leaves (Left d) s is = absurd cc
step_leaves (Moment t) s is = absurd cc
step_leaves Idle s is = absurd cc
step_leaves End s is = absurd cc
step_leaves Opened s is = absurd cc
step_leaves NotOpened s is = absurd cc
step_leaves NextFailed s is = absurd cc
step_leaves (SendLost d) s is = record { leaves = record { joined = λ e. send_lost d e s; due = refl; begun = refl }; none_quiescent = refl }
step_leaves (RecvLost d) s is = record { leaves = record { joined = λ e. recv_lost d e s; due = refl; begun = refl }; none_quiescent = refl }
step_leaves (SendFailed d) s is = record { leaves = record { joined = λ e. ap joins_in (switch_of-send_failed d e s) ∙ stays-none e (is_joined e s); due = refl; begun = refl }; none_quiescent = refl }
step_leaves (RecvFailed d) s is = record { leaves = record { joined = λ e. ap joins_in (switch_of-recv_failed d e s) ∙ stays-none e (is_joined e s); due = refl; begun = refl }; none_quiescent = refl }

-- ---- Steps of links alone

pub among-front : (e : ℕ) (xs ys : List ℕ) → is_among e xs ≡ true → is_among e (xs ++ ys) ≡ true
among-front e xs ys is = among-append e xs ys ∙ rw is refl

pub stays-then : (e : ℕ) (xs ys : List ℕ) (b : Bool) → stays_in e ys (stays_in e xs b) ≡ stays_in e (xs ++ ys) b
stays-then e xs ys true = at (is_among e xs) ∙ ap not (sym (among-append e xs ys))
  where
    at : (first : Bool) → (not first && not (is_among e ys)) ≡ not (first || is_among e ys)
    at true = refl
    at false = refl
stays-then e xs ys false = refl

-- which switches are lost by steps
abbrev pub lost_by_all : List WorldStep → List ℕ
lost_by_all steps = flat_map lost_by steps

pub steps_leave : (steps : List WorldStep) (s : State) → AreLinkSteps steps → LeavesSo (lost_by_all steps) s (after_steps steps s)
steps_leave [] s all = record { joined = λ d. stays-none d (is_joined d s); due = refl; begun = refl }
steps_leave (x ∷ xs) s all =
    let first = (step_leaves x s all.0).leaves in
    let rest = steps_leave xs (after_step x s) all.1 in
    record {
      joined = λ d. rest.joined d ∙ ap (stays_in d (lost_by_all xs)) (first.joined d) ∙ stays-then d (lost_by x) (lost_by_all xs) (is_joined d s);
      due = rest.due ∙ first.due;
      begun = rest.begun ∙ first.begun;
    }

-- ---- What the journal tells of it

journal_act : (act : Act) (xs : List WorldStep) → is_link_step (Acted act) ≡ true → losses (journal (Acted act ∷ xs)) ≡ losses (journal xs)
unfolding journal losses
journal_act (Stim x) xs is = refl
journal_act (Started app ok) xs is = refl
journal_act (Gave app bytes) xs is = refl
journal_act (Gone app bytes) xs is = refl
journal_act (Took app what) xs is = refl
journal_act (Ended app) xs is = refl
journal_act (Sent d bytes) xs is = refl
journal_act (Got d bytes) xs is = refl
journal_act (Lost d) xs is = absurd cc

journal_step : (step : WorldStep) (xs : List WorldStep) → is_link_step step ≡ true → losses (journal (step ∷ xs)) ≡ lost_by step ++ losses (journal xs)
unfolding journal losses
journal_step (Acted act) xs is = journal_act act xs is
journal_step (TookInto app what room) xs is = refl
journal_step (From d bytes) xs is = refl
journal_step (Joined d bytes) xs is = refl
journal_step (Left d) xs is = refl
journal_step (Moment t) xs is = refl
journal_step Idle xs is = refl
journal_step End xs is = refl
journal_step Opened xs is = refl
journal_step NotOpened xs is = refl
journal_step NextFailed xs is = refl
journal_step (SendLost d) xs is = refl
journal_step (RecvLost d) xs is = refl
journal_step (SendFailed d) xs is = refl
journal_step (RecvFailed d) xs is = refl

pub losses_by : (steps : List WorldStep) → AreLinkSteps steps → losses (journal steps) ≡ lost_by_all steps
unfolding journal losses
losses_by [] all = refl
losses_by (x ∷ xs) all = journal_step x xs all.0 ∙ ap (λ (ds : List ℕ). lost_by x ++ ds) (losses_by xs all.1)

-- ---- Where none is lost

lost_none : (step : WorldStep) → loses step ≡ false → lost_by step ≡ []
lost_none (Acted act) none = refl
lost_none (TookInto app what room) none = refl
lost_none (From d bytes) none = refl
lost_none (Joined d bytes) none = refl
lost_none (Left d) none = refl
lost_none (Moment t) none = refl
lost_none Idle none = refl
lost_none End none = refl
lost_none Opened none = refl
lost_none NotOpened none = refl
lost_none NextFailed none = refl
lost_none (SendLost d) none = absurd cc
lost_none (RecvLost d) none = absurd cc
lost_none (SendFailed d) none = refl
lost_none (RecvFailed d) none = refl

pub lost_none_all : (steps : List WorldStep) → list_any loses steps ≡ false → lost_by_all steps ≡ []
lost_none_all [] none = refl
lost_none_all (x ∷ xs) none =
    let two = or_parts (loses x) (list_any loses xs) none in
    ap (λ (ds : List ℕ). ds ++ lost_by_all xs) (lost_none x two.0) ∙ lost_none_all xs two.1

pub steps_stay : (steps : List WorldStep) (s : State) → AreLinkSteps steps → list_any loses steps ≡ false → (e : ℕ) → is_joined e (after_steps steps s) ≡ is_joined e s
steps_stay steps s all none e = (steps_leave steps s all).joined e ∙ ap (λ (ds : List ℕ). stays_in e ds (is_joined e s)) (lost_none_all steps none) ∙ sym (stays-none e (is_joined e s))

pub loses-append : (xs ys : List WorldStep) → list_any loses xs ≡ false → list_any loses ys ≡ false → list_any loses (xs ++ ys) ≡ false
loses-append [] ys first second = second
loses-append (x ∷ xs) ys first second = let two = or_parts (loses x) (list_any loses xs) first in rw two.0 (loses-append xs ys two.1 second)

pub loses-rest : (xs ys : List WorldStep) → list_any loses (xs ++ ys) ≡ false → list_any loses ys ≡ false
loses-rest [] ys none = none
loses-rest (x ∷ xs) ys none = loses-rest xs ys (or_parts (loses x) (list_any loses (xs ++ ys)) none).1
