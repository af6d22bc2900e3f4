-- Laws of steps whose calls are in place wherever a world tells in order.
use Rattle.std.specs.Prelude.{◌≡◌, ℕ, ◌^◌, ◌<◌, true, false, List, [], ◌∷◌, ◌++◌, refl}
use Rattle.std.specs.List.{AllByRecursion, list_any}
use Rattle.std.proofs.Common.{sym, ◌∙◌, subst}
use Rattle.std.proofs.lemmas.List.{append-nil}
use Rattle.of_types.specs.declared.journal.Act.TheVariants.{Got}
use Rattle.outside.specs.declared.step.WorldStep.{WorldStep}
use Rattle.outside.specs.declared.step.WorldStep.TheVariants.{Acted, SendLost, RecvLost}
use Rattle.outside.specs.State.{State, after_step, after_steps, is_joined}
use Rattle.outside.specs.laws.StateLaws.{after_steps-append}
use Rattle.lego_model.specs.declared.wait.Awaited.{Awaited}
use Rattle.lego_model.specs.BarrierWaits.{heard, is_reply, wait_steps, barrier_sent}
use Rattle.net_txn.specs.LinkSteps.{AreLinkSteps, ThenWaits}
use Rattle.lego_model.specs.UndoFaults.{loses, GoesWithoutStrays}
use Rattle.net_txn.specs.laws.LinkStepLaws.{wait_links}
use Rattle.net_txn.specs.laws.LinkStrayLaws.{places_append, IsSure, sure_places, sure_wait, awaits_waiting, awaits_barrier, awaits_wait}
use Rattle.outside.specs.laws.InOrderLaws.{come_front, come_rest}
use Rattle.net_txn.specs.laws.LinkPresenceLaws.{steps_stay, loses-rest}

pub goes_none : (d : ℕ) → GoesWithoutStrays d []
goes_none d declared s may joined = record { places = tt; joined = λ none. joined }

-- behind steps by which no switch is lost
pub goes_append : (d : ℕ) (xs ys : List WorldStep) → list_any loses xs ≡ false → GoesWithoutStrays d xs → GoesWithoutStrays d ys → GoesWithoutStrays d (xs ++ ys)
goes_append d xs ys stay first second declared s may joined =
    let a = first declared s (come_front declared xs ys s may) joined in
    let b = second declared (after_steps xs s) (come_rest declared xs ys s may) (a.joined stay) in
    record {
      places = places_append xs ys s a.places b.places;
      joined = λ none. subst (λ (t : State). is_joined d t ≡ true) (sym (after_steps-append xs ys s)) (b.joined (loses-rest xs ys none));
    }

-- calls that succeeded
pub goes_sure : (d : ℕ) (steps : List WorldStep) → AreLinkSteps steps → AllByRecursion IsSure steps → GoesWithoutStrays d steps
goes_sure d steps links sure declared s may joined = record { places = sure_places steps s sure; joined = λ none. steps_stay steps s links none d ∙ joined }

goes_unsent : (d : ℕ) → GoesWithoutStrays d (SendLost d ∷ [])
goes_unsent d declared s may joined = record { places = (joined, tt); joined = λ none. absurd cc }

-- a call that failed, behind others
pub goes_send_lost : (d : ℕ) (front : List WorldStep) → list_any loses front ≡ false → GoesWithoutStrays d front → GoesWithoutStrays d (front ++ SendLost d ∷ [])
goes_send_lost d front stay placed = goes_append d front (SendLost d ∷ []) stay placed (goes_unsent d)

pub goes_recv_lost : (d : ℕ) (front : List WorldStep) → list_any loses front ≡ false → GoesWithoutStrays d front → ThenWaits d front → GoesWithoutStrays d (front ++ RecvLost d ∷ [])
goes_recv_lost d front stay placed waits declared s may joined =
    let before = come_front declared front (RecvLost d ∷ []) s may in
    let a = placed declared s before joined in
    record {
      places = places_append front (RecvLost d ∷ []) s a.places (waits declared s before joined, tt);
      joined = λ none. lost_here (loses-rest front (RecvLost d ∷ []) none);
    }
  where
    lost_here : true ≡ false → is_joined d (after_steps (front ++ RecvLost d ∷ []) s) ≡ true
    lost_here none = absurd cc

-- nothing came of a call
pub goes_same : (d : ℕ) (front : List WorldStep) → GoesWithoutStrays d front → GoesWithoutStrays d (front ++ [])
goes_same d front placed = subst (GoesWithoutStrays d) (sym (append-nil front)) placed

-- one message more was got
pub goes_got : (d : ℕ) (bytes : List ℕ) (front : List WorldStep) → list_any loses front ≡ false → GoesWithoutStrays d front → GoesWithoutStrays d (front ++ Acted (Got d bytes) ∷ [])
goes_got d bytes front stay placed = goes_append d front (Acted (Got d bytes) ∷ []) stay placed (goes_sure d (Acted (Got d bytes) ∷ []) (refl, tt) (λ s. tt, tt))

-- a barrier, and messages that are not its reply, which waits

pub goes_barrier : (a : Awaited) (got : List (List ℕ)) → GoesWithoutStrays a.dpid (barrier_sent a ∷ wait_steps a got)
goes_barrier a got = goes_sure a.dpid (barrier_sent a ∷ wait_steps a got) (refl, wait_links a got) (λ s. tt, sure_wait a got)

pub barrier_waits : (a : Awaited) (got : List (List ℕ)) → a.barrier < 2 ^ 32 → AllByRecursion (λ b. is_reply (heard a b) ≡ false) got → ThenWaits a.dpid (barrier_sent a ∷ wait_steps a got)
barrier_waits a got small other declared s may joined =
    awaits_waiting a (after_steps (wait_steps a got) (after_step (barrier_sent a) s)) (awaits_wait declared a got (after_step (barrier_sent a) s) may.1 other (awaits_barrier a s small joined))
