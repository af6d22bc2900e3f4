-- Laws of faults where a world keeps its word: there what is got is a message, and no more is got than waits.
use Rattle.std.specs.Prelude.{◌≡◌, ℕ, ◌≤◌, false, List, [], ◌∷◌, ◌++◌, length, drop, Result, Ok, Err, IsOk, IsErr}
use Rattle.std.specs.List.{AllByRecursion}
use Rattle.std.proofs.Common.{ap, ◌∙◌, subst, arith}
use Rattle.of_types.specs.declared.journal.Act.TheVariants.{Got}
use Rattle.of_wire.specs.declared.message.Message.TheVariants.{BarrierReply}
use Rattle.of_wire.specs.Reading.{reading_of}
use Rattle.of_wire.specs.Spelling.{message_bytes}
use Rattle.flow_table.specs.Switch.{Declared}
use Rattle.outside.specs.declared.step.WorldStep.{WorldStep}
use Rattle.outside.specs.declared.step.WorldStep.TheVariants.{Acted}
use Rattle.outside.specs.Seen.{Seen}
use Rattle.outside.specs.State.{State, after_step, after_steps, state, waits_of}
use Rattle.outside.specs.laws.StateLaws.{Conforming-rest, MaySteps-rest}
use Rattle.outside.specs.laws.LinkLaws.{waits_of-got}
use Rattle.outside.specs.Conforming.{MayStep, MayAct, MaySteps, Conforming}
use Rattle.lego_model.specs.declared.wait.Awaited.{Awaited}
use Rattle.net_txn.specs.Causes.{EndsByGot}
use Rattle.lego_model.specs.BarrierWaits.{heard, is_reply, heard_steps, wait_steps}
use Rattle.net_txn.specs.laws.StepLaws.{first_got, reply_is_none}

-- ---- Where a world keeps its word

pub both_ways : {X Y : Type 0} (r : Result X Y) → IsOk r → IsErr r → ⊥
both_ways (Ok x) ok err = absurd cc
both_ways (Err y) ok err = absurd cc

pub got_reads : (declared : List Declared) (d : ℕ) (bytes : List ℕ) (t : State) → MaySteps declared (Acted (Got d bytes) ∷ []) t → IsOk (reading_of bytes)
unfolding MayStep MayAct
got_reads declared d bytes t may = may.0.1

-- what was got is a message
pub ends_read : {Own : Type 0} (d : ℕ) (bytes : List ℕ) (old new : Seen Own) → new.given ≡ old.given → EndsByGot d bytes old.history new.history → Conforming new → IsErr (reading_of bytes) → ⊥
ends_read d bytes old new given ends keeps broken =
    let last = Acted (Got d bytes) ∷ [] in
    let may = Conforming-rest old new (ends.0 ++ last) given ends.1 keeps in
    both_ways (reading_of bytes) (got_reads old.given.declared d bytes (after_steps ends.0 (state old)) (MaySteps-rest old.given.declared ends.0 last (state old) may)) broken

-- a message that is got, and answered by nothing
abbrev pub IsGotAlone : Awaited → List ℕ → Type 0
IsGotAlone a w = heard_steps a w ≡ Acted (Got a.dpid w) ∷ []

-- before the reply no more is got than waits before it
pub few_got : (declared : List Declared) (a : Awaited) (ws got : List (List ℕ)) (t : State) → AllByRecursion (IsGotAlone a) ws → waits_of a.dpid t ≡ ws ++ message_bytes a.barrier BarrierReply ∷ []
    → MaySteps declared (wait_steps a got) t → AllByRecursion (λ b. is_reply (heard a b) ≡ false) got → length got ≤ length ws
few_got declared a ws [] t alone waits may before = omega arith
few_got declared a [] (b ∷ bs) t alone waits may before = absurd (reply_is_none a b (first_got declared a.dpid b (message_bytes a.barrier BarrierReply) [] _ t waits may) before.0)
few_got declared a (w ∷ ws) (b ∷ bs) t alone waits may before =
    let later = ws ++ message_bytes a.barrier BarrierReply ∷ [] in
    let is : b ≡ w = first_got declared a.dpid b w later _ t waits may in
    let here = subst (λ (x : List ℕ). MaySteps declared (wait_steps a (x ∷ bs)) t) is may in
    let steps = subst (λ (xs : List WorldStep). MaySteps declared (xs ++ wait_steps a bs) t) alone.0 here in
    let left : waits_of a.dpid (after_step (Acted (Got a.dpid w)) t) ≡ later = waits_of-got a.dpid w t ∙ ap (drop 1) waits in
    let rest = few_got declared a ws bs (after_step (Acted (Got a.dpid w)) t) alone.1 left steps.1 before.1 in
    omega (arith, rest)
