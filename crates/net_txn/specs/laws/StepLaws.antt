-- What a change, a barrier and the messages that were got make of a world that keeps its word.
use Rattle.std.specs.Prelude.{◌≡◌, ◌≢◌, ℕ, true, false, List, [], ◌∷◌, ◌++◌, drop, map, Some, Ok, slice_get, refl}
use Rattle.std.specs.List.{AllByRecursion}
use Rattle.std.proofs.Common.{sym, ap, ◌∙◌, subst}
use Rattle.of_types.specs.declared.journal.Act.TheVariants.{Sent, Got}
use Rattle.of_wire.specs.declared.message.Message.{Message}
use Rattle.of_wire.specs.declared.message.Message.TheVariants.{BarrierRequest, BarrierReply}
use Rattle.of_wire.specs.Reading.{reading_of}
use Rattle.of_wire.specs.Spelling.{message_bytes}
use Rattle.of_wire.specs.Grammar.{enveloped}
use Rattle.flow_table.specs.Switch.{Declared, SwitchState}
use Rattle.flow_table.specs.Refusals.{message_refusal}
use Rattle.flow_table.specs.Step.{after_taken, after_message, sent_by_taken, sent_by_message}
use Rattle.outside.specs.declared.step.WorldStep.{WorldStep}
use Rattle.outside.specs.declared.step.WorldStep.TheVariants.{Acted}
use Rattle.outside.specs.State.{State, after_step, after_steps, switch_of, waits_of}
use Rattle.outside.specs.laws.LinkLaws.{switch_of-sent, waits_of-sent, switch_of-got, waits_of-got, switch_of-got_other, waits_of-got_other}
use Rattle.outside.specs.Conforming.{MayStep, MayAct, MaySteps}
use Rattle.outside.specs.InOrder.{MayCome, MayComeAll}
use Rattle.lego_model.specs.declared.wait.Awaited.{Awaited}
use Rattle.lego_model.specs.declared.wait.Refusal.{Refusal}
use Rattle.lego_model.specs.declared.wait.Heard.TheVariants.{Reply, Refused, Other}
use Rattle.lego_model.specs.BarrierWaits.{heard, is_reply, heard_steps, wait_steps, reply_got}
use Rattle.net_txn.specs.laws.HeardLaws.{heard-reply}

-- ---- A message to a switch that reads it

pub told_switch : (d xid : ℕ) (m : Message) (bytes : List ℕ) (t : State) (s : SwitchState) → reading_of bytes ≡ Ok (enveloped xid m) → switch_of d t ≡ Some s → switch_of d (after_step (Acted (Sent d bytes)) t) ≡ Some (after_message m s)
told_switch d xid m bytes t s read is = switch_of-sent d bytes t ∙ (rw (read, is) refl)

pub told_waits : (d xid : ℕ) (m : Message) (bytes : List ℕ) (t : State) (s : SwitchState) → reading_of bytes ≡ Ok (enveloped xid m) → switch_of d t ≡ Some s
    → waits_of d (after_step (Acted (Sent d bytes)) t) ≡ waits_of d t ++ sent_by_message xid m s
told_waits d xid m bytes t s read is = waits_of-sent d bytes t ∙ (rw (read, is) refl)

pub barrier_sends : (xid : ℕ) (s : SwitchState) → sent_by_message xid BarrierRequest s ≡ message_bytes xid BarrierReply ∷ []
unfolding sent_by_message message_refusal sent_by_taken
barrier_sends xid s = refl

pub barrier_stays : (s : SwitchState) → after_message BarrierRequest s ≡ s
unfolding after_message message_refusal after_taken
barrier_stays s = refl

-- ---- Messages that were got, one after the other

abbrev pub gots : ℕ → List (List ℕ) → List WorldStep
gots d got = map (λ b. Acted (Got d b)) got

pub gots_switch : (d : ℕ) (got : List (List ℕ)) (t : State) → switch_of d (after_steps (gots d got) t) ≡ switch_of d t
gots_switch d [] t = refl
gots_switch d (b ∷ bs) t = gots_switch d bs (after_step (Acted (Got d b)) t) ∙ switch_of-got d b t

pub gots_other : (d e : ℕ) (got : List (List ℕ)) (t : State) → e ≢ d → switch_of e (after_steps (gots d got) t) ≡ switch_of e t
gots_other d e [] t other = refl
gots_other d e (b ∷ bs) t other = gots_other d e bs (after_step (Acted (Got d b)) t) other ∙ switch_of-got_other d e b t other

pub gots_other_waits : (d e : ℕ) (got : List (List ℕ)) (t : State) → e ≢ d → waits_of e (after_steps (gots d got) t) ≡ waits_of e t
gots_other_waits d e [] t other = refl
gots_other_waits d e (b ∷ bs) t other = gots_other_waits d e bs (after_step (Acted (Got d b)) t) other ∙ waits_of-got_other d e b t other

-- ---- In a world that keeps its word the messages that were got are those that waited.

pub some_is : (a b : List ℕ) → Some a ≡ Some b → a ≡ b
some_is a b e = cc

pub first_got : (declared : List Declared) (d : ℕ) (b w : List ℕ) (ws : List (List ℕ)) (rest : List WorldStep) (t : State) → waits_of d t ≡ w ∷ ws → MaySteps declared (Acted (Got d b) ∷ rest) t → b ≡ w
unfolding MayStep MayAct
first_got declared d b w ws rest t is may = some_is b w (sym may.0.0 ∙ ap (λ (xs : List (List ℕ)). slice_get xs 0) is)

-- the same in a world that tells in order
pub first_came : (declared : List Declared) (d : ℕ) (b w : List ℕ) (ws : List (List ℕ)) (rest : List WorldStep) (t : State) → waits_of d t ≡ w ∷ ws → MayComeAll declared (Acted (Got d b) ∷ rest) t → b ≡ w
unfolding MayCome
first_came declared d b w ws rest t is may = some_is b w (sym may.0 ∙ ap (λ (xs : List (List ℕ)). slice_get xs 0) is)

pub reply_is_none : (a : Awaited) (b : List ℕ) → b ≡ message_bytes a.barrier BarrierReply → is_reply (heard a b) ≡ false → ⊥
reply_is_none a b is other = let h : is_reply (heard a b) ≡ true = rw (is, heard-reply a) refl in absurd cc

-- where only the reply waits, nothing came before it
pub reply_alone : (declared : List Declared) (a : Awaited) (got : List (List ℕ)) (t : State) → waits_of a.dpid t ≡ message_bytes a.barrier BarrierReply ∷ [] → MaySteps declared (wait_steps a got ++ reply_got a ∷ []) t
    → AllByRecursion (λ b. is_reply (heard a b) ≡ false) got → got ≡ []
reply_alone declared a [] t waits may before = refl
reply_alone declared a (b ∷ bs) t waits may before = absurd (reply_is_none a b (first_got declared a.dpid b (message_bytes a.barrier BarrierReply) [] _ t waits may) before.0)

refused_no_reply : (a : Awaited) (e : List ℕ) (r : Refusal) → heard a e ≡ Refused r → message_bytes a.barrier BarrierReply ≡ e → ⊥
refused_no_reply a e r refused is =
    let h : Refused r ≡ Reply = sym refused ∙ ap (heard a) (sym is) ∙ heard-reply a in absurd cc

refused_steps : (a : Awaited) (e : List ℕ) (r : Refusal) → heard a e ≡ Refused r → heard_steps a e ≡ Acted (Got a.dpid e) ∷ []
refused_steps a e r refused = rw refused refl

pub got_rest : (a : Awaited) (e : List ℕ) (r : Refusal) (bs : List (List ℕ)) → heard a e ≡ Refused r → wait_steps a (e ∷ bs) ++ reply_got a ∷ [] ≡ Acted (Got a.dpid e) ∷ (wait_steps a bs ++ reply_got a ∷ [])
got_rest a e r bs refused = ap (λ (steps : List WorldStep). (steps ++ wait_steps a bs) ++ reply_got a ∷ []) (refused_steps a e r refused)

-- where an ERROR that is awaited waits before the reply, it alone came
pub error_alone : (declared : List Declared) (a : Awaited) (e : List ℕ) (r : Refusal) (got : List (List ℕ)) (t : State) → waits_of a.dpid t ≡ e ∷ message_bytes a.barrier BarrierReply ∷ [] → heard a e ≡ Refused r
    → MaySteps declared (wait_steps a got ++ reply_got a ∷ []) t → AllByRecursion (λ b. is_reply (heard a b) ≡ false) got → got ≡ e ∷ []
error_alone declared a e r [] t waits refused may before =
    absurd (refused_no_reply a e r refused (first_got declared a.dpid (message_bytes a.barrier BarrierReply) e (message_bytes a.barrier BarrierReply ∷ []) [] t waits may))
error_alone declared a e r (b ∷ bs) t waits refused may before =
    let is : b ≡ e = first_got declared a.dpid b e (message_bytes a.barrier BarrierReply ∷ []) _ t waits may in
    let here = subst (λ (x : List ℕ). MaySteps declared (wait_steps a (x ∷ bs) ++ reply_got a ∷ []) t) is may in
    let steps = subst (λ (xs : List WorldStep). MaySteps declared xs t) (got_rest a e r bs refused) here in
    let left : waits_of a.dpid (after_step (Acted (Got a.dpid e)) t) ≡ message_bytes a.barrier BarrierReply ∷ [] = waits_of-got a.dpid e t ∙ ap (drop 1) waits in
    let none : bs ≡ [] = reply_alone declared a bs (after_step (Acted (Got a.dpid e)) t) left steps.1 before.1 in
    ap (λ (x : List ℕ). x ∷ bs) is ∙ ap (λ (xs : List (List ℕ)). e ∷ xs) none

-- when all that waited was got, nothing waits
pub gots_empty : (d : ℕ) (ws : List (List ℕ)) (t : State) → waits_of d t ≡ ws → waits_of d (after_steps (gots d ws) t) ≡ []
gots_empty d [] t is = is
gots_empty d (w ∷ ws) t is = gots_empty d ws (after_step (Acted (Got d w)) t) (waits_of-got d w t ∙ ap (drop 1) is)

-- ---- A message that is nothing to a wait

pub other_steps : (a : Awaited) (w : List ℕ) → heard a w ≡ Other → heard_steps a w ≡ Acted (Got a.dpid w) ∷ []
other_steps a w is = rw is refl

pub other_no_reply : (a : Awaited) (w : List ℕ) → heard a w ≡ Other → message_bytes a.barrier BarrierReply ≡ w → ⊥
other_no_reply a w other is = let h : Other ≡ Reply = sym other ∙ ap (heard a) (sym is) ∙ heard-reply a in absurd cc
