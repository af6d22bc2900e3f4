-- Laws of the checkpoints of the application over a turn: what is kept then, and that nothing is staged.
use Rattle.std.proofs.Common.{◌≡◌, ℕ, ◌<◌, Bool, List, [], length, Option, Some, None, Result, Ok, Err, refl, sym, ap, ◌∙◌, subst, get_or-set_other, inl, inr}
use Rattle.std.proofs.lemmas.Bool.{cases_eq}
use Rattle.std.specs.Prelude.{IfOk, OnErr, unwrap_or}
use Rattle.flow_table.specs.View.{TableView}
use Rattle.app_frames.specs.declared.frame.Event.{Event}
use Rattle.app_frames.specs.declared.cause.Cause.{Cause}
use Rattle.lego_model.specs.Turns.{Outcome, Completed, Failed}
use Rattle.outside.specs.Seen.{Seen}
use Rattle.net_txn.specs.Net.{NetState}
use Rattle.checkpoint_store.specs.Past.{Past, checkpoints}
use Rattle.checkpoint_store.specs.Slots.{Slot, empty_slot, slot_of, with_slot, staged, done, dropped, HasStaged}
use Rattle.checkpoint_store.specs.laws.SlotLaws.{HasStaged-done, HasStaged-dropped, slot_of-with_slot, length-with_slot}
use Rattle.app_visor.specs.declared.state.TurnEnd.TheVariants as ends
use Rattle.app_visor.specs.Attempts.{kept_of}
use Rattle.app_visor.specs.Turns.{IsEnd, handed, with_handed}
use Rattle.event_dispatch.specs.declared.closing.Closing.{Closing}
use Rattle.event_dispatch.specs.declared.closing.Closing.TheVariants as closings
use Rattle.event_dispatch.specs.declared.fault.Fault.{Fault}
use Rattle.event_dispatch.specs.Runs.{StoreRests}
use Rattle.event_dispatch.specs.Stored.{KeepsSlots, KeepsOthers, closes_slot, PlaysStaged, HoldsTurn}

-- ---- What is staged

pub keeps_same : (app : ℕ) (slots now_slots : List Slot) → now_slots ≡ slots → KeepsSlots app slots now_slots
keeps_same app slots now_slots is = record { number = ap (λ (s : List Slot). length s) is; kept = ap (λ (s : List Slot). kept_of app s) is; others = λ i other. ap (λ (s : List Slot). slot_of i s) is }

-- a change of one place changes no other
pub other_slot : (app i : ℕ) (change : Slot → Slot) (slots now_slots : List Slot) → now_slots ≡ with_slot app change slots → (i ≡ app → ⊥) → slot_of i now_slots ≡ slot_of i slots
other_slot app i change slots now_slots is other = ap (λ (s : List Slot). slot_of i s) is ∙ get_or-set_other slots app i (change (slot_of app slots)) empty_slot other

-- what is staged changes no kept checkpoint
pub keeps_handed : (app : ℕ) (checkpoint : Option (List ℕ)) (slots now_slots : List Slot) → app < length slots → now_slots ≡ with_handed app checkpoint slots → KeepsSlots app slots now_slots
keeps_handed app None slots now_slots lt is = keeps_same app slots now_slots is
keeps_handed app (Some checkpoint) slots now_slots lt is = record {
  number = ap (λ (s : List Slot). length s) is ∙ length-with_slot app (staged (checkpoints checkpoint)) slots;
  kept = ap (λ (s : List Slot). kept_of app s) is ∙ ap (λ (x : Slot). x.kept.checkpoint) (slot_of-with_slot app (staged (checkpoints checkpoint)) slots lt);
  others = λ i other. other_slot app i (staged (checkpoints checkpoint)) slots now_slots is other;
}

-- the checkpoint that would be kept
pending_handed : (app : ℕ) (checkpoint : Option (List ℕ)) (slots : List Slot) → app < length slots → HasStaged [] (slot_of app slots)
    → (slot_of app (with_handed app checkpoint slots)).pending.checkpoint ≡ unwrap_or checkpoint (kept_of app slots)
pending_handed app None slots lt none = ap (λ (past : Past). past.checkpoint) none
pending_handed app (Some checkpoint) slots lt none = ap (λ (x : Slot). x.pending.checkpoint) (slot_of-with_slot app (staged (checkpoints checkpoint)) slots lt)

-- a turn that failed hands over none
pub none_handed : (cause : Cause) (unread : List ℕ) (outcome : Outcome) → IsEnd (ends.Failed cause) unread outcome → handed outcome ≡ None
none_handed cause unread (Completed stop checkpoint rest) is = absurd is
none_handed cause unread (Failed why) is = refl

-- ---- What is kept then

pub kept_done : (app : ℕ) (slots now_slots : List Slot) → app < length slots → now_slots ≡ with_slot app done slots → kept_of app now_slots ≡ (slot_of app slots).pending.checkpoint
kept_done app slots now_slots lt is = ap (λ (s : List Slot). kept_of app s) is ∙ ap (λ (x : Slot). x.kept.checkpoint) (slot_of-with_slot app done slots lt)

pub kept_dropped : (app : ℕ) (slots now_slots : List Slot) → app < length slots → now_slots ≡ with_slot app dropped slots → kept_of app now_slots ≡ kept_of app slots
kept_dropped app slots now_slots lt is = ap (λ (s : List Slot). kept_of app s) is ∙ ap (λ (x : Slot). x.kept.checkpoint) (slot_of-with_slot app dropped slots lt)

none_staged : (closing : Result Closing Fault) (slot : Slot) → HasStaged [] (closes_slot closing slot)
none_staged (Ok (closings.Done stop out)) slot = HasStaged-done slot
none_staged (Ok (closings.Failed cause)) slot = HasStaged-dropped slot
none_staged (Err fault) slot = HasStaged-dropped slot

pub within : (app : ℕ) (slots mid_slots : List Slot) → app < length slots → KeepsSlots app slots mid_slots → app < length mid_slots
within app slots mid_slots lt keeps = subst (λ (n : ℕ). app < n) (sym keeps.number) lt

-- the places of others are as they were
pub others_closed : (closing : Result Closing Fault) (app : ℕ) (slots mid_slots now_slots : List Slot) → KeepsSlots app slots mid_slots → now_slots ≡ with_slot app (closes_slot closing) mid_slots → KeepsOthers app slots now_slots
others_closed closing app slots mid_slots now_slots keeps is = record {
  number = ap (λ (s : List Slot). length s) is ∙ length-with_slot app (closes_slot closing) mid_slots ∙ keeps.number;
  others = λ i other. other_slot app i (closes_slot closing) mid_slots now_slots is other ∙ keeps.others i other;
}

pub rests_closed : (closing : Result Closing Fault) (app : ℕ) (slots mid_slots now_slots : List Slot) → app < length slots → StoreRests slots → KeepsSlots app slots mid_slots → now_slots ≡ with_slot app (closes_slot closing) mid_slots → StoreRests now_slots
rests_closed closing app slots mid_slots now_slots lt rests keeps is = λ i less.
    let others = others_closed closing app slots mid_slots now_slots keeps is in
    elim (cases_eq i app) [
      | inl same ↦ subst (λ (n : ℕ). HasStaged [] (slot_of n now_slots)) (sym same)
          (subst (λ (s : List Slot). HasStaged [] (slot_of app s)) (sym is)
          (subst (λ (x : Slot). HasStaged [] x) (sym (slot_of-with_slot app (closes_slot closing) mid_slots (within app slots mid_slots lt keeps))) (none_staged closing (slot_of app mid_slots))))
      | inr other ↦ subst (λ (x : Slot). HasStaged [] x) (sym (others.others i other)) (rests i (subst (λ (n : ℕ). i < n) others.number less))
    ]

pub held : (Own : Type 0) (Tells : Type 0) (accepts : List TableView → Bool) (budget number : ℕ) (event : Event) (old new : Seen Own) (net now_net : NetState) (queue now_queue : List Event) (rest unread : List ℕ) (closing : Result Closing Fault) (app : ℕ) (slots mid_slots now_slots : List Slot)
    → app < length slots → StoreRests slots → KeepsSlots app slots mid_slots → now_slots ≡ with_slot app (closes_slot closing) mid_slots
    → IfOk closing (λ c. PlaysStaged Tells accepts app budget number event c old new net now_net queue now_queue rest unread slots mid_slots) → IfOk closing (λ c. HoldsTurn Tells accepts app budget number event c old new net now_net queue now_queue rest unread (kept_of app slots) (kept_of app now_slots))
held Own Tells accepts budget number event old new net now_net queue now_queue rest unread (Ok (closings.Done stop out)) app slots mid_slots now_slots lt rests keeps is staged = record {
  plays = staged.plays;
  kept_is = kept_done app mid_slots now_slots (within app slots mid_slots lt keeps) is
      ∙ ap (λ (s : List Slot). (slot_of app s).pending.checkpoint) staged.staged_is
      ∙ pending_handed app (handed staged.plays.turns.outcome) slots lt (rests app lt);
}
held Own Tells accepts budget number event old new net now_net queue now_queue rest unread (Ok (closings.Failed cause)) app slots mid_slots now_slots lt rests keeps is staged = record {
  plays = staged.plays;
  kept_is = kept_dropped app mid_slots now_slots (within app slots mid_slots lt keeps) is ∙ keeps.kept
      ∙ ap (λ (checkpoint : Option (List ℕ)). unwrap_or checkpoint (kept_of app slots)) (sym (none_handed cause unread staged.plays.turns.outcome staged.plays.turns.ends));
}
held Own Tells accepts budget number event old new net now_net queue now_queue rest unread (Err fault) app slots mid_slots now_slots lt rests keeps is staged = tt

pub unkept : (closing : Result Closing Fault) (app : ℕ) (slots mid_slots now_slots : List Slot) → app < length slots → StoreRests slots → KeepsSlots app slots mid_slots → now_slots ≡ with_slot app (closes_slot closing) mid_slots → OnErr closing (kept_of app now_slots ≡ kept_of app slots)
unkept (Ok c) app slots mid_slots now_slots lt rests keeps is = tt
unkept (Err fault) app slots mid_slots now_slots lt rests keeps is = kept_dropped app mid_slots now_slots (within app slots mid_slots lt keeps) is ∙ keeps.kept
