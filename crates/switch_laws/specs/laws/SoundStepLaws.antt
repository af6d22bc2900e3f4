-- What follows where all entries are sound: they stay so where a message was answered, where a switch was lost, and where a transaction was
-- undone.
use Rattle.std.proofs.Common.{◌≡◌, ℕ, Bool, true, false, List, [], Option, Some, None, Ok, refl, sym, ap, ◌∙◌, subst, inl, inr}
use Rattle.std.proofs.lemmas.Bool.{cases_eq}
use Rattle.std.specs.Option.{option_map}
use Rattle.std.proofs.lemmas.Option.{none-some, same_Some}
use Rattle.of_wire.specs.declared.bodies.FlowMod.{FlowMod as Change}
use Rattle.of_wire.specs.declared.message.Message.TheVariants.{FlowMod}
use Rattle.of_wire.specs.Grammar.{IsMessage}
use Rattle.flow_table.specs.Switch.{SwitchState}
use Rattle.flow_table.specs.Step.{after_message}
use Rattle.app_frames.specs.declared.frame.Answer.{Answer}
use Rattle.lego_model.specs.Answers.{as_sent}
use Rattle.lego_model.specs.Packets.{Held}
use Rattle.outside.specs.Seen.{Seen}
use Rattle.outside.specs.State.{state, switch_of}
use Rattle.outside.specs.Conforming.{Conforming}
use Rattle.net_txn.specs.Net.{NetState}
use Rattle.net_txn.specs.Answering.{known_rows}
use Rattle.net_txn.specs.Changes.{answer_of_host, ChangesJoined, Changes}
use Rattle.net_txn.specs.ChangeSteps.{InStep}
use Rattle.lego_model.specs.AfterFault.{SwitchesStay}
use Rattle.net_txn.specs.Losing.{GoesOut}
use Rattle.of_types.specs.Membership.{is_among}
use Rattle.net_txn.specs.Undos.{parts_of, is_stuck, Undoes}
use Rattle.switch_laws.specs.laws.AskedLaws.{asked}
use Rattle.switch_laws.specs.Since.{Ready, Since}
use Rattle.switch_laws.specs.laws.LossLaws.{ready-joined}
use Rattle.switch_laws.specs.laws.ShownUndoLaws.{again, out-again}
use Rattle.switch_laws.specs.Sound.{AllSound, Sound}
use Rattle.switch_laws.specs.laws.SoundLaws.{change-sound, undone-sound}

moved-sound : (m : Change) (o : Option SwitchState) (x : SwitchState) → IsMessage (FlowMod m) → ((s : SwitchState) → o ≡ Some s → AllSound s.table.entries) → option_map (after_message (as_sent (FlowMod m))) o ≡ Some x → AllSound x.table.entries
moved-sound m None x is all h = absurd cc
moved-sound m (Some s) x is all h = subst (λ (y : SwitchState). AllSound y.table.entries) (same_Some _ x h) (change-sound m s is (all s refl))

step-sound : {Own : Type 0} (d : ℕ) (m : Change) (old new : Seen Own) (net now_net : NetState) (given : Answer) → IsMessage (FlowMod m) → InStep d (as_sent (FlowMod m)) old new net now_net given → Sound (state old) → Sound (state new)
step-sound d m old new net now_net given is step all = record {
  entries = λ e x here. elim (cases_eq e d) [
    | inl same ↦ moved-sound m (switch_of d (state old)) x is (all.entries d) (sym step.moved ∙ ap (λ (n : ℕ). switch_of n (state new)) (sym same) ∙ here)
    | inr other ↦ all.entries e x (sym (step.others e other) ∙ here)
  ];
}

-- switches of which one is lost
pub lost-sound : {Own : Type 0} (d : ℕ) (packets : List Held) (old new : Seen Own) → GoesOut d packets old new → Sound (state old) → Sound (state new)
lost-sound d packets old new out all = record {
  entries = λ e x here. elim (cases_eq e d) [
    | inl same ↦ absurd (none-some x (sym out.out ∙ ap (λ (n : ℕ). switch_of n (state new)) (sym same) ∙ here))
    | inr other ↦ all.entries e x (sym (out.others e other) ∙ here)
  ];
}

-- no switch moved
pub standing-sound : {Own : Type 0} (old new : Seen Own) → SwitchesStay old new → Sound (state old) → Sound (state new)
standing-sound old new still all = record { entries = λ e x here. all.entries e x (sym (still e) ∙ here) }

module _ {Own : Type 0} (Tells : Type 0) (d : ℕ) (bytes : List ℕ) (old new : Seen Own) (net now_net : NetState) (given : Answer) where
  joined-sound : Tells → Conforming new → ChangesJoined Tells d bytes old new net now_net (Ok given) → Ready old net → Sound (state old) → (o : Option Answer) → answer_of_host d bytes net ≡ o → Sound (state new)
  joined-sound told keeps changes ready all (Some a) host = subst (λ (w : Seen _). Sound (state w)) (sym (changes.by_host a host).world) all
  joined-sound told keeps changes ready all None host = elim (asked (known_rows d net.views) bytes host) [
    | inl read ↦
        let asks = changes.by_switch read.xid read.change host read.read in
        step-sound d read.change old new net now_net given asks.message (changes.in_step read.xid read.change told host read.read keeps (ready.waits d) (ready.agrees d)) all
    | inr query ↦ standing-sound old new ((changes.by_statistics query.xid query.query host query.read).still told) all
  ]

  pub exchange-sound : Tells → Conforming new → Changes Tells d bytes old new net now_net (Ok given) → Ready old net → Sound (state old) → Sound (state new)
  exchange-sound told keeps changes ready all = elim changes.answered [
    | inl joined ↦ joined-sound told keeps joined ready all (answer_of_host d bytes net) refl
    | inr lost ↦ lost-sound d [] old new (lost.2.is_lost.out told (ready-joined old net ready d lost.2.viewed)) all
  ]

module _ {Own : Type 0} (Tells : Type 0) (start : ℕ) (lost : List ℕ) (first old new : Seen Own) (net0 net now_net : NetState) where
  -- a switch that was out before the undo
  still-sound : Tells → Ready old net → Undoes Tells start old new net now_net (Ok tt) → (d : ℕ) → switch_of d (state old) ≡ None → (x : SwitchState) → switch_of d (state new) ≡ Some x → AllSound x.table.entries
  still-sound told ready undoes d out x here = absurd (none-some x (sym (out-again Tells start lost first old new net0 net now_net told ready undoes d out) ∙ here))

  undo-by-sound : Tells → Conforming new → Since start lost first old net0 net → Ready old net → (u : Undoes Tells start old new net now_net (Ok tt)) → Sound (state first)
      → (d : ℕ) (o : Option SwitchState) → switch_of d (state first) ≡ o → (gone left : Bool) → is_among d lost ≡ gone → is_stuck (parts_of d u.parts) ≡ left → (x : SwitchState) → switch_of d (state new) ≡ Some x → AllSound x.table.entries
  undo-by-sound told keeps since ready u all d None is gone left lost_is left_is x here = still-sound told ready u d (since.out d is) x here
  undo-by-sound told keeps since ready u all d (Some s) is true left lost_is left_is x here = still-sound told ready u d (since.lost_out d lost_is) x here
  undo-by-sound told keeps since ready u all d (Some s) is false true lost_is left_is x here =
      absurd (none-some x (sym (u.lost_out d told (ready-joined old net ready) (sym (u.none_failed refl d) ∙ left_is)).0 ∙ here))
  undo-by-sound told keeps since ready u all d (Some s) is false false lost_is left_is x here =
      let j = since.joined d s lost_is is in
      let stands = again Tells start lost first old new net0 net now_net told keeps ready u d s is left_is j in
      subst (λ (y : SwitchState). AllSound y.table.entries) (same_Some _ x (sym stands ∙ here)) (undone-sound s.table j.switch.table j.switch.moment (all.entries d s is))

  pub undo-sound : Tells → Conforming new → Since start lost first old net0 net → Ready old net → Undoes Tells start old new net now_net (Ok tt) → Sound (state first) → Sound (state new)
  undo-sound told keeps since ready u all = record {
    entries = λ d x here. undo-by-sound told keeps since ready u all d (switch_of d (state first)) refl (is_among d lost) (is_stuck (parts_of d u.parts)) refl refl x here;
  }
