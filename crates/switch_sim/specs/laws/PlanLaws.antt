-- What follows about plans: they hold for each state that a frame cannot tell from theirs.
use Rattle.std.proofs.Common.{◌≡◌, ◌==◌, ℕ, suc, ◌+◌, ◌^◌, ◌<◌, ◌≤◌, Bool, true, false, not, Option, Some, None, List, [], ◌∷◌, map, length, drop, get_or, if◌then◌else◌, sym, ap, subst, ◌∙◌, add-one, arith}
use Rattle.std.proofs.Math.Seq.{drop-cons}
use Rattle.flow_table.specs.Switch.{SwitchState}
use Rattle.flow_table.specs.Frames.{after_packet_output, after_packet_outputs}
use Rattle.switch_sim.specs.declared.packet_out.Planned.{Planned}
use Rattle.switch_sim.specs.Plan.{planned_output}
use Rattle.std.specs.Prelude.{All}
use Rattle.std.proofs.lemmas.List.Elements.{All-nil, All-cons, All-head, All-tail, All-weaker}
use Rattle.of_types.specs.declared.errors.OfError.{OfError}
use Rattle.of_action.specs.Spelling.{list_size}
use Rattle.of_wire.specs.declared.bodies.PacketOut.{PacketOut}
use Rattle.of_wire.specs.declared.message.Message.TheVariants as message
use Rattle.of_wire.specs.Spelling.{message_size}
use Rattle.frame_edit.specs.Edits.{AreEdits}
use Rattle.flow_table.specs.Errors.{buffer_unknown}
use Rattle.flow_table.specs.Refusals.{no_buffer, actions_refusal, packet_out_refusal}
use Rattle.switch_sim.specs.laws.EditLaws.{reach-least}
use Rattle.switch_sim.specs.Words.{reach}
use Rattle.switch_sim.specs.laws.SoundLaws.{AreEdits-actions}

-- one output more
pub performed_more : (in_port : ℕ) (steps : List Planned) (i : ℕ) (step : Planned) (s u : SwitchState) (whole : SwitchState) → i < length steps → step ≡ get_or steps i step → u ≡ after_packet_output in_port (planned_output step) s
    → after_packet_outputs in_port (map planned_output (drop i steps)) s ≡ whole → after_packet_outputs in_port (map planned_output (drop (i + 1) steps)) u ≡ whole
unfolding after_packet_outputs
performed_more in_port steps i step s u whole within is after so_far =
    let parts : drop i steps ≡ step ∷ drop (i + 1) steps = rw add-one (drop-cons steps i step within ∙ ap (λ (x : Planned). x ∷ drop (suc i) steps) (sym is)) in
    ap (after_packet_outputs in_port (map planned_output (drop (i + 1) steps))) after ∙ sym (ap (λ (xs : List Planned). after_packet_outputs in_port (map planned_output xs) s) parts) ∙ so_far

-- what holds of each element's image holds of each image
pub All-unmapped : {X Y : Type 0} (P : Y → Type 0) (f : X → Y) (xs : List X) → All P (map f xs) → All (λ x. P (f x)) xs
All-unmapped P f [] all = All-nil (λ x. P (f x))
All-unmapped P f (x ∷ xs) all = All-cons (λ x. P (f x)) x xs (All-head P (f x) (map f xs) all) (All-unmapped P f xs (All-tail P (f x) (map f xs) all))

short_frame : (o : ℕ × List ℕ) → reach o.1 ≤ 65517 → length o.1 < 2 ^ 32
short_frame o fits = omega (arith, fits, reach-least o.1)

pub short_steps : (steps : List Planned) (sent : List (ℕ × List ℕ)) → map planned_output steps ≡ sent → All (λ o. reach o.1 ≤ 65517) sent → All (λ p. length p.frame < 2 ^ 32) steps
short_steps steps sent is fits =
    All-unmapped (λ (o : ℕ × List ℕ). length o.1 < 2 ^ 32) planned_output steps
    (All-weaker (λ (o : ℕ × List ℕ). reach o.1 ≤ 65517) (λ (o : ℕ × List ℕ). length o.1 < 2 ^ 32) short_frame (map planned_output steps) (subst (λ (xs : List (ℕ × List ℕ)). All (λ o. reach o.1 ≤ 65517) xs) (sym is) fits))

pub packet_edits : (had : List ℕ) (m : PacketOut) → packet_out_refusal had m ≡ None → AreEdits m.actions
unfolding packet_out_refusal
packet_edits had m none = AreEdits-actions true had m.actions (unbuffered (not (m.buffer_id == no_buffer)) (actions_refusal true had m.actions) none)
  where
    unbuffered : (b : Bool) (o : Option OfError) → (if b then Some buffer_unknown else o) ≡ None → o ≡ None
    unbuffered true o e = absurd cc
    unbuffered false o e = e

pub packet_size : (m : PacketOut) → message_size (message.PacketOut m) ≤ 65535 → 16 + (list_size m.actions + length m.payload) ≤ 65535
unfolding message_size
packet_size m fits = omega (arith, fits)
