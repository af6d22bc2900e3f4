use Rattle.std.proofs.Common.{◌≤◌, ◌∙◌, ℕ, List, sym, ap, subst}
use Rattle.std.specs.Prelude.{All}
use Rattle.of_action.specs.declared.action.Action.{Action}
use Rattle.frame_edit.specs.Edits.{outputs}
use Rattle.switch_sim.specs.laws.EditLaws.{packet_outputs_fit}
use Rattle.switch_sim.specs.Words.{HasAddress, reach}
use Rattle.switch_sim.specs.laws.PlanLaws.{packet_edits, packet_size}
use Rattle.switch_sim.proofs.switch.SimSwitch.packet_out.Goals as goal

pub apply-requires : goal.apply-requires
apply-requires c = packet_edits c.args.self.now.had c.args.m.now c.requires.free

pub release-requires : goal.release-requires
release-requires c =
    let m = c.args.m.now in
    let have : All HasAddress m.actions = subst (λ (xs : List Action). All HasAddress xs) c.as_slice.ensures c.measure.ensures in
    let put_out = c.as_slice-3.ensures ∙ c.in_ok-outputs.ensures ∙ ap (λ (frame : List ℕ). outputs m.actions frame) c.as_slice-2.ensures in
    subst (λ (xs : List (ℕ × List ℕ)). All (λ o. reach o.1 ≤ 65517) xs) (sym put_out) (packet_outputs_fit m.actions m.payload (packet_edits c.args.self.now.had m c.requires.free) have (packet_size m c.requires.size))
