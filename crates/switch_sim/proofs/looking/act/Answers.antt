use Rattle.std.proofs.Common.{◌≤◌, ◌∙◌, ℕ, List, length, subst, sym}
use Rattle.std.specs.Prelude.{All}
use Rattle.of_action.specs.declared.action.Action.{Action}
use Rattle.switch_sim.specs.laws.EditLaws.{outputs_short}
use Rattle.switch_sim.specs.Words.{HasAddress}
use Rattle.switch_sim.proofs.looking.act.Goals as goal

pub packet_ins-requires : goal.packet_ins-requires
packet_ins-requires c =
    let have : All HasAddress c.args.entry.now.actions = subst (λ (xs : List Action). All HasAddress xs) c.as_slice.ensures c.measure.ensures in
    subst (λ (xs : List (ℕ × List ℕ)). All (λ o. length o.1 ≤ 65517) xs) (sym (c.as_slice-2.ensures ∙ c.in_ok-outputs.ensures)) (outputs_short 65517 c.args.entry.now.actions c.args.frame.now have c.requires.fits)
