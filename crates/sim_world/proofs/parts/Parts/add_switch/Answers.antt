use Rattle.std.proofs.Common.{ap, ◌∙◌}
use Rattle.flow_table.specs.Switch.{Declared}
use Rattle.outside.specs.State.{Link}
use Rattle.sim_world.specs.laws.BuildingLaws.{Gets-same, Gets-switch, switch_more}
use Rattle.std.proofs.lemmas.Result.{on_ok_weaker}
use Rattle.sim_world.proofs.parts.Parts.add_switch.Goals as goal

pub returns-clause-ok : goal.returns-clause-ok
returns-clause-ok c =
    let old = c.args.self.now in
    let declared = ap (λ (l : Link). l.declared) c.in_ok-link.ensures in
    on_ok_weaker c.put_switch.result
    (λ same. Gets-same _ _ _ _ (same ∙ ap (λ (d : Declared). switch_more d old) declared) (Gets-switch _ old c.requires.new)) c.put_switch.ensures.ok
