use Rattle.std.proofs.Common.{List, subst}
use Rattle.std.specs.Prelude.{All}
use Rattle.std.proofs.lemmas.List.{take_all}
use Rattle.std.proofs.lemmas.List.Elements.{All-more}
use Rattle.of_action.specs.declared.action.Action.{Action}
use Rattle.switch_sim.specs.Words.{HasAddress}
use Rattle.switch_sim.proofs.output.measure.Goals as goal

pub loop-action-preserved : goal.loop-action-preserved
loop-action-preserved c =
    All-more HasAddress c.args.actions.now c.loop-action.action-index c.action-item.result c.loop-action-test.true c.loop-action.invariant (subst HasAddress c.action-item.is c.measure_action.ensures)

pub returns : goal.returns
returns c = subst (λ (xs : List Action). All HasAddress xs) (take_all c.loop-action.action-index c.args.actions.now c.loop-action-test.false) c.loop-action.invariant
