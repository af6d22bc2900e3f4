use Rattle.switch_sim.specs.laws.MomentLaws.{declared-after_message, declared-after_stimulus}
use Rattle.switch_sim.proofs.laws.declarations_stay.Goals as goal

pub returns-clause-message : goal.returns-clause-message
returns-clause-message c = declared-after_message

pub returns-clause-stimulus : goal.returns-clause-stimulus
returns-clause-stimulus c = declared-after_stimulus
