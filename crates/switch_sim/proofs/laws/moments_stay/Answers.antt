use Rattle.switch_sim.specs.laws.MomentLaws.{moment-after_message, moment-after_stimulus}
use Rattle.switch_sim.proofs.laws.moments_stay.Goals as goal

pub returns-clause-message : goal.returns-clause-message
returns-clause-message c = moment-after_message

pub returns-clause-stimulus : goal.returns-clause-stimulus
returns-clause-stimulus c = moment-after_stimulus
