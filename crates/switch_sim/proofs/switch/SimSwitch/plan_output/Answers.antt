use Rattle.std.proofs.Common.{arith}
use Rattle.switch_sim.specs.laws.EditLaws.{reach-least}
use Rattle.switch_sim.proofs.switch.SimSwitch.plan_output.Goals as goal

pub push_output-requires-clause-fits : goal.push_output-requires-clause-fits
push_output-requires-clause-fits c = omega (arith, reach-least c.args.frame.now, c.requires.fits)
