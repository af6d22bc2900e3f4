use Rattle.std.proofs.Common.{arith}
use Rattle.switch_sim.specs.laws.EditLaws.{reach-least}
use Rattle.switch_sim.proofs.switch.SimSwitch.look_up.Goals as goal

pub miss-requires : goal.miss-requires
miss-requires c = omega (arith, reach-least c.args.frame.now, c.requires)
