use Rattle.std.proofs.Common.{arith}
use Rattle.switch_sim.specs.laws.EditLaws.{reach-most}
use Rattle.switch_sim.proofs.switch.SimSwitch.frame.Goals as goal

pub look_up-requires : goal.look_up-requires
look_up-requires c = omega (arith, reach-most c.args.frame.now, c.requires)
