use Rattle.flow_table.specs.Switch.{features_of}
use Rattle.switch_sim.specs.laws.ReadableLaws.{features_read, one_short}
use Rattle.switch_sim.proofs.switch.SimSwitch.features.Goals as goal

pub returns-clause-own : goal.returns-clause-own
returns-clause-own c = features_read c.features_message.result (features_of c.args.self.now) 0 c.features_message.ensures.read

pub returns-clause-short : goal.returns-clause-short
returns-clause-short c = one_short c.features_message.result c.features_message.ensures.readable
