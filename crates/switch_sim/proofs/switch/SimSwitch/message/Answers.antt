use Rattle.switch_sim.specs.laws.ReadableLaws.{all_read, all_short}
use Rattle.switch_sim.specs.laws.SerialLaws.{next_message_result}
use Rattle.switch_sim.proofs.switch.SimSwitch.message.Goals as goal

pub returns-clause-readable : goal.returns-clause-readable
returns-clause-readable c = all_read c.respond.result c.respond.ensures.readable

pub returns-clause-short : goal.returns-clause-short
returns-clause-short c = all_short c.respond.result c.respond.ensures.readable

pub returns-clause-serials : goal.returns-clause-serials
returns-clause-serials c = next_message_result c.respond.result c.args.m.now c.args.self.now c.respond.new.self c.respond.ensures.ok c.respond.ensures.err
