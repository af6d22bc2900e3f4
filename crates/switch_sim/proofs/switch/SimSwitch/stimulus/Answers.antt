use Rattle.switch_sim.specs.laws.FewLaws.{few_sent}
use Rattle.switch_sim.specs.laws.ReadableLaws.{all_read}
use Rattle.switch_sim.specs.laws.SerialLaws.{next_stimulus_result}
use Rattle.switch_sim.proofs.switch.SimSwitch.stimulus.Goals as goal

pub returns-clause-readable : goal.returns-clause-readable
returns-clause-readable c no_raw = all_read c.happen.result (c.happen.ensures.readable no_raw)

pub returns-clause-few : goal.returns-clause-few
returns-clause-few c few = few_sent c.happen.result c.args.s.now c.args.self.now c.is_sound.ensures few c.happen.ensures.sent

pub returns-clause-serials : goal.returns-clause-serials
returns-clause-serials c = next_stimulus_result c.happen.result c.args.s.now c.args.self.now c.happen.new.self c.happen.ensures.ok c.happen.ensures.err
