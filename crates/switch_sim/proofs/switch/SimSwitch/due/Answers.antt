use Rattle.switch_sim.specs.laws.FewLaws.{few_due}
use Rattle.switch_sim.specs.laws.ReadableLaws.{all_read, all_short}
use Rattle.switch_sim.proofs.switch.SimSwitch.due.Goals as goal

pub returns-clause-readable : goal.returns-clause-readable
returns-clause-readable c = all_read c.due_messages.result c.due_messages.ensures.readable

pub returns-clause-short : goal.returns-clause-short
returns-clause-short c = all_short c.due_messages.result c.due_messages.ensures.readable

pub returns-clause-few : goal.returns-clause-few
returns-clause-few c = few_due c.due_messages.result c.args.moment c.args.self.now c.is_sound.ensures c.due_messages.ensures.sent
