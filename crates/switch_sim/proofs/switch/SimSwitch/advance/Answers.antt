use Rattle.switch_sim.specs.laws.ReadableLaws.{AreReadable-both}
use Rattle.switch_sim.proofs.switch.SimSwitch.advance.Goals as goal

pub returns-clause-readable : goal.returns-clause-readable
returns-clause-readable c = AreReadable-both c.in_ok-messages.messages c.in_ok-messages.ensures.readable c.in_ok-messages.ensures.short
