use Rattle.crash_policy.specs.laws.BoundLaws.{IsSized-Gives}
use Rattle.crash_policy.proofs.reading.read_policy.Goals as goal

pub returns-clause-sized : goal.returns-clause-sized
returns-clause-sized c = IsSized-Gives c.policy.result c.args.text.now c.policy.ensures
