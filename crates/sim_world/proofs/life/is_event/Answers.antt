use Rattle.std.proofs.Common.{arith}
use Rattle.sim_world.specs.laws.LifeLaws.{no_event}
use Rattle.sim_world.proofs.life.is_event.Goals as goal

pub returns-else-bytes-gt4 : goal.returns-else-bytes-gt4
returns-else-bytes-gt4 c = no_event c.args.bytes.now (omega arith)
