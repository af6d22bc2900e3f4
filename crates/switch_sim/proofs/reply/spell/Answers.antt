use Rattle.std.proofs.Common.{arith}
use Rattle.switch_sim.specs.laws.ReadableLaws.{spelled_read, spelled_readable}
use Rattle.switch_sim.proofs.reply.spell.Goals as goal

pub encode-requires : goal.encode-requires
encode-requires c = omega (arith, c.requires.size)

pub returns-clause-read : goal.returns-clause-read
returns-clause-read c = spelled_read c.encode.result c.args.xid c.args.message.now (omega arith) c.requires c.encode.ensures

pub returns-clause-readable : goal.returns-clause-readable
returns-clause-readable c = spelled_readable c.encode.result c.args.xid c.args.message.now (omega arith) c.requires c.encode.ensures
