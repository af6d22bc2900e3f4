use Rattle.std.proofs.Common.{sym, arith}
use Rattle.std.proofs.lemmas.List.{length-take, take_all}
use Rattle.switch_sim.proofs.reply.front.Goals as goal

pub slice_bounds-result-end : goal.slice_bounds-result-end
slice_bounds-result-end c = omega (arith, length-take 64 c.args.bytes.now)

pub returns-then-bytes-le64-clause-front : goal.returns-then-bytes-le64-clause-front
returns-then-bytes-le64-clause-front c = sym (take_all 64 c.args.bytes.now c.if-bytes-le64.true)

pub returns-else-bytes-le64-clause-len : goal.returns-else-bytes-le64-clause-len
returns-else-bytes-le64-clause-len c = omega (arith, length-take 64 c.args.bytes.now)
