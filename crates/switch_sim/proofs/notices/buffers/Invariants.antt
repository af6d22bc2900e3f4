use Rattle.std.proofs.Common.{◌≡◌}
use Rattle.std.specs.Vec.{vec_len}
use Rattle.switch_sim.specs.Words.{AreSpares}
use Rattle.switch_sim.proofs.notices.buffers.Given as goal

abbrev pub invariant-loop : goal.invariant-loop
invariant-loop l = record { len : vec_len l.all ≡ l.counter; each : AreSpares l.all.items }
