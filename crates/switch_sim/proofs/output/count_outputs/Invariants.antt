use Rattle.std.proofs.Common.{◌≡◌, drop}
use Rattle.switch_sim.specs.Words.{ports_after_outputs}
use Rattle.switch_sim.proofs.output.count_outputs.Given as goal

abbrev pub invariant-loop-to : goal.invariant-loop-to
invariant-loop-to l = ports_after_outputs l.in_port (drop l.to-index l.outputs) l.all ≡ ports_after_outputs l.in_port l.outputs l.initial.all
