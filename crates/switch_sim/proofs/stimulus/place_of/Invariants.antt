use Rattle.std.proofs.Common.{◌≡◌, ◌++◌, take, drop}
use Rattle.flow_table.specs.Switch.{PortState, insert_port}
use Rattle.switch_sim.proofs.stimulus.place_of.Given as goal

abbrev pub invariant-loop-place : goal.invariant-loop-place
invariant-loop-place l = (p : PortState) → p.number ≡ l.number → insert_port p l.all ≡ take l.place l.all ++ insert_port p (drop l.place l.all)
