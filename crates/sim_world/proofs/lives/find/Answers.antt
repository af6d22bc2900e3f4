use Rattle.std.proofs.Common.{arith}
use Rattle.sim_world.specs.laws.CellLaws.{first_cell, no_cell}
use Rattle.sim_world.proofs.lives.find.Goals as goal

pub returns-then-cells-i-clause-some : goal.returns-then-cells-i-clause-some
returns-then-cells-i-clause-some c = first_cell c.args.app c.loop-i.i c.args.cells.now _ (omega arith) c.loop-i.invariant c.if-cells-i.true

pub returns-clause-none : goal.returns-clause-none
returns-clause-none c = no_cell c.args.app c.args.cells.now (λ k d lt. c.loop-i.invariant k d (omega arith))
