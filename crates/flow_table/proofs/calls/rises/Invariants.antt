use Rattle.std.proofs.Common.{◌↔◌, drop}
use Rattle.flow_table.specs.Run.{MomentsFrom}
use Rattle.flow_table.proofs.calls.rises.Given as goal

abbrev pub invariant-loop-call : goal.invariant-loop-call
invariant-loop-call l = MomentsFrom l.last (drop l.call-index l.calls) ↔ MomentsFrom l.from l.calls
