use Rattle.std.proofs.Common.{take}
use Rattle.event_dispatch.specs.Runs.{AreFresh}
use Rattle.event_dispatch.proofs.run.fresh.Given as goal

abbrev pub invariant-loop-at : goal.invariant-loop-at
invariant-loop-at l = AreFresh 0 (take l.at l.rules) l.apps.items
