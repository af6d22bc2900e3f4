use Rattle.std.proofs.Common.{◌-◌}
use Rattle.outside.specs.Seen.{Continues}
use Rattle.app_visor.specs.Dialogues.{TalksOn}
use Rattle.app_visor.specs.Attempts.{TriesOn}
use Rattle.app_visor.specs.CallsFor.{OwnSteps}
use Rattle.app_visor.proofs.starting.try_all.Given as goal

abbrev pub ghost-attempt : goal.ghost-attempt
ghost-attempt g a = g.kept

abbrev pub invariant-loop-attempt : goal.invariant-loop-attempt
invariant-loop-attempt g l = record {
  on : TriesOn g.W.World.Tells l.app g.kept (3 - l._attempt) (g.W.World.seen l.fn.world) l.tries.items (g.W.World.seen l.world);
  continues : Continues g.W.World.Tells (g.W.World.seen l.fn.world) (g.W.World.seen l.world);
  talks : TalksOn g.W.World.Tells l.app (g.W.World.seen l.fn.world) (g.W.World.seen l.world);
  own : g.W.World.Tells → OwnSteps l.app (g.W.World.seen l.fn.world) (g.W.World.seen l.world);
}
