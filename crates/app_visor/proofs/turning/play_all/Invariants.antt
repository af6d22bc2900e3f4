use Rattle.std.proofs.Common.{◌≡◌, ◌-◌}
use Rattle.app_visor.specs.Beats.{Leads}
use Rattle.app_visor.specs.CallsFor.{Calmly}
use Rattle.app_visor.specs.Turns.{GoesOn}
use Rattle.app_visor.proofs.turning.play_all.Given as goal

abbrev pub invariant-loop-played : goal.invariant-loop-played
invariant-loop-played g l = record {
  on : GoesOn g.W.World.Tells (g.J.Judge.accepts l.judge) l.app l.budget l.fn.intake (g.W.World.seen l.fn.world) l.fn.txn.net.now (l.budget - l._played) l.intake (g.W.World.seen l.world) l.txn.net.now;
  leads : Leads g.W.World.Tells l.app (g.W.World.seen l.fn.world) (g.W.World.seen l.world) l.fn.txn.net.now l.txn.net.now;
  calm : g.W.World.Tells → Calmly l.app (g.W.World.seen l.fn.world) (g.W.World.seen l.world);
  same_reference : l.txn.net.ghost_name ≡ l.fn.txn.net.ghost_name;
  start : l.txn.start ≡ l.fn.txn.start;
}
