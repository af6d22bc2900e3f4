use Rattle.run_laws.specs.laws.GroupMoveLaws.{group_moves}
use Rattle.run_laws.specs.laws.HadLaws.{had_moves, event_continues, event_converses, event_orderly}
use Rattle.run_laws.proofs.events.groups_move.Goals as goal

pub returns-clause-group : goal.returns-clause-group
returns-clause-group g c = group_moves g.W.World.Tells

pub returns-clause-event : goal.returns-clause-event
returns-clause-event g c = had_moves g.W.World.Tells

pub returns-clause-orderly : goal.returns-clause-orderly
returns-clause-orderly g c = event_orderly g.W.World.Tells

pub returns-clause-talks : goal.returns-clause-talks
returns-clause-talks g c = λ accepts event stops text old new e now_e told alive talks h. (
  event_continues g.W.World.Tells accepts event stops text old new e now_e h,
  event_converses g.W.World.Tells accepts event stops text old new e now_e told alive talks h,
)
