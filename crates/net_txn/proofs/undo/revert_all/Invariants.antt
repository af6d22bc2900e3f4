use Rattle.std.proofs.Common.{◌≤◌, [], drop}
use Rattle.net_txn.specs.Parting.{IsPlainFault}
use Rattle.net_txn.specs.Undos.{IsRoomLeft}
use Rattle.net_txn.specs.NetUndos.{NetFurther, StaysInUndo, ports_in}
use Rattle.net_txn.proofs.undo.revert_all.Given as goal

abbrev pub invariant-loop-at : goal.invariant-loop-at
invariant-loop-at g l = record {
  undoing : NetFurther g.W.World.Tells (g.W.World.seen l.fn.world) (g.W.World.seen l.world) l.fn.net.kept (ports_in l.fn.net) l.fn.net.xid l.net [] (drop l.at l.net.log) l.fault;
  stays : StaysInUndo l.from l.fn.net l.net;
  least : l.from ≤ l.at;
  room : IsRoomLeft l.fn.fault l.fault l.fn.net.room l.net.room;
  parted : g.W.World.CanPart → IsPlainFault l.fn.fault → IsPlainFault l.fault;
}
