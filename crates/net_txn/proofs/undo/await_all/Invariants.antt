use Rattle.std.proofs.Common.{◌≡◌, ℕ, true, List, [], take, drop}
use Rattle.outside.specs.Seen.{Seen}
use Rattle.net_txn.specs.Ports.{PortLists}
use Rattle.net_txn.specs.Parting.{IsPlainFault}
use Rattle.net_txn.specs.Undos.{switches_of, IsRoomLeft, HasPassedBarrier}
use Rattle.net_txn.specs.NetUndos.{NetFurther, StaysInUndo}
use Rattle.net_txn.specs.Views.{is_viewed}
use Rattle.net_txn.proofs.undo.await_all.Given as goal

abbrev pub invariant-loop-at : goal.invariant-loop-at
invariant-loop-at g l = record {
  undoing : (base : Seen g.W.World.Own) (first : List (ℕ × List ℕ)) (p : PortLists) (x : ℕ) → NetFurther g.W.World.Tells base (g.W.World.seen l.fn.world) first p x l.fn.net [] (drop l.from l.fn.net.log) l.fn.fault
      → NetFurther g.W.World.Tells base (g.W.World.seen l.world) first p x l.net (switches_of (take l.at l.fn.net.views)) (drop l.from l.net.log) l.fault;
  barred : (c : ℕ) → is_viewed c (take l.at l.fn.net.views) ≡ true → HasPassedBarrier c (drop l.from l.net.log);
  stays : StaysInUndo l.from l.fn.net l.net;
  room : IsRoomLeft l.fn.fault l.fault l.fn.net.room l.net.room;
  parted : g.W.World.CanPart → IsPlainFault l.fn.fault → IsPlainFault l.fault;
}
