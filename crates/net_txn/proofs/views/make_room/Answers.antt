use Rattle.std.proofs.Common.{arith}
use Rattle.net_txn.proofs.ViewPositions.{view_within, room_placed}
use Rattle.net_txn.proofs.views.make_room.Goals as goal

pub index_mut-requires : goal.index_mut-requires
index_mut-requires c = omega (arith, view_within c.args.dpid c.deref.result.now c.in-Some.at c.in-Some.ensures, c.deref.ensures.len)

pub returns-in-Some : goal.returns-in-Some
returns-in-Some c = room_placed _ c.in-Some.at c.index_mut.result.now c.reserve.new.self c.index_mut.ensures.value c.reserve.ensures.rows
