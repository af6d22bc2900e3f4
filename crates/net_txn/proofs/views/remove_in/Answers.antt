use Rattle.std.proofs.Common.{sym, arith}
use Rattle.flow_table.specs.Sorted.{without_key}
use Rattle.net_txn.specs.laws.ViewLaws.{with_rows-none}
use Rattle.net_txn.proofs.ViewPositions.{view_within, within_items, rows_in_order, rows_placed}
use Rattle.net_txn.proofs.views.remove_in.Goals as goal

pub index_mut-requires : goal.index_mut-requires
index_mut-requires c = omega (arith, view_within c.args.dpid c.deref.result.now c.in-Some.at c.in-Some.ensures, c.deref.ensures.len)

pub remove_row-requires : goal.remove_row-requires
remove_row-requires c = rows_in_order c.args.views.now.items c.in-Some.at c.index_mut.result.now c.requires (within_items c.args.dpid c.args.views.now.items c.deref.result.now c.in-Some.at c.deref.ensures.value c.in-Some.ensures) c.index_mut.ensures.value

pub returns-in-None : goal.returns-in-None
returns-in-None c = sym (with_rows-none c.args.dpid (without_key c.args.key.now) _ (rw c.deref.ensures.value at c.in-None.ensures))

pub returns-in-Some : goal.returns-in-Some
returns-in-Some c = rows_placed c.args.dpid (without_key c.args.key.now) _ c.deref.result.now c.in-Some.at c.index_mut.result.now c.remove_row.new.rows c.deref.ensures.value c.in-Some.ensures c.index_mut.ensures.value c.remove_row.ensures
