use Rattle.std.proofs.Common.{sym, arith}
use Rattle.std.proofs.lemmas.Result.{on_ok_weaker, on_err_weaker}
use Rattle.flow_table.specs.Sorted.{with_row}
use Rattle.net_txn.specs.laws.ViewLaws.{with_rows-none}
use Rattle.net_txn.proofs.ViewPositions.{view_within, within_items, rows_in_order, rows_placed, room_placed}
use Rattle.net_txn.proofs.views.put_in.Goals as goal

pub index_mut-requires : goal.index_mut-requires
index_mut-requires c = omega (arith, view_within c.args.dpid c.deref.result.now c.in-Some.at c.in-Some.ensures, c.deref.ensures.len)

pub put_row-requires : goal.put_row-requires
put_row-requires c = rows_in_order c.args.views.now.items c.in-Some.at c.index_mut.result.now c.requires (within_items c.args.dpid c.args.views.now.items c.deref.result.now c.in-Some.at c.deref.ensures.value c.in-Some.ensures) c.index_mut.ensures.value

pub returns-in-None-clause-ok : goal.returns-in-None-clause-ok
returns-in-None-clause-ok c = sym (with_rows-none c.args.dpid (with_row c.args.row) _ (rw c.deref.ensures.value at c.in-None.ensures))

pub returns-in-Some-clause-ok : goal.returns-in-Some-clause-ok
returns-in-Some-clause-ok c =
    on_ok_weaker c.put_row.result (λ put. rows_placed c.args.dpid (with_row c.args.row) _ c.deref.result.now c.in-Some.at c.index_mut.result.now c.put_row.new.rows c.deref.ensures.value c.in-Some.ensures c.index_mut.ensures.value put) c.put_row.ensures.ok

pub returns-in-Some-clause-err : goal.returns-in-Some-clause-err
returns-in-Some-clause-err c = on_err_weaker c.put_row.result (λ kept. room_placed _ c.in-Some.at c.index_mut.result.now c.put_row.new.rows c.index_mut.ensures.value kept) c.put_row.ensures.err
