use Rattle.std.proofs.Common.{sym}
use Rattle.flow_table.specs.View.{plains}
use Rattle.net_txn.specs.laws.ViewLaws.{with_rows-kept}
use Rattle.net_txn.proofs.views.put_added.Goals as goal

pub returns-in-None-clause-ok : goal.returns-in-None-clause-ok
returns-in-None-clause-ok c = rw c.in-None.is (sym (with_rows-kept c.args.dpid (plains c.args.views.now.items)))
