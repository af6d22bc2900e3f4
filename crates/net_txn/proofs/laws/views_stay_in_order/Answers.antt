use Rattle.net_txn.specs.laws.OrderLaws.{with_rows-ascends, with_view-ascends, left-ascends}
use Rattle.net_txn.proofs.laws.views_stay_in_order.Goals as goal

pub returns-clause-changed : goal.returns-clause-changed
returns-clause-changed c = with_rows-ascends

pub returns-clause-joined : goal.returns-clause-joined
returns-clause-joined c = with_view-ascends

pub returns-clause-left : goal.returns-clause-left
returns-clause-left c = left-ascends
