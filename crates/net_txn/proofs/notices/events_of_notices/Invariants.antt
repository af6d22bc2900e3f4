use Rattle.std.proofs.Common.{◌≡◌, take}
use Rattle.flow_table.specs.View.{plains}
use Rattle.net_txn.specs.Arriving.{notices_told}
use Rattle.net_txn.proofs.notices.events_of_notices.Given as goal

abbrev pub invariant-loop-notice : goal.invariant-loop-notice
invariant-loop-notice l = l.events ≡ notices_told l.dpid (plains l.views) (take l.notice-index l.notices)
