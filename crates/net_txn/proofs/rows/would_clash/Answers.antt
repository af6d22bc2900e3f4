use Rattle.std.proofs.Common.{sym, ◌∙◌}
use Rattle.net_txn.proofs.RowTests.{clash_checked}
use Rattle.net_txn.proofs.rows.would_clash.Goals as goal

pub returns-then-checks_overlap : goal.returns-then-checks_overlap
returns-then-checks_overlap c = c.has_overlap.ensures ∙ clash_checked c.args.m.now c.args.rows.now c.key_of.result c.key_of.ensures (sym c.checks_overlap.ensures ∙ c.if-checks_overlap.true)
