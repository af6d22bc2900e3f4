use Rattle.net_guard.specs.Leading.{leads_over}
use Rattle.net_guard.proofs.Marking.{Marks-both}
use Rattle.net_guard.proofs.leading.led_from.Goals as goal

pub returns : goal.returns
unfolding leads_over
returns c = Marks-both _ _ _ _ _ _ c.by_tables.ensures c.requires.viewed c.both.ensures
