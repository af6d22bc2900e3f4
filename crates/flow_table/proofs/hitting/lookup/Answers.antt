use Rattle.std.proofs.Math.Seq.{drop-length}
use Rattle.flow_table.specs.Hit.{best}
use Rattle.flow_table.proofs.hitting.lookup.Goals as goal

pub loop-i-init : goal.loop-i-init
unfolding best
loop-i-init c = rw (drop-length c.args.entries.now) tt
