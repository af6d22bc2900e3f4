use Rattle.std.proofs.Common.{arith}
use Rattle.crash_policy.proofs.Items.{count_of-view}
use Rattle.crash_policy.proofs.members.count.Goals as goal

pub returns : goal.returns
returns c = omega (arith, c.len.ensures, count_of-view c.args.items.now.items, c.args.items.now.ok.0)
