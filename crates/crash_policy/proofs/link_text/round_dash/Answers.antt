use Rattle.std.proofs.Common.{arith}
use Rattle.crash_policy.proofs.Cuts.{cut_is}
use Rattle.crash_policy.proofs.link_text.round_dash.Goals as goal

pub returns : goal.returns
returns c = cut_is 45 c.args.text.now c.split_once.result c.split_once.ensures.cases (omega arith)
