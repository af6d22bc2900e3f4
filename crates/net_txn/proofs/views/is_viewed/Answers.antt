use Rattle.std.proofs.Common.{◌==◌, ◌∙◌}
use Rattle.flow_table.specs.laws.PlainLaws.{any-plains}
use Rattle.net_txn.proofs.views.is_viewed.Goals as goal

pub returns : goal.returns
returns c = c.has_view.ensures ∙ any-plains (λ v. v.dpid == c.args.dpid) c.args.views.now
