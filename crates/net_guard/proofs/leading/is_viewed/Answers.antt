use Rattle.std.proofs.Common.{◌==◌, ◌∙◌}
use Rattle.flow_table.specs.laws.PlainLaws.{any-plains}
use Rattle.net_guard.proofs.leading.is_viewed.Goals as goal

pub returns : goal.returns
returns c = c.has_table.ensures ∙ any-plains (λ t. t.dpid == c.args.dpid) c.args.tables.now
