use Rattle.std.proofs.Common.{◌==◌, ap, ◌∙◌}
use Rattle.flow_table.specs.laws.PlainLaws.{any-plains}
use Rattle.net_txn.specs.Views.{is_viewed}
use Rattle.event_dispatch.proofs.batch.has_view.Goals as goal

pub returns : goal.returns
returns c = c.is_among.ensures ∙ any-plains (λ v. v.dpid == c.args.dpid) c.views.result.now ∙ ap (is_viewed c.args.dpid) c.views.ensures
