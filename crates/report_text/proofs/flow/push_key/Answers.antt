use Rattle.std.proofs.Common.{rules, append_assoc}
use Rattle.lego_model.specs.RunReport.{flow_head, line_of}
use Rattle.report_text.proofs.flow.push_key.Goals as goal

pub returns : goal.returns
unfolding flow_head line_of
returns c = search (rules, append_assoc)
