use Rattle.std.proofs.Common.{subst}
use Rattle.toml.specs.View.{table_view}
use Rattle.crash_policy.specs.Policies.{policy_value}
use Rattle.crash_policy.specs.Faults.{Gives}
use Rattle.crash_policy.specs.laws.OrderLaws.{document_answer-tests}
use Rattle.crash_policy.proofs.document.file.Goals as goal

pub returns : goal.returns
returns c = subst (λ answer. Gives policy_value c.by_steps.result answer) (document_answer-tests (table_view c.args.table.now)) c.by_steps.ensures
