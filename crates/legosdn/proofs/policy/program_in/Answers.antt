use Rattle.std.proofs.Common.{refl}
use Rattle.legosdn.proofs.Policies.{few_read, fault_causes}
use Rattle.legosdn.proofs.policy.program_in.Goals as goal

pub returns-in_err-policy-clause-why : goal.returns-in_err-policy-clause-why
returns-in_err-policy-clause-why c = fault_causes c.args.text.now c.in_err-policy.field-0.0 c.from_residual.result c.from_residual.ensures.1 c.in_err-policy.ensures.exact

pub returns-clause-few : goal.returns-clause-few
returns-clause-few c = few_read c.in_ok-policy.policy c.in_ok-policy.policy.apps.items refl c.in_ok-policy.ensures.sized
