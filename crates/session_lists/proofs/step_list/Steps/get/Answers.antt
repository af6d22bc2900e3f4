use Rattle.std.proofs.Common.{length, ap, arith}
use Rattle.session_lists.specs.laws.StepLaws.{between_count}
use Rattle.session_lists.proofs.step_list.Steps.get.Goals as goal

pub step_at-requires-clause-less : goal.step_at-requires-clause-less
step_at-requires-clause-less c =
    omega (arith, c.requires, ap (λ steps. length steps) c.self.view_is, between_count c.self.inside.first c.self.inside.end c.self.inside.records.now c.self.invariant)
