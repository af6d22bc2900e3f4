use Rattle.std.proofs.Common.{◌≡◌, map, ap, ◌∙◌, arith}
use Rattle.std.proofs.lemmas.Grind.{common_steps}
use Rattle.crash_policy.specs.Policies.{app_value}
use Rattle.crash_policy.specs.Steps.{apps_after}
use Rattle.crash_policy.specs.Named.{values_in}
use Rattle.crash_policy.proofs.Names.{values_in-values}
use Rattle.crash_policy.proofs.document.apps.Goals as goal

pub returns : goal.returns
unfolding apps_after
returns c =
    let same : map app_value c.in_ok-in_order.field-0.items ≡ values_in c.loop-table.apps.entries =
    ap (map app_value) c.in_ok-in_order.ensures ∙ values_in-values c.loop-table.apps.entries in
    rw same (grind (arith, common_steps))
