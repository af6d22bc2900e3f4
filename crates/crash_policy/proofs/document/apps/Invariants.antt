use Rattle.std.proofs.Common.{◌≡◌, [], map, drop}
use Rattle.toml.specs.View.{table_view}
use Rattle.crash_policy.specs.Steps.{apps_after}
use Rattle.crash_policy.specs.Named.{values_in, AreNamed}
use Rattle.crash_policy.proofs.document.apps.Given as goal

abbrev pub invariant-loop-table : goal.invariant-loop-table
invariant-loop-table l = record {
  named : AreNamed l.apps.entries;
  goes_on : apps_after [] (map (λ t. table_view t.now) l.tables) ≡ apps_after (values_in l.apps.entries) (map (λ t. table_view t.now) (drop l.table-index l.tables));
}
