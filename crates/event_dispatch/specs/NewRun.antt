-- A run of which nothing has happened. All of this is our own.
use Rattle.std.specs.Prelude.{◌≡◌, ◌<◌, ◌^◌, List, [], length, map}
use Rattle.crash_policy.specs.declared.policy_file.AppRule.{AppRule}
use Rattle.crash_policy.specs.Policies.{app_value}
use Rattle.run_laws.specs.First.{engine_at_first}
use Rattle.event_dispatch.specs.declared.run.Run.{Run}
use Rattle.event_dispatch.specs.Runs.{Going}
use Rattle.event_dispatch.specs.Shows.{engine_of}

-- of the applications of these rules, which four bytes can number
pub record IsNewRun (rules : List AppRule) (r : Run) : Type 0 where
  pub number : length rules < 2 ^ 32
  pub going : Going r
  pub first : engine_of r ≡ engine_at_first (map app_value rules)
  pub none_waits : r.core.lines.items ≡ []
