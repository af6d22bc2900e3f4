use Rattle.std.proofs.Common.{◌≡◌, ◌++◌, map, drop, string_bytes}
use Rattle.crash_policy.specs.Policies.{app_value}
use Rattle.lego_model.specs.Application.{names}
use Rattle.legosdn.proofs.top.app_names.Given as goal

abbrev pub invariant-loop-app : goal.invariant-loop-app
invariant-loop-app l =
    names (map app_value l.apps) ≡ map string_bytes l.names.items ++ names (map app_value (drop l.app-index l.apps))
