-- The applications that are read so far, by their names and in their order.
use Rattle.std.specs.Prelude.{◌≡◌, List, map, String, string_bytes}
use Rattle.std.specs.declared.alloc.Global.{Global}
use Rattle.crash_policy.specs.declared.policy_file.AppRule.{AppRule}
use Rattle.crash_policy.specs.Policies.{AppValue, app_value}

abbrev pub values_in : List (String Global × AppRule) → List AppValue
values_in entries = map (λ e. app_value e.1) entries

-- each stands under its own name
abbrev pub AreNamed : List (String Global × AppRule) → Type 0
AreNamed entries = map (λ e. string_bytes e.0) entries ≡ map (λ e. string_bytes e.1.name) entries
