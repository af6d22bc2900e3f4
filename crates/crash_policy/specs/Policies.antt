-- A policy as a value: what its text says of each application. All of this is our own.
use Rattle.std.specs.Prelude.{ℕ, Bool, true, List, [], ◌∷◌, map, replicate, codes, Option, None, option_map, string_bytes}
use Rattle.guard_rule.specs.declared.GuardField.{GuardField}
use Rattle.guard_rule.specs.declared.GuardRule.{GuardRule}
use Rattle.guard_rule.specs.declared.Link.{Link}
use Rattle.crash_policy.specs.declared.policy_file.Policy.{Policy}
use Rattle.crash_policy.specs.declared.policy_file.Policy.TheVariants as policy
use Rattle.crash_policy.specs.declared.policy_file.AppRule.{AppRule}
use Rattle.crash_policy.specs.declared.policy_file.PolicyFile.{PolicyFile}

-- one application: `rules` and `events` have one place for each of the six kinds of events
pub record AppValue : Type 0 where
  pub name : List ℕ
  pub command : List (List ℕ)
  pub policy : Policy
  pub rules : List Policy
  pub events : List Bool
  pub budget : ℕ

-- the links of a network, and the field by which rows send packets over them
pub record GuardValue : Type 0 where
  pub field : GuardField
  pub links : List Link

-- the applications in their order, the most flow entries where a judge counts them, and what a judge looks at that looks for loops
pub record PolicyValue : Type 0 where
  pub quota : Option ℕ
  pub guard : Option GuardValue
  pub apps : List AppValue

-- ---- the value of what a call gives

abbrev pub app_value : AppRule → AppValue
app_value app = record {
  name = string_bytes app.name;
  command = map string_bytes app.command.items;
  policy = app.policy;
  rules = app.rules;
  events = app.events;
  budget = app.budget;
}

abbrev pub guard_value : GuardRule → GuardValue
guard_value rule = record { field = rule.field; links = rule.links.items }

abbrev pub policy_value : PolicyFile → PolicyValue
policy_value file = record { quota = file.quota; guard = option_map guard_value file.guard; apps = map app_value file.apps.items }

-- ---- the policy of an empty text: one application `app` with all defaults

unfoldable pub default_app : AppValue
default_app = record {
  name = codes "app";
  command = [];
  policy = policy.Absolute;
  rules = replicate 6 policy.Absolute;
  events = replicate 6 true;
  budget = 1000;
}

abbrev pub default_policy : PolicyValue
default_policy = record { quota = None; guard = None; apps = default_app ∷ [] }
