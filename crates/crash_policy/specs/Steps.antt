-- A policy read step by step, as the parts of the reader do it. `OrderLaws` has that this is the first fault of the list of
-- tests, or the value. All of this is our own.
use Rattle.std.specs.Prelude.{if◌then◌else◌, List, [], ◌∷◌, ◌++◌, Option, Result, Ok, Err}
use Rattle.toml.specs.Data.{Members}
use Rattle.crash_policy.specs.declared.words.Level.TheVariants as place
use Rattle.crash_policy.specs.declared.policy_file.Judge.{Judge}
use Rattle.crash_policy.specs.Policies.{AppValue, GuardValue, PolicyValue}
use Rattle.crash_policy.specs.Faults.{Fault, double, ◌>>=◌}
use Rattle.crash_policy.specs.Order.{is_taken}
use Rattle.crash_policy.specs.Keys.{known_keys, budget_answer, command_answer, events_answer, needed_name, name_answer, policy_answer, rules_answer, rules_keys, judge_answer, quota_answer, needed_apps, apps_answer}
use Rattle.crash_policy.specs.GuardKeys.{field_answer, links_answer, guard_of}

-- the keys of an application, and that it has a name
unfoldable pub app_keys : Members → Result (Unit {0}) Fault
app_keys ms = do
  known ← known_keys place.App ms
  events ← rules_keys ms
  needed_name ms

-- the values of an application
unfoldable pub app_values : Members → Result AppValue Fault
app_values ms = do
  budget ← budget_answer ms
  command ← command_answer ms
  events ← events_answer ms
  name ← name_answer ms
  policy ← policy_answer ms
  kinds ← rules_answer policy ms
  Ok (record { name = name; command = command; policy = policy; rules = kinds; events = events; budget = budget })

unfoldable pub app_answer : Members → Result AppValue Fault
app_answer ms = do
  keys ← app_keys ms
  app_values ms

abbrev pub added : AppValue → List AppValue → Result (List AppValue) Fault
added app done = if is_taken app.name done then Err (double app.name) else Ok (done ++ app ∷ [])

-- the applications, one after the other
unfoldable pub apps_after : List AppValue → List Members → Result (List AppValue) Fault
apps_after done [] = Ok done
apps_after done (ms ∷ more) = app_answer ms >>= (λ app. added app done >>= (λ next. apps_after next more))

-- the keys at the top
unfoldable pub top_keys : Members → Result (Unit {0}) Fault
top_keys ms = do
  known ← known_keys place.Top ms
  needed_apps ms

-- what the judge looks at that looks for loops
unfoldable pub guard_answer : Judge → Members → Result (Option GuardValue) Fault
guard_answer judge ms = do
  field ← field_answer judge ms
  links ← links_answer judge ms
  Ok (guard_of field links)

unfoldable pub document_answer : Members → Result PolicyValue Fault
document_answer ms = do
  keys ← top_keys ms
  tables ← apps_answer ms
  judge ← judge_answer ms
  quota ← quota_answer judge ms
  guard ← guard_answer judge ms
  apps ← apps_after [] tables
  Ok (record { quota = quota; guard = guard; apps = apps })
