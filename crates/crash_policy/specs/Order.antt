-- What a policy text says: the value of its keys, or the first fault of a list of tests. Each test is the word of one key, and the
-- list gives their order. All of this is our own.
use Rattle.std.specs.Prelude.{ℕ, if◌then◌else◌, Bool, List, [], ◌∷◌, ◌++◌, map, Option, Some, None, Result, Ok, Err}
use Rattle.std.specs.List.{list_any}
use Rattle.std.specs.Str.{bytes_eq, is_utf8}
use Rattle.toml.specs.Data.{Members}
use Rattle.toml.specs.Parse.{parse_document}
use Rattle.crash_policy.specs.declared.words.Level.TheVariants as place
use Rattle.crash_policy.specs.declared.policy_file.Policy.{Policy}
use Rattle.crash_policy.specs.declared.policy_file.Policy.TheVariants as policy
use Rattle.crash_policy.specs.declared.policy_file.Judge.{Judge}
use Rattle.crash_policy.specs.declared.policy_file.Judge.TheVariants as judge
use Rattle.crash_policy.specs.Policies.{AppValue, PolicyValue, default_policy}
use Rattle.crash_policy.specs.Faults.{Fault, no_text, double, ◌>>=◌}
use Rattle.crash_policy.specs.Keys.{known_keys, budget_answer, command_answer, events_answer, needed_name, name_answer, policy_answer, rules_answer, rules_keys, judge_answer, quota_answer, needed_apps, apps_answer}
use Rattle.crash_policy.specs.GuardKeys.{field_answer, links_answer, guard_of}

-- ---- tests

-- the fault of a key
abbrev pub fault_in : {A : Type 0} → Result A Fault → Option Fault
fault_in (Ok x) = None
fault_in (Err fault) = Some fault

-- the value of a key; where it has a fault, any value stands for it
abbrev pub given : {A : Type 0} → A → Result A Fault → A
given other (Ok x) = x
given other (Err fault) = other

abbrev pub first_of : List (Option Fault) → Option Fault
first_of [] = None
first_of (None ∷ tests) = first_of tests
first_of (Some fault ∷ tests) = Some fault

-- the first fault; the value where there is none
abbrev pub unless_fault : {A : Type 0} → Option Fault → A → Result A Fault
unless_fault None x = Ok x
unless_fault (Some fault) x = Err fault

-- ---- an application

abbrev pub policy_given : Members → Policy
policy_given ms = given policy.Absolute (policy_answer ms)

unfoldable pub app_given : Members → AppValue
app_given ms = record {
  name = given [] (name_answer ms);
  command = given [] (command_answer ms);
  policy = policy_given ms;
  rules = given [] (rules_answer (policy_given ms) ms);
  events = given [] (events_answer ms);
  budget = given 0 (budget_answer ms);
}

-- unknown keys, those of `rules` after those of the table; the name that is needed; values, by the names of their keys
unfoldable pub app_tests : Members → List (Option Fault)
app_tests ms =
    fault_in (known_keys place.App ms)
    ∷ fault_in (rules_keys ms)
    ∷ fault_in (needed_name ms)
    ∷ fault_in (budget_answer ms)
    ∷ fault_in (command_answer ms)
    ∷ fault_in (events_answer ms)
    ∷ fault_in (name_answer ms)
    ∷ fault_in (policy_answer ms)
    ∷ fault_in (rules_answer (policy_given ms) ms)
    ∷ []

-- an earlier application has the name
abbrev pub is_taken : List ℕ → List AppValue → Bool
is_taken name earlier = list_any (λ app. bytes_eq name app.name) earlier

abbrev pub double_test : AppValue → List AppValue → Option Fault
double_test app earlier = if is_taken app.name earlier then Some (double app.name) else None

-- one application after the other
unfoldable pub apps_tests : List AppValue → List Members → List (Option Fault)
apps_tests earlier [] = []
apps_tests earlier (ms ∷ more) =
    app_tests ms ++ double_test (app_given ms) earlier ∷ apps_tests (earlier ++ app_given ms ∷ []) more

-- ---- the whole

abbrev pub tables_given : Members → List Members
tables_given ms = given [] (apps_answer ms)

abbrev pub judge_given : Members → Judge
judge_given ms = given judge.All (judge_answer ms)

-- unknown keys; the applications that are needed; values; then the applications
unfoldable pub document_tests : Members → List (Option Fault)
document_tests ms =
    fault_in (known_keys place.Top ms)
    ∷ fault_in (needed_apps ms)
    ∷ fault_in (apps_answer ms)
    ∷ fault_in (judge_answer ms)
    ∷ fault_in (quota_answer (judge_given ms) ms)
    ∷ fault_in (field_answer (judge_given ms) ms)
    ∷ fault_in (links_answer (judge_given ms) ms)
    ∷ apps_tests [] (tables_given ms)

unfoldable pub document_given : Members → PolicyValue
document_given ms = record {
  quota = given None (quota_answer (judge_given ms) ms);
  guard = guard_of (given None (field_answer (judge_given ms) ms)) (given None (links_answer (judge_given ms) ms));
  apps = map app_given (tables_given ms);
}

unfoldable pub document_policy : Members → Result PolicyValue Fault
document_policy ms = unless_fault (first_of (document_tests ms)) (document_given ms)

-- what TOML makes of bytes: they are UTF-8, and a document
abbrev pub or_no_text : Option Members → Result Members Fault
or_no_text None = Err no_text
or_no_text (Some ms) = Ok ms

unfoldable pub document_of : List ℕ → Result Members Fault
document_of bytes = if is_utf8 bytes then or_no_text (parse_document bytes) else Err no_text

-- No byte at all stands for one application `app` with all defaults.
unfoldable pub policy_of : List ℕ → Result PolicyValue Fault
policy_of [] = Ok default_policy
policy_of (b ∷ bytes) = document_of (b ∷ bytes) >>= document_policy
