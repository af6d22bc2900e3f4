-- Reading step by step gives the first fault of the list of tests, or the value.
use Rattle.std.specs.Prelude.{◌≡◌, Bool, true, false, List, [], ◌∷◌, ◌++◌, map, Option, Some, None, Result, Ok, Err, if◌then◌else◌}
use Rattle.std.proofs.Common.{refl, sym, ap, ◌∙◌, append_assoc}
use Rattle.std.proofs.lemmas.List.{append-nil}
use Rattle.toml.specs.Data.{Members}
use Rattle.crash_policy.specs.declared.words.Level.TheVariants as place
use Rattle.crash_policy.specs.declared.policy_file.Policy.TheVariants as policy
use Rattle.crash_policy.specs.declared.policy_file.Judge.TheVariants as judge
use Rattle.crash_policy.specs.declared.policy_file.Judge.{Judge}
use Rattle.crash_policy.specs.Policies.{AppValue, GuardValue, PolicyValue}
use Rattle.crash_policy.specs.GuardKeys.{field_answer, links_answer, guard_of}
use Rattle.crash_policy.specs.Faults.{Fault, double, ◌>>=◌}
use Rattle.crash_policy.specs.Keys.{known_keys, budget_answer, command_answer, events_answer, needed_name, name_answer, policy_answer, rules_answer, rules_keys, judge_answer, quota_answer, needed_apps, apps_answer}
use Rattle.crash_policy.specs.Order.{fault_in, given, first_of, unless_fault, policy_given, app_given, app_tests, is_taken, double_test, apps_tests, tables_given, judge_given, document_tests, document_given, document_policy}
use Rattle.crash_policy.specs.Steps.{app_keys, app_values, app_answer, added, apps_after, top_keys, guard_answer, document_answer}

-- one step more in front
bind_first : {A B : Type 0} (a : Result A Fault) (f : A → Result B Fault) (tests : List (Option Fault)) (v : B)
    → ((x : A) → a ≡ Ok x → f x ≡ unless_fault (first_of tests) v) → (a >>= f) ≡ unless_fault (first_of (fault_in a ∷ tests)) v
bind_first (Ok x) f tests v h = h x refl
bind_first (Err fault) f tests v h = refl

-- some steps more behind
bind_after : {A B : Type 0} (tests more : List (Option Fault)) (v : A) (w : B) (f : A → Result B Fault)
    → f v ≡ unless_fault (first_of more) w → (unless_fault (first_of tests) v >>= f) ≡ unless_fault (first_of (tests ++ more)) w
bind_after [] more v w f h = h
bind_after (None ∷ tests) more v w f h = bind_after tests more v w f h
bind_after (Some fault ∷ tests) more v w f h = refl

bind_last : {A B : Type 0} (o : Option Fault) (v : A) (g : A → B) → (unless_fault o v >>= (λ x. Ok (g x))) ≡ unless_fault o (g v)
bind_last None v g = refl
bind_last (Some fault) v g = refl

alone : (a : Result (Unit {0}) Fault) → a ≡ unless_fault (first_of (fault_in a ∷ [])) tt
alone (Ok u) = refl
alone (Err fault) = refl

-- ---- an application

app_keys-tests : (ms : Members) → app_keys ms ≡ unless_fault (first_of (fault_in (known_keys place.App ms) ∷ fault_in (rules_keys ms) ∷ fault_in (needed_name ms) ∷ [])) tt
unfolding app_keys
app_keys-tests ms =
    bind_first (known_keys place.App ms) _ _ _ (λ u is. bind_first (rules_keys ms) _ _ _ (λ v too. alone (needed_name ms)))

abbrev value_tests : Members → List (Option Fault)
value_tests ms =
    fault_in (budget_answer ms) ∷ fault_in (command_answer ms) ∷ fault_in (events_answer ms) ∷ fault_in (name_answer ms)
    ∷ fault_in (policy_answer ms) ∷ fault_in (rules_answer (policy_given ms) ms) ∷ []

app_values-tests : (ms : Members) → app_values ms ≡ unless_fault (first_of (value_tests ms)) (app_given ms)
unfolding app_values app_given
app_values-tests ms =
    bind_first (budget_answer ms) _ _ _ (λ budget is_budget.
    bind_first (command_answer ms) _ _ _ (λ command is_command.
    bind_first (events_answer ms) _ _ _ (λ events is_events.
    bind_first (name_answer ms) _ _ _ (λ name is_name.
    bind_first (policy_answer ms) _ _ _ (λ own is_own.
    let same : own ≡ policy_given ms = sym (ap (given policy.Absolute) is_own) in
    rw same (bind_first (rules_answer (policy_given ms) ms) _ _ _ (λ kinds are_kinds.
    rw (is_budget, is_command, is_events, is_name, are_kinds)))
    )))))

app_answer-tests : (ms : Members) → app_answer ms ≡ unless_fault (first_of (app_tests ms)) (app_given ms)
unfolding app_answer app_tests
app_answer-tests ms =
    ap (λ (a : Result (Unit {0}) Fault). a >>= (λ keys. app_values ms)) (app_keys-tests ms)
    ∙ bind_after (fault_in (known_keys place.App ms) ∷ fault_in (rules_keys ms) ∷ fault_in (needed_name ms) ∷ []) (value_tests ms) tt (app_given ms) (λ keys. app_values ms) (app_values-tests ms)

-- ---- the applications

added-test : (app : AppValue) (earlier : List AppValue) → added app earlier ≡ unless_fault (double_test app earlier) (earlier ++ app ∷ [])
added-test app earlier = by (is_taken app.name earlier)
  where
    by : (b : Bool) → (if b then Err (double app.name) else Ok (earlier ++ app ∷ [])) ≡ unless_fault (if b then Some (double app.name) else None) (earlier ++ app ∷ [])
    by true = refl
    by false = refl

behind : {A B : Type 0} (o : Option Fault) (more : List (Option Fault)) (v : A) (w : B) (f : A → Result B Fault)
    → f v ≡ unless_fault (first_of more) w → (unless_fault o v >>= f) ≡ unless_fault (first_of (o ∷ more)) w
behind None more v w f h = h
behind (Some fault) more v w f h = refl

apps_after-tests : (earlier : List AppValue) (tables : List Members) → apps_after earlier tables ≡ unless_fault (first_of (apps_tests earlier tables)) (earlier ++ map app_given tables)
unfolding apps_after apps_tests
apps_after-tests earlier [] = ap (λ (all : List AppValue). Ok all) (sym (append-nil earlier))
apps_after-tests earlier (ms ∷ more) =
    let app = app_given ms in
    let next = earlier ++ app ∷ [] in
    let all = earlier ++ map app_given (ms ∷ more) in
    let f : AppValue → Result (List AppValue) Fault = λ a. added a earlier >>= (λ n. apps_after n more) in
    let later : apps_after next more ≡ unless_fault (first_of (apps_tests next more)) all =
    apps_after-tests next more ∙ ap (unless_fault (first_of (apps_tests next more))) (append_assoc earlier (app ∷ []) (map app_given more)) in
    let here : f app ≡ unless_fault (first_of (double_test app earlier ∷ apps_tests next more)) all =
    ap (λ (r : Result (List AppValue) Fault). r >>= (λ n. apps_after n more)) (added-test app earlier)
    ∙ behind (double_test app earlier) (apps_tests next more) next all (λ n. apps_after n more) later in
    ap (λ (r : Result AppValue Fault). r >>= f) (app_answer-tests ms)
    ∙ bind_after (app_tests ms) (double_test app earlier ∷ apps_tests next more) app all f here

-- ---- the whole

top_keys-tests : (ms : Members) → top_keys ms ≡ unless_fault (first_of (fault_in (known_keys place.Top ms) ∷ fault_in (needed_apps ms) ∷ [])) tt
unfolding top_keys
top_keys-tests ms = bind_first (known_keys place.Top ms) _ _ _ (λ u is. alone (needed_apps ms))

-- what the judge looks at that looks for loops
abbrev guard_tests : Judge → Members → List (Option Fault)
guard_tests j ms = fault_in (field_answer j ms) ∷ fault_in (links_answer j ms) ∷ []

abbrev guard_given : Judge → Members → Option GuardValue
guard_given j ms = guard_of (given None (field_answer j ms)) (given None (links_answer j ms))

guard_answer-tests : (j : Judge) (ms : Members) → guard_answer j ms ≡ unless_fault (first_of (guard_tests j ms)) (guard_given j ms)
unfolding guard_answer
guard_answer-tests j ms =
    bind_first (field_answer j ms) _ _ _ (λ field is_field.
    bind_first (links_answer j ms) _ _ _ (λ links is_links.
    rw (is_field, is_links) refl))

abbrev rest_tests : Members → List (Option Fault)
rest_tests ms =
    fault_in (apps_answer ms) ∷ fault_in (judge_answer ms) ∷ fault_in (quota_answer (judge_given ms) ms) ∷ fault_in (field_answer (judge_given ms) ms) ∷ fault_in (links_answer (judge_given ms) ms)
    ∷ apps_tests [] (tables_given ms)

abbrev rest_answer : Members → Result PolicyValue Fault
rest_answer ms =
    apps_answer ms >>= (λ tables. judge_answer ms >>= (λ j. quota_answer j ms >>= (λ quota. guard_answer j ms >>= (λ guard. apps_after [] tables >>= (λ apps.
    Ok (record { quota = quota; guard = guard; apps = apps }))))))

rest_answer-tests : (ms : Members) → rest_answer ms ≡ unless_fault (first_of (rest_tests ms)) (document_given ms)
unfolding document_given
rest_answer-tests ms =
    bind_first (apps_answer ms) _ _ _ (λ tables are_tables.
    bind_first (judge_answer ms) _ _ _ (λ j is_judge.
    let named : j ≡ judge_given ms = sym (ap (given judge.All) is_judge) in
    rw named (bind_first (quota_answer (judge_given ms) ms) _ _ _ (λ quota is_quota.
    let all : tables ≡ tables_given ms = sym (ap (given []) are_tables) in
    let most : quota ≡ given None (quota_answer (judge_given ms) ms) = sym (ap (given None) is_quota) in
    let whole : Option GuardValue → List AppValue → PolicyValue = λ guard apps. record { quota = given None (quota_answer (judge_given ms) ms); guard = guard; apps = apps } in
    rw (all, most) (ap (λ (r : Result (Option GuardValue) Fault). r >>= (λ guard. apps_after [] (tables_given ms) >>= (λ apps. Ok (whole guard apps)))) (guard_answer-tests (judge_given ms) ms)
    ∙ bind_after (guard_tests (judge_given ms) ms) (apps_tests [] (tables_given ms)) (guard_given (judge_given ms) ms) (whole (guard_given (judge_given ms) ms) (map app_given (tables_given ms)))
    (λ guard. apps_after [] (tables_given ms) >>= (λ apps. Ok (whole guard apps)))
    (ap (λ (r : Result (List AppValue) Fault). r >>= (λ apps. Ok (whole (guard_given (judge_given ms) ms) apps))) (apps_after-tests [] (tables_given ms))
    ∙ bind_last (first_of (apps_tests [] (tables_given ms))) (map app_given (tables_given ms)) (whole (guard_given (judge_given ms) ms))))))))

pub document_answer-tests : (ms : Members) → document_answer ms ≡ document_policy ms
unfolding document_answer document_policy document_tests
document_answer-tests ms =
    ap (λ (a : Result (Unit {0}) Fault). a >>= (λ keys. rest_answer ms)) (top_keys-tests ms)
    ∙ bind_after (fault_in (known_keys place.Top ms) ∷ fault_in (needed_apps ms) ∷ []) (rest_tests ms) tt (document_given ms) (λ keys. rest_answer ms) (rest_answer-tests ms)
