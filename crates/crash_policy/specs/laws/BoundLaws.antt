-- What holds of each policy that a text says.
use Rattle.std.specs.Prelude.{◌≡◌, ℕ, ◌+◌, ◌≤◌, ◌&&◌, Bool, true, false, nat_le, List, [], ◌∷◌, length, codes, Option, Some, None, option_map, option_and_then, Result, Ok, Err, IfOk, IfSome, if◌then◌else◌}
use Rattle.std.proofs.Common.{refl, sym, ap, ◌∙◌, subst, arith}
use Rattle.std.specs.List.{list_all}
use Rattle.guard_rule.specs.declared.GuardField.{GuardField}
use Rattle.guard_rule.specs.declared.Link.{Link}
use Rattle.crash_policy.specs.declared.policy_file.Judge.{Judge}
use Rattle.std.proofs.lemmas.List.{length-map}
use Rattle.std.proofs.lemmas.Bool.{and_parts}
use Rattle.std.proofs.lemmas.Bool.Decides.{nat_tests}
use Rattle.toml.specs.Data.{Data, string, integer, float, boolean, datetime, array, table, Items, no_items, item, Members, get_member, as_table}
use Rattle.crash_policy.specs.declared.policy_file.PolicyFile.{PolicyFile}
use Rattle.crash_policy.specs.declared.policy_fault.PolicyFault.{PolicyFault}
use Rattle.crash_policy.specs.declared.words.Level.TheVariants as place
use Rattle.crash_policy.specs.Policies.{PolicyValue, default_app, policy_value}
use Rattle.crash_policy.specs.Faults.{Fault, Gives, ◌>>=◌}
use Rattle.crash_policy.specs.Keys.{ranged, count_of, tables_of, apps_items, apps_in, apps_answer, judge_answer, quota_answer, known_keys, needed_apps}
use Rattle.crash_policy.specs.GuardKeys.{is_guard, needed_where, field_answer, stands_apart, if_all_apart, item_link, links_of, links_items, links_in, links_answer, guard_of}
use Rattle.crash_policy.specs.Order.{fault_in, given, first_of, unless_fault, app_given, apps_tests, judge_given, tables_given, document_tests, document_given, document_policy, document_of, policy_of}

-- 1 to 32 applications, and at most 64 links
pub record IsSized (p : PolicyValue) : Type 0 where
  pub some : 1 ≤ length p.apps
  pub few : length p.apps ≤ 32
  pub links : IfSome p.guard (λ guard. length guard.links ≤ 64)

ok_parts : {A : Type 0} (o : Option Fault) (x y : A) → unless_fault o x ≡ Ok y → (o ≡ None) × (x ≡ y)
ok_parts None x y e = (refl, cc)
ok_parts (Some fault) x y e = absurd cc

third_none : (a b c : Option Fault) (more : List (Option Fault)) → first_of (a ∷ b ∷ c ∷ more) ≡ None → c ≡ None
third_none None None None more e = refl
third_none None None (Some fault) more e = absurd cc
third_none None (Some fault) c more e = absurd cc
third_none (Some fault) b c more e = absurd cc

ok_given : {A : Type 0} (other : A) (a : Result A Fault) → fault_in a ≡ None → a ≡ Ok (given other a)
ok_given other (Ok x) e = refl
ok_given other (Err fault) e = absurd cc

some_from_ranged : {A : Type 0} (key : List ℕ) (o : Option A) (x : A) → ranged key o ≡ Ok x → o ≡ Some x
some_from_ranged key None x e = absurd cc
some_from_ranged key (Some y) x e = cc

-- as many tables as items
one_more : (o : Option Members) (rest : Option (List Members)) (n : ℕ) (tables : List Members) → ((more : List Members) → rest ≡ Some more → length more ≡ n)
    → option_and_then (λ ms. option_map (λ more. ms ∷ more) rest) o ≡ Some tables → length tables ≡ n + 1
one_more None rest n tables h e = absurd cc
one_more (Some ms) None n tables h e = absurd cc
one_more (Some ms) (Some more) n tables h e =
    let whole : tables ≡ ms ∷ more = cc in
    let len : length more ≡ n = h more refl in
    rw whole (omega (arith, len))

length-tables_of : (ds : Items) (tables : List Members) → tables_of ds ≡ Some tables → length tables ≡ count_of ds
length-tables_of no_items tables e = let none : tables ≡ [] = cc in rw none refl
length-tables_of (item d ds) tables e = one_more (as_table d) (tables_of ds) (count_of ds) tables (λ more is. length-tables_of ds more is) e

within : {A : Type 0} (b : Bool) (o : Option A) (x : A) → (if b then o else None) ≡ Some x → (b ≡ true) × (o ≡ Some x)
within true o x e = (refl, e)
within false o x e = absurd cc

sized_items : (ds : Items) (tables : List Members) → apps_items ds ≡ Some tables → (1 ≤ length tables) × (length tables ≤ 32)
sized_items ds tables e =
    let parts = within (nat_le 1 (count_of ds) && nat_le (count_of ds) 32) (tables_of ds) tables e in
    let bounds = and_parts (nat_le 1 (count_of ds)) (nat_le (count_of ds) 32) parts.0 in
    let len = length-tables_of ds tables parts.1 in
    let low : nat_le 1 (count_of ds) ≡ true = bounds.0 in
    let high : nat_le (count_of ds) 32 ≡ true = bounds.1 in
    rw len (grind (arith, nat_tests), grind (arith, nat_tests))

sized : (o : Option Data) (tables : List Members) → apps_in o ≡ Some tables → (1 ≤ length tables) × (length tables ≤ 32)
sized None tables e = absurd cc
sized (Some (array ds)) tables e = sized_items ds tables e
sized (Some (string s)) tables e = absurd cc
sized (Some (integer z)) tables e = absurd cc
sized (Some (float x)) tables e = absurd cc
sized (Some (boolean b)) tables e = absurd cc
sized (Some (datetime dt)) tables e = absurd cc
sized (Some (table ms)) tables e = absurd cc

sized_answer : (ms : Members) (tables : List Members) → apps_answer ms ≡ Ok tables → (1 ≤ length tables) × (length tables ≤ 32)
unfolding apps_answer
sized_answer ms tables e = sized (get_member (codes "app") ms) tables (some_from_ranged (codes "app") _ tables e)

-- ---- Links

one_link : (o : Option Link) (rest : Option (List Link)) (n : ℕ) (links : List Link) → ((more : List Link) → rest ≡ Some more → length more ≡ n)
    → option_and_then (λ link. option_map (λ more. link ∷ more) rest) o ≡ Some links → length links ≡ n + 1
one_link None rest n links h e = absurd cc
one_link (Some link) None n links h e = absurd cc
one_link (Some link) (Some more) n links h e =
    let whole : links ≡ link ∷ more = cc in
    let len : length more ≡ n = h more refl in
    rw whole (omega (arith, len))

length-links_of : (ds : Items) (links : List Link) → links_of ds ≡ Some links → length links ≡ count_of ds
length-links_of no_items links e = let none : links ≡ [] = cc in rw none refl
length-links_of (item d ds) links e = one_link (item_link d) (links_of ds) (count_of ds) links (λ more is. length-links_of ds more is) e

all_of_them : (o : Option (List Link)) (links : List Link) → if_all_apart o ≡ Some links → o ≡ Some links
all_of_them None links e = absurd cc
all_of_them (Some found) links e = (within (list_all (stands_apart found) found) (Some found) links e).1

few_items : (ds : Items) (links : List Link) → links_items ds ≡ Some links → length links ≤ 64
few_items ds links e =
    let parts = within (nat_le 1 (count_of ds) && nat_le (count_of ds) 64) (if_all_apart (links_of ds)) links e in
    let bounds = and_parts (nat_le 1 (count_of ds)) (nat_le (count_of ds) 64) parts.0 in
    let len = length-links_of ds links (all_of_them (links_of ds) links parts.1) in
    let high : nat_le (count_of ds) 64 ≡ true = bounds.1 in
    rw len (grind (arith, nat_tests))

few_data : (d : Data) (links : List Link) → links_in d ≡ Some links → length links ≤ 64
few_data (array ds) links e = few_items ds links e
few_data (string s) links e = absurd cc
few_data (integer z) links e = absurd cc
few_data (float x) links e = absurd cc
few_data (boolean b) links e = absurd cc
few_data (datetime dt) links e = absurd cc
few_data (table ms) links e = absurd cc

some_ranged : (key : List ℕ) (o : Option (List Link)) (links : List Link) → ranged key (option_map (λ x. Some x) o) ≡ Ok (Some links) → o ≡ Some links
some_ranged key None links e = absurd cc
some_ranged key (Some found) links e = let same : found ≡ links = cc in ap (λ (l : List Link). Some l) same

few_where : (chosen : Bool) (o : Option Data) (links : List Link) → needed_where chosen (codes "links") links_in o ≡ Ok (Some links) → length links ≤ 64
few_where false None links e = absurd cc
few_where false (Some d) links e = absurd cc
few_where true None links e = absurd cc
few_where true (Some d) links e = few_data d links (some_ranged (codes "links") (links_in d) links e)

few_answer : (j : Judge) (ms : Members) (links : List Link) → links_answer j ms ≡ Ok (Some links) → length links ≤ 64
unfolding links_answer
few_answer j ms links e = few_where (is_guard j) (get_member (codes "links") ms) links e

few_guard : (field : Option GuardField) (links : Option (List Link)) → ((found : List Link) → links ≡ Some found → length found ≤ 64) → IfSome (guard_of field links) (λ guard. length guard.links ≤ 64)
few_guard (Some f) (Some found) few = few found refl
few_guard (Some f) None few = tt
few_guard None links few = tt

first-none : (o : Option Fault) (more : List (Option Fault)) → first_of (o ∷ more) ≡ None → (o ≡ None) × (first_of more ≡ None)
first-none None more e = (refl, e)
first-none (Some fault) more e = absurd cc

-- ---- A document

sized_document : (ms : Members) (p : PolicyValue) → document_policy ms ≡ Ok p → IsSized p
unfolding document_policy document_tests document_given
sized_document ms p e =
    let parts = ok_parts (first_of (document_tests ms)) (document_given ms) p e in
    let more = fault_in (judge_answer ms) ∷ fault_in (quota_answer (judge_given ms) ms) ∷ fault_in (field_answer (judge_given ms) ms) ∷ fault_in (links_answer (judge_given ms) ms) ∷ apps_tests [] (tables_given ms) in
    let none : fault_in (apps_answer ms) ≡ None = third_none (fault_in (known_keys place.Top ms)) (fault_in (needed_apps ms)) (fault_in (apps_answer ms)) more parts.0 in
    let size : (1 ≤ length (tables_given ms)) × (length (tables_given ms) ≤ 32) = sized_answer ms (tables_given ms) (ok_given [] (apps_answer ms) none) in
    let len : length p.apps ≡ length (tables_given ms) = ap (λ (q : PolicyValue). length q.apps) (sym parts.1) ∙ length-map (tables_given ms) app_given in
    let rest = first-none (fault_in (apps_answer ms)) more (first-none (fault_in (needed_apps ms)) _ (first-none (fault_in (known_keys place.Top ms)) _ parts.0).1).1 in
    let behind = first-none (fault_in (field_answer (judge_given ms) ms)) _ (first-none (fault_in (quota_answer (judge_given ms) ms)) _ (first-none (fault_in (judge_answer ms)) _ rest.1).1).1 in
    let no_fault : fault_in (links_answer (judge_given ms) ms) ≡ None = (first-none (fault_in (links_answer (judge_given ms) ms)) _ behind.1).0 in
    let links : links_answer (judge_given ms) ms ≡ Ok (given None (links_answer (judge_given ms) ms)) = ok_given None (links_answer (judge_given ms) ms) no_fault in
    record {
      some = omega (arith, size.0, len);
      few = omega (arith, size.1, len);
      links = subst (λ (q : PolicyValue). IfSome q.guard (λ guard. length guard.links ≤ 64)) parts.1
          (few_guard (given None (field_answer (judge_given ms) ms)) (given None (links_answer (judge_given ms) ms))
          (λ found is. few_answer (judge_given ms) ms found (links ∙ ap (λ (o : Option (List Link)). Ok o) is)));
    }

sized_after : (r : Result Members Fault) (p : PolicyValue) → (r >>= document_policy) ≡ Ok p → IsSized p
sized_after (Ok ms) p e = sized_document ms p e
sized_after (Err fault) p e = absurd cc

pub IsSized-policy_of : (text : List ℕ) (p : PolicyValue) → policy_of text ≡ Ok p → IsSized p
unfolding policy_of
IsSized-policy_of [] p e =
    let one : length p.apps ≡ 1 = ap (λ (q : PolicyValue). length q.apps) (sym (ok_parts None (record { quota = None; guard = None; apps = default_app ∷ [] }) p e).1) in
    record {
      some = omega (arith, one);
      few = omega (arith, one);
      links = subst (λ (q : PolicyValue). IfSome q.guard (λ guard. length guard.links ≤ 64)) (ok_parts None (record { quota = None; guard = None; apps = default_app ∷ [] }) p e).1 tt;
    }
IsSized-policy_of (b ∷ bytes) p e = sized_after (document_of (b ∷ bytes)) p e

pub IsSized-Gives : (r : Result PolicyFile PolicyFault) (text : List ℕ) → Gives policy_value r (policy_of text) → IfOk r (λ file. IsSized (policy_value file))
IsSized-Gives (Ok file) text gives = IsSized-policy_of text (policy_value file) gives
IsSized-Gives (Err fault) text gives = tt
