use Rattle.std.proofs.Common.{◌≡◌, ◌++◌, ◌∷◌, [], List, ℕ, Err, Ok, None, true, false, is_some, string_bytes, sym, ap, ◌∙◌}
use Rattle.std.specs.Map.{lookup}
use Rattle.std.specs.Str.{bytes_eq}
use Rattle.indexmap.proofs.CallerLemmas.{insert_entry-new}
use Rattle.std.specs.String.{string_eq}
use Rattle.crash_policy.specs.Faults.{double}
use Rattle.crash_policy.specs.Order.{is_taken}
use Rattle.crash_policy.specs.Named.{values_in}
use Rattle.crash_policy.proofs.Names.{is_taken-lookup, none_from_false, AreNamed-push, values_in-push}
use Rattle.crash_policy.proofs.document.add.Goals as goal

pub returns-then-contains_key-clause-answer : goal.returns-then-contains_key-clause-answer
returns-then-contains_key-clause-answer c =
    let q = string_bytes c.args.app.name in
    let es = c.args.apps.now.entries in
    let found : is_some (lookup (λ k. bytes_eq c.as_str.result.now (string_bytes k)) es) ≡ true = sym c.contains_key.ensures ∙ c.if-contains_key.true in
    let found_at : is_some (lookup (λ k. bytes_eq q (string_bytes k)) es) ≡ true = ap (λ (t : List ℕ). is_some (lookup (λ k. bytes_eq t (string_bytes k)) es)) (sym c.as_str.ensures.value) ∙ found in
    let taken : is_taken q (values_in es) ≡ true = sym (is_taken-lookup q es c.requires) ∙ found_at in
    rw taken (ap (λ (n : List ℕ). Err (double n)) (sym c.in_ok-clone.ensures.cases))

pub returns-clause-answer : goal.returns-clause-answer
returns-clause-answer c =
    let app = c.args.app in
    let q = string_bytes app.name in
    let es = c.args.apps.now.entries in
    let k = c.in_ok-clone-2.field-0 in
    let absent : is_some (lookup (λ k. bytes_eq c.as_str.result.now (string_bytes k)) es) ≡ false = sym c.contains_key.ensures ∙ c.if-contains_key.false in
    let absent_at : is_some (lookup (λ k. bytes_eq q (string_bytes k)) es) ≡ false = ap (λ (t : List ℕ). is_some (lookup (λ k. bytes_eq t (string_bytes k)) es)) (sym c.as_str.ensures.value) ∙ absent in
    let free : is_taken q (values_in es) ≡ false = sym (is_taken-lookup q es c.requires) ∙ absent_at in
    let none : lookup (string_eq k) es ≡ None = none_from_false _ (ap (λ (t : List ℕ). is_some (lookup (λ k. bytes_eq t (string_bytes k)) es)) c.in_ok-clone-2.ensures.cases ∙ absent_at) in
    let grown : c.insert.new.self.entries ≡ es ++ (k, app) ∷ [] = c.in_ok-insert.ensures.entries ∙ insert_entry-new string_eq c.args.apps.now k app none in
    rw (free, grown) (ap (λ vs. Ok vs) (sym (values_in-push es k app)))

pub returns-clause-named : goal.returns-clause-named
returns-clause-named c =
    let app = c.args.app in
    let q = string_bytes app.name in
    let es = c.args.apps.now.entries in
    let k = c.in_ok-clone-2.field-0 in
    let absent : is_some (lookup (λ k. bytes_eq c.as_str.result.now (string_bytes k)) es) ≡ false = sym c.contains_key.ensures ∙ c.if-contains_key.false in
    let absent_at : is_some (lookup (λ k. bytes_eq q (string_bytes k)) es) ≡ false = ap (λ (t : List ℕ). is_some (lookup (λ k. bytes_eq t (string_bytes k)) es)) (sym c.as_str.ensures.value) ∙ absent in
    let none : lookup (string_eq k) es ≡ None = none_from_false _ (ap (λ (t : List ℕ). is_some (lookup (λ k. bytes_eq t (string_bytes k)) es)) c.in_ok-clone-2.ensures.cases ∙ absent_at) in
    let grown : c.insert.new.self.entries ≡ es ++ (k, app) ∷ [] = c.in_ok-insert.ensures.entries ∙ insert_entry-new string_eq c.args.apps.now k app none in
    rw grown (AreNamed-push es k app c.requires c.in_ok-clone-2.ensures.cases)
