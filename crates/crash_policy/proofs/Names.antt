-- Applications under their names.
use Rattle.std.proofs.Common.{◌≡◌, ℕ, false, ◌||◌, List, [], ◌∷◌, ◌++◌, map, Option, Some, None, is_some, String, Global, string_bytes, refl, sym, ap, ◌∙◌, true≢false}
use Rattle.std.proofs.lemmas.List.{map-append}
use Rattle.std.proofs.lemmas.Map.Made.{is_some-lookup}
use Rattle.std.specs.List.{list_any}
use Rattle.std.specs.Map.{keys_of, lookup, values_of}
use Rattle.std.specs.Str.{bytes_eq}
use Rattle.crash_policy.specs.declared.policy_file.AppRule.{AppRule}
use Rattle.crash_policy.specs.Policies.{app_value}
use Rattle.crash_policy.specs.Order.{is_taken}
use Rattle.crash_policy.specs.Named.{values_in, AreNamed}

abbrev pub Entry : Type 0
Entry = String Global × AppRule

any_keys : (q : List ℕ) (es : List Entry) → list_any (λ k. bytes_eq q (string_bytes k)) (keys_of es) ≡ list_any (bytes_eq q) (map (λ e. string_bytes e.0) es)
any_keys q [] = refl
any_keys q (e ∷ es) = ap (λ b. bytes_eq q (string_bytes e.0) || b) (any_keys q es)

any_names : (q : List ℕ) (es : List Entry) → is_taken q (values_in es) ≡ list_any (bytes_eq q) (map (λ e. string_bytes e.1.name) es)
any_names q [] = refl
any_names q (e ∷ es) = ap (λ b. bytes_eq q (string_bytes e.1.name) || b) (any_names q es)

-- the map finds a name exactly where an application has it
pub is_taken-lookup : (q : List ℕ) (es : List Entry) → AreNamed es → is_some (lookup (λ k. bytes_eq q (string_bytes k)) es) ≡ is_taken q (values_in es)
is_taken-lookup q es named =
    is_some-lookup (λ k. bytes_eq q (string_bytes k)) es ∙ any_keys q es ∙ ap (list_any (bytes_eq q)) named ∙ sym (any_names q es)

pub none_from_false : {T : Type 0} (o : Option T) → is_some o ≡ false → o ≡ None
none_from_false None h = refl
none_from_false (Some x) h = absurd (true≢false h)

-- one more application, under its name
pub AreNamed-push : (es : List Entry) (k : String Global) (app : AppRule) → AreNamed es → string_bytes k ≡ string_bytes app.name → AreNamed (es ++ (k, app) ∷ [])
AreNamed-push es k app named same =
    map-append (λ (e : Entry). string_bytes e.0) es ((k, app) ∷ [])
    ∙ ap (λ (xs : List (List ℕ)). xs ++ string_bytes k ∷ []) named
    ∙ ap (λ (n : List ℕ). map (λ (e : Entry). string_bytes e.1.name) es ++ n ∷ []) same
    ∙ sym (map-append (λ (e : Entry). string_bytes e.1.name) es ((k, app) ∷ []))

pub values_in-push : (es : List Entry) (k : String Global) (app : AppRule) → values_in (es ++ (k, app) ∷ []) ≡ values_in es ++ app_value app ∷ []
values_in-push es k app = map-append (λ (e : Entry). app_value e.1) es ((k, app) ∷ [])

pub values_in-values : (es : List Entry) → map app_value (values_of es) ≡ values_in es
values_in-values [] = refl
values_in-values (e ∷ es) = ap (λ vs. app_value e.1 ∷ vs) (values_in-values es)
