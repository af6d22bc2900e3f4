-- What `clap` makes of a command line without options, as a whole.
use Rattle.std.proofs.Common.{◌≡◌, suc, ◌≤◌, Bool, true, false, List, [], ◌∷◌, length, Option, Some, None, option_map, if◌then◌else◌, unwrap_or, refl, sym, ap, ◌∙◌, codes, nat_lt, arith, rules, tests}
use Rattle.std.proofs.Common.{map, string_bytes, String, ◌≢◌, inl, inr, subst, Result, Ok, Err, IfOk, IfErr}
use Rattle.std.proofs.lemmas.Str.{IsUtf8-string_bytes}
use Rattle.clap.proofs.WalkLemmas.{raw_values-rows}
use Rattle.clap.specs.Words.{found_of, kind_of, matched_of, raw_values, rows_of, FailsBy, HasMatchesOf, HasKind, is_simple_and_free}
use Rattle.clap.specs.declared.error.Error.{Error}
use Rattle.clap.specs.declared.error.kind.ErrorKind.TheVariants as kind
use Rattle.clap.specs.declared.parser.matches.ArgMatches.{ArgMatches}
use Rattle.clap.specs.Lexer.{usize_max}
use Rattle.clap.specs.Walk.{Held, Text, settled, finished, all_of}
use Rattle.clap.specs.Simple.{App, matches_of}
use Rattle.clap.specs.Faults.{settle_fault, defaults_fault, check_fault, walk_fault, fault_of}
use Rattle.clap.specs.Kinds.{Kinds, or_else, values_kinds}
use Rattle.clap.specs.declared.builder.value_parser.ValueParser.TheVariants as vp
use Rattle.command_words.specs.Plain.{is_end, is_option, plain_words}
use Rattle.command_words.specs.PlainApp.{plain_app}
use Rattle.command_words.proofs.PlainWalk.{is_simple_plain, is_free_plain, rule, shape, stands, held_with, walk_plain, walk_refused, first_clean, AllUtf8}

values_clean : (values : List Text) → values_kinds false vp.String values ≡ []
values_clean [] = refl
values_clean (value ∷ values) = values_clean values

-- all that comes behind the walk
abbrev end_fault : Held → Kinds
end_fault end = or_else (settle_fault (rule ∷ []) false end) (or_else (defaults_fault (settled (rule ∷ []) end).rows (rule ∷ [])) (check_fault shape (finished (rule ∷ []) end) false))

end_clean : (rest : List Text) → length rest ≤ usize_max → end_fault (held_with rest) ≡ []
unfolding defaults_fault
end_clean [] few = refl
end_clean (word ∷ words) few =
    let small : nat_lt usize_max (length (word ∷ words)) ≡ false = search (rules, tests) in
    let some : nat_lt (suc (length words)) 0 ≡ false = search (rules, tests) in
    rw (small, some, values_clean words) refl

fewer_by_rest : (p : Option (List Text)) (word : Text) (words rest : List Text) → plain_words words ≡ p → option_map (λ (others : List Text). word ∷ others) p ≡ Some rest → ((others : List Text) → plain_words words ≡ Some others → length others ≤ length words) → length rest ≤ length (word ∷ words)
fewer_by_rest None word words rest q e next = cc
fewer_by_rest (Some others) word words rest q e next =
    let same : word ∷ others ≡ rest = cc in
    let few = next others q in
    omega (arith, ap length same)

fewer_at : (ends asks : Bool) (word : Text) (words rest : List Text) → (if ends then Some words else if asks then None else option_map (λ (others : List Text). word ∷ others) (plain_words words)) ≡ Some rest → ((others : List Text) → plain_words words ≡ Some others → length others ≤ length words) → length rest ≤ length (word ∷ words)
fewer_at true asks word words rest e next = let same : words ≡ rest = cc in omega (arith, ap length same)
fewer_at false true word words rest e next = cc
fewer_at false false word words rest e next = fewer_by_rest (plain_words words) word words rest refl e next

-- no word comes to the plain ones
fewer : (words rest : List Text) → plain_words words ≡ Some rest → length rest ≤ length words
fewer [] rest e = let none : [] ≡ rest = cc in omega (arith, ap length none)
fewer (word ∷ words) rest e = fewer_at (is_end word) (is_option word) word words rest e (λ others. fewer words others)

pub fault_clean : (words rest : List Text) → length words ≤ usize_max → plain_words words ≡ Some rest → fault_of plain_app words ≡ []
fault_clean words rest few e =
    let p = walk_plain [] words rest e in
    let small = fewer words rest e in
    rw (p.clean, p.stood) (end_clean rest (omega arith))

pub fault_some : (words : List Text) → AllUtf8 words → plain_words words ≡ None → fault_of plain_app words ≡ [] → ⊥
fault_some words texts none clean = walk_refused [] words texts none (first_clean (walk_fault shape [] (stands [] false) words) _ clean)

pub all_found : (words rest : List Text) → plain_words words ≡ Some rest → unwrap_or (all_of (codes "words") (matches_of plain_app words)) [] ≡ rest
all_found words rest e =
    let p = walk_plain [] words rest e in
    rw p.stood (found rest)
  where
    found : (rest : List Text) → unwrap_or (all_of (codes "words") (finished (rule ∷ []) (held_with rest))) [] ≡ rest
    found [] = refl
    found (word ∷ words) = refl

pub texts_of : {Z : Type 0} (words : List (String Z)) → AllUtf8 (map string_bytes words)
texts_of [] = tt
texts_of (word ∷ words) = (IsUtf8-string_bytes word, texts_of words)

-- a parse that succeeds gives the plain words
pub plain_parsed : (words : List Text) (m : ArgMatches) → AllUtf8 words → fault_of plain_app words ≡ [] → HasMatchesOf plain_app words m → plain_words words ≡ Some (unwrap_or (option_map raw_values (matched_of (found_of m) (codes "words"))) [])
plain_parsed words m texts clean has =
    let rows : rows_of (found_of m) ≡ matches_of plain_app words = (has is_simple_plain).0 in
    rw (raw_values-rows (found_of m) (codes "words"), rows) (by_plain (plain_words words) refl)
  where
    by_plain : (p : Option (List Text)) → plain_words words ≡ p → plain_words words ≡ Some (unwrap_or (all_of (codes "words") (matches_of plain_app words)) [])
    by_plain None e = absurd (fault_some words texts e clean)
    by_plain (Some rest) e = e ∙ ap (λ (ws : List Text). Some ws) (sym (all_found words rest e))

-- a parse that fails, and not for want of memory, was given an option
pub option_parsed : (words : List Text) (e : Error) → length words ≤ usize_max → HasKind (fault_of plain_app words) e → kind_of e ≢ kind.OutOfMemory → plain_words words ≡ None
option_parsed words e few has other = by_plain (plain_words words) refl
  where
    no_kind : (kinds : Kinds) → kinds ≡ [] → HasKind kinds e → ⊥
    no_kind [] clean (inl memory) = other memory
    no_kind [] clean (inr among) = among
    no_kind (k ∷ ks) clean has' = cc

    by_plain : (p : Option (List Text)) → plain_words words ≡ p → plain_words words ≡ None
    by_plain None q = q
    by_plain (Some rest) q = absurd (no_kind (fault_of plain_app words) (fault_clean words rest few q) has)

-- the same of a call's result
pub plain_returned : (r : Result ArgMatches Error) (app : App) (words : List Text) → app ≡ plain_app → AllUtf8 words → IfOk r (HasMatchesOf app words) → (is_simple_and_free app ≡ true → FailsBy (fault_of app words) r) → IfOk r (λ m. plain_words words ≡ Some (unwrap_or (option_map raw_values (matched_of (found_of m) (codes "words"))) []))
plain_returned (Err e) app words is texts has fails = tt
plain_returned (Ok m) app words is texts has fails =
    let free : is_simple_and_free app ≡ true = ap is_simple_and_free is ∙ is_free_plain in
    let clean : fault_of plain_app words ≡ [] = ap (λ (a : App). fault_of a words) (sym is) ∙ fails free in
    let P : App → Type 0 = λ a. HasMatchesOf a words m in
    plain_parsed words m texts clean (subst P is has)

pub option_returned : (r : Result ArgMatches Error) (app : App) (words : List Text) → app ≡ plain_app → length words ≤ usize_max → (is_simple_and_free app ≡ true → FailsBy (fault_of app words) r) → IfErr r (λ e. kind_of e ≢ kind.OutOfMemory → plain_words words ≡ None)
option_returned (Ok m) app words is few fails = tt
option_returned (Err e) app words is few fails = λ other.
    let free : is_simple_and_free app ≡ true = ap is_simple_and_free is ∙ is_free_plain in
    let P : App → Type 0 = λ a. HasKind (fault_of a words) e in
    option_parsed words e few (subst P is (fails free)) other
