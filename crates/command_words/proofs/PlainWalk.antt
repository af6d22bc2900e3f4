-- How `clap` walks over the words of a command line without options.
use Rattle.std.proofs.Common.{◌≡◌, ℕ, ◌==◌, ◌&&◌, Bool, true, false, List, [], ◌∷◌, ◌++◌, fold, Option, Some, None, option_map, if◌then◌else◌, slice_get, refl, sym, ap, subst, ◌∙◌, codes, append_assoc}
use Rattle.std.specs.Prelude.{option_and_then}
use Rattle.std.specs.Char.{encode_utf8}
use lib.Utf8.{scalars}
use Rattle.std.specs.Str.{bytes_eq, chars, encode_utf8_all, is_utf8, IsUtf8}
use Rattle.std.proofs.lemmas.Str.{is_utf8-from_IsUtf8}
use Rattle.std.proofs.lemmas.Bool.{eqb-true}
use Rattle.std.proofs.lemmas.List.{append-nil}
use Rattle.clap.specs.Lexer.{long_of, long_of_rest, short_of, short_of_rest, strip_byte}
use Rattle.clap.specs.Walk.{Held, Rule, Row, Text, Waiting, idle, positional, Walk, walked, nothing_held, to_positional, arg_by_index, word_met, value, trailing}
use Rattle.clap.specs.Simple.{Shape, is_simple}
use Rattle.clap.specs.Faults.{bundle_step_fault, flag_word_fault, flags_fault, turn_fault, walk_fault, word_fault, is_simple_and_free}
use Rattle.clap.specs.Kinds.{Kinds, or_else}
use Rattle.clap.specs.declared.builder.value_parser.ValueParser.TheVariants as vp
use Rattle.command_words.specs.Plain.{is_end, is_option, plain_words}
use Rattle.command_words.specs.PlainApp.{all_words, plain_app}

-- the argument as it is built
abbrev pub rule : Rule
rule = record all_words { parser = Some vp.String; index = Some 1 }

abbrev pub shape : Shape
shape = record plain_app.top { rules = rule ∷ []; is_built = true; disable_help_subcommand = true }

pub is_simple_plain : is_simple plain_app ≡ true
is_simple_plain = refl

pub is_free_plain : is_simple_and_free plain_app ≡ true
is_free_plain = refl

-- what is held after words
abbrev pub held_with : List Text → Held
held_with [] = nothing_held
held_with (word ∷ words) = record { rows = []; pending = Some (codes "words", word ∷ words); skip = 0 }

abbrev pub waiting_after : List Text → Waiting
waiting_after [] = idle
waiting_after (word ∷ words) = positional

-- where the walk stands after words, before or behind the first `--`
abbrev pub stands : List Text → Bool → Walk
stands so_far is_behind = record {
  held = held_with so_far;
  waiting = waiting_after so_far;
  position = 1;
  is_trailing = is_behind;
  stopped = None;
}

-- a word goes to the argument
to_rule : (so_far : List Text) (word : Text) (is_behind : Bool) → to_positional (rule ∷ []) (arg_by_index (rule ∷ []) 1) word (stands so_far is_behind) (held_with so_far) ≡ stands (so_far ++ word ∷ []) is_behind
to_rule [] word true = refl
to_rule [] word false = refl
to_rule (first ∷ more) word true = refl
to_rule (first ∷ more) word false = refl

-- ---- one word

-- `-` alone
alone : (is_minus : Bool) → (option_and_then long_of_rest (option_and_then (strip_byte 45) (if is_minus then Some [] else None)) ≡ None) × (option_and_then short_of_rest (if is_minus then Some [] else None) ≡ None)
alone true = (refl, refl)
alone false = (refl, refl)

-- a word that asks for no option looks like none to `clap`
no_flag : (word : List ℕ) → is_option word ≡ false → (long_of word ≡ None) × (short_of word ≡ None)
no_flag [] h = (refl, refl)
no_flag (first ∷ []) h = alone (first == 45)
no_flag (first ∷ next ∷ more) h = rw h (refl, refl)

-- what a word is that asks for no option
met_plain : (so_far : List Text) (word : Text) → is_end word ≡ false → is_option word ≡ false → word_met (rule ∷ []) [] false (waiting_after so_far) 1 word (held_with so_far) ≡ (held_with so_far, value)
met_plain [] word h g = let n = no_flag word g in rw (h, n.0, n.1) refl
met_plain (first ∷ more) word h g = let n = no_flag word g in rw (h, n.0, n.1) refl

met_end : (so_far : List Text) (word : Text) → is_end word ≡ true → word_met (rule ∷ []) [] false (waiting_after so_far) 1 word (held_with so_far) ≡ (held_with so_far, trailing 1)
met_end [] word h = rw h refl
met_end (first ∷ more) word h = rw h refl

walked_plain : (so_far : List Text) (word : Text) → is_end word ≡ false → is_option word ≡ false → walked (rule ∷ []) [] (stands so_far false) word ≡ stands (so_far ++ word ∷ []) false
unfolding walked
walked_plain so_far word h g = rw (met_plain so_far word h g) (to_rule so_far word false)

walked_end : (so_far : List Text) (word : Text) → is_end word ≡ true → walked (rule ∷ []) [] (stands so_far false) word ≡ stands so_far true
unfolding walked
walked_end so_far word h = rw (met_end so_far word h) refl

walked_behind : (so_far : List Text) (word : Text) → walked (rule ∷ []) [] (stands so_far true) word ≡ stands (so_far ++ word ∷ []) true
unfolding walked
walked_behind so_far word = to_rule so_far word true

fault_plain : (so_far : List Text) (word : Text) → is_end word ≡ false → is_option word ≡ false → turn_fault shape [] (stands so_far false) word ≡ []
fault_plain [] word h g = let n = no_flag word g in rw (h, n.0, n.1) refl
fault_plain (first ∷ more) word h g = let n = no_flag word g in rw (h, n.0, n.1) refl

fault_end : (so_far : List Text) (word : Text) → is_end word ≡ true → turn_fault shape [] (stands so_far false) word ≡ []
fault_end [] word h = rw h refl
fault_end (first ∷ more) word h = rw h refl

fault_behind : (so_far : List Text) (word : Text) → turn_fault shape [] (stands so_far true) word ≡ []
fault_behind [] word = refl
fault_behind (first ∷ more) word = refl

-- a word that asks for an option is refused

false_and : (b : Bool) → (b && false) ≡ true → ⊥
false_and true h = cc
false_and false h = cc

-- behind `-` (45) the text of a word has a first character
no_char : (test : List ℕ → Bool) (cs : List ℕ) (next : ℕ) (more : List ℕ) → (test (45 ∷ cs) && bytes_eq (encode_utf8_all (45 ∷ cs)) (45 ∷ next ∷ more)) ≡ true → cs ≡ [] → ⊥
unfolding encode_utf8
no_char test [] next more h e = false_and (test (45 ∷ [])) h
no_char test (c ∷ cs) next more h e = cc

first_char : (next : ℕ) (more : List ℕ) → IsUtf8 (45 ∷ next ∷ more) → chars (next ∷ more) ≡ [] → ⊥
unfolding chars is_utf8
first_char next more text none = no_char scalars (chars (next ∷ more)) next more (is_utf8-from_IsUtf8 (45 ∷ next ∷ more) text) none

step_refused : (cs flags : List ℕ) (h : Held) (next : Text → ℕ → Held → Kinds) → (cs ≡ [] → ⊥) → bundle_step_fault (rule ∷ []) false (slice_get cs 0) flags 0 h next ≡ [] → ⊥
step_refused [] flags h next some e = some refl
step_refused (c ∷ cs) flags h next some e = cc

-- `-x`
short_refused : (next : ℕ) (more : List ℕ) (rows : List Row) (pending : Option (Text × List Text)) → (next == 45) ≡ false → IsUtf8 (45 ∷ next ∷ more) → flag_word_fault (rule ∷ []) false (long_of (45 ∷ next ∷ more)) (45 ∷ next ∷ more) (record { rows = rows; pending = pending; skip = 0 }) ≡ [] → ⊥
unfolding flags_fault
short_refused next more rows pending n text e =
    let f = rw (n, n) at e in
    step_refused (chars (next ∷ more)) (next ∷ more) _ _ (first_char next more text) f

-- `--name`
long_refused : (more : List ℕ) (h : Held) → is_end (45 ∷ 45 ∷ more) ≡ false → flag_word_fault (rule ∷ []) false (long_of (45 ∷ 45 ∷ more)) (45 ∷ 45 ∷ more) h ≡ [] → ⊥
long_refused [] h g e = cc
long_refused (next ∷ more) h g e = cc

by_second : (is_minus : Bool) (next : ℕ) (more : List ℕ) (rows : List Row) (pending : Option (Text × List Text)) → (next == 45) ≡ is_minus → IsUtf8 (45 ∷ next ∷ more) → is_end (45 ∷ next ∷ more) ≡ false → flag_word_fault (rule ∷ []) false (long_of (45 ∷ next ∷ more)) (45 ∷ next ∷ more) (record { rows = rows; pending = pending; skip = 0 }) ≡ [] → ⊥
by_second false next more rows pending n text g e = short_refused next more rows pending n text e
by_second true next more rows pending n text g e =
    let h : Held = record { rows = rows; pending = pending; skip = 0 } in
    let P : ℕ → Type 0 = λ x. is_end (45 ∷ x ∷ more) ≡ false → flag_word_fault (rule ∷ []) false (long_of (45 ∷ x ∷ more)) (45 ∷ x ∷ more) h ≡ [] → ⊥ in
    subst P (sym (eqb-true next 45 n)) (long_refused more h) g e

refused_from : (first next : ℕ) (more : List ℕ) (rows : List Row) (pending : Option (Text × List Text)) → first ≡ 45 → IsUtf8 (first ∷ next ∷ more) → is_end (first ∷ next ∷ more) ≡ false → flag_word_fault (rule ∷ []) false (long_of (first ∷ next ∷ more)) (first ∷ next ∷ more) (record { rows = rows; pending = pending; skip = 0 }) ≡ [] → ⊥
refused_from first next more rows pending is_minus text g e =
    let P : ℕ → Type 0 = λ x. IsUtf8 (x ∷ next ∷ more) → is_end (x ∷ next ∷ more) ≡ false → flag_word_fault (rule ∷ []) false (long_of (x ∷ next ∷ more)) (x ∷ next ∷ more) (record { rows = rows; pending = pending; skip = 0 }) ≡ [] → ⊥ in
    subst P (sym is_minus) (by_second (next == 45) next more rows pending refl) text g e

-- ---- all words

pub first_clean : (a b : Kinds) → or_else a b ≡ [] → a ≡ []
first_clean [] b e = refl
first_clean (k ∷ ks) b e = cc

word_refused : (so_far : List Text) (word : Text) → IsUtf8 word → is_end word ≡ false → is_option word ≡ true → turn_fault shape [] (stands so_far false) word ≡ [] → ⊥
word_refused so_far [] text g o e = cc
word_refused so_far (first ∷ []) text g o e = cc
word_refused [] (first ∷ next ∷ more) text g o e =
    let met : word_fault shape [] false idle (first ∷ next ∷ more) (held_with []) ≡ [] = first_clean (word_fault shape [] false idle (first ∷ next ∷ more) (held_with [])) _ e in
    let f = rw g at met in
    refused_from first next more [] None (eqb-true first 45 o) text g f
word_refused (w ∷ ws) (first ∷ next ∷ more) text g o e =
    let met : word_fault shape [] false positional (first ∷ next ∷ more) (held_with (w ∷ ws)) ≡ [] = first_clean (word_fault shape [] false positional (first ∷ next ∷ more) (held_with (w ∷ ws))) _ e in
    let f = rw g at met in
    refused_from first next more [] (Some (codes "words", w ∷ ws)) (eqb-true first 45 o) text g f

walk_behind : (so_far words : List Text) → (fold (walked (rule ∷ []) []) (stands so_far true) words ≡ stands (so_far ++ words) true) × (walk_fault shape [] (stands so_far true) words ≡ [])
unfolding walk_fault
walk_behind so_far [] = (rw append-nil refl, refl)
walk_behind so_far (word ∷ words) =
    let next = walk_behind (so_far ++ word ∷ []) words in
    let one = walked_behind so_far word in
    let clean = fault_behind so_far word in
    (rw one (next.0 ∙ ap (λ (ws : List Text). stands ws true) (append_assoc so_far (word ∷ []) words)), rw (clean, one) next.1)

pub record Plainly (so_far words rest : List Text) : Type 0 where
  pub is_behind : Bool
  pub stood : fold (walked (rule ∷ []) []) (stands so_far false) words ≡ stands (so_far ++ rest) is_behind
  pub clean : walk_fault shape [] (stands so_far false) words ≡ []

one_more : (so_far others : List Text) (word : Text) (words rest : List Text) → is_end word ≡ false → is_option word ≡ false → word ∷ others ≡ rest → Plainly (so_far ++ word ∷ []) words others → Plainly so_far (word ∷ words) rest
unfolding walk_fault
one_more so_far others word words rest g o e next =
    let one = walked_plain so_far word g o in
    let clean = fault_plain so_far word g o in
    record {
      is_behind = next.is_behind;
      stood = rw one (next.stood ∙ ap (λ (ws : List Text). stands ws next.is_behind) (append_assoc so_far (word ∷ []) others ∙ ap (λ (ws : List Text). so_far ++ ws) e));
      clean = rw (clean, one) next.clean;
    }

by_rest : (p : Option (List Text)) (so_far : List Text) (word : Text) (words rest : List Text) → plain_words words ≡ p → is_end word ≡ false → is_option word ≡ false → option_map (λ others. word ∷ others) p ≡ Some rest → ((seen others : List Text) → plain_words words ≡ Some others → Plainly seen words others) → Plainly so_far (word ∷ words) rest
by_rest None so_far word words rest q g o e next = cc
by_rest (Some others) so_far word words rest q g o e next =
    let same : word ∷ others ≡ rest = cc in
    one_more so_far others word words rest g o same (next (so_far ++ word ∷ []) others q)

by_word : (ends asks : Bool) (so_far : List Text) (word : Text) (words rest : List Text) → is_end word ≡ ends → is_option word ≡ asks → (if ends then Some words else if asks then None else option_map (λ others. word ∷ others) (plain_words words)) ≡ Some rest → ((seen others : List Text) → plain_words words ≡ Some others → Plainly seen words others) → Plainly so_far (word ∷ words) rest
unfolding walk_fault
by_word true asks so_far word words rest g o e next =
    let same : words ≡ rest = cc in
    let one = walked_end so_far word g in
    let clean = fault_end so_far word g in
    record {
      is_behind = true;
      stood = rw one ((walk_behind so_far words).0 ∙ ap (λ (ws : List Text). stands (so_far ++ ws) true) same);
      clean = rw (clean, one) (walk_behind so_far words).1;
    }
by_word false true so_far word words rest g o e next = cc
by_word false false so_far word words rest g o e next = by_rest (plain_words words) so_far word words rest refl g o e next

pub walk_plain : (so_far words rest : List Text) → plain_words words ≡ Some rest → Plainly so_far words rest
unfolding walk_fault
walk_plain so_far [] rest e =
    let none : [] ≡ rest = cc in
    record { is_behind = false; stood = ap (λ (ws : List Text). stands ws false) (sym (append-nil so_far) ∙ ap (λ (ws : List Text). so_far ++ ws) none); clean = refl }
walk_plain so_far (word ∷ words) rest e = by_word (is_end word) (is_option word) so_far word words rest refl refl e (λ seen others. walk_plain seen words others)

abbrev pub AllUtf8 : List Text → Type 0
AllUtf8 [] = Unit {0}
AllUtf8 (word ∷ words) = IsUtf8 word × AllUtf8 words

refused_at : (ends asks : Bool) (so_far : List Text) (word : Text) (words : List Text) → is_end word ≡ ends → is_option word ≡ asks → IsUtf8 word → (if ends then Some words else if asks then None else option_map (λ others. word ∷ others) (plain_words words)) ≡ None → walk_fault shape [] (stands so_far false) (word ∷ words) ≡ [] → ((seen : List Text) → plain_words words ≡ None → walk_fault shape [] (stands seen false) words ≡ [] → ⊥) → ⊥
unfolding walk_fault
refused_at true asks so_far word words g o text e f next = cc
refused_at false true so_far word words g o text e f next = word_refused so_far word text g o (first_clean (turn_fault shape [] (stands so_far false) word) _ f)
refused_at false false so_far word words g o text e f next =
    let none : plain_words words ≡ None = nothing_mapped (plain_words words) e in
    let f' = rw (fault_plain so_far word g o, walked_plain so_far word g o) at f in
    next (so_far ++ word ∷ []) none f'
  where
    nothing_mapped : (p : Option (List Text)) → option_map (λ (others : List Text). word ∷ others) p ≡ None → p ≡ None
    nothing_mapped None e = refl
    nothing_mapped (Some others) e = cc

pub walk_refused : (so_far words : List Text) → AllUtf8 words → plain_words words ≡ None → walk_fault shape [] (stands so_far false) words ≡ [] → ⊥
walk_refused so_far [] texts e f = cc
walk_refused so_far (word ∷ words) texts e f =
    refused_at (is_end word) (is_option word) so_far word words refl refl texts.0 e f (λ seen. walk_refused seen words texts.1)
