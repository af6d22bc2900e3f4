-- The keys of a policy text, one word each: the value that a table gives the key, or the key's fault. All of this is our own.
use Rattle.std.specs.Prelude.{ℕ, ◌+◌, ◌==◌, ◌&&◌, ◌||◌, ℤ, pos, negsuc, nat_le, if◌then◌else◌, Bool, true, false, List, [], ◌∷◌, map, length, replicate, codes, Option, Some, None, is_some, option_map, option_and_then, Result, Ok, Err}
use Rattle.std.specs.List.{list_all}
use Rattle.std.specs.Str.{bytes_eq}
use Rattle.std.specs.Ordering.{nat_cmp, is_lt}
use Rattle.std.specs.Cmp.Lexicographic.{slice_cmp}
use Rattle.toml.specs.Data.{Data, string, Items, no_items, item, Members, no_members, member, get_member, as_str, as_integer, as_array, as_table}
use Rattle.crash_policy.specs.declared.policy_file.Policy.{Policy}
use Rattle.crash_policy.specs.declared.policy_file.Policy.TheVariants as policy
use Rattle.crash_policy.specs.declared.policy_file.Judge.{Judge}
use Rattle.crash_policy.specs.declared.policy_file.Judge.TheVariants as judge
use Rattle.crash_policy.specs.declared.words.Level.{Level}
use Rattle.crash_policy.specs.declared.words.Level.TheVariants as place
use Rattle.crash_policy.specs.Faults.{Fault, unknown, missing, out_of_range}

-- ---- words

unfoldable pub policy_named : List ℕ → Option Policy
policy_named word =
    if bytes_eq word (codes "absolute") then Some policy.Absolute
    else (if bytes_eq word (codes "equivalence") then Some policy.Equivalence
    else (if bytes_eq word (codes "none") then Some policy.None
    else None))

-- the kinds of events, in the order of their numbers
unfoldable pub is_event_name : List ℕ → Bool
is_event_name word =
    ((((bytes_eq word (codes "join") || bytes_eq word (codes "leave")) || bytes_eq word (codes "packet_in"))
    || bytes_eq word (codes "flow_removed")) || bytes_eq word (codes "port_status")) || bytes_eq word (codes "error")

unfoldable pub is_top_key : List ℕ → Bool
is_top_key key =
    (((bytes_eq key (codes "judge") || bytes_eq key (codes "quota")) || bytes_eq key (codes "field")) || bytes_eq key (codes "links"))
    || bytes_eq key (codes "app")

unfoldable pub is_app_key : List ℕ → Bool
is_app_key key =
    ((((bytes_eq key (codes "name") || bytes_eq key (codes "command")) || bytes_eq key (codes "policy"))
    || bytes_eq key (codes "events")) || bytes_eq key (codes "budget")) || bytes_eq key (codes "rules")

-- `a` to `z`, `0` to `9`, `_`
abbrev pub is_name_byte : ℕ → Bool
is_name_byte b = ((nat_le 97 b && nat_le b 122) || (nat_le 48 b && nat_le b 57)) || b == 95

-- ---- keys as such

abbrev pub keys_in : Members → List (List ℕ)
keys_in no_members = []
keys_in (member k d ms) = k ∷ keys_in ms

-- the least of the keys that are not known, by their bytes
abbrev pub lesser : List ℕ → Option (List ℕ) → List ℕ
lesser key None = key
lesser key (Some other) = if is_lt (slice_cmp nat_cmp other key) then other else key

abbrev pub least_unknown : (List ℕ → Bool) → List (List ℕ) → Option (List ℕ)
least_unknown is_known [] = None
least_unknown is_known (key ∷ keys) =
    if is_known key then least_unknown is_known keys else Some (lesser key (least_unknown is_known keys))

abbrev pub unless_unknown : Option (List ℕ) → Result (Unit {0}) Fault
unless_unknown None = Ok tt
unless_unknown (Some key) = Err (unknown key)

-- the keys that a place of the text may have
abbrev pub is_known : Level → List ℕ → Bool
is_known place.Top key = is_top_key key
is_known place.App key = is_app_key key
is_known place.Rules key = is_event_name key

unfoldable pub known_keys : Level → Members → Result (Unit {0}) Fault
known_keys at ms = unless_unknown (least_unknown (is_known at) (keys_in ms))

-- the key is there
abbrev pub needed : List ℕ → Members → Result (Unit {0}) Fault
needed key ms = if is_some (get_member key ms) then Ok tt else Err (missing key)

-- a value that a key may have, or its fault
abbrev pub ranged : {A : Type 0} → List ℕ → Option A → Result A Fault
ranged key None = Err (out_of_range key)
ranged key (Some x) = Ok x

-- a number within limits
abbrev pub number_within : ℕ → ℕ → ℤ → Option ℕ
number_within low high (pos n) = if nat_le low n && nat_le n high then Some n else None
number_within low high (negsuc n) = None

abbrev pub number_in : ℕ → ℕ → Data → Option ℕ
number_in low high d = option_and_then (number_within low high) (as_integer d)

-- the value where the key is there, and the default where it is not
abbrev pub or_default : {A : Type 0} → A → (Data → Option A) → Option Data → Option A
or_default default read None = Some default
or_default default read (Some d) = read d

-- ---- the keys of an application

-- at most so many frames of an application in one turn: 1 to 100,000, and 1,000 where nothing is said
unfoldable pub budget_answer : Members → Result ℕ Fault
budget_answer ms = ranged (codes "budget") (or_default 1000 (number_in 1 100000) (get_member (codes "budget") ms))

abbrev pub texts_of : Items → Option (List (List ℕ))
texts_of no_items = Some []
texts_of (item d ds) = option_and_then (λ text. option_map (λ texts. text ∷ texts) (texts_of ds)) (as_str d)

abbrev pub count_of : Items → ℕ
count_of no_items = 0
count_of (item d ds) = count_of ds + 1

abbrev pub command_items : Items → Option (List (List ℕ))
command_items ds = if nat_le 1 (count_of ds) && nat_le (count_of ds) 16 then texts_of ds else None

abbrev pub command_in : Data → Option (List (List ℕ))
command_in d = option_and_then command_items (as_array d)

-- the program and its words: 1 to 16 texts, and none where nothing is said
unfoldable pub command_answer : Members → Result (List (List ℕ)) Fault
command_answer ms = ranged (codes "command") (or_default [] command_in (get_member (codes "command") ms))

-- how often a text stands among the items
abbrev pub is_text : List ℕ → Data → Bool
is_text text (string s) = bytes_eq s text
is_text text _ = false

abbrev pub times : List ℕ → Items → ℕ
times text no_items = 0
times text (item d ds) = (if is_text text d then 1 else 0) + times text ds

abbrev pub is_event_text : Data → Bool
is_event_text (string s) = is_event_name s
is_event_text _ = false

abbrev pub are_event_texts : Items → Bool
are_event_texts no_items = true
are_event_texts (item d ds) = is_event_text d && are_event_texts ds

-- for each kind of event how often its name stands there
unfoldable pub counts_of : Items → List ℕ
counts_of ds =
    times (codes "join") ds ∷ times (codes "leave") ds ∷ times (codes "packet_in") ds ∷ times (codes "flow_removed") ds
    ∷ times (codes "port_status") ds ∷ times (codes "error") ds ∷ []

abbrev pub events_items : Items → Option (List Bool)
events_items ds =
    if are_event_texts ds && list_all (λ n. nat_le n 1) (counts_of ds) then Some (map (λ n. n == 1) (counts_of ds)) else None

abbrev pub events_in : Data → Option (List Bool)
events_in d = option_and_then events_items (as_array d)

-- the events that it is given: names of events, each at most once, and all where nothing is said
unfoldable pub events_answer : Members → Result (List Bool) Fault
events_answer ms = ranged (codes "events") (or_default (replicate 6 true) events_in (get_member (codes "events") ms))

abbrev pub is_name : List ℕ → Bool
is_name text = (nat_le 1 (length text) && nat_le (length text) 32) && list_all is_name_byte text

abbrev pub name_text : List ℕ → Option (List ℕ)
name_text text = if is_name text then Some text else None

abbrev pub name_in : Option Data → Option (List ℕ)
name_in None = None
name_in (Some d) = option_and_then name_text (as_str d)

unfoldable pub needed_name : Members → Result (Unit {0}) Fault
needed_name ms = needed (codes "name") ms

-- 1 to 32 of `a` to `z`, `0` to `9`, `_`
unfoldable pub name_answer : Members → Result (List ℕ) Fault
name_answer ms = ranged (codes "name") (name_in (get_member (codes "name") ms))

abbrev pub policy_in : Data → Option Policy
policy_in d = option_and_then policy_named (as_str d)

-- what follows a failed turn: absolute where nothing is said
unfoldable pub policy_answer : Members → Result Policy Fault
policy_answer ms = ranged (codes "policy") (or_default policy.Absolute policy_in (get_member (codes "policy") ms))

-- the policy of one kind of event
abbrev pub rule_for : Policy → List ℕ → Members → Option Policy
rule_for default event ms = or_default default policy_in (get_member event ms)

unfoldable pub rules_items : Policy → Members → Option (List Policy)
rules_items default ms =
    option_and_then (λ a. option_and_then (λ b. option_and_then (λ c. option_and_then (λ d. option_and_then (λ e. option_map (λ f.
    a ∷ b ∷ c ∷ d ∷ e ∷ f ∷ [])
    (rule_for default (codes "error") ms))
    (rule_for default (codes "port_status") ms))
    (rule_for default (codes "flow_removed") ms))
    (rule_for default (codes "packet_in") ms))
    (rule_for default (codes "leave") ms))
    (rule_for default (codes "join") ms)

abbrev pub rules_in : Policy → Data → Option (List Policy)
rules_in default d = option_and_then (rules_items default) (as_table d)

-- the policy of each kind of event, where it is another than the application's own
unfoldable pub rules_answer : Policy → Members → Result (List Policy) Fault
rules_answer default ms = ranged (codes "rules") (or_default (replicate 6 default) (rules_in default) (get_member (codes "rules") ms))

abbrev pub known_in_rules : Option Members → Result (Unit {0}) Fault
known_in_rules None = Ok tt
known_in_rules (Some ms) = known_keys place.Rules ms

-- the keys inside `rules` are names of events
unfoldable pub rules_keys : Members → Result (Unit {0}) Fault
rules_keys ms = known_in_rules (option_and_then as_table (get_member (codes "rules") ms))

-- ---- the keys at the top

unfoldable pub judge_named : List ℕ → Option Judge
judge_named word =
    if bytes_eq word (codes "all") then Some judge.All
    else (if bytes_eq word (codes "quota") then Some judge.Quota
    else (if bytes_eq word (codes "guard") then Some judge.Guard
    else None))

abbrev pub judge_in : Data → Option Judge
judge_in d = option_and_then judge_named (as_str d)

-- what is asked of the tables when a turn is done: nothing where nothing is said
unfoldable pub judge_answer : Members → Result Judge Fault
judge_answer ms = ranged (codes "judge") (or_default judge.All judge_in (get_member (codes "judge") ms))

-- The quota is needed exactly where the judge counts entries: 0 to 4,294,967,295.
abbrev pub quota_for : Judge → Option Data → Result (Option ℕ) Fault
quota_for judge.All None = Ok None
quota_for judge.All (Some d) = Err (out_of_range (codes "quota"))
quota_for judge.Guard None = Ok None
quota_for judge.Guard (Some d) = Err (out_of_range (codes "quota"))
quota_for judge.Quota None = Err (missing (codes "quota"))
quota_for judge.Quota (Some d) = ranged (codes "quota") (option_map (λ n. Some n) (number_in 0 4294967295 d))

unfoldable pub quota_answer : Judge → Members → Result (Option ℕ) Fault
quota_answer j ms = quota_for j (get_member (codes "quota") ms)

abbrev pub tables_of : Items → Option (List Members)
tables_of no_items = Some []
tables_of (item d ds) = option_and_then (λ ms. option_map (λ more. ms ∷ more) (tables_of ds)) (as_table d)

abbrev pub apps_items : Items → Option (List Members)
apps_items ds = if nat_le 1 (count_of ds) && nat_le (count_of ds) 32 then tables_of ds else None

abbrev pub apps_in : Option Data → Option (List Members)
apps_in None = None
apps_in (Some d) = option_and_then apps_items (as_array d)

unfoldable pub needed_apps : Members → Result (Unit {0}) Fault
needed_apps ms = needed (codes "app") ms

-- 1 to 32 tables
unfoldable pub apps_answer : Members → Result (List Members) Fault
apps_answer ms = ranged (codes "app") (apps_in (get_member (codes "app") ms))
