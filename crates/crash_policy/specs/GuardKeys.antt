-- The keys of the judge against loops: the field, and the links. They are needed exactly where that judge is chosen. All of this is our own.
use Rattle.std.specs.Prelude.{ℕ, ◌==◌, ◌&&◌, ◌||◌, Bool, true, false, not, List, [], ◌∷◌, length, filter, codes, Option, Some, None, nat_le, option_map, option_and_then, Result, Ok, Err, if◌then◌else◌}
use Rattle.std.specs.List.{list_all}
use Rattle.std.specs.Str.{bytes_eq}
use Rattle.toml.specs.Data.{Data, Items, no_items, item, Members, get_member, as_str, as_array}
use Rattle.guard_rule.specs.declared.GuardField.{GuardField}
use Rattle.guard_rule.specs.declared.GuardField.TheVariants.{DlDst, NwDst}
use Rattle.guard_rule.specs.declared.Link.{Link}
use Rattle.crash_policy.specs.declared.policy_file.Judge.{Judge}
use Rattle.crash_policy.specs.declared.policy_file.Judge.TheVariants as judge
use Rattle.crash_policy.specs.Policies.{GuardValue}
use Rattle.crash_policy.specs.Faults.{Fault, missing, out_of_range}
use Rattle.crash_policy.specs.Keys.{ranged, count_of}
use Rattle.crash_policy.specs.LinkText.{link_in}

abbrev pub is_guard : Judge → Bool
is_guard judge.Guard = true
is_guard other = false

-- a value that is needed exactly where a judge looks at it
abbrev pub needed_where : {A : Type 0} → Bool → List ℕ → (Data → Option A) → Option Data → Result (Option A) Fault
needed_where false key read None = Ok None
needed_where false key read (Some d) = Err (out_of_range key)
needed_where true key read None = Err (missing key)
needed_where true key read (Some d) = ranged key (option_map (λ x. Some x) (read d))

unfoldable pub field_named : List ℕ → Option GuardField
field_named word =
    if bytes_eq word (codes "dl_dst") then Some DlDst
    else (if bytes_eq word (codes "nw_dst") then Some NwDst
    else None)

abbrev pub field_in : Data → Option GuardField
field_in d = option_and_then field_named (as_str d)

-- the field of packets by which rows send them to different places
unfoldable pub field_answer : Judge → Members → Result (Option GuardField) Fault
field_answer j ms = needed_where (is_guard j) (codes "field") field_in (get_member (codes "field") ms)

-- ---- Links

abbrev pub is_same_end : ℕ × ℕ → ℕ × ℕ → Bool
is_same_end x y = (x.0 == y.0) && (x.1 == y.1)

abbrev pub has_end : ℕ × ℕ → Link → Bool
has_end e l = is_same_end l.a e || is_same_end l.b e

-- so many of the links have the end
abbrev pub times_end : ℕ × ℕ → List Link → ℕ
times_end e links = length (filter (has_end e) links)

-- the two ends of a link differ, and no other link has one of them
abbrev pub stands_apart : List Link → Link → Bool
stands_apart links l = not (is_same_end l.a l.b) && (times_end l.a links == 1 && times_end l.b links == 1)

abbrev pub if_all_apart : Option (List Link) → Option (List Link)
if_all_apart None = None
if_all_apart (Some links) = if list_all (stands_apart links) links then Some links else None

abbrev pub item_link : Data → Option Link
item_link d = option_and_then link_in (as_str d)

abbrev pub links_of : Items → Option (List Link)
links_of no_items = Some []
links_of (item d ds) = option_and_then (λ link. option_map (λ links. link ∷ links) (links_of ds)) (item_link d)

abbrev pub links_items : Items → Option (List Link)
links_items ds = if nat_le 1 (count_of ds) && nat_le (count_of ds) 64 then if_all_apart (links_of ds) else None

abbrev pub links_in : Data → Option (List Link)
links_in d = option_and_then links_items (as_array d)

-- 1 to 64 links; each end stands at most once in all
unfoldable pub links_answer : Judge → Members → Result (Option (List Link)) Fault
links_answer j ms = needed_where (is_guard j) (codes "links") links_in (get_member (codes "links") ms)

-- both are there, or neither
abbrev pub guard_of : Option GuardField → Option (List Link) → Option GuardValue
guard_of (Some field) (Some links) = Some (record { field = field; links = links })
guard_of (Some field) None = None
guard_of None links = None
