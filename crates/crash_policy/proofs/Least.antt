-- Where keys ascend, the first that is not known is the least.
use Rattle.std.proofs.Common.{◌≡◌, ℕ, Bool, true, false, List, [], ◌∷◌, map, Some, String, Global, Less, Greater, string_bytes, nat_cmp, refl, ap, ◌∙◌, if◌then◌else◌}
use Rattle.std.proofs.lemmas.Cmp.{nat_list_cmp_total}
use Rattle.std.specs.Cmp.Lexicographic.{slice_cmp}
use Rattle.std.specs.List.{AllByRecursion}
use Rattle.std.specs.List.Sorted.{IsStrictlySortedBy}
use Rattle.std.specs.Ordering.{ordering_reverse}
use Rattle.std.specs.String.{string_cmp}
use Rattle.std.specs.Map.{keys_of}
use Rattle.toml.specs.View.{members_view}
use Rattle.toml.proofs.Views.{Entry}
use Rattle.crash_policy.specs.declared.words.Level.{Level}
use Rattle.crash_policy.specs.Keys.{lesser, least_unknown, unless_unknown, is_known, known_keys}
use Rattle.crash_policy.proofs.Items.{keys_in-view}
use Rattle.crash_policy.specs.Ascending.{first_unknown}

not_before : (k y : List ℕ) → slice_cmp nat_cmp k y ≡ Less → lesser k (Some y) ≡ k
not_before k y below =
    let back : slice_cmp nat_cmp y k ≡ Greater = nat_list_cmp_total.antisymm y k ∙ ap ordering_reverse below in
    rw back

lesser-first : (is_known : List ℕ → Bool) (k : String Global) (ks : List (String Global)) → AllByRecursion (λ y. string_cmp k y ≡ Less) ks
    → lesser (string_bytes k) (first_unknown is_known (map string_bytes ks)) ≡ string_bytes k
lesser-first is_known k [] above = refl
lesser-first is_known k (y ∷ ys) above = by (is_known (string_bytes y)) (lesser-first is_known k ys above.1)
  where
    by : (b : Bool) → lesser (string_bytes k) (first_unknown is_known (map string_bytes ys)) ≡ string_bytes k
        → lesser (string_bytes k) (if b then first_unknown is_known (map string_bytes ys) else Some (string_bytes y)) ≡ string_bytes k
    by true more = more
    by false more = not_before (string_bytes k) (string_bytes y) above.0

pub least_unknown-ascending : (is_known : List ℕ → Bool) (ks : List (String Global)) → IsStrictlySortedBy string_cmp ks
    → least_unknown is_known (map string_bytes ks) ≡ first_unknown is_known (map string_bytes ks)
unfolding IsStrictlySortedBy
least_unknown-ascending is_known [] ascend = refl
least_unknown-ascending is_known (k ∷ ks) ascend =
    let more = least_unknown-ascending is_known ks ascend.1 in
    let first = lesser-first is_known k ks ascend.0 in
    rw (more, first) refl

-- the answer for the keys of a table, as its map has them
pub known_keys-first : (at : Level) (es : List Entry) → IsStrictlySortedBy string_cmp (keys_of es)
    → known_keys at (members_view es) ≡ unless_unknown (first_unknown (is_known at) (map string_bytes (keys_of es)))
unfolding known_keys
known_keys-first at es ascend =
    ap unless_unknown (ap (least_unknown (is_known at)) (keys_in-view es) ∙ least_unknown-ascending (is_known at) (keys_of es) ascend)
