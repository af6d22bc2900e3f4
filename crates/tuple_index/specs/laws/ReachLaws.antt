-- What a description with wildcards does not reach it does not subsume, and no two matches of one group overlap.
use Rattle.std.proofs.Common.{◌≡◌, ◌≢◌, ◌==◌, ℕ, suc, ◌+◌, ◌-◌, ◌<◌, ◌≤◌, Bool, true, false, not, ◌&&◌, ◌||◌, List, [], ◌∷◌, length, length-drop, get_or, take, drop, map, filter, nat_le, MatchBool, Option, Some, None, refl, sym, ap, ◌∙◌, arith, inl, inr}
use Rattle.std.proofs.lemmas.Bool.{cases_Bool, cond-false, and_parts, and_from, and_left, or_from, eq-eqb, eqb-true, not_from_true, false_from_ne_true}
use Rattle.std.proofs.lemmas.List.{get_or-take, get_or-drop, get_or_default, length-take-le}
use Rattle.std.proofs.lemmas.List.Folds.{list_any_at, Any-from_list_any}
use Rattle.std.specs.List.{list_any}
use Rattle.std.specs.Option.{option_map}
use Rattle.std.specs.Str.{bytes_eq}
use Rattle.of_types.specs.Membership.{is_among}
use Rattle.of_match.specs.declared.fields.Fields.{Fields}
use Rattle.of_match.specs.declared.flow_match.Match.{Match}
use Rattle.of_match.specs.declared.key.Key.{Key}
use Rattle.of_match.specs.declared.packet_key.PacketKey.{PacketKey}
use Rattle.of_match.specs.Key.{key_number}
use Rattle.of_match.specs.Match.{fields_in}
use Rattle.of_match.specs.laws.CoversLaws.{fields_agree-Decides}
use Rattle.of_match.specs.laws.MatchLaws.{fields_in-injective}
use Rattle.match_overlap.specs.Fieldwise.{value_subsumes, prefix_subsumes, link_subsumes, frame_subsumes, network_subsumes, fields_subsume}
use Rattle.match_overlap.specs.Relations.{is_subsuming, is_overlapping}
use Rattle.match_overlap.specs.laws.RelationsLaws.{is_overlapping-Decides}
use Rattle.of_wire.specs.declared.bodies.FlowMod.{FlowMod}
use Rattle.flow_table.specs.declared.entry.Entry.{Entry}
use Rattle.flow_table.specs.Change.{key_in, is_strict, is_delete, describes, sends_to, deletes, means, tells, asks_notice, notice, notices_of}
use Rattle.flow_table.specs.Sorted.{Ascends}
use Rattle.flow_table.specs.laws.ChangeLaws.{list_any-same, notices_of-delete}
use Rattle.flow_table.specs.laws.TableLaws.{NonePass, filter-none, filter_not-none}
use Rattle.tuple_index.specs.Groups.{wildcards, different, group_count, spot, IsGroup, IsIndexed}
use Rattle.tuple_index.specs.Masked.{masked}
use Rattle.tuple_index.specs.Reach.{value_reaches, prefix_reaches, link_reaches, frame_reaches, network_reaches, fields_reach, key_clashes}
use Rattle.tuple_index.specs.laws.CountLaws.{different-same, different-run}
use Rattle.tuple_index.specs.laws.IndexLaws.{Contains-key, Contains-entry_at, entry-of_key}
use Rattle.tuple_index.specs.laws.MaskedLaws.{masked-in_group, masked-when_covering}
use Rattle.tuple_index.specs.laws.OrderLaws.{group-between}

-- ---- Field by field

value-reached : {A : Type 0} (same : A → A → Bool) (f g : Option A) → value_subsumes same f g ≡ true → value_reaches f g ≡ true
value-reached same None g is = refl
value-reached same (Some x) None is = absurd cc
value-reached same (Some x) (Some y) is = refl

prefix-reached : (f g : Option (ℕ × ℕ)) → prefix_subsumes f g ≡ true → prefix_reaches f g ≡ true
prefix-reached None g is = refl
prefix-reached (Some p) None is = absurd cc
prefix-reached (Some p) (Some q) is = (and_parts (nat_le p.1 q.1) _ is).0

both : (a b c d : Bool) → (a ≡ true → c ≡ true) → (b ≡ true → d ≡ true) → (a && b) ≡ true → (c && d) ≡ true
both a b c d first second is = let (left, right) = and_parts a b is in and_from c d (first left) (second right)

link-reached : (f g : Fields) → link_subsumes f g ≡ true → link_reaches f g ≡ true
link-reached f g =
    both _ _ _ _ (both _ _ _ _ (both _ _ _ _ (value-reached ◌==◌ f.in_port g.in_port) (value-reached bytes_eq f.dl_src g.dl_src)) (value-reached bytes_eq f.dl_dst g.dl_dst)) (value-reached ◌==◌ f.dl_vlan g.dl_vlan)

frame-reached : (f g : Fields) → frame_subsumes f g ≡ true → frame_reaches f g ≡ true
frame-reached f g =
    both _ _ _ _ (both _ _ _ _ (both _ _ _ _ (value-reached ◌==◌ f.dl_vlan_pcp g.dl_vlan_pcp) (value-reached ◌==◌ f.dl_type g.dl_type)) (value-reached ◌==◌ f.nw_tos g.nw_tos)) (value-reached ◌==◌ f.nw_proto g.nw_proto)

network-reached : (f g : Fields) → network_subsumes f g ≡ true → network_reaches f g ≡ true
network-reached f g =
    both _ _ _ _ (both _ _ _ _ (both _ _ _ _ (prefix-reached f.nw_src g.nw_src) (prefix-reached f.nw_dst g.nw_dst)) (value-reached ◌==◌ f.tp_src g.tp_src)) (value-reached ◌==◌ f.tp_dst g.tp_dst)

fields-reached : (f g : Fields) → fields_subsume f g ≡ true → fields_reach f g ≡ true
unfolding fields_subsume fields_reach
fields-reached f g = both _ _ _ _ (both _ _ _ _ (link-reached f g) (frame-reached f g)) (network-reached f g)

-- ---- Wildcards decide what is reached.

value-masked : {A : Type 0} (f g : Option A) (x : A) → value_reaches f (option_map (λ _. x) g) ≡ value_reaches f g
value-masked None g x = refl
value-masked (Some y) None x = refl
value-masked (Some y) (Some z) x = refl

prefix-masked : (f g : Option (ℕ × ℕ)) (x : ℕ) → prefix_reaches f (option_map (λ p. (x, p.1)) g) ≡ prefix_reaches f g
prefix-masked None g x = refl
prefix-masked (Some p) None x = refl
prefix-masked (Some p) (Some q) x = refl

reach-masked : (f g : Fields) (k : PacketKey) → fields_reach f (masked g k) ≡ fields_reach f g
unfolding fields_reach masked
reach-masked f g k = λ i.
    (value-masked f.in_port g.in_port k.in_port i && value-masked f.dl_src g.dl_src k.dl_src i && value-masked f.dl_dst g.dl_dst k.dl_dst i && value-masked f.dl_vlan g.dl_vlan k.dl_vlan i)
    && (value-masked f.dl_vlan_pcp g.dl_vlan_pcp k.dl_vlan_pcp i && value-masked f.dl_type g.dl_type k.dl_type i && value-masked f.nw_tos g.nw_tos k.nw_tos i && value-masked f.nw_proto g.nw_proto k.nw_proto i)
    && (prefix-masked f.nw_src g.nw_src k.nw_src i && prefix-masked f.nw_dst g.nw_dst k.nw_dst i && value-masked f.tp_src g.tp_src k.tp_src i && value-masked f.tp_dst g.tp_dst k.tp_dst i)

some_packet : PacketKey
some_packet = record { in_port = 0; dl_src = []; dl_dst = []; dl_vlan = 0; dl_vlan_pcp = 0; dl_type = 0; nw_tos = 0; nw_proto = 0; nw_src = 0; nw_dst = 0; tp_src = 0; tp_dst = 0 }

reach-in_group : (f : Fields) (m n : Match) → wildcards m ≡ wildcards n → fields_reach f (fields_in m) ≡ fields_reach f (fields_in n)
reach-in_group f m n same =
    sym (reach-masked f (fields_in m) some_packet) ∙ ap (fields_reach f) (masked-in_group m n some_packet same) ∙ reach-masked f (fields_in n) some_packet

is_subsuming-reached : (m n : Match) → is_subsuming m n ≡ true → fields_reach (fields_in m) (fields_in n) ≡ true
unfolding is_subsuming
is_subsuming-reached m n is = fields-reached (fields_in m) (fields_in n) is

-- a match subsumes none of a group that it does not reach
pub subsumes-none : (m n group : Match) → fields_reach (fields_in m) (fields_in group) ≡ false → wildcards n ≡ wildcards group → is_subsuming m n ≡ false
subsumes-none m n group passed same = false_from_ne_true (is_subsuming m n) (λ is.
    let reached = sym (reach-in_group (fields_in m) n group same) ∙ is_subsuming-reached m n is in
    absurd cc (passed, reached))

-- ---- No two matches of a group overlap.

overlap-same : (m n : Match) → wildcards n ≡ wildcards m → is_overlapping n m ≡ true → n ≡ m
overlap-same m n same is =
    let (k, (key, first, second)) = (is_overlapping-Decides n m).0 is in
    let left = masked-when_covering n m k same ((fields_agree-Decides (fields_in n) k).1 first) in
    let right = masked-when_covering m m k refl ((fields_agree-Decides (fields_in m) k).1 second) in
    fields_in-injective n m (left ∙ sym right)

number-same : (k l : Key) → l.priority ≡ k.priority → l.matching ≡ k.matching → key_number l ≡ key_number k
unfolding key_number
number-same k l priority matching = rw (priority, matching) refl

-- no key of a key's own group clashes with it
pub clashes-none : (k l : Key) → wildcards l.matching ≡ wildcards k.matching → key_clashes k l ≡ false
clashes-none k l same = false_from_ne_true (key_clashes k l) (λ is.
    let (priority, rest) = and_parts (l.priority == k.priority) _ is in
    let (differs, overlaps) = and_parts (not (key_number l == key_number k)) (is_overlapping l.matching k.matching) rest in
    let number = eq-eqb (key_number l) (key_number k) (number-same k l (eqb-true l.priority k.priority priority) (overlap-same k.matching l.matching same overlaps)) in
    absurd cc (not_from_true (key_number l == key_number k) number, differs))

-- ---- A test of keys, part by part

part-get : (ks : List Key) (from n i : ℕ) (d : Key) → i < n → get_or (take n (drop from ks)) i d ≡ get_or ks (from + i) d
part-get ks from n i d lt = get_or-take n (drop from ks) i d lt ∙ get_or-drop from ks i d

part-length : (ks : List Key) (from n : ℕ) → from + n ≤ length ks → length (take n (drop from ks)) ≡ n
part-length ks from n within = length-take-le n (drop from ks) (omega (arith, length-drop from ks))

-- one that passes among the keys from one place to another passes among all
pub any-part : (p : Key → Bool) (ks : List Key) (from n : ℕ) → from + n ≤ length ks → list_any p (take n (drop from ks)) ≡ true → list_any p ks ≡ true
any-part p ks from n within is =
    let (i, k, inside, here, passes) = Any-from_list_any p (take n (drop from ks)) is in
    let lt : i < n = omega (arith, inside, part-length ks from n within) in
    list_any_at p ks (from + i) k (omega arith) (ap p (sym (part-get ks from n i k lt) ∙ here) ∙ passes)

-- where none passes there, none of those places passes
pub none-part : (p : Key → Bool) (ks : List Key) (from n i : ℕ) (d : Key) → from + n ≤ length ks → list_any p (take n (drop from ks)) ≡ false → from ≤ i → i < from + n → p (get_or ks i d) ≡ false
none-part p ks from n i d within none first last = false_from_ne_true (p (get_or ks i d)) (λ is.
    let lt : i - from < n = omega arith in
    let there : from + (i - from) ≡ i = omega arith in
    let passes : p (get_or (take n (drop from ks)) (i - from) d) ≡ true = ap p (part-get ks from n (i - from) d lt) ∙ ap (λ j. p (get_or ks j d)) there ∙ is in
    let some = list_any_at p (take n (drop from ks)) (i - from) d (omega (arith, part-length ks from n within)) passes in
    absurd cc (some, none))

-- so the part of them tells of all, or of each of those places
pub part-decided : (p : Key → Bool) (ks : List Key) (from end : ℕ) (r : Bool) → from < end → end ≤ length ks → r ≡ list_any p (take (end - from) (drop from ks))
    → MatchBool r (list_any p ks ≡ true) ((i : ℕ) (k : Key) → from ≤ i → i < end → p (get_or ks i k) ≡ false)
part-decided p ks from end true lt within is = any-part p ks from (end - from) (omega arith) (sym is)
part-decided p ks from end false lt within is = λ i k first last. none-part p ks from (end - from) i k (omega arith) (sym is) first (omega arith)

pub part-passed : (b : Bool) (P Q : Type 0) → b ≡ false → Q → MatchBool b P Q
part-passed true P Q is q = absurd cc
part-passed false P Q is q = q

-- the wildcards at a place, whatever a read gives past the end
pub word_at : (ks : List Key) (i : ℕ) (c d : Key) → i < length ks → wildcards (get_or ks i c).matching ≡ wildcards (get_or ks i d).matching
word_at ks i c d within = ap (λ (k : Key). wildcards k.matching) (get_or_default ks i c d within)

pub none-all : (p : Key → Bool) (ks : List Key) → ((i : ℕ) (d : Key) → i < length ks → p (get_or ks i d) ≡ false) → list_any p ks ≡ false
none-all p [] none = refl
none-all p (k ∷ ks) none = or_from (p k) (list_any p ks) (none 0 k (omega arith)) (none-all p ks (λ i d within. none (suc i) d (omega arith)))

-- ---- A test of keys, of those of an index and of the entries

any-entry : (p : Key → Bool) (ks : List Key) (es : List Entry) → IsIndexed ks es → list_any p ks ≡ true → list_any (λ e. p e.key) es ≡ true
any-entry p ks es h is =
    let (i, k, within, here, passes) = Any-from_list_any p ks is in
    let (e, found, key) = entry-of_key ks es k h.index (i, within, here) in
    let (j, inside, there) = Contains-entry_at k es e found in
    list_any_at (λ (f : Entry). p f.key) es j e inside (ap (λ (f : Entry). p f.key) there ∙ ap p key ∙ passes)

any-key : (p : Key → Bool) (ks : List Key) (es : List Entry) → IsIndexed ks es → list_any (λ e. p e.key) es ≡ true → list_any p ks ≡ true
any-key p ks es h is =
    let (i, e, within, here, passes) = Any-from_list_any (λ (f : Entry). p f.key) es is in
    let (j, inside, there) = Contains-key ks es e h.index h.in_order (i, within, here) in
    list_any_at p ks j e.key inside (ap p there ∙ passes)

pub any-keys : (p : Key → Bool) (ks : List Key) (es : List Entry) → IsIndexed ks es → list_any p ks ≡ list_any (λ e. p e.key) es
any-keys p ks es h =
    elim (cases_Bool (list_any p ks)) [
      | inl some ↦ some ∙ sym (any-entry p ks es h some)
      | inr none ↦ none ∙ sym (false_from_ne_true (list_any (λ e. p e.key) es) (λ is. let some = any-key p ks es h is in absurd cc (some, none)))
    ]

-- ---- Where no entry is met

describes-loose : (m : FlowMod) (k : Key) → is_strict m ≡ false → describes m k ≡ is_subsuming m.matching k.matching
unfolding describes
describes-loose m k loose = cond-false (is_strict m) (key_number k == key_number (key_in m)) (is_subsuming m.matching k.matching) loose

-- a description with wildcards means an entry where its match subsumes that of a key
pub met-by_keys : (m : FlowMod) (ks : List Key) (es : List Entry) → IsIndexed ks es → is_strict m ≡ false → list_any (λ k. is_subsuming m.matching k.matching) ks ≡ list_any (means m) es
met-by_keys m ks es h loose =
    any-keys (λ k. is_subsuming m.matching k.matching) ks es h
    ∙ list_any-same (λ e. is_subsuming m.matching e.key.matching) (means m) (λ e. sym (describes-loose m e.key loose)) es

unmet-none : (m : FlowMod) (q : Entry → Bool) (es : List Entry) → list_any (means m) es ≡ false → NonePass (λ e. means m e && q e) es
unmet-none m q es unmet = λ i e within. and_left (means m (get_or es i e)) (q (get_or es i e)) (false_from_ne_true (means m (get_or es i e)) (λ is.
    let some = list_any_at (means m) es i e within is in
    absurd cc (some, unmet)))

-- it removes none
pub unmet-stays : (m : FlowMod) (es : List Entry) → list_any (means m) es ≡ false → filter (λ e. not (deletes m e)) es ≡ es
unmet-stays m es unmet = filter_not-none (deletes m) es (unmet-none m (λ e. sends_to m.out_port e.actions) es unmet)

-- and tells of none
pub unmet-tells : (m : FlowMod) (es : List Entry) → list_any (means m) es ≡ false → filter (tells m) es ≡ []
unmet-tells m es unmet = filter-none (tells m) es (λ i e within. and_left (deletes m (get_or es i e)) (asks_notice (get_or es i e).flags) (unmet-none m (λ f. sends_to m.out_port f.actions) es unmet i e within))

pub unmet-notices : (now : ℕ) (m : FlowMod) (es : List Entry) → is_delete m ≡ true → list_any (means m) es ≡ false → notices_of now m es ≡ []
unmet-notices now m es delete unmet = notices_of-delete now m es delete ∙ ap (map (notice 2 now)) (unmet-tells m es unmet)

-- ---- The groups of an index are those of the entries.

any-map : {X : Type 0} (f : X → ℕ) (n : ℕ) (xs : List X) → is_among n (map f xs) ≡ list_any (λ x. f x == n) xs
any-map f n [] = refl
any-map f n (x ∷ xs) = ap (λ b. (f x == n) || b) (any-map f n xs)

pub groups-of_index : (ks : List Key) (es : List Entry) → IsIndexed ks es → different (map (λ k. wildcards k.matching) ks) ≡ group_count es
unfolding group_count
groups-of_index ks es h = different-same (map (λ k. wildcards k.matching) ks) (map (λ e. wildcards e.key.matching) es) (λ n.
    any-map (λ k. wildcards k.matching) n ks
    ∙ any-keys (λ k. wildcards k.matching == n) ks es h
    ∙ sym (any-map (λ e. wildcards e.key.matching) n es))

groups-from : (ks : List Key) (from end : ℕ) (d : Key) → Ascends spot 0 ks → from < end → end ≤ length ks → IsGroup from end ks
    → ((k : Key) → end < length ks → wildcards (get_or ks end k).matching ≢ wildcards (get_or ks from k).matching)
    → different (map (λ k. wildcards k.matching) (drop from ks)) ≡ different (map (λ k. wildcards k.matching) (drop end ks)) + 1
groups-from ks from end d order lt within group next =
    let n : from + suc (end - from - 1) ≡ end = omega arith in
    different-run (λ (k : Key). wildcards k.matching) ks (wildcards (get_or ks from d).matching) (end - from - 1) from (omega arith)
    (λ i k first last. word_at ks i k d (omega arith) ∙ group i d first (omega arith))
    (λ i k first last is.
    let same = sym (word_at ks i k d last) ∙ is in
    let between = group-between ks from end i d order (omega arith) (omega arith) last same in
    next d (omega arith) between)
    d
    ∙ ap (λ m. different (map (λ k. wildcards k.matching) (drop m ks)) + 1) n

a_key : (ks : List Key) (i : ℕ) → i < length ks → Key
a_key [] i within = absurd (omega arith)
a_key (k ∷ ks) i within = k

-- a group more
pub groups-step : (ks : List Key) (from end : ℕ) → Ascends spot 0 ks → from < end → end ≤ length ks → IsGroup from end ks
    → ((k : Key) → end < length ks → wildcards (get_or ks end k).matching ≢ wildcards (get_or ks from k).matching)
    → different (map (λ k. wildcards k.matching) (drop from ks)) ≡ different (map (λ k. wildcards k.matching) (drop end ks)) + 1
groups-step ks from end order lt within group next = groups-from ks from end (a_key ks from (omega arith)) order lt within group next
