-- A packet goes nowhere where its value of the guarded field does not lead.
use Rattle.std.proofs.Common.{◌≡◌, ◌==◌, ◌⊎◌, ℕ, ◌+◌, ◌-◌, ◌*◌, ◌/◌, ◌%◌, ◌^◌, ◌<◌, ◌≤◌, Bool, true, false, not, ◌&&◌, cond, List, [], ◌∷◌, filter, Option, Some, None, refl, sym, ap, ◌∙◌, subst, arith, inl, inr}
use Rattle.std.specs.Prelude.{find, IfSome}
use Rattle.std.specs.List.{list_any, Contains, flat_map}
use Rattle.std.specs.Option.{is_none, option_map}
use Rattle.std.specs.Str.{bytes_eq}
use Rattle.std.proofs.lemmas.Bool.{or_cases, and_parts, and_from, or_left, or_right, cases_Bool, cases_lt, eq-eqb, eqb-true, ne_eqb, false_from_ne_true, lt-ltb}
use Rattle.std.proofs.lemmas.Slice.Eq.{bytes_eq-Decides}
use Rattle.std.proofs.lemmas.Nat.{shr_split, shr_high}
use Rattle.std.proofs.Math.Nat.{mod-lt}
use Rattle.std.proofs.Math.Pow.{pow_mono}
use Rattle.std.proofs.lemmas.List.Elements.{Contains-append_left, Contains-append_right, Contains-append_cases}
use Rattle.guard_rule.specs.declared.GuardField.{GuardField}
use Rattle.guard_rule.specs.declared.GuardField.TheVariants.{DlDst, NwDst}
use Rattle.of_match.specs.Covers.{agrees, address_agrees, agrees_on_prefix, link_agrees, frame_agrees, network_agrees, fields_agree, is_covering}
use Rattle.of_match.specs.Fields.{IsAddress, IsPrefix}
use Rattle.of_match.specs.Key.{number}
use Rattle.of_match.specs.PacketKey.{IsPacketKey}
use Rattle.of_match.specs.declared.fields.Fields.{Fields}
use Rattle.of_match.specs.declared.packet_key.PacketKey.{PacketKey}
use Rattle.of_match.specs.laws.FieldsLaws.{clear_is}
use Rattle.of_match.specs.laws.MatchLaws.{fields_in-within}
use Rattle.flow_table.specs.declared.view.ViewRow.{ViewRow}
use Rattle.flow_table.specs.View.{TableView}
use Rattle.net_guard.specs.declared.hop.Hop.{Hop}
use Rattle.net_guard.specs.declared.scope.Scope.TheVariants.{Value}
use Rattle.net_guard.specs.Links.{Place, Guarded, is_same}
use Rattle.net_guard.specs.Taking.{fields_of_row, is_whole, takes_value, may_take, surely_takes, has_no_other, has_no_link_field, has_no_network_field, has_no_unguarded, by_rank, up_to, considered}
use Rattle.net_guard.specs.Leading.{leads, leads_over, table_over, row_over, is_viewed}
use Rattle.net_guard.specs.Walks.{IsWalk}
use Rattle.net_guard.specs.Values.{values_in, numbers_in, named_in, named_in_rows, named_by, address_named, prefix_named, after_prefix}
use Rattle.net_guard.specs.Found.{IsFree}
use Rattle.net_guard.specs.Carrying.{at_port, row_taken, taken_over, table_carries, carries_over, carries, ComesBackNowhere}
use Rattle.net_guard.proofs.Addresses.{address_one, IsFloor, floor}
use Rattle.net_guard.proofs.Numbers.{Contains-behind, Contains-here, Contains-cases, no_fewer}
use Rattle.net_guard.proofs.Searching.{any_wider, any_value, number-value, has_none}

-- ---- what a packet's own value says of fields

abbrev pub key_takes : GuardField → PacketKey → Fields → Bool
key_takes DlDst k f = address_agrees f.dl_dst k.dl_dst
key_takes NwDst k f = agrees_on_prefix f.nw_dst k.nw_dst && agrees f.dl_type k.dl_type

-- the row that is taken is considered: it may be taken, and none before it surely is
pub record Tells (field : GuardField) (v : Option ℕ) (k : PacketKey) (f : Fields) : Type 0 where
  pub value : takes_value field v f ≡ key_takes field k f

pub covers_may : (field : GuardField) (v : Option ℕ) (k : PacketKey) (f : Fields) → Tells field v k f → fields_agree f k ≡ true → may_take field (Value v) k.in_port f ≡ true
unfolding fields_agree may_take
covers_may DlDst v k f tells is =
    let parts = and_parts (link_agrees f k && frame_agrees f k) (network_agrees f k) is in
    let link = (and_parts (link_agrees f k) (frame_agrees f k) parts.0).0 in
    let three = and_parts (agrees f.in_port k.in_port && address_agrees f.dl_src k.dl_src && address_agrees f.dl_dst k.dl_dst) (agrees f.dl_vlan k.dl_vlan) link in
    let two = and_parts (agrees f.in_port k.in_port && address_agrees f.dl_src k.dl_src) (address_agrees f.dl_dst k.dl_dst) three.0 in
    let one = and_parts (agrees f.in_port k.in_port) (address_agrees f.dl_src k.dl_src) two.0 in
    and_from (agrees f.in_port k.in_port) (takes_value DlDst v f) one.0 (tells.value ∙ two.1)
covers_may NwDst v k f tells is =
    let parts = and_parts (link_agrees f k && frame_agrees f k) (network_agrees f k) is in
    let both = and_parts (link_agrees f k) (frame_agrees f k) parts.0 in
    let three = and_parts (agrees f.in_port k.in_port && address_agrees f.dl_src k.dl_src && address_agrees f.dl_dst k.dl_dst) (agrees f.dl_vlan k.dl_vlan) both.0 in
    let two = and_parts (agrees f.in_port k.in_port && address_agrees f.dl_src k.dl_src) (address_agrees f.dl_dst k.dl_dst) three.0 in
    let one = and_parts (agrees f.in_port k.in_port) (address_agrees f.dl_src k.dl_src) two.0 in
    let f3 = and_parts (agrees f.dl_vlan_pcp k.dl_vlan_pcp && agrees f.dl_type k.dl_type && agrees f.nw_tos k.nw_tos) (agrees f.nw_proto k.nw_proto) both.1 in
    let f2 = and_parts (agrees f.dl_vlan_pcp k.dl_vlan_pcp && agrees f.dl_type k.dl_type) (agrees f.nw_tos k.nw_tos) f3.0 in
    let f1 = and_parts (agrees f.dl_vlan_pcp k.dl_vlan_pcp) (agrees f.dl_type k.dl_type) f2.0 in
    let n3 = and_parts (agrees_on_prefix f.nw_src k.nw_src && agrees_on_prefix f.nw_dst k.nw_dst && agrees f.tp_src k.tp_src) (agrees f.tp_dst k.tp_dst) parts.1 in
    let n2 = and_parts (agrees_on_prefix f.nw_src k.nw_src && agrees_on_prefix f.nw_dst k.nw_dst) (agrees f.tp_src k.tp_src) n3.0 in
    let n1 = and_parts (agrees_on_prefix f.nw_src k.nw_src) (agrees_on_prefix f.nw_dst k.nw_dst) n2.0 in
    and_from (agrees f.in_port k.in_port) (takes_value NwDst v f) one.0
    (tells.value ∙ and_from (agrees_on_prefix f.nw_dst k.nw_dst) (agrees f.dl_type k.dl_type) n1.1 f1.1)

-- the eight fields that are always any in a row that is surely taken
record OthersAny (f : Fields) : Type 0 where
  dl_src : f.dl_src ≡ None
  dl_vlan : f.dl_vlan ≡ None
  dl_vlan_pcp : f.dl_vlan_pcp ≡ None
  nw_tos : f.nw_tos ≡ None
  nw_proto : f.nw_proto ≡ None
  nw_src : f.nw_src ≡ None
  tp_src : f.tp_src ≡ None
  tp_dst : f.tp_dst ≡ None

others_any : (field : GuardField) (f : Fields) → has_no_other field f ≡ true → OthersAny f × (has_no_unguarded field f ≡ true)
unfolding has_no_other
others_any field f is =
    let top = and_parts (has_no_link_field f && has_no_network_field f) (has_no_unguarded field f) is in
    let both = and_parts (has_no_link_field f) (has_no_network_field f) top.0 in
    let l2 = and_parts (is_none f.dl_src && is_none f.dl_vlan) (is_none f.dl_vlan_pcp) both.0 in
    let l1 = and_parts (is_none f.dl_src) (is_none f.dl_vlan) l2.0 in
    let n4 = and_parts (is_none f.nw_tos && is_none f.nw_proto && is_none f.nw_src && is_none f.tp_src) (is_none f.tp_dst) both.1 in
    let n3 = and_parts (is_none f.nw_tos && is_none f.nw_proto && is_none f.nw_src) (is_none f.tp_src) n4.0 in
    let n2 = and_parts (is_none f.nw_tos && is_none f.nw_proto) (is_none f.nw_src) n3.0 in
    let n1 = and_parts (is_none f.nw_tos) (is_none f.nw_proto) n2.0 in (
      record {
        dl_src = has_none f.dl_src l1.0;
        dl_vlan = has_none f.dl_vlan l1.1;
        dl_vlan_pcp = has_none f.dl_vlan_pcp l2.1;
        nw_tos = has_none f.nw_tos n1.0;
        nw_proto = has_none f.nw_proto n1.1;
        nw_src = has_none f.nw_src n2.1;
        tp_src = has_none f.tp_src n3.1;
        tp_dst = has_none f.tp_dst n4.1;
      },
      top.1,
    )

all_agree : (f : Fields) (k : PacketKey) → OthersAny f → agrees f.in_port k.in_port ≡ true → address_agrees f.dl_dst k.dl_dst ≡ true → agrees f.dl_type k.dl_type ≡ true → agrees_on_prefix f.nw_dst k.nw_dst ≡ true → fields_agree f k ≡ true
unfolding fields_agree
all_agree f k any port dst kind net = rw (any.dl_src, any.dl_vlan, any.dl_vlan_pcp, any.nw_tos, any.nw_proto, any.nw_src, any.tp_src, any.tp_dst, port, dst, kind, net) refl

pub sure_covers : (field : GuardField) (v : Option ℕ) (k : PacketKey) (f : Fields) → Tells field v k f → surely_takes field (Value v) k.in_port f ≡ true → fields_agree f k ≡ true
unfolding surely_takes may_take
sure_covers DlDst v k f tells is =
    let parts = and_parts (agrees f.in_port k.in_port && takes_value DlDst v f) (has_no_other DlDst f) is in
    let may = and_parts (agrees f.in_port k.in_port) (takes_value DlDst v f) parts.0 in
    let any = others_any DlDst f parts.1 in
    let more = and_parts (is_none f.dl_type) (is_none f.nw_dst) any.1 in
    all_agree f k any.0 may.0 (sym tells.value ∙ may.1) (rw (has_none f.dl_type more.0) refl) (rw (has_none f.nw_dst more.1) refl)
sure_covers NwDst v k f tells is =
    let parts = and_parts (agrees f.in_port k.in_port && takes_value NwDst v f) (has_no_other NwDst f) is in
    let may = and_parts (agrees f.in_port k.in_port) (takes_value NwDst v f) parts.0 in
    let any = others_any NwDst f parts.1 in
    let both = and_parts (agrees_on_prefix f.nw_dst k.nw_dst) (agrees f.dl_type k.dl_type) (sym tells.value ∙ may.1) in
    all_agree f k any.0 may.0 (rw (has_none f.dl_dst any.1) refl) both.1 both.0

-- ---- the row that is taken is among those that are considered

abbrev pub may : GuardField → Option ℕ → ℕ → ViewRow → Bool
may field v port r = may_take field (Value v) port (fields_of_row r)

abbrev pub sure : GuardField → Option ℕ → ℕ → ViewRow → Bool
sure field v port r = surely_takes field (Value v) port (fields_of_row r)

abbrev pub AllTell : GuardField → Option ℕ → PacketKey → List ViewRow → Type 0
AllTell field v k rows = (r : ViewRow) → Contains rows r → Tells field v k (fields_of_row r)

found_kept : (test : ViewRow → Bool) (field : GuardField) (v : Option ℕ) (k : PacketKey) (rows : List ViewRow) (r : ViewRow) → AllTell field v k rows → find (λ x. is_covering x.key.matching k) rows ≡ Some r → test r ≡ true
    → list_any test (up_to (sure field v k.in_port) (filter (may field v k.in_port) rows)) ≡ true
found_kept test field v k [] r tell is passes = absurd cc
found_kept test field v k (x ∷ xs) r tell is passes =
    let tells = tell x (Contains-here x xs) in
    let rest = λ (y : ViewRow) (c : Contains xs y). tell y (Contains-behind y x xs c) in
    elim (cases_Bool (is_covering x.key.matching k)) [
      | inl covers ↦
          let here : x ≡ r = cc (rw covers at is) in
          rw (covers_may field v k (fields_of_row x) tells covers) (or_left (test x) _ (ap test here ∙ passes))
      | inr not_covers ↦
          let behind = found_kept test field v k xs r rest (rw not_covers at is) passes in
          let not_sure : sure field v k.in_port x ≡ false = false_from_ne_true _ (λ surely. absurd (cc (sure_covers field v k (fields_of_row x) tells surely, not_covers))) in
          elim (cases_Bool (may field v k.in_port x)) [
            | inl maybe ↦ rw (maybe, not_sure) (or_right (test x) _ behind)
            | inr not_maybe ↦ rw not_maybe behind
          ]
    ]

filtered : (test : ViewRow → Bool) (rows : List ViewRow) (r : ViewRow) → Contains (filter test rows) r → Contains rows r
filtered test [] r c = absurd (no_fewer r c)
filtered test (x ∷ xs) r c =
    elim (cases_Bool (test x)) [
      | inl is ↦ elim (Contains-cases r x (filter test xs) (rw is at c)) [
        | inl same ↦ subst (λ y. Contains (x ∷ xs) y) same (Contains-here x xs)
        | inr behind ↦ Contains-behind r x xs (filtered test xs r behind)
      ]
      | inr not_is ↦ Contains-behind r x xs (filtered test xs r (rw not_is at c))
    ]

pub ranked : (rows : List ViewRow) (r : ViewRow) → Contains (by_rank rows) r → Contains rows r
ranked rows r c = elim (Contains-append_cases (filter is_whole rows) (filter (λ x. not (is_whole x)) rows) r c) [
  | inl whole ↦ filtered is_whole rows r whole
  | inr other ↦ filtered (λ x. not (is_whole x)) rows r other
]

taken_by : (field : GuardField) (v : Option ℕ) (k : PacketKey) (p : Place) (h : Hop) (rows : List ViewRow) (o : Option ViewRow) → k.in_port ≡ p.1 → AllTell field v k rows → row_taken k rows ≡ o → taken_over p h o ≡ true
    → list_any (row_over p h) (considered field (Value v) k.in_port rows) ≡ true
unfolding row_taken considered
taken_by field v k p h rows None port tell is over = absurd cc
taken_by field v k p h rows (Some r) port tell is over = found_kept (row_over p h) field v k (by_rank rows) r (λ x c. tell x (ranked rows x c)) is over

-- ---- walks

-- each row of each table tells
abbrev pub TablesTell : GuardField → Option ℕ → PacketKey → List TableView → Type 0
TablesTell field v k tables = (t : TableView) → Contains tables t → AllTell field v k t.rows

pub any_wider_in : {A : Type 0} (f g : A → Bool) (xs : List A) → ((x : A) → Contains xs x → f x ≡ true → g x ≡ true) → list_any f xs ≡ true → list_any g xs ≡ true
any_wider_in f g [] wider is = is
any_wider_in f g (x ∷ xs) wider is =
    elim (or_cases (f x) (list_any f xs) is) [
      | inl here ↦ or_left (g x) (list_any g xs) (wider x (Contains-here x xs) here)
      | inr behind ↦ or_right (g x) (list_any g xs) (any_wider_in f g xs (λ y c. wider y (Contains-behind y x xs c)) behind)
    ]

-- the port counts for nothing in what the guarded field says
pub tells_at : (field : GuardField) (v : Option ℕ) (k : PacketKey) (port : ℕ) (f : Fields) → Tells field v k f → Tells field v (at_port port k) f
tells_at DlDst v k port f tells = record { value = tells.value }
tells_at NwDst v k port f tells = record { value = tells.value }

carried_over : (g : Guarded) (v : Option ℕ) (tables : List TableView) (k : PacketKey) (p : Place) (h : Hop) → TablesTell g.field v k tables → carries_over tables k p h ≡ true → leads_over g (Value v) tables p h ≡ true
unfolding carries_over leads_over
carried_over g v tables k p h tell is =
    let parts = and_parts (list_any (table_carries k p h) tables) (is_viewed h.to.0 tables) is in
    and_from (list_any (table_over g (Value v) p h) tables) (is_viewed h.to.0 tables)
    (any_wider_in (table_carries k p h) (table_over g (Value v) p h) tables
    (λ t c over.
    let both = and_parts (t.dpid == p.0) (taken_over p h (row_taken (at_port p.1 k) t.rows)) over in
    and_from (t.dpid == p.0) (list_any (row_over p h) (considered g.field (Value v) p.1 t.rows)) both.0
    (taken_by g.field v (at_port p.1 k) p h t.rows (row_taken (at_port p.1 k) t.rows) refl (λ r cr. tells_at g.field v k p.1 (fields_of_row r) (tell t c r cr)) refl both.1))
    parts.0)
    parts.1

carried_leads : (g : Guarded) (v : Option ℕ) (tables : List TableView) (k : PacketKey) (p q : Place) → TablesTell g.field v k tables → carries g.hops tables k p q ≡ true → leads g (Value v) tables p q ≡ true
unfolding carries leads
carried_leads g v tables k p q tell is =
    any_wider (λ h. is_same h.to q && carries_over tables k p h) (λ h. is_same h.to q && leads_over g (Value v) tables p h)
    (λ h both. let parts = and_parts (is_same h.to q) (carries_over tables k p h) both in and_from (is_same h.to q) (leads_over g (Value v) tables p h) parts.0 (carried_over g v tables k p h tell parts.1))
    g.hops is

carried_walk : (g : Guarded) (v : Option ℕ) (tables : List TableView) (k : PacketKey) (p : Place) (between : List Place) (q : Place) → TablesTell g.field v k tables → IsWalk (carries g.hops tables k) p between q → IsWalk (leads g (Value v) tables) p between q
carried_walk g v tables k p [] q tell walk = carried_leads g v tables k p q tell walk
carried_walk g v tables k p (m ∷ between) q tell walk = (carried_leads g v tables k p m tell walk.0, carried_walk g v tables k m between q tell walk.1)

-- ---- the value that stands for a packet

pub is_in : ℕ → List ℕ → Bool
is_in a xs = list_any (λ x. x == a) xs

pub in_member : (a : ℕ) (xs : List ℕ) → is_in a xs ≡ true → Contains xs a
unfolding is_in
in_member a [] is = absurd cc
in_member a (x ∷ xs) is = elim (or_cases (x == a) (list_any (λ y. y == a) xs) is) [
  | inl here ↦ subst (λ n. Contains (x ∷ xs) n) (eqb-true x a here) (Contains-here x xs)
  | inr behind ↦ Contains-behind a x xs (in_member a xs behind)
]

pub member_in : (a : ℕ) (xs : List ℕ) → Contains xs a → is_in a xs ≡ true
unfolding is_in
member_in a [] c = absurd (no_fewer a c)
member_in a (x ∷ xs) c = elim (Contains-cases a x xs c) [
  | inl same ↦ or_left (x == a) (list_any (λ y. y == a) xs) (eq-eqb x a same)
  | inr behind ↦ or_right (x == a) (list_any (λ y. y == a) xs) (member_in a xs behind)
]

piece_member : {A : Type 0} (f : A → List ℕ) (xs : List A) (x : A) (a : ℕ) → Contains xs x → Contains (f x) a → Contains (flat_map f xs) a
piece_member f [] x a c d = absurd (no_fewer x c)
piece_member f (y ∷ ys) x a c d = elim (Contains-cases x y ys c) [
  | inl same ↦ Contains-append_left (f y) (flat_map f ys) a (subst (λ z. Contains (f z) a) (sym same) d)
  | inr behind ↦ Contains-append_right (f y) (flat_map f ys) a (piece_member f ys x a behind d)
]

named_member : (field : GuardField) (tables : List TableView) (t : TableView) (r : ViewRow) (a : ℕ) → Contains tables t → Contains t.rows r → Contains (named_by field (fields_of_row r)) a → Contains (named_in field tables) a
named_member field tables t r a ct cr ca = piece_member (λ (x : TableView). named_in_rows field x.rows) tables t a ct (piece_member (λ (x : ViewRow). named_by field (fields_of_row x)) t.rows r a cr ca)

-- an Ethernet destination that is named
tells_named : (o : Option (List ℕ)) (a : List ℕ) → IfSome o IsAddress → IsAddress a → agrees (option_map number o) (number a) ≡ address_agrees o a
tells_named None a is_o is_a = refl
tells_named (Some w) a is_o is_a =
    elim (cases_Bool (bytes_eq a w)) [
      | inl same ↦ let e : a ≡ w = (bytes_eq-Decides a w).0 same in eq-eqb (number a) (number w) (ap number e) ∙ sym same
      | inr other ↦ ne_eqb (number a) (number w) (λ e. absurd (cc ((bytes_eq-Decides a w).1 (address_one a w is_a is_o e), other))) ∙ sym other
    ]

-- one that is not
tells_unnamed : (o : Option (List ℕ)) (a : List ℕ) → (Contains (address_named o) (number a) → ⊥) → is_none o ≡ address_agrees o a
tells_unnamed None a none = refl
tells_unnamed (Some w) a none = sym (false_from_ne_true _ (λ same. none (0, omega arith, sym (ap number ((bytes_eq-Decides a w).0 same)))))

named_address : (f : Fields) (a : ℕ) → Contains (address_named f.dl_dst) a → Contains (named_by DlDst f) a
unfolding named_by
named_address f a c = c

pub dl_tells : (tables : List TableView) (k : PacketKey) → IsPacketKey k → (b : Bool) → is_in (number k.dl_dst) (named_in DlDst tables) ≡ b → TablesTell DlDst (cond b (Some (number k.dl_dst)) None) k tables
unfolding takes_value
dl_tells tables k is true among t ct r cr = record { value = tells_named (fields_of_row r).dl_dst k.dl_dst (fields_in-within r.key.matching).dl_dst is.dl_dst }
dl_tells tables k is false among t ct r cr = record {
  value = tells_unnamed (fields_of_row r).dl_dst k.dl_dst (λ c. absurd (cc (member_in (number k.dl_dst) (named_in DlDst tables) (named_member DlDst tables t r (number k.dl_dst) ct cr (named_address (fields_of_row r) (number k.dl_dst) c)), among)));
}

-- ---- an IPv4 destination: the greatest number among the values that is not above it

-- addresses of a prefix are those from its first one to its last one
in_prefix : (p : ℕ × ℕ) (x : ℕ) → IsPrefix p → p.0 ≤ x → x < p.0 + 2 ^ (32 - p.1) → agrees_on_prefix (Some p) x ≡ true
in_prefix p x is low high =
    let clear = clear_is p is in
    let rest : x - p.0 < 2 ^ (32 - p.1) = omega arith in
    let whole : x ≡ p.0 / 2 ^ (32 - p.1) * 2 ^ (32 - p.1) + (x - p.0) = omega (arith, clear) in
    eq-eqb (x / 2 ^ (32 - p.1)) (p.0 / 2 ^ (32 - p.1)) (ap (λ n. n / 2 ^ (32 - p.1)) whole ∙ shr_high (p.0 / 2 ^ (32 - p.1)) (32 - p.1) (x - p.0) rest)

out_of_prefix : (p : ℕ × ℕ) (x : ℕ) → IsPrefix p → (x < p.0) ⊎ (p.0 + 2 ^ (32 - p.1) ≤ x) → agrees_on_prefix (Some p) x ≡ false
out_of_prefix p x is outside =
    ne_eqb (x / 2 ^ (32 - p.1)) (p.0 / 2 ^ (32 - p.1)) (λ same.
    let clear = clear_is p is in
    let split = shr_split x (32 - p.1) in
    let begin = ap (λ n. n * 2 ^ (32 - p.1)) same in
    let some : 0 < 2 ^ (32 - p.1) = pow_mono {i = 0} {j = 32 - p.1} (omega arith) in
    let rest : x % 2 ^ (32 - p.1) < 2 ^ (32 - p.1) = mod-lt x some in
    elim outside [ inl low ↦ omega (arith, clear, split, begin) | inr high ↦ omega (arith, clear, split, begin, rest) ])

after_member : (p : ℕ × ℕ) → p.0 + 2 ^ (32 - p.1) < 2 ^ 32 → Contains (prefix_named (Some p)) (p.0 + 2 ^ (32 - p.1))
after_member p lt =
    let end = p.0 + 2 ^ (32 - p.1) in
    Contains-behind end p.0 (after_prefix end) (subst (λ b. Contains (cond b (end ∷ []) []) end) (sym (lt-ltb end (2 ^ 32) lt)) (Contains-here end []))

tells_prefix : (o : Option (ℕ × ℕ)) (x v : ℕ) → IfSome o IsPrefix → x < 2 ^ 32 → v ≤ x → ((a : ℕ) → Contains (prefix_named o) a → a ≤ x → a ≤ v) → agrees_on_prefix o v ≡ agrees_on_prefix o x
tells_prefix None x v is within le most = refl
tells_prefix (Some p) x v is within le most =
    elim (cases_lt x p.0) [
      | inl before ↦ out_of_prefix p v is (inl (omega arith)) ∙ sym (out_of_prefix p x is (inl before))
      | inr past ↦
          let low = most p.0 (Contains-here p.0 (after_prefix (p.0 + 2 ^ (32 - p.1)))) past in
          elim (cases_lt x (p.0 + 2 ^ (32 - p.1))) [
            | inl inside ↦ in_prefix p v is low (omega arith) ∙ sym (in_prefix p x is past inside)
            | inr behind ↦
                let end = most (p.0 + 2 ^ (32 - p.1)) (after_member p (omega arith)) behind in
                out_of_prefix p v is (inr end) ∙ sym (out_of_prefix p x is (inr behind))
          ]
    ]

named_prefix : (f : Fields) (a : ℕ) → Contains (prefix_named f.nw_dst) a → Contains (named_by NwDst f) a
unfolding named_by
named_prefix f a c = c

nw_tells : (tables : List TableView) (k : PacketKey) (v : ℕ) → IsPacketKey k → k.dl_type ≡ 2048 → IsFloor k.nw_dst (numbers_in NwDst tables) v → TablesTell NwDst (Some v) k tables
unfolding takes_value
nw_tells tables k v is kind floor_is t ct r cr = record {
  value =
      let f = fields_of_row r in
      ap (λ b. b && agrees f.dl_type 2048)
      (tells_prefix f.nw_dst k.nw_dst v (fields_in-within r.key.matching).nw_dst is.nw_dst floor_is.below
      (λ a c le. floor_is.greatest a (Contains-behind a 0 (named_in NwDst tables) (named_member NwDst tables t r a ct cr (named_prefix f a c))) le))
      ∙ ap (λ n. agrees_on_prefix f.nw_dst k.nw_dst && agrees f.dl_type n) (sym kind);
}

-- ---- the whole

back_by : (g : Guarded) (tables : List TableView) (v : Option ℕ) → IsFree g tables → Contains (values_in g.field tables) v → (k : PacketKey) → TablesTell g.field v k tables → (p : Place) (between : List Place) → IsWalk (carries g.hops tables k) p between p → ⊥
back_by g tables v free among k tell p between walk = free.loops v among p (between, carried_walk g v tables k p between p tell walk)

comes_back : (field : GuardField) (hops : List Hop) (tables : List TableView) → IsFree (record { field = field; hops = hops }) tables → ComesBackNowhere (record { field = field; hops = hops }) tables
comes_back DlDst hops tables free k is p between walk =
    let g : Guarded = record { field = DlDst; hops = hops } in
    elim (cases_Bool (is_in (number k.dl_dst) (named_in DlDst tables))) [
      | inl named ↦
          back_by g tables (Some (number k.dl_dst)) free (number-value DlDst tables (number k.dl_dst) (in_member (number k.dl_dst) (named_in DlDst tables) named)) k (dl_tells tables k is true named) p between walk
      | inr unnamed ↦ back_by g tables None free (any_value tables) k (dl_tells tables k is false unnamed) p between walk
    ]
comes_back NwDst hops tables free k is p between walk =
    let g : Guarded = record { field = NwDst; hops = hops } in
    let least = floor k.nw_dst (named_in NwDst tables) in
    back_by g tables (Some least.0) free (number-value NwDst tables least.0 least.1.among) k (nw_tells tables k least.0 is.0 is.1 least.1) p between walk

-- in free tables no packet comes back to a place where it was
pub free-comes_back : (g : Guarded) (tables : List TableView) → IsFree g tables → ComesBackNowhere g tables
free-comes_back g tables free = comes_back g.field g.hops tables free
