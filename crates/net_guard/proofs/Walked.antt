-- Where rows name no other field, what a value leads to is where a packet goes.
use Rattle.std.proofs.Common.{◌≡◌, ◌==◌, ℕ, zero, suc, ◌*◌, ◌/◌, ◌%◌, ◌^◌, ◌<◌, ◌≤◌, true, false, ◌&&◌, cond, List, [], ◌∷◌, length, filter, Option, Some, None, refl, sym, ap, subst, arith, inl, inr}
use Rattle.std.specs.Prelude.{find, IfSome, slice_index}
use Rattle.std.specs.List.{list_any, Contains, flat_map}
use Rattle.std.proofs.lemmas.Bool.{or_cases, and_parts, and_from, cases_Bool, false_from_ne_true, eqb-true, eq-eqb}
use Rattle.std.proofs.lemmas.List.Elements.{Contains-append_left, Contains-append_right, Contains-append_cases}
use Rattle.std.proofs.lemmas.List.{length-append}
use Rattle.std.proofs.Math.Nat.{mod-lt, div-add-mod', div-lt_iff_lt-mul, pow-suc}
use Rattle.guard_rule.specs.declared.GuardField.{GuardField}
use Rattle.guard_rule.specs.declared.GuardField.TheVariants.{DlDst, NwDst}
use Rattle.of_match.specs.Covers.{is_covering}
use Rattle.of_match.specs.Fields.{IsAddress}
use Rattle.of_match.specs.Key.{number}
use Rattle.of_match.specs.PacketKey.{IsPacketKey}
use Rattle.of_match.specs.declared.fields.Fields.{Fields}
use Rattle.of_match.specs.declared.packet_key.PacketKey.{PacketKey}
use Rattle.of_match.specs.laws.MatchLaws.{fields_in-within}
use Rattle.flow_table.specs.declared.view.ViewRow.{ViewRow}
use Rattle.flow_table.specs.View.{TableView}
use Rattle.net_guard.specs.declared.hop.Hop.{Hop}
use Rattle.net_guard.specs.declared.scope.Scope.TheVariants.{Value}
use Rattle.net_guard.specs.Links.{Place, Guarded, is_same}
use Rattle.net_guard.specs.Taking.{fields_of_row, takes_value, surely_takes, has_no_other, by_rank, up_to, considered}
use Rattle.net_guard.specs.Leading.{leads, leads_over, table_over, row_over, is_viewed}
use Rattle.net_guard.specs.Walks.{IsWalk}
use Rattle.net_guard.specs.Values.{values_in, numbers_in, named_in, named_in_rows, named_by, address_named}
use Rattle.net_guard.specs.Loops.{IsOnLoop}
use Rattle.net_guard.specs.Carrying.{at_port, row_taken, taken_over, table_carries, carries_over, carries, IsGuarded, rows_of_all, NameNoOther, ComesBackTo}
use Rattle.net_guard.proofs.Numbers.{Contains-behind, Contains-here, Contains-cases, no_fewer, networks-below}
use Rattle.net_guard.proofs.Searching.{any_wider, value-number}
use Rattle.net_guard.proofs.Carried.{covers_may, sure_covers, may, sure, AllTell, ranked, any_wider_in, TablesTell, tells_at, is_in, in_member, member_in, dl_tells}

-- ---- the first row that may be taken is the one that is

abbrev NoneOther : GuardField → List ViewRow → Type 0
NoneOther field rows = (r : ViewRow) → Contains rows r → has_no_other field (fields_of_row r) ≡ true

surely : (field : GuardField) (v : Option ℕ) (port : ℕ) (r : ViewRow) → may field v port r ≡ true → has_no_other field (fields_of_row r) ≡ true → sure field v port r ≡ true
unfolding surely_takes
surely field v port r maybe only = and_from (may field v port r) (has_no_other field (fields_of_row r)) maybe only

kept_found : (p : Place) (h : Hop) (field : GuardField) (v : Option ℕ) (k : PacketKey) (rows : List ViewRow) → AllTell field v k rows → NoneOther field rows
    → list_any (row_over p h) (up_to (sure field v k.in_port) (filter (may field v k.in_port) rows)) ≡ true → taken_over p h (find (λ x. is_covering x.key.matching k) rows) ≡ true
kept_found p h field v k [] tell only is = absurd cc
kept_found p h field v k (x ∷ xs) tell only is =
    let tells = tell x (Contains-here x xs) in
    elim (cases_Bool (may field v k.in_port x)) [
      | inl maybe ↦
          let certain = surely field v k.in_port x maybe (only x (Contains-here x xs)) in
          let covers : is_covering x.key.matching k ≡ true = sure_covers field v k (fields_of_row x) tells certain in
          elim (or_cases (row_over p h x) false (rw (maybe, certain) at is)) [ inl over ↦ rw covers over | inr none ↦ absurd cc ]
      | inr not_maybe ↦
          let behind = kept_found p h field v k xs (λ y c. tell y (Contains-behind y x xs c)) (λ y c. only y (Contains-behind y x xs c)) (rw not_maybe at is) in
          let not_covers : is_covering x.key.matching k ≡ false = false_from_ne_true _ (λ covers. absurd (cc (covers_may field v k (fields_of_row x) tells covers, not_maybe))) in
          rw not_covers behind
    ]

led_row : (p : Place) (h : Hop) (field : GuardField) (v : Option ℕ) (k : PacketKey) (rows : List ViewRow) → AllTell field v k rows → NoneOther field rows
    → list_any (row_over p h) (considered field (Value v) k.in_port rows) ≡ true → taken_over p h (row_taken k rows) ≡ true
unfolding considered row_taken
led_row p h field v k rows tell only is = kept_found p h field v k (by_rank rows) (λ r c. tell r (ranked rows r c)) (λ r c. only r (ranked rows r c)) is

-- ---- walks

row_of_all : (tables : List TableView) (t : TableView) (r : ViewRow) → Contains tables t → Contains t.rows r → Contains (rows_of_all tables) r
row_of_all [] t r ct cr = absurd (no_fewer t ct)
row_of_all (x ∷ xs) t r ct cr = elim (Contains-cases t x xs ct) [
  | inl same ↦ Contains-append_left x.rows (rows_of_all xs) r (subst (λ (y : TableView). Contains y.rows r) (sym same) cr)
  | inr behind ↦ Contains-append_right x.rows (rows_of_all xs) r (row_of_all xs t r behind cr)
]

led_over : (g : Guarded) (v : Option ℕ) (tables : List TableView) (k : PacketKey) (p : Place) (h : Hop) → TablesTell g.field v k tables → NameNoOther g.field tables → leads_over g (Value v) tables p h ≡ true → carries_over tables k p h ≡ true
unfolding carries_over leads_over
led_over g v tables k p h tell only is =
    let parts = and_parts (list_any (table_over g (Value v) p h) tables) (is_viewed h.to.0 tables) is in
    and_from (list_any (table_carries k p h) tables) (is_viewed h.to.0 tables)
    (any_wider_in (table_over g (Value v) p h) (table_carries k p h) tables
    (λ t c over.
    let both = and_parts (t.dpid == p.0) (list_any (row_over p h) (considered g.field (Value v) p.1 t.rows)) over in
    and_from (t.dpid == p.0) (taken_over p h (row_taken (at_port p.1 k) t.rows)) both.0
    (led_row p h g.field v (at_port p.1 k) t.rows (λ r cr. tells_at g.field v k p.1 (fields_of_row r) (tell t c r cr)) (λ r cr. only r (row_of_all tables t r c cr)) both.1))
    parts.0)
    parts.1

led_carried : (g : Guarded) (v : Option ℕ) (tables : List TableView) (k : PacketKey) (p q : Place) → TablesTell g.field v k tables → NameNoOther g.field tables → leads g (Value v) tables p q ≡ true → carries g.hops tables k p q ≡ true
unfolding carries leads
led_carried g v tables k p q tell only is =
    any_wider (λ h. is_same h.to q && leads_over g (Value v) tables p h) (λ h. is_same h.to q && carries_over tables k p h)
    (λ h both. let parts = and_parts (is_same h.to q) (leads_over g (Value v) tables p h) both in and_from (is_same h.to q) (carries_over tables k p h) parts.0 (led_over g v tables k p h tell only parts.1))
    g.hops is

led_walk : (g : Guarded) (v : Option ℕ) (tables : List TableView) (k : PacketKey) (p : Place) (between : List Place) (q : Place) → TablesTell g.field v k tables → NameNoOther g.field tables → IsWalk (leads g (Value v) tables) p between q
    → IsWalk (carries g.hops tables k) p between q
led_walk g v tables k p [] q tell only walk = led_carried g v tables k p q tell only walk
led_walk g v tables k p (m ∷ between) q tell only walk = (led_carried g v tables k p m tell only walk.0, led_walk g v tables k m between q tell only walk.1)

-- ---- packets

zeros_are : (i : ℕ) → slice_index (0 ∷ 0 ∷ 0 ∷ 0 ∷ 0 ∷ 0 ∷ []) i < 256
zeros_are zero = omega arith
zeros_are (suc zero) = omega arith
zeros_are (suc (suc zero)) = omega arith
zeros_are (suc (suc (suc zero))) = omega arith
zeros_are (suc (suc (suc (suc zero)))) = omega arith
zeros_are (suc (suc (suc (suc (suc zero))))) = omega arith
zeros_are (suc (suc (suc (suc (suc (suc i)))))) = omega arith

-- the packet to an Ethernet and an IPv4 destination, of a frame's type
abbrev packet_to : List ℕ → ℕ → ℕ → PacketKey
packet_to address kind network = record {
  in_port = 0;
  dl_src = 0 ∷ 0 ∷ 0 ∷ 0 ∷ 0 ∷ 0 ∷ [];
  dl_dst = address;
  dl_vlan = 0xffff;
  dl_vlan_pcp = 0;
  dl_type = kind;
  nw_tos = 0;
  nw_proto = 0;
  nw_src = 0;
  nw_dst = network;
  tp_src = 0;
  tp_dst = 0;
}

packet_is : (address : List ℕ) (kind network : ℕ) → IsAddress address → kind < 2 ^ 16 → network < 2 ^ 32 → IsPacketKey (packet_to address kind network)
packet_is address kind network is_address is_kind is_network = record {
  in_port = omega arith;
  dl_src = record { len = refl; bytes = zeros_are };
  dl_dst = is_address;
  dl_vlan = omega arith;
  dl_vlan_pcp = omega arith;
  dl_type = is_kind;
  nw_tos = omega arith;
  nw_proto = omega arith;
  nw_src = omega arith;
  nw_dst = is_network;
  tp_src = omega arith;
  tp_dst = omega arith;
}

-- ---- an address that is named

piece_of : {A : Type 0} (f : A → List ℕ) (xs : List A) (a : ℕ) → Contains (flat_map f xs) a → (x : A) × (Contains xs x × Contains (f x) a)
piece_of f [] a c = absurd (no_fewer a c)
piece_of f (x ∷ xs) a c = elim (Contains-append_cases (f x) (flat_map f xs) a c) [
  | inl here ↦ (x, (Contains-here x xs, here))
  | inr behind ↦ let rest = piece_of f xs a behind in (rest.0, (Contains-behind rest.0 x xs rest.1.0, rest.1.1))
]

named_by_address : (f : Fields) (a : ℕ) → Contains (named_by DlDst f) a → Contains (address_named f.dl_dst) a
unfolding named_by
named_by_address f a c = c

address_of : (o : Option (List ℕ)) (a : ℕ) → IfSome o IsAddress → Contains (address_named o) a → (w : List ℕ) × (IsAddress w × (number w ≡ a))
address_of None a is c = absurd (no_fewer a c)
address_of (Some w) a is c = elim (Contains-cases a (number w) [] c) [ inl same ↦ (w, (is, same)) | inr none ↦ absurd (no_fewer a none) ]

named_address : (tables : List TableView) (a : ℕ) → Contains (named_in DlDst tables) a → (w : List ℕ) × (IsAddress w × (number w ≡ a))
named_address tables a c =
    let table = piece_of (λ (t : TableView). named_in_rows DlDst t.rows) tables a c in
    let row = piece_of (λ (r : ViewRow). named_by DlDst (fields_of_row r)) table.0.rows a table.1.1 in
    let f = fields_of_row row.0 in
    address_of f.dl_dst a (fields_in-within row.0.key.matching).dl_dst (named_by_address f a row.1.1)

-- ---- an address that no row names

without : ℕ → List ℕ → List ℕ
without n [] = []
without n (x ∷ xs) = cond (x == n) (without n xs) (x ∷ without n xs)

fewer : (n : ℕ) (xs : List ℕ) → length (without n xs) ≤ length xs
unfolding without
fewer n [] = omega arith
fewer n (x ∷ xs) = elim (cases_Bool (x == n)) [
  | inl same ↦ rw same (omega (arith, fewer n xs))
  | inr other ↦ rw other (omega (arith, fewer n xs))
]

shorter : (n : ℕ) (xs : List ℕ) → Contains xs n → length (without n xs) < length xs
unfolding without
shorter n [] c = absurd (no_fewer n c)
shorter n (x ∷ xs) c = elim (cases_Bool (x == n)) [
  | inl same ↦ rw same (omega (arith, fewer n xs))
  | inr other ↦ elim (Contains-cases n x xs c) [
    | inl here ↦ absurd (cc (eq-eqb x n here, other))
    | inr behind ↦ rw other (omega (arith, shorter n xs behind))
  ]
]

still_there : (n m : ℕ) (xs : List ℕ) → m < n → Contains xs m → Contains (without n xs) m
unfolding without
still_there n m [] less c = absurd (no_fewer m c)
still_there n m (x ∷ xs) less c = elim (cases_Bool (x == n)) [
  | inl same ↦ elim (Contains-cases m x xs c) [
    | inl here ↦ absurd (omega (arith, less, here, eqb-true x n same))
    | inr behind ↦ rw same (still_there n m xs less behind)
  ]
  | inr other ↦ elim (Contains-cases m x xs c) [
    | inl here ↦ rw other (subst (λ y. Contains (x ∷ without n xs) y) here (Contains-here x (without n xs)))
    | inr behind ↦ rw other (Contains-behind m x (without n xs) (still_there n m xs less behind))
  ]
]

-- of more numbers than a list has one is not in it
unnamed : (n : ℕ) (xs : List ℕ) → length xs < n → (m : ℕ) × ((m < n) × (Contains xs m → ⊥))
unnamed zero xs less = absurd (omega (arith, less))
unnamed (suc n) xs less = elim (cases_Bool (is_in n xs)) [
  | inl among ↦
      let rest = unnamed n (without n xs) (omega (arith, less, shorter n xs (in_member n xs among))) in
      (rest.0, (omega (arith, rest.1.0), λ c. rest.1.1 (still_there n rest.0 xs rest.1.0 c)))
  | inr none ↦ (n, (omega arith, λ c. absurd (cc (member_in n xs c, none))))
]

-- the bytes of a number
digits : ℕ → ℕ → List ℕ
digits zero m = []
digits (suc k) m = m / 256 ^ k ∷ digits k (m % 256 ^ k)

some_power : (k : ℕ) → 0 < 256 ^ k
some_power zero = omega arith
some_power (suc k) = rw (pow-suc 256 k) (omega (arith, some_power k))

byte_power : (k m : ℕ) → m < 256 ^ suc k → m < 256 * 256 ^ k
byte_power k m less = omega (arith, less, pow-suc 256 k)

length_digits : (k m : ℕ) → length (digits k m) ≡ k
unfolding digits
length_digits zero m = refl
length_digits (suc k) m = ap suc (length_digits k (m % 256 ^ k))

number_digits : (k m : ℕ) → m < 256 ^ k → number (digits k m) ≡ m
unfolding digits number
number_digits zero m less = omega (arith, less)
number_digits (suc k) m less =
    rw (length_digits k (m % 256 ^ k), number_digits k (m % 256 ^ k) (mod-lt m (some_power k))) (div-add-mod' m (256 ^ k))

digits_are : (k m : ℕ) → m < 256 ^ k → (i : ℕ) → slice_index (digits k m) i < 256
unfolding digits
digits_are zero m less i = omega arith
digits_are (suc k) m less zero = (div-lt_iff_lt-mul (some_power k)).1 (byte_power k m less)
digits_are (suc k) m less (suc i) = digits_are k (m % 256 ^ k) (mod-lt m (some_power k)) i

address_numbered : (m : ℕ) → m < 2 ^ 48 → (w : List ℕ) × (IsAddress w × (number w ≡ m))
address_numbered m less =
    let within : m < 256 ^ 6 = less in
    (digits 6 m, (record { len = length_digits 6 m; bytes = digits_are 6 m within }, number_digits 6 m within))

-- a row names one address at most
one_at_most : (o : Option (List ℕ)) → length (address_named o) ≤ 1
one_at_most None = omega arith
one_at_most (Some a) = omega arith

names_one : (f : Fields) → length (named_by DlDst f) ≤ 1
unfolding named_by
names_one f = one_at_most f.dl_dst

few_in_rows : (rows : List ViewRow) → length (named_in_rows DlDst rows) ≤ length rows
few_in_rows [] = omega arith
few_in_rows (r ∷ rows) = omega (arith, length-append (named_by DlDst (fields_of_row r)) (named_in_rows DlDst rows), names_one (fields_of_row r), few_in_rows rows)

few_named : (tables : List TableView) → length (named_in DlDst tables) ≤ length (rows_of_all tables)
few_named [] = omega arith
few_named (t ∷ tables) =
    omega (arith, length-append (named_in_rows DlDst t.rows) (named_in DlDst tables), length-append t.rows (rows_of_all tables), few_in_rows t.rows, few_named tables)

-- ---- the whole

-- a packet of each value
pub record IsPacketOf (field : GuardField) (tables : List TableView) (v : Option ℕ) (k : PacketKey) : Type 0 where
  pub guarded : IsGuarded field k
  pub tell : TablesTell field v k tables

to_named : (tables : List TableView) (a : ℕ) → Contains (named_in DlDst tables) a → (k : PacketKey) × IsPacketOf DlDst tables (Some a) k
to_named tables a c =
    let found = named_address tables a c in
    let k = packet_to found.0 0 0 in
    let is = packet_is found.0 0 0 found.1.0 (omega arith) (omega arith) in
    let among : is_in (number found.0) (named_in DlDst tables) ≡ true = member_in (number found.0) (named_in DlDst tables) (subst (λ n. Contains (named_in DlDst tables) n) (sym found.1.1) c) in (
      k,
      record { guarded = is; tell = subst (λ (n : ℕ). TablesTell DlDst (Some n) k tables) found.1.1 (dl_tells tables k is true among) },
    )

to_unnamed : (tables : List TableView) → length (rows_of_all tables) < 2 ^ 48 → (k : PacketKey) × IsPacketOf DlDst tables None k
to_unnamed tables few =
    let free = unnamed (2 ^ 48) (named_in DlDst tables) (omega (arith, few, few_named tables)) in
    let found = address_numbered free.0 free.1.0 in
    let k = packet_to found.0 0 0 in
    let is = packet_is found.0 0 0 found.1.0 (omega arith) (omega arith) in
    let apart : is_in (number found.0) (named_in DlDst tables) ≡ false = false_from_ne_true _ (λ among. free.1.1 (subst (λ n. Contains (named_in DlDst tables) n) found.1.1 (in_member (number found.0) (named_in DlDst tables) among))) in
    (k, record { guarded = is; tell = dl_tells tables k is false apart })

to_network : (tables : List TableView) (a : ℕ) → Contains (numbers_in NwDst tables) a → (k : PacketKey) × IsPacketOf NwDst tables (Some a) k
unfolding takes_value
to_network tables a c =
    let k = packet_to (0 ∷ 0 ∷ 0 ∷ 0 ∷ 0 ∷ 0 ∷ []) 2048 a in
    (k, record { guarded = (packet_is (0 ∷ 0 ∷ 0 ∷ 0 ∷ 0 ∷ 0 ∷ []) 2048 a (record { len = refl; bytes = zeros_are }) (omega arith) (networks-below tables a c), refl); tell = λ t ct r cr. record { value = refl } })

packet_of : (field : GuardField) (tables : List TableView) (v : Option ℕ) → length (rows_of_all tables) < 2 ^ 48 → Contains (values_in field tables) v → (k : PacketKey) × IsPacketOf field tables v k
packet_of field tables v few c = elim (value-number field tables v c) [
  | inl some ↦ of_number field tables some.0 some.1.0 v some.1.1
  | inr other ↦ subst (λ (f : GuardField). (k : PacketKey) × IsPacketOf f tables v k) (sym other.0) (subst (λ (o : Option ℕ). (k : PacketKey) × IsPacketOf DlDst tables o k) (sym other.1) (to_unnamed tables few))
]
  where
    of_number : (field : GuardField) (tables : List TableView) (a : ℕ) → Contains (numbers_in field tables) a → (v : Option ℕ) → v ≡ Some a → (k : PacketKey) × IsPacketOf field tables v k
    of_number DlDst tables a c v is = subst (λ (o : Option ℕ). (k : PacketKey) × IsPacketOf DlDst tables o k) (sym is) (to_named tables a c)
    of_number NwDst tables a c v is = subst (λ (o : Option ℕ). (k : PacketKey) × IsPacketOf NwDst tables o k) (sym is) (to_network tables a c)

-- a place on a loop is one that some packet comes back to
pub loop_walked : (g : Guarded) (tables : List TableView) (v : Option ℕ) (p : Place) → length (rows_of_all tables) < 2 ^ 48 → NameNoOther g.field tables → Contains (values_in g.field tables) v → IsOnLoop g (Value v) tables p → ComesBackTo g tables p
loop_walked g tables v p few only c loop =
    let packet = packet_of g.field tables v few c in
    (packet.0, packet.1.guarded, (loop.0, led_walk g v tables packet.0 p loop.0 p packet.1.tell only loop.1))
