-- What a search of loops finds: by all rows, and value by value.
use Rattle.std.proofs.Common.{◌≡◌, ◌==◌, ◌⊎◌, ℕ, ◌+◌, ◌^◌, ◌<◌, ◌≤◌, Bool, true, false, not, ◌&&◌, List, [], ◌∷◌, map, Option, Some, None, refl, sym, ap, ◌∙◌, subst, arith, inl, inr}
use Rattle.std.specs.List.{list_any, Contains}
use Rattle.std.specs.Option.{is_none}
use Rattle.std.proofs.lemmas.Bool.{or_cases, and_parts, and_from, or_left, or_right, and_right, not-true, false_from_ne_true, cases_lt}
use Rattle.std.proofs.lemmas.List.Elements.{Contains-append_left, Contains-append_right, Contains-append_cases}
use Rattle.guard_rule.specs.declared.GuardField.{GuardField}
use Rattle.guard_rule.specs.declared.GuardField.TheVariants.{DlDst, NwDst}
use Rattle.flow_table.specs.View.{TableView}
use Rattle.net_guard.specs.declared.found.Found.{Found}
use Rattle.net_guard.specs.declared.found.Found.TheVariants.{Edit, Loop}
use Rattle.net_guard.specs.declared.hop.Hop.{Hop}
use Rattle.net_guard.specs.declared.scope.Scope.{Scope}
use Rattle.net_guard.specs.declared.scope.Scope.TheVariants.{Every, Value}
use Rattle.net_guard.specs.Links.{Place, Guarded, is_same}
use Rattle.net_guard.specs.Taking.{considered}
use Rattle.net_guard.specs.Leading.{leads, leads_over, table_over, row_over, is_viewed}
use Rattle.net_guard.specs.Walks.{IsWalk}
use Rattle.net_guard.specs.Loops.{IsOnLoop, IsLeastLoop, has_loop}
use Rattle.net_guard.specs.Values.{values_in, numbers_in, IsLower, least_from}
use Rattle.net_guard.specs.Found.{HasNoLoop, IsFirstLoop, IsFree, IsFirstFound, IsLoopFound, IsFoundFor, first_edit, is_free}
use Rattle.net_guard.specs.laws.LeadingLaws.{has_loop-from, has_loop-at}
use Rattle.net_guard.proofs.Considering.{considered-every}
use Rattle.net_guard.proofs.Numbers.{Contains-behind, Contains-here, Contains-cases, no_fewer, least_from-none, least_from-some, numbers-below}

-- ---- all rows

pub any_wider : {A : Type 0} (f g : A → Bool) → ((x : A) → f x ≡ true → g x ≡ true) → (xs : List A) → list_any f xs ≡ true → list_any g xs ≡ true
any_wider f g wider [] is = is
any_wider f g wider (x ∷ xs) is =
    elim (or_cases (f x) (list_any f xs) is) [
      | inl here ↦ or_left (g x) (list_any g xs) (wider x here)
      | inr behind ↦ or_right (g x) (list_any g xs) (any_wider f g wider xs behind)
    ]

over_every : (g : Guarded) (scope : Scope) (tables : List TableView) (p : Place) (h : Hop) → leads_over g scope tables p h ≡ true → leads_over g Every tables p h ≡ true
unfolding leads_over
over_every g scope tables p h is =
    let parts = and_parts (list_any (table_over g scope p h) tables) (is_viewed h.to.0 tables) is in
    and_from (list_any (table_over g Every p h) tables) (is_viewed h.to.0 tables)
    (any_wider (table_over g scope p h) (table_over g Every p h)
    (λ t over.
    let both = and_parts (t.dpid == p.0) (list_any (row_over p h) (considered g.field scope p.1 t.rows)) over in
    and_from (t.dpid == p.0) (list_any (row_over p h) (considered g.field Every p.1 t.rows)) both.0 (considered-every (row_over p h) g.field scope p.1 t.rows both.1))
    tables parts.0)
    parts.1

leads_every : (g : Guarded) (scope : Scope) (tables : List TableView) (p q : Place) → leads g scope tables p q ≡ true → leads g Every tables p q ≡ true
unfolding leads
leads_every g scope tables p q is =
    any_wider (λ h. is_same h.to q && leads_over g scope tables p h) (λ h. is_same h.to q && leads_over g Every tables p h)
    (λ h both. let parts = and_parts (is_same h.to q) (leads_over g scope tables p h) both in and_from (is_same h.to q) (leads_over g Every tables p h) parts.0 (over_every g scope tables p h parts.1))
    g.hops is

walk_every : (g : Guarded) (scope : Scope) (tables : List TableView) (p : Place) (between : List Place) (q : Place) → IsWalk (leads g scope tables) p between q → IsWalk (leads g Every tables) p between q
walk_every g scope tables p [] q walk = leads_every g scope tables p q walk
walk_every g scope tables p (m ∷ between) q walk = (leads_every g scope tables p m walk.0, walk_every g scope tables m between q walk.1)

-- where no place leads to itself by all rows, none does for a value
pub none_by_all : (g : Guarded) (tables : List TableView) → IsLeastLoop g Every tables None → IsLoopFound g tables None
none_by_all g tables none = λ v among p loop. none p (loop.0, walk_every g (Value v) tables p loop.0 p loop.1)

-- ---- value by value

-- no place leads to itself for a number below the bound
abbrev pub FreeBelow : Guarded → List TableView → ℕ → Type 0
FreeBelow g tables from = (a : ℕ) → Contains (numbers_in g.field tables) a → a < from → HasNoLoop g tables (Some a)

pub FreeBelow-more : (g : Guarded) (tables : List TableView) (from number : ℕ) → FreeBelow g tables from → least_from from None (numbers_in g.field tables) ≡ Some number → HasNoLoop g tables (Some number) → FreeBelow g tables (number + 1)
FreeBelow-more g tables from number below least none = λ a among lt.
    elim (cases_lt a from) [
      | inl before ↦ below a among before
      | inr past ↦
          let le = (least_from-some from number (numbers_in g.field tables) least).2 a among past in
          let same : number ≡ a = omega arith in
          subst (λ n. HasNoLoop g tables (Some n)) same none
    ]

pub number-below : (g : Guarded) (tables : List TableView) (from number : ℕ) → least_from from None (numbers_in g.field tables) ≡ Some number → (from ≤ number) × (number < 2 ^ 48)
number-below g tables from number least =
    let some = least_from-some from number (numbers_in g.field tables) least in
    (some.1, numbers-below g.field tables number some.0)

Contains-map : (a : ℕ) (xs : List ℕ) → Contains xs a → Contains (map (λ n. Some n) xs) (Some a)
Contains-map a [] c = absurd (no_fewer a c)
Contains-map a (x ∷ xs) c = elim (Contains-cases a x xs c) [
  | inl same ↦ subst (λ n. Contains (Some x ∷ map (λ m. Some m) xs) (Some n)) same (Contains-here (Some x) (map (λ m. Some m) xs))
  | inr behind ↦ Contains-behind (Some a) (Some x) (map (λ m. Some m) xs) (Contains-map a xs behind)
]

map-Contains : (v : Option ℕ) (xs : List ℕ) → Contains (map (λ n. Some n) xs) v → (a : ℕ) × (Contains xs a × (v ≡ Some a))
map-Contains v [] c = absurd (no_fewer v c)
map-Contains v (x ∷ xs) c = elim (Contains-cases v (Some x) (map (λ m. Some m) xs) c) [
  | inl same ↦ (x, (Contains-here x xs, sym same))
  | inr behind ↦ let rest = map-Contains v xs behind in (rest.0, (Contains-behind rest.0 x xs rest.1.0, rest.1.1))
]

-- a number among the values, and a value that is a number
pub number-value : (field : GuardField) (tables : List TableView) (a : ℕ) → Contains (numbers_in field tables) a → Contains (values_in field tables) (Some a)
unfolding values_in
number-value DlDst tables a c = Contains-append_left (map (λ n. Some n) (numbers_in DlDst tables)) (None ∷ []) (Some a) (Contains-map a (numbers_in DlDst tables) c)
number-value NwDst tables a c = Contains-map a (numbers_in NwDst tables) c

pub value-number : (field : GuardField) (tables : List TableView) (v : Option ℕ) → Contains (values_in field tables) v → ((a : ℕ) × (Contains (numbers_in field tables) a × (v ≡ Some a))) ⊎ ((field ≡ DlDst) × (v ≡ None))
unfolding values_in
value-number DlDst tables v c = elim (Contains-append_cases (map (λ n. Some n) (numbers_in DlDst tables)) (None ∷ []) v c) [
  | inl number ↦ inl (map-Contains v (numbers_in DlDst tables) number)
  | inr other ↦ elim (Contains-cases v None [] other) [ inl same ↦ inr (refl, sym same) | inr none ↦ absurd (no_fewer v none) ]
]
value-number NwDst tables v c = inl (map-Contains v (numbers_in NwDst tables) c)

pub any_value : (tables : List TableView) → Contains (values_in DlDst tables) None
unfolding values_in
any_value tables = Contains-append_right (map (λ n. Some n) (numbers_in DlDst tables)) (None ∷ []) None (Contains-here None [])

lower_number : (w : Option ℕ) (number : ℕ) → IsLower w (Some number) → (a : ℕ) × ((w ≡ Some a) × (a < number))
lower_number None number is = absurd is
lower_number (Some a) number is = (a, (refl, is))

-- what is found at a number, where none is found below it
pub found_at_number : (g : Guarded) (tables : List TableView) (from number : ℕ) (found : Found) → FreeBelow g tables from → least_from from None (numbers_in g.field tables) ≡ Some number → IsFoundFor g tables (Some number) (Some found)
    → IsLoopFound g tables (Some found)
found_at_number g tables from number (Edit dpid at) below least is = absurd is
found_at_number g tables from number (Loop w dpid port) below least is =
    let some = least_from-some from number (numbers_in g.field tables) least in
    subst (λ v. IsFirstLoop g tables v (dpid, port)) (sym is.0) (record {
      value = number-value g.field tables number some.0;
      on = is.1.0;
      least_value = λ v among lower.
          let a = lower_number v number lower in
          elim (value-number g.field tables v among) [
            | inl had ↦
                let same : had.0 ≡ a.0 = cc (had.1.1, a.1.0) in
                let c : Contains (numbers_in g.field tables) a.0 = subst (λ n. Contains (numbers_in g.field tables) n) same had.1.0 in
                subst (λ x. HasNoLoop g tables x) (sym a.1.0)
                (elim (cases_lt a.0 from) [
                  | inl before ↦ below a.0 c before
                  | inr past ↦ absurd (omega (arith, some.2 a.0 c past, a.1.1))
                ])
            | inr any ↦ absurd (cc (any.1, a.1.0))
          ];
      least_place = is.1.1;
    })

-- what is found of any other address, where none is found for a number
free_numbers : (g : Guarded) (tables : List TableView) (from : ℕ) → FreeBelow g tables from → least_from from None (numbers_in g.field tables) ≡ None → (a : ℕ) → Contains (numbers_in g.field tables) a → HasNoLoop g tables (Some a)
free_numbers g tables from below none a among = below a among (least_from-none from (numbers_in g.field tables) none a among)

other_found : (hops : List Hop) (tables : List TableView) (from : ℕ) (found : Option Found) → FreeBelow (record { field = DlDst; hops = hops }) tables from → least_from from None (numbers_in DlDst tables) ≡ None
    → IsFoundFor (record { field = DlDst; hops = hops }) tables None found → IsLoopFound (record { field = DlDst; hops = hops }) tables found
other_found hops tables from None below none is = λ v among.
    let g : Guarded = record { field = DlDst; hops = hops } in
    elim (value-number DlDst tables v among) [
      | inl had ↦ subst (λ x. HasNoLoop g tables x) (sym had.1.1) (free_numbers g tables from below none had.0 had.1.0)
      | inr any ↦ subst (λ x. HasNoLoop g tables x) (sym any.1) is
    ]
other_found hops tables from (Some (Edit dpid at)) below none is = absurd is
other_found hops tables from (Some (Loop w dpid port)) below none is =
    let g : Guarded = record { field = DlDst; hops = hops } in
    subst (λ v. IsFirstLoop g tables v (dpid, port)) (sym is.0) (record {
      value = any_value tables;
      on = is.1.0;
      least_value = λ v among lower.
          elim (value-number DlDst tables v among) [
            | inl had ↦ subst (λ x. HasNoLoop g tables x) (sym had.1.1) (free_numbers g tables from below none had.0 had.1.0)
            | inr any ↦ absurd (subst (λ x. IsLower x None) any.1 lower)
          ];
      least_place = is.1.1;
    })

fields_apart : NwDst ≡ DlDst → ⊥
fields_apart e = cc

none_found : (hops : List Hop) (tables : List TableView) (from : ℕ) → FreeBelow (record { field = NwDst; hops = hops }) tables from → least_from from None (numbers_in NwDst tables) ≡ None → IsLoopFound (record { field = NwDst; hops = hops }) tables None
none_found hops tables from below none = λ v among.
    let g : Guarded = record { field = NwDst; hops = hops } in
    elim (value-number NwDst tables v among) [
      | inl had ↦ subst (λ x. HasNoLoop g tables x) (sym had.1.1) (free_numbers g tables from below none had.0 had.1.0)
      | inr any ↦ absurd (fields_apart any.0)
    ]

pub found_at_any : (field : GuardField) (hops : List Hop) (tables : List TableView) (from : ℕ) (found : Option Found) → field ≡ DlDst → FreeBelow (record { field = field; hops = hops }) tables from → least_from from None (numbers_in field tables) ≡ None
    → IsFoundFor (record { field = field; hops = hops }) tables None found → IsLoopFound (record { field = field; hops = hops }) tables found
found_at_any DlDst hops tables from found same below none is = other_found hops tables from found below none is
found_at_any NwDst hops tables from found same below none is = absurd (fields_apart same)

pub found_nowhere : (field : GuardField) (hops : List Hop) (tables : List TableView) (from : ℕ) → field ≡ NwDst → FreeBelow (record { field = field; hops = hops }) tables from → least_from from None (numbers_in field tables) ≡ None
    → IsLoopFound (record { field = field; hops = hops }) tables None
found_nowhere NwDst hops tables from same below none = none_found hops tables from below none
found_nowhere DlDst hops tables from same below none = absurd (fields_apart (sym same))

-- ---- the whole

pub loop_is_found : (g : Guarded) (tables : List TableView) (found : Option Found) → first_edit g.hops tables ≡ None → IsLoopFound g tables found → IsFirstFound g tables found
loop_is_found g tables None none is = record { edits = none; loops = is }
loop_is_found g tables (Some (Edit dpid at)) none is = absurd is
loop_is_found g tables (Some (Loop v dpid port)) none is = (none, is)

-- ---- the same as a test

member_passes : {A : Type 0} (test : A → Bool) (xs : List A) (x : A) → Contains xs x → test x ≡ true → list_any test xs ≡ true
member_passes test [] x c is = absurd (no_fewer x c)
member_passes test (y ∷ ys) x c is = elim (Contains-cases x y ys c) [
  | inl same ↦ or_left (test y) (list_any test ys) (ap test same ∙ is)
  | inr behind ↦ or_right (test y) (list_any test ys) (member_passes test ys x behind is)
]

passing_member : {A : Type 0} (test : A → Bool) (xs : List A) → list_any test xs ≡ true → (x : A) × (Contains xs x × (test x ≡ true))
passing_member test [] is = absurd cc
passing_member test (y ∷ ys) is = elim (or_cases (test y) (list_any test ys) is) [
  | inl here ↦ (y, (Contains-here y ys, here))
  | inr behind ↦ let rest = passing_member test ys behind in (rest.0, (Contains-behind rest.0 y ys rest.1.0, rest.1.1))
]

pub has_none : {A : Type 0} (o : Option A) → is_none o ≡ true → o ≡ None
has_none None is = refl
has_none (Some x) is = absurd cc

looped : Guarded → List TableView → Bool
looped g tables = list_any (λ v. has_loop g tables (Value v)) (values_in g.field tables)

looped-from : (g : Guarded) (tables : List TableView) (v : Option ℕ) (p : Place) → Contains (values_in g.field tables) v → IsOnLoop g (Value v) tables p → looped g tables ≡ true
unfolding looped
looped-from g tables v p among loop = member_passes (λ w. has_loop g tables (Value w)) (values_in g.field tables) v among (has_loop-from g (Value v) tables p loop)

not_looped : (g : Guarded) (tables : List TableView) → ((v : Option ℕ) → Contains (values_in g.field tables) v → HasNoLoop g tables v) → looped g tables ≡ false
unfolding looped
not_looped g tables free = false_from_ne_true _ (λ is.
    let found = passing_member (λ w. has_loop g tables (Value w)) (values_in g.field tables) is in
    let back = has_loop-at g (Value found.0) tables found.1.1 in
    free found.0 found.1.0 back.0 back.1)

is_free-parts : (g : Guarded) (tables : List TableView) → is_free g tables ≡ (is_none (first_edit g.hops tables) && not (looped g tables))
unfolding is_free looped
is_free-parts g tables = refl

pub is_free-from : (g : Guarded) (tables : List TableView) → IsFree g tables → is_free g tables ≡ true
is_free-from g tables free = is_free-parts g tables ∙ rw (free.edits, not_looped g tables free.loops) refl

pub is_free-at : (g : Guarded) (tables : List TableView) → is_free g tables ≡ true → IsFree g tables
is_free-at g tables is =
    let parts = and_parts (is_none (first_edit g.hops tables)) (not (looped g tables)) (sym (is_free-parts g tables) ∙ is) in
    record {
      edits = has_none (first_edit g.hops tables) parts.0;
      loops = λ v among p loop. absurd (cc (looped-from g tables v p among loop, not-true (looped g tables) parts.1));
    }

edit_not_free : (g : Guarded) (tables : List TableView) (e : ℕ × ℕ) → first_edit g.hops tables ≡ Some e → is_free g tables ≡ false
edit_not_free g tables e is = is_free-parts g tables ∙ rw is refl

loop_not_free : (g : Guarded) (tables : List TableView) (v : Option ℕ) (p : Place) → Contains (values_in g.field tables) v → IsOnLoop g (Value v) tables p → is_free g tables ≡ false
loop_not_free g tables v p among loop = is_free-parts g tables ∙ rw (looped-from g tables v p among loop) (and_right (is_none (first_edit g.hops tables)) false refl)

-- nothing is found exactly where the tables are free
pub found-free : (g : Guarded) (tables : List TableView) (found : Option Found) → IsFirstFound g tables found → is_none found ≡ is_free g tables
found-free g tables None is = sym (is_free-from g tables is)
found-free g tables (Some (Edit dpid at)) is = sym (edit_not_free g tables (dpid, at) is)
found-free g tables (Some (Loop v dpid port)) is = sym (loop_not_free g tables v (dpid, port) is.1.value is.1.on)
