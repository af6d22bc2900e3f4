-- What a judge says of tables depends on their switches, and on the keys and actions of their rows, alone.
use Rattle.std.proofs.Common.{◌≡◌, ◌==◌, ℕ, Bool, not, ◌&&◌, ◌||◌, List, [], ◌∷◌, ◌++◌, length, map, filter, position, Option, Some, None, nat_lt, ◌+◌, refl, sym, ap, ap₂, ◌∙◌, nat_le, inl, inr, if◌then◌else◌}
use Rattle.std.proofs.lemmas.Bool.{cases_Bool}
use Rattle.std.proofs.lemmas.List.{length-map, map-append}
use Rattle.std.specs.List.{list_any, list_all, flat_map, prefix_len}
use Rattle.std.specs.Option.{option_map, is_none}
use Rattle.guard_rule.specs.declared.GuardField.{GuardField}
use Rattle.guard_rule.specs.declared.GuardField.TheVariants.{DlDst, NwDst}
use Rattle.flow_table.specs.declared.view.ViewRow.{ViewRow}
use Rattle.flow_table.specs.RowKeys.{shown_row}
use Rattle.flow_table.specs.View.{TableView}
use Rattle.net_guard.specs.declared.hop.Hop.{Hop}
use Rattle.net_guard.specs.declared.scope.Scope.{Scope}
use Rattle.net_guard.specs.declared.scope.Scope.TheVariants.{Value}
use Rattle.net_guard.specs.declared.quota.ChosenJudge.{ChosenJudge}
use Rattle.net_guard.specs.declared.quota.ChosenJudge.TheVariants.{All, Quota, Guard}
use Rattle.net_guard.specs.Links.{Place, Guarded, hop_at, place_at}
use Rattle.net_guard.specs.Taking.{fields_of_row, is_whole, by_rank, up_to, may_take, surely_takes, considered}
use Rattle.net_guard.specs.Leading.{row_over, table_over, is_table_of, leads_over}
use Rattle.net_guard.specs.Walks.{reaches, any_below}
use Rattle.net_guard.specs.Loops.{step_of, returns_to, has_loop}
use Rattle.net_guard.specs.Values.{named_by, named_in_rows, named_in, values_in}
use Rattle.net_guard.specs.Found.{is_edit, or_later, first_edit, is_free}
use Rattle.net_guard.specs.Judging.{Face, face_of, row_with, table_with, is_within, is_allowed}

-- a row and a table without what no judge looks at
abbrev bare : ViewRow → ViewRow
bare r = row_with (shown_row r)

abbrev bared : TableView → TableView
bared t = record { dpid = t.dpid; rows = map bare t.rows }

-- ---- Lists of which each item is replaced by one that passes alike

any-bare : {A : Type 0} (test : A → Bool) (m : A → A) → ((x : A) → test (m x) ≡ test x) → (xs : List A) → list_any test (map m xs) ≡ list_any test xs
any-bare test m same [] = refl
any-bare test m same (x ∷ xs) = ap₂ (λ (a b : Bool). a || b) (same x) (any-bare test m same xs)

all-bare : {A : Type 0} (test : A → Bool) (m : A → A) → ((x : A) → test (m x) ≡ test x) → (xs : List A) → list_all test (map m xs) ≡ list_all test xs
all-bare test m same [] = refl
all-bare test m same (x ∷ xs) = ap₂ (λ (a b : Bool). a && b) (same x) (all-bare test m same xs)

filter-bare : {A : Type 0} (test : A → Bool) (m : A → A) → ((x : A) → test (m x) ≡ test x) → (xs : List A) → filter test (map m xs) ≡ map m (filter test xs)
filter-bare test m same [] = refl
filter-bare test m same (x ∷ xs) =
    elim (cases_Bool (test x)) [
      | inl passes ↦ rw (same x ∙ passes, passes) (ap (λ (ys : List _). m x ∷ ys) (filter-bare test m same xs))
      | inr fails ↦ rw (same x ∙ fails, fails) (filter-bare test m same xs)
    ]

up_to-bare : {A : Type 0} (stops : A → Bool) (m : A → A) → ((x : A) → stops (m x) ≡ stops x) → (xs : List A) → up_to stops (map m xs) ≡ map m (up_to stops xs)
up_to-bare stops m same [] = refl
up_to-bare stops m same (x ∷ xs) =
    elim (cases_Bool (stops x)) [
      | inl last ↦ rw (same x ∙ last, last) refl
      | inr more ↦ rw (same x ∙ more, more) (ap (λ (ys : List _). m x ∷ ys) (up_to-bare stops m same xs))
    ]

prefix-bare : {A : Type 0} (test : A → Bool) (m : A → A) → ((x : A) → test (m x) ≡ test x) → (xs : List A) → prefix_len test (map m xs) ≡ prefix_len test xs
prefix-bare test m same [] = refl
prefix-bare test m same (x ∷ xs) =
    elim (cases_Bool (test x)) [
      | inl passes ↦ rw (same x ∙ passes, passes) (ap (λ (n : ℕ). 1 + n) (prefix-bare test m same xs))
      | inr fails ↦ rw (same x ∙ fails, fails) refl
    ]

position-bare : {A : Type 0} (test : A → Bool) (m : A → A) → ((x : A) → test (m x) ≡ test x) → (xs : List A) → position test (map m xs) ≡ position test xs
position-bare test m same xs =
    ap₂ (λ (n most : ℕ). if nat_lt n most then Some n else None) (prefix-bare (λ x. not (test x)) m (λ x. ap not (same x)) xs) (length-map xs m)

flat-bare : {A B : Type 0} (f : A → List B) (m : A → A) → ((x : A) → f (m x) ≡ f x) → (xs : List A) → flat_map f (map m xs) ≡ flat_map f xs
flat-bare f m same [] = refl
flat-bare f m same (x ∷ xs) = ap₂ (λ (a b : List _). a ++ b) (same x) (flat-bare f m same xs)

-- ---- Rows that a packet may take

by_rank-bare : (rows : List ViewRow) → by_rank (map bare rows) ≡ map bare (by_rank rows)
by_rank-bare rows =
    ap₂ (λ (a b : List ViewRow). a ++ b) (filter-bare is_whole bare (λ r. refl) rows) (filter-bare (λ r. not (is_whole r)) bare (λ r. refl) rows)
    ∙ sym (map-append bare (filter is_whole rows) (filter (λ r. not (is_whole r)) rows))

considered-bare : (field : GuardField) (scope : Scope) (port : ℕ) (rows : List ViewRow) → considered field scope port (map bare rows) ≡ map bare (considered field scope port rows)
unfolding considered
considered-bare field scope port rows =
    let takes : ViewRow → Bool = λ r. may_take field scope port (fields_of_row r) in
    let stops : ViewRow → Bool = λ r. surely_takes field scope port (fields_of_row r) in
    ap (λ (rs : List ViewRow). up_to stops (filter takes rs)) (by_rank-bare rows)
    ∙ ap (up_to stops) (filter-bare takes bare (λ r. refl) (by_rank rows))
    ∙ up_to-bare stops bare (λ r. refl) (filter takes (by_rank rows))

-- ---- Where places lead

table_over-bare : (g : Guarded) (scope : Scope) (p : Place) (h : Hop) (t : TableView) → table_over g scope p h (bared t) ≡ table_over g scope p h t
table_over-bare g scope p h t =
    ap (λ (b : Bool). (t.dpid == p.0) && b)
    (ap (list_any (row_over p h)) (considered-bare g.field scope p.1 t.rows) ∙ any-bare (row_over p h) bare (λ r. refl) (considered g.field scope p.1 t.rows))

leads_over-bare : (g : Guarded) (scope : Scope) (tables : List TableView) (p : Place) (h : Hop) → leads_over g scope (map bared tables) p h ≡ leads_over g scope tables p h
unfolding leads_over
leads_over-bare g scope tables p h =
    ap₂ (λ (a b : Bool). a && b) (any-bare (table_over g scope p h) bared (table_over-bare g scope p h) tables) (any-bare (is_table_of h.to.0) bared (λ t. refl) tables)

steps-bare : (g : Guarded) (scope : Scope) (tables : List TableView) → step_of g scope (map bared tables) ≡ step_of g scope tables
steps-bare g scope tables = λ i. λ a b. leads_over-bare g scope tables (place_at g.hops a) (hop_at g.hops b) i

has_loop-bare : (g : Guarded) (tables : List TableView) (scope : Scope) → has_loop g (map bared tables) scope ≡ has_loop g tables scope
unfolding has_loop returns_to
has_loop-bare g tables scope = ap (λ (step : ℕ → ℕ → Bool). any_below (λ k. reaches step (length g.hops) k k) (length g.hops)) (steps-bare g scope tables)

-- ---- What a guard looks at

named_in-bare : (field : GuardField) (tables : List TableView) → named_in field (map bared tables) ≡ named_in field tables
named_in-bare field tables = flat-bare (λ t. named_in_rows field t.rows) bared (λ t. flat-bare (λ r. named_by field (fields_of_row r)) bare (λ r. refl) t.rows) tables

values_in-bare : (field : GuardField) (tables : List TableView) → values_in field (map bared tables) ≡ values_in field tables
unfolding values_in
values_in-bare DlDst tables = ap (λ (ns : List ℕ). map (λ a. Some a) ns ++ None ∷ []) (named_in-bare DlDst tables)
values_in-bare NwDst tables = ap (λ (ns : List ℕ). map (λ a. Some a) (0 ∷ ns)) (named_in-bare NwDst tables)

edit-bare : (hops : List Hop) (dpid : ℕ) (r : ViewRow) → is_edit hops dpid (bare r) ≡ is_edit hops dpid r
unfolding is_edit
edit-bare hops dpid r = refl

first_edit-bare : (hops : List Hop) (tables : List TableView) → first_edit hops (map bared tables) ≡ first_edit hops tables
unfolding first_edit
first_edit-bare hops [] = refl
first_edit-bare hops (t ∷ ts) =
    ap₂ (λ (here later : Option (ℕ × ℕ)). or_later here later) (ap (option_map (λ i. (t.dpid, i))) (position-bare (is_edit hops t.dpid) bare (edit-bare hops t.dpid) t.rows)) (first_edit-bare hops ts)

is_free-bare : (g : Guarded) (tables : List TableView) → is_free g (map bared tables) ≡ is_free g tables
unfolding is_free
is_free-bare g tables =
    let loops : Option ℕ → Bool = λ v. has_loop g tables (Value v) in
    let loops_is : ◌≡◌ {A = Option ℕ → Bool} (λ v. has_loop g (map bared tables) (Value v)) loops = λ i. λ v. has_loop-bare g tables (Value v) i in
    ap₂ (λ (edit : Option (ℕ × ℕ)) (found : Bool). is_none edit && not found) (first_edit-bare g.hops tables)
    (ap₂ (λ (test : Option ℕ → Bool) (values : List (Option ℕ)). list_any test values) loops_is (values_in-bare g.field tables))

-- ---- Judges

allowed-bare : (judge : ChosenJudge) (tables : List TableView) → is_allowed judge (map bared tables) ≡ is_allowed judge tables
allowed-bare All tables = refl
allowed-bare (Quota quota) tables = all-bare (is_within quota.most) bared (λ t. ap (λ (n : ℕ). nat_le n quota.most) (length-map t.rows bare)) tables
allowed-bare (Guard guard) tables = is_free-bare guard tables

two-maps : {A B C : Type 0} (f : B → C) (g : A → B) (xs : List A) → map f (map g xs) ≡ map (λ x. f (g x)) xs
two-maps f g [] = refl
two-maps f g (x ∷ xs) = ap (λ (ys : List _). f (g x) ∷ ys) (two-maps f g xs)

bared-of : (tables : List TableView) → map table_with (map face_of tables) ≡ map bared tables
bared-of [] = refl
bared-of (t ∷ ts) = ap₂ (λ (rows : List ViewRow) (more : List TableView). record { dpid = t.dpid; rows = rows } ∷ more) (two-maps row_with shown_row t.rows) (bared-of ts)

by_faces : (judge : ChosenJudge) (tables : List TableView) → is_allowed judge (map table_with (map face_of tables)) ≡ is_allowed judge tables
by_faces judge tables = ap (is_allowed judge) (bared-of tables) ∙ allowed-bare judge tables

-- tables that look the same are judged the same
pub allowed-alike : (judge : ChosenJudge) (tables others : List TableView) → map face_of tables ≡ map face_of others → is_allowed judge tables ≡ is_allowed judge others
allowed-alike judge tables others same =
    sym (by_faces judge tables) ∙ ap (λ (faces : List Face). is_allowed judge (map table_with faces)) same ∙ by_faces judge others
