-- What a guard finds first. All of this is our own.
use Rattle.std.specs.Prelude.{◌≡◌, ◌==◌, ℕ, Bool, true, false, not, ◌&&◌, ◌||◌, List, [], ◌∷◌, Contains, position, Option, Some, None}
use Rattle.std.specs.List.{list_any}
use Rattle.std.specs.Option.{option_map, is_none}
use Rattle.of_action.specs.declared.action.Action.{Action}
use Rattle.of_action.specs.declared.action.Action.TheVariants.{Output}
use Rattle.flow_table.specs.declared.view.ViewRow.{ViewRow}
use Rattle.flow_table.specs.View.{TableView}
use Rattle.net_guard.specs.declared.found.Found.{Found}
use Rattle.net_guard.specs.declared.found.Found.TheVariants.{Edit, Loop}
use Rattle.net_guard.specs.declared.hop.Hop.{Hop}
use Rattle.net_guard.specs.declared.scope.Scope.TheVariants.{Value}
use Rattle.net_guard.specs.Links.{Place, Guarded, IsBefore}
use Rattle.net_guard.specs.Values.{values_in, IsLower}
use Rattle.net_guard.specs.Loops.{IsOnLoop, IsLeastLoop, has_loop}

-- ---- Rows that change packets on their way to a link

abbrev pub is_output : Action → Bool
is_output (Output to max_len) = true
is_output other = false

-- an output to the port of a link end of its switch, or to IN_PORT, ALL or FLOOD where the switch has one
abbrev pub reaches_hop : ℕ → Action → Hop → Bool
reaches_hop dpid (Output to max_len) h = (h.from.0 == dpid) && (to == h.from.1 || to == 0xfff8 || to == 0xfffc || to == 0xfffb)
reaches_hop dpid other h = false

abbrev pub reaches_link : List Hop → ℕ → Action → Bool
reaches_link hops dpid a = list_any (reaches_hop dpid a) hops

unfoldable pub is_edit : List Hop → ℕ → ViewRow → Bool
is_edit hops dpid r = list_any (λ a. not (is_output a)) r.actions && list_any (reaches_link hops dpid) r.actions

abbrev pub or_later : Option (ℕ × ℕ) → Option (ℕ × ℕ) → Option (ℕ × ℕ)
or_later None later = later
or_later (Some x) later = Some x

abbrev pub edit_in : List Hop → TableView → Option (ℕ × ℕ)
edit_in hops t = option_map (λ i. (t.dpid, i)) (position (is_edit hops t.dpid) t.rows)

-- the switch and the position of the first of them
unfoldable pub first_edit : List Hop → List TableView → Option (ℕ × ℕ)
first_edit hops [] = None
first_edit hops (t ∷ ts) = or_later (edit_in hops t) (first_edit hops ts)

-- ---- What is found

-- no place leads to itself
abbrev pub HasNoLoop : Guarded → List TableView → Option ℕ → Type 0
HasNoLoop g tables v = (p : Place) → IsOnLoop g (Value v) tables p → ⊥

-- the least value for which a place leads to itself, and the least such place
pub record IsFirstLoop (g : Guarded) (tables : List TableView) (v : Option ℕ) (p : Place) : Type 0 where
  pub value : Contains (values_in g.field tables) v
  pub on : IsOnLoop g (Value v) tables p
  pub least_value : (w : Option ℕ) → Contains (values_in g.field tables) w → IsLower w v → HasNoLoop g tables w
  pub least_place : (q : Place) → IsOnLoop g (Value v) tables q → IsBefore q p → ⊥

-- No row is an edit, and no place leads to itself.
pub record IsFree (g : Guarded) (tables : List TableView) : Type 0 where
  pub edits : first_edit g.hops tables ≡ None
  pub loops : (v : Option ℕ) → Contains (values_in g.field tables) v → HasNoLoop g tables v

-- Edits come first.
abbrev pub IsFirstFound : Guarded → List TableView → Option Found → Type 0
IsFirstFound g tables None = IsFree g tables
IsFirstFound g tables (Some (Edit dpid at)) = first_edit g.hops tables ≡ Some (dpid, at)
IsFirstFound g tables (Some (Loop v dpid port)) = (first_edit g.hops tables ≡ None) × IsFirstLoop g tables v (dpid, port)

-- what is found of loops alone
abbrev pub IsLoopFound : Guarded → List TableView → Option Found → Type 0
IsLoopFound g tables None = (v : Option ℕ) → Contains (values_in g.field tables) v → HasNoLoop g tables v
IsLoopFound g tables (Some (Edit dpid at)) = ⊥
IsLoopFound g tables (Some (Loop v dpid port)) = IsFirstLoop g tables v (dpid, port)

-- what is found of one value alone
abbrev pub IsFoundFor : Guarded → List TableView → Option ℕ → Option Found → Type 0
IsFoundFor g tables v None = HasNoLoop g tables v
IsFoundFor g tables v (Some (Edit dpid at)) = ⊥
IsFoundFor g tables v (Some (Loop w dpid port)) = (w ≡ v) × IsLeastLoop g (Value v) tables (Some (dpid, port))

-- ---- The same as a test

unfoldable pub is_free : Guarded → List TableView → Bool
is_free g tables = is_none (first_edit g.hops tables) && not (list_any (λ v. has_loop g tables (Value v)) (values_in g.field tables))
