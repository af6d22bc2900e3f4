-- Places that lead to themselves.
use Rattle.std.specs.Prelude.{◌≡◌, ◌==◌, ℕ, ◌<◌, Bool, true, false, ◌&&◌, ◌||◌, List, length, nat_lt, nat_le, Option, Some, None, if◌then◌else◌}
use Rattle.flow_table.specs.View.{TableView}
use Rattle.net_guard.specs.declared.hop.Hop.{Hop}
use Rattle.net_guard.specs.declared.scope.Scope.{Scope}
use Rattle.net_guard.specs.Links.{Place, Guarded, IsBefore, hop_at, place_at}
use Rattle.net_guard.specs.Leading.{leads, leads_over}
use Rattle.net_guard.specs.Walks.{IsWalk, reaches, any_below}

-- a place that leads to itself in one or more steps
abbrev pub IsOnLoop : Guarded → Scope → List TableView → Place → Type 0
IsOnLoop g scope tables p = (between : List Place) × IsWalk (leads g scope tables) p between p

-- the least of the places that do, or none
abbrev pub IsLeastLoop : Guarded → Scope → List TableView → Option Place → Type 0
IsLeastLoop g scope tables None = (p : Place) → IsOnLoop g scope tables p → ⊥
IsLeastLoop g scope tables (Some p) = IsOnLoop g scope tables p × ((q : Place) → IsOnLoop g scope tables q → IsBefore q p → ⊥)

-- ---- The same as a test, over the numbers of places.

abbrev pub step_of : Guarded → Scope → List TableView → ℕ → ℕ → Bool
step_of g scope tables i j = leads_over g scope tables (place_at g.hops i) (hop_at g.hops j)

-- the place of a number leads to itself
unfoldable pub returns_to : Guarded → Scope → List TableView → ℕ → Bool
returns_to g scope tables i = reaches (step_of g scope tables) (length g.hops) i i

-- of a place and one found earlier the lesser
abbrev pub earlier_of : Option Place → Place → Place
earlier_of None p = p
earlier_of (Some q) p = if nat_lt q.0 p.0 || (q.0 == p.0 && nat_le q.1 p.1) then q else p

-- the least place of the numbers below a bound that pass, or none
abbrev pub IsLeastOf : List Hop → (ℕ → Bool) → ℕ → Option Place → Type 0
IsLeastOf hops test n None = (i : ℕ) → i < n → test i ≡ false
IsLeastOf hops test n (Some p) = ((i : ℕ) × ((i < n) × (test i ≡ true) × (place_at hops i ≡ p))) × ((i : ℕ) → i < n → test i ≡ true → IsBefore (place_at hops i) p → ⊥)

-- some place does
unfoldable pub has_loop : Guarded → List TableView → Scope → Bool
has_loop g tables scope = any_below (returns_to g scope tables) (length g.hops)
