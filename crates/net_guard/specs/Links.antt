-- The links of a network as a guard looks at them: each way by itself. A place is a port of a switch at which packets come in over a
-- link. All of this is our own.
use Rattle.std.specs.Prelude.{◌≡◌, ◌==◌, ℕ, ◌<◌, ◌⊎◌, Bool, ◌&&◌, List, [], ◌∷◌, slice_index_or}
use Rattle.guard_rule.specs.declared.GuardField.{GuardField}
use Rattle.guard_rule.specs.declared.GuardRule.{GuardRule}
use Rattle.guard_rule.specs.declared.Link.{Link}
use Rattle.net_guard.specs.declared.hop.Hop.{Hop}

-- a switch's number and a port's
abbrev pub Place : Type 0
Place = ℕ × ℕ

abbrev pub is_same : Place → Place → Bool
is_same p q = (p.0 == q.0) && (p.1 == q.1)

-- of two switches the lower number comes first, of two ports of a switch the lower port
abbrev pub IsBefore : Place → Place → Type 0
IsBefore p q = (p.0 < q.0) ⊎ ((p.0 ≡ q.0) × (p.1 < q.1))

-- each link both ways
unfoldable pub hops_of : List Link → List Hop
hops_of [] = []
hops_of (l ∷ ls) = record { from = l.a; to = l.b } ∷ record { from = l.b; to = l.a } ∷ hops_of ls

-- what a guard looks at
pub record Guarded : Type 0 where
  pub field : GuardField
  pub hops : List Hop

abbrev pub guarded_by : GuardRule → Guarded
guarded_by rule = record { field = rule.field; hops = hops_of rule.links.items }

-- the hop of a number, and the place at which it arrives
abbrev pub hop_at : List Hop → ℕ → Hop
hop_at hops i = slice_index_or hops i (record { from = (0, 0); to = (0, 0) })

abbrev pub place_at : List Hop → ℕ → Place
place_at hops i = (hop_at hops i).to
