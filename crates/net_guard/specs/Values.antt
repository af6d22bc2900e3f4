-- The values of the guarded field that stand for all of them. All of this is our own.
use Rattle.std.specs.Prelude.{ℕ, ◌+◌, ◌-◌, ◌^◌, ◌<◌, List, [], ◌∷◌, ◌++◌, map, fold, min, nat_lt, Option, Some, None, if◌then◌else◌}
use Rattle.std.specs.List.{flat_map}
use Rattle.guard_rule.specs.declared.GuardField.{GuardField}
use Rattle.guard_rule.specs.declared.GuardField.TheVariants.{DlDst, NwDst}
use Rattle.of_match.specs.Key.{number}
use Rattle.of_match.specs.declared.fields.Fields.{Fields}
use Rattle.flow_table.specs.declared.view.ViewRow.{ViewRow}
use Rattle.flow_table.specs.View.{TableView}
use Rattle.net_guard.specs.Taking.{fields_of_row}

abbrev pub address_named : Option (List ℕ) → List ℕ
address_named None = []
address_named (Some a) = number a ∷ []

-- the first address of a prefix and, where there is one, the address after its last
abbrev pub after_prefix : ℕ → List ℕ
after_prefix end = if nat_lt end (2 ^ 32) then end ∷ [] else []

abbrev pub prefix_named : Option (ℕ × ℕ) → List ℕ
prefix_named None = []
prefix_named (Some p) = p.0 ∷ after_prefix (p.0 + 2 ^ (32 - p.1))

-- the values that a row names
unfoldable pub named_by : GuardField → Fields → List ℕ
named_by DlDst f = address_named f.dl_dst
named_by NwDst f = prefix_named f.nw_dst

abbrev pub named_in_rows : GuardField → List ViewRow → List ℕ
named_in_rows field rows = flat_map (λ r. named_by field (fields_of_row r)) rows

abbrev pub named_in : GuardField → List TableView → List ℕ
named_in field tables = flat_map (λ t. named_in_rows field t.rows) tables

-- the numbers among the values: for an IPv4 destination 0 is one
abbrev pub numbers_in : GuardField → List TableView → List ℕ
numbers_in DlDst tables = named_in DlDst tables
numbers_in NwDst tables = 0 ∷ named_in NwDst tables

-- the values; for an Ethernet destination also any that no row names
unfoldable pub values_in : GuardField → List TableView → List (Option ℕ)
values_in DlDst tables = map (λ a. Some a) (numbers_in DlDst tables) ++ None ∷ []
values_in NwDst tables = map (λ a. Some a) (numbers_in NwDst tables)

-- numbers ascend, and the one that no row names is the last
abbrev pub IsLower : Option ℕ → Option ℕ → Type 0
IsLower (Some a) (Some b) = a < b
IsLower (Some a) None = Unit {0}
IsLower None w = ⊥

-- the least number from a bound on, of one found earlier and another one
abbrev pub lower_of : Option ℕ → ℕ → Option ℕ
lower_of None a = Some a
lower_of (Some b) a = Some (min b a)

abbrev pub lower : ℕ → Option ℕ → ℕ → Option ℕ
lower from best a = if nat_lt a from then best else lower_of best a

unfoldable pub least_from : ℕ → Option ℕ → List ℕ → Option ℕ
least_from from best numbers = fold (lower from) best numbers
