-- What the judges refuse tables for. All of this is our own.
use Rattle.std.specs.Prelude.{◌≡◌, if◌then◌else◌, ℕ, List, [], ◌∷◌, length, nat_le, Option, Some, None, is_some}
use Rattle.flow_table.specs.View.{TableView}
use Rattle.net_guard.specs.declared.refusal.Refusal.{Refusal}
use Rattle.net_guard.specs.declared.refusal.Refusal.TheVariants.{Crowded, Guarded}
use Rattle.net_guard.specs.declared.quota.ChosenJudge.{ChosenJudge}
use Rattle.net_guard.specs.declared.quota.ChosenJudge.TheVariants.{All, Quota, Guard}
use Rattle.net_guard.specs.Links.{Guarded as Rule}
use Rattle.net_guard.specs.Found.{IsFirstFound}

-- a table over the quota, with its count
unfoldable pub crowded_in : ℕ → TableView → Option Refusal
crowded_in most t = if nat_le (length t.rows) most then None else Some (Crowded t.dpid (length t.rows) most)

-- the first of them
unfoldable pub first_crowded : ℕ → List TableView → Option Refusal
first_crowded most [] = None
first_crowded most (t ∷ ts) = if is_some (crowded_in most t) then crowded_in most t else first_crowded most ts

-- by a guard: what it finds first, and its field
abbrev pub IsRefusedBy : Rule → List TableView → Option Refusal → Type 0
IsRefusedBy g tables None = IsFirstFound g tables None
IsRefusedBy g tables (Some (Crowded dpid count most)) = ⊥
IsRefusedBy g tables (Some (Guarded field found)) = (field ≡ g.field) × IsFirstFound g tables (Some found)

-- by the one judge of the program
abbrev pub IsRefused : ChosenJudge → List TableView → Option Refusal → Type 0
IsRefused All tables refusal = refusal ≡ None
IsRefused (Quota quota) tables refusal = refusal ≡ first_crowded quota.most tables
IsRefused (Guard guard) tables refusal = IsRefusedBy guard tables refusal
