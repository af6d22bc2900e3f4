-- How shadows hold what contracts see of them.
use Rattle.std.specs.Prelude.{◌≡◌, List, length}
use Rattle.shadow_tables.specs.Kept.{Kept}
use Rattle.shadow_tables.specs.InStep.{AreLent, AreTables, all_kept}
use Rattle.shadow_tables.specs.declared.shadows.Shadows.TheInside.{Inside}

-- what contracts see
abbrev pub kept_in : Inside → List Kept
kept_in s = all_kept s.views.items s.ports.items

-- the switches and the rows of each are in order, and each switch has its ports
pub record IsShadows (s : Inside) : Type 0 where
  pub in_order : AreLent s.views.items
  pub tables : AreTables s.views.items
  pub in_step : length s.views.items ≡ length s.ports.items
