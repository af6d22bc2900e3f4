use Rattle.std.proofs.Common.{◌≡◌, ◌++◌, map, drop, option_map}
use Rattle.toml.specs.View.{items_view, table_view}
use Rattle.crash_policy.specs.Keys.{tables_of}
use Rattle.crash_policy.proofs.top_keys.tables_of.Given as goal

abbrev pub invariant-loop-item : goal.invariant-loop-item
invariant-loop-item l =
    tables_of (items_view l.items.items) ≡ option_map (λ more. map (λ t. table_view t.now) l.tables.items ++ more) (tables_of (items_view (drop l.item-index l.items.items)))
