use Rattle.std.proofs.Common.{◌≡◌, ◌++◌, drop, option_map}
use Rattle.toml.specs.View.{items_view}
use Rattle.crash_policy.specs.GuardKeys.{links_of}
use Rattle.crash_policy.proofs.guard_keys.links_of.Given as goal

abbrev pub invariant-loop-item : goal.invariant-loop-item
invariant-loop-item l = links_of (items_view l.items.items) ≡ option_map (λ more. l.links.items ++ more) (links_of (items_view (drop l.item-index l.items.items)))
