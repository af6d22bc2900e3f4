use Rattle.std.proofs.Common.{◌≡◌, ◌++◌, map, drop, option_map, string_bytes}
use Rattle.toml.specs.View.{items_view}
use Rattle.crash_policy.specs.Keys.{texts_of}
use Rattle.crash_policy.proofs.app_keys.texts_of.Given as goal

abbrev pub invariant-loop-item : goal.invariant-loop-item
invariant-loop-item l =
    texts_of (items_view l.items.items) ≡ option_map (λ more. map string_bytes l.texts.items ++ more) (texts_of (items_view (drop l.item-index l.items.items)))
