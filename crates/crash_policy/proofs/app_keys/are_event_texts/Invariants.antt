use Rattle.std.proofs.Common.{◌≡◌, drop}
use Rattle.toml.specs.View.{items_view}
use Rattle.crash_policy.specs.Keys.{are_event_texts}
use Rattle.crash_policy.proofs.app_keys.are_event_texts.Given as goal

abbrev pub invariant-loop-item : goal.invariant-loop-item
invariant-loop-item l = are_event_texts (items_view l.items.items) ≡ are_event_texts (items_view (drop l.item-index l.items.items))
