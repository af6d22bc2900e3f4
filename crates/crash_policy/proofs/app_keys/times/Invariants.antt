use Rattle.std.proofs.Common.{◌≡◌, ◌+◌, ◌≤◌, drop}
use Rattle.toml.specs.View.{items_view}
use Rattle.crash_policy.specs.Keys.{times}
use Rattle.crash_policy.proofs.app_keys.times.Given as goal

abbrev pub invariant-loop-item : goal.invariant-loop-item
invariant-loop-item l = record {
  few : l.found ≤ l.item-index;
  counted : times l.text (items_view l.items.items) ≡ l.found + times l.text (items_view (drop l.item-index l.items.items));
}
