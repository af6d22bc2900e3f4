use Rattle.std.proofs.Common.{◌≡◌, ◌∷◌, List, drop}
use Rattle.flow_table.specs.declared.view.ViewRow.{ViewRow}
use Rattle.event_dispatch.proofs.last.place_from.Given as goal

abbrev pub invariant-loop-at : goal.invariant-loop-at
invariant-loop-at l = (v : ViewRow) (later : List ViewRow) → drop l.from l.rows ≡ v ∷ later → v.key ≡ l.key → l.at ≡ l.from
