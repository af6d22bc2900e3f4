use Rattle.of_match.specs.Key.{key_number}
use Rattle.flow_table.specs.Sorted.{row_place, without_key}
use Rattle.flow_table.specs.laws.SortedLaws.{Ascends-without_place}
use Rattle.net_txn.specs.laws.ViewLaws.{AreInKeyOrder-with_rows}
use Rattle.net_txn.proofs.view_table.ViewTable.remove.Goals as goal

pub invariant_of-self : goal.invariant_of-self
invariant_of-self c = rw c.remove_in.ensures (AreInKeyOrder-with_rows c.args.dpid (without_key c.args.key.now) _ (λ rows h. Ascends-without_place row_place (key_number c.args.key.now) rows h) c.self.invariant)
