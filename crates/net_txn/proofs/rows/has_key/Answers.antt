use Rattle.std.proofs.Common.{◌∙◌}
use Rattle.of_match.specs.Key.{key_number}
use Rattle.net_txn.proofs.ViewPositions.{some_row}
use Rattle.net_txn.proofs.rows.has_key.Goals as goal

pub returns : goal.returns
returns c = c.is_some.ensures ∙ some_row (key_number c.args.key.now) (λ r. r.now) c.args.rows.now c.find.result c.find.ensures
