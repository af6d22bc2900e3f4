use Rattle.std.proofs.Common.{rules}
use Rattle.std.proofs.lemmas.Fn.{filter_same}
use Rattle.net_txn.proofs.port_table.forget_known.Goals as goal

pub returns-clause-known : goal.returns-clause-known
returns-clause-known c = filter_same _ _ _ (λ x b f' k. search rules) _ _ c.retain.ensures.filtered
