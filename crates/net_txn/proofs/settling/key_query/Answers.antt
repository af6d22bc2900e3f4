use Rattle.std.proofs.Common.{ℕ, List, sym, subst, ◌∙◌}
use Rattle.net_txn.specs.Asks.{IsAsked}
use Rattle.net_txn.specs.laws.SettleLaws.{IsAsked-key_query}
use Rattle.net_txn.proofs.settling.key_query.Goals as goal

pub returns-clause-asked : goal.returns-clause-asked
returns-clause-asked c =
    subst (λ (b : List ℕ). IsAsked (record { kind = 1; flags = 0; body = b })) (sym (c.in_ok-from_slice.ensures ∙ c.key_flows.ensures)) (IsAsked-key_query c.args.key.now)
