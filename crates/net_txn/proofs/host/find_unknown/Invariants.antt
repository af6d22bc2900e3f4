use Rattle.std.proofs.Common.{◌≡◌, drop}
use Rattle.lego_model.specs.Answers.{unknown_action}
use Rattle.net_txn.proofs.host.find_unknown.Given as goal

abbrev pub invariant-loop-action : goal.invariant-loop-action
invariant-loop-action l = unknown_action (drop l.action-index l.actions) ≡ unknown_action l.actions
