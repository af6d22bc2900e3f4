use Rattle.std.proofs.Common.{◌≡◌, take}
use Rattle.lego_model.specs.FlowQueries.{all_parts}
use Rattle.net_txn.proofs.replies.all_parts.Given as goal

abbrev pub invariant-loop-message : goal.invariant-loop-message
invariant-loop-message l = l.parts.items ≡ all_parts (take l.message-index l.messages)
