use Rattle.std.proofs.Common.{◌≡◌, ◌++◌, take}
use Rattle.session_lists.proofs.reply_list.append.Given as goal

abbrev pub invariant-loop-number : goal.invariant-loop-number
invariant-loop-number l = l.to ≡ l.fn.to ++ take l.number l.from
