use Rattle.std.proofs.Common.{◌≡◌, ◌-◌, inr, subst, ◌∙◌, arith}
use Rattle.of_stats.specs.Parts.{joined}
use Rattle.lego_model.specs.FlowQueries.{all_parts, IsBadBody}
use Rattle.net_txn.specs.laws.AskLaws.{broken_at}
use Rattle.net_txn.proofs.replies.checked.Goals as goal

pub returns-in-Ok-false : goal.returns-in-Ok-false
returns-in-Ok-false c =
    let body : c.as_slice.result.now ≡ joined (all_parts c.args.messages.items) = c.as_slice.ensures ∙ c.requires.body in
    let bad = subst (IsBadBody c.args.kind) body (rw c.in-Ok-false.field-0-test at c.in-Ok-false.ensures) in
    rw c.broke.ensures (broken_at c.args.kind c.args.dpid (c.len-last.result - 1) c.args.messages.items (omega (arith, c.len-last.ensures, c.requires.some)) (inr (inr (c.requires.whole, omega (arith, c.len-last.ensures, c.requires.some), bad))))
