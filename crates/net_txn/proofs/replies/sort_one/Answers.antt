use Rattle.std.proofs.Common.{sym, ap, ◌∙◌}
use Rattle.std.proofs.lemmas.List.{append-nil}
use Rattle.lego_model.specs.FlowQueries.{is_about}
use Rattle.net_txn.specs.laws.AskLaws.{part_refuses_not}
use Rattle.net_txn.proofs.replies.sort_one.Goals as goal

pub returns-in_ok-push-clause-refusals : goal.returns-in_ok-push-clause-refusals
returns-in_ok-push-clause-refusals c =
    let is = ap (is_about c.args.xid 17) (sym c.as_slice.ensures) ∙ sym c.is_about-is_part.ensures ∙ c.if-is_part.true in
    rw (part_refuses_not c.args.xid c.args.message is) (sym (append-nil c.args.replies.now.refusals.items))
