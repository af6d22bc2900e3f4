use Rattle.std.proofs.Common.{◌≡◌, ◌++◌, ℕ, List, length, take, refl, sym, ap, ◌∙◌}
use Rattle.std.proofs.lemmas.List.{take_at}
use Rattle.std.proofs.lemmas.Result.{err_from_is_err_and}
use Rattle.std.specs.Vec.Iter.{into_iter_items}
use Rattle.lego_model.specs.FlowQueries.{others_in}
use Rattle.net_txn.proofs.replies.sort_out.Goals as goal

pub returns-in_err-sort_one-clause-kept_err : goal.returns-in_err-sort_one-clause-kept_err
returns-in_err-sort_one-clause-kept_err c =
    let (came, _, _, kept) = c.loop-dpid.invariant in
    let xs = c.loop-dpid.yielded in
    let front : take (length xs) c.args.came ≡ xs = ap (take (length xs)) came ∙ take_at xs (into_iter_items c.loop-dpid.dpid-iterator) (length xs) refl in
    let p = err_from_is_err_and c.from_residual-in_err-sort_one.result c.from_residual-in_err-sort_one.ensures.1 in
    rw p.1 (length xs, c.in_err-sort_one.ensures.kept_err ∙ kept ∙ ap (λ (ms : List (ℕ × List ℕ)). c.args.kept.now ++ others_in c.args.xid ms) (sym front))
