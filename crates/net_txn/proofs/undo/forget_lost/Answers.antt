use Rattle.std.proofs.Common.{◌≡◌, List, [], drop, sym, ap, ◌∙◌, arith}
use Rattle.std.proofs.lemmas.List.{drop_all}
use Rattle.net_txn.specs.declared.logged.Logged.{Logged}
use Rattle.net_txn.specs.Undos.{views_left, kept_left}
use Rattle.net_txn.specs.laws.LoseAllLaws.{views_without, kept_without}
use Rattle.net_txn.proofs.undo.forget_lost.Goals as goal

pub returns-clause-views : goal.returns-clause-views
returns-clause-views c =
    let all = c.args.reverted.now in
    let none : drop c.loop-entry.entry-index all ≡ [] = drop_all c.loop-entry.entry-index all (omega arith) in
    ap (λ (es : List Logged). views_left all es c.loop-entry.views) (sym none) ∙ c.loop-entry.invariant.views ∙ views_without all c.args.views.now

pub returns-clause-kept : goal.returns-clause-kept
returns-clause-kept c =
    let all = c.args.reverted.now in
    let none : drop c.loop-entry.entry-index all ≡ [] = drop_all c.loop-entry.entry-index all (omega arith) in
    ap (λ (es : List Logged). kept_left all es c.loop-entry.kept) (sym none) ∙ c.loop-entry.invariant.kept ∙ kept_without all c.args.kept.now
