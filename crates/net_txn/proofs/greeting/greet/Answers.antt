use Rattle.std.proofs.Common.{◌∷◌, []}
use Rattle.std.proofs.lemmas.Result.{err_from_is_err_and}
use Rattle.net_txn.specs.laws.TalkLaws.{talks_not, talks_behind}
use Rattle.net_txn.specs.laws.PartingLaws.{unsaid_plain}
use Rattle.net_txn.proofs.greeting.greet.Goals as goal

pub returns-in_err-say-clause-talks : goal.returns-in_err-say-clause-talks
returns-in_err-say-clause-talks g c =
    let p = err_from_is_err_and c.from_residual.result c.from_residual.ensures.1 in
    rw (p.1, p.2) (talks_not (c.args.first.now ∷ c.args.second.now ∷ []) c.args.kept.now c.in_err-say.field-0.0 c.in_err-say.ensures)

pub returns-clause-talks : goal.returns-clause-talks
returns-clause-talks g c = talks_behind c.args.awaited.now (c.args.second.now ∷ []) (g.W.World.seen c.ask.new.world) c.args.kept.now c.ask.new.kept c.args.first.now c.ask.result c.in_ok-say.ensures c.ask.ensures.talks

pub returns-in_err-say-clause-parted : goal.returns-in_err-say-clause-parted
returns-in_err-say-clause-parted g c =
    let p = err_from_is_err_and c.from_residual.result c.from_residual.ensures.1 in
    λ can. rw (p.1, p.2) (unsaid_plain c.in_err-say.field-0.0 c.in_err-say.ensures)
