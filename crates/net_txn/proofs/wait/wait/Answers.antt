use Rattle.std.proofs.Common.{◌∙◌, refl, arith}
use Rattle.std.proofs.lemmas.Result.{err_from_is_err_and}
use Rattle.net_txn.specs.Undos.{inverses_in}
use Rattle.net_txn.specs.laws.ExchangeLaws.{none_yet, one_more, replied, unreplied, flooded}
use Rattle.net_txn.proofs.wait.wait.Goals as goal

pub loop-heard-init : goal.loop-heard-init
loop-heard-init g c = record {
  heard = rw c.new-answer.ensures (none_yet c.args.awaited.now c.args.storage (inverses_in c.args.awaited.now.dpid c.args.reverted.now) (g.W.World.seen c.args.world.now) c.args.kept.now);
  room = refl;
}

pub returns-in_err-hear-clause-exchanges : goal.returns-in_err-hear-clause-exchanges
returns-in_err-hear-clause-exchanges g c =
    let p = err_from_is_err_and c.from_residual.result c.from_residual.ensures.1 in
    rw (p.1, p.2) (unreplied c.requires.is_xid c.loop-heard.invariant.heard c.in_err-hear.ensures.hears)

pub returns-then-branch-clause-exchanges : goal.returns-then-branch-clause-exchanges
returns-then-branch-clause-exchanges g c = replied c.loop-heard.invariant.heard (omega arith) (rw c.if-branch.true at c.in_ok-hear.ensures.hears)

pub loop-heard-preserved : goal.loop-heard-preserved
loop-heard-preserved g c = record {
  heard = one_more c.loop-heard.invariant.heard (rw c.if-branch.false at c.in_ok-hear.ensures.hears);
  room = c.in_ok-hear.ensures.len ∙ c.loop-heard.invariant.room;
}

pub returns-clause-exchanges : goal.returns-clause-exchanges
returns-clause-exchanges g c = flooded _ c.give_up.result c.requires.is_xid (omega arith) c.loop-heard.invariant.heard c.give_up.ensures.gives_up

pub returns-in_err-hear-clause-parted : goal.returns-in_err-hear-clause-parted
returns-in_err-hear-clause-parted g c =
    let p = err_from_is_err_and c.from_residual.result c.from_residual.ensures.1 in
    λ can. rw (p.1, p.2) (c.in_err-hear.ensures.parted can)
