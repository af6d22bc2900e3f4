use Rattle.std.proofs.Common.{ℕ, subst, arith}
use Rattle.std.proofs.lemmas.List.{length-map}
use Rattle.flow_table.specs.View.{plain, plains}
use Rattle.flow_table.specs.laws.PlainLaws.{plains-read}
use Rattle.net_txn.specs.Joining.{IsViewPlace}
use Rattle.net_txn.specs.laws.JoiningLaws.{lower_more, lower_stop, lower_end}
use Rattle.net_txn.proofs.joining.position_for.Goals as goal

pub loop-i-preserved : goal.loop-i-preserved
loop-i-preserved c =
    let read = plains-read c.args.views.now c.loop-i.i c.index-views-i.result c.loop-i-test.true c.index-views-i.is in
    lower_more c.args.dpid (plains c.args.views.now) c.loop-i.i (plain c.index-views-i.result) (omega (arith, length-map c.args.views.now plain)) read (omega arith) c.loop-i.invariant

pub returns : goal.returns
returns c =
    let shown = length-map c.args.views.now plain in
    subst (λ (n : ℕ). IsViewPlace c.args.dpid (plains c.args.views.now) n) shown (lower_end c.args.dpid (plains c.args.views.now) c.loop-i.i (omega (arith, shown)) c.loop-i.invariant)

pub returns-then-dpid-view : goal.returns-then-dpid-view
returns-then-dpid-view c =
    let read = plains-read c.args.views.now c.loop-i.i c.index-views-i.result c.loop-i-test.true c.index-views-i.is in
    lower_stop c.args.dpid (plains c.args.views.now) c.loop-i.i (plain c.index-views-i.result) (omega (arith, length-map c.args.views.now plain)) read (omega arith) c.loop-i.invariant
