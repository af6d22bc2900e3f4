use Rattle.std.proofs.Common.{refl}
use Rattle.std.proofs.lemmas.Result.{err_from_is_err_and, IfOk-weaker, on_ok_weaker, on_err_weaker}
use Rattle.lego_model.specs.declared.fault.TxnFault.TheVariants.{NoMemory}
use Rattle.app_visor.specs.laws.ResultLaws.{err_is, err_then}
use Rattle.app_visor.specs.laws.BeatLaws.{Leads-trans, leads_comes, stops_then, stops_breaking}
use Rattle.app_visor.specs.laws.PlayLaws.{plays_came, ends_over, not_frame}
use Rattle.app_visor.specs.laws.LeadsOnLaws.{leads_on_breaking, leads_on_came}
use Rattle.app_visor.specs.laws.CalmLaws.{calm_then, calm_comes, calm_breaking}
use Rattle.net_txn.specs.Causes.{IsPlain}
use Rattle.app_visor.proofs.turning.play_next.Goals as goal

pub returns-in_err-came-clause-err : goal.returns-in_err-came-clause-err
returns-in_err-came-clause-err g c =
    let p = err_from_is_err_and c.from_residual.result c.from_residual.ensures.1 in
    err_is _ c.from_residual.result p.0 NoMemory p.1 p.2 (stops_breaking c.args.txn.now.net.now c.in_err-came.ensures.err)

pub returns-in-Frame-clause-leads : goal.returns-in-Frame-clause-leads
returns-in-Frame-clause-leads g c =
    on_ok_weaker c.play.result (λ later. Leads-trans (leads_comes c.in_ok-came.came c.args.txn.now.net.now c.in_ok-came.ensures.ok) later) c.play.ensures.leads

pub returns-in-Frame-clause-ok : goal.returns-in-Frame-clause-ok
returns-in-Frame-clause-ok g c =
    IfOk-weaker c.play.result _ _ (λ o plays. plays_came g.W.World.Tells (g.J.Judge.accepts c.args.judge.now) c.args.app o c.in-Frame.frame c.args.intake.now c.next_frame.new.intake (g.W.World.seen c.args.world.now)
    (g.W.World.seen c.next_frame.new.world) (g.W.World.seen c.play.new.world) c.args.txn.now.net.now c.play.new.txn.net.now (rw c.in-Frame.is at c.in_ok-came.ensures.ok) plays) c.play.ensures.ok

pub returns-in-Frame-clause-err : goal.returns-in-Frame-clause-err
returns-in-Frame-clause-err g c =
    err_then _ _ c.play.result (λ fault stops. stops_then (leads_comes c.in_ok-came.came c.args.txn.now.net.now c.in_ok-came.ensures.ok) stops) c.play.ensures.err

pub returns-in_default : goal.returns-in_default
returns-in_default g c = record {
  same_reference = refl;
  start = refl;
  leads = leads_comes c.in_ok-came.came c.args.txn.now.net.now c.in_ok-came.ensures.ok;
  ok = rw c.cause_of.ensures (ends_over g.W.World.Tells (g.J.Judge.accepts c.args.judge.now) c.args.app c.in_ok-came.came c.args.intake.now c.next_frame.new.intake (g.W.World.seen c.args.world.now)
      (g.W.World.seen c.next_frame.new.world) c.args.txn.now.net.now (not_frame c.in_ok-came.came c.in_default.not-Frame) c.in_ok-came.ensures.ok);
  err = tt;
  talks = tt;
  calm = λ tells. calm_comes c.in_ok-came.came c.in_ok-came.ensures.ok tells;
  parted = λ can. tt;
}

pub returns-in_err-came-clause-talks : goal.returns-in_err-came-clause-talks
returns-in_err-came-clause-talks g c =
    let p = err_from_is_err_and c.from_residual.result c.from_residual.ensures.1 in
    rw p.1 (λ tells since. leads_on_breaking g.W.World.Tells c.args.app c.args.intake.now since (g.W.World.seen c.args.world.now) (g.W.World.seen c.next_frame.new.world) c.in_err-came.ensures.err tells)

pub returns-in-Frame-clause-talks : goal.returns-in-Frame-clause-talks
returns-in-Frame-clause-talks g c =
    on_err_weaker c.play.result (λ later tells since. leads_on_came g.W.World.Tells c.args.app c.in-Frame.frame c.args.intake.now c.next_frame.new.intake since (g.W.World.seen c.args.world.now) (g.W.World.seen c.next_frame.new.world)
    (g.W.World.seen c.play.new.world) (rw c.in-Frame.is at c.in_ok-came.ensures.ok) tells (later tells)) c.play.ensures.talks

pub returns-in_err-came-clause-calm : goal.returns-in_err-came-clause-calm
returns-in_err-came-clause-calm g c = λ tells. calm_breaking c.in_err-came.ensures.err tells

pub returns-in-Frame-clause-calm : goal.returns-in-Frame-clause-calm
returns-in-Frame-clause-calm g c = λ tells. calm_then (calm_comes c.in_ok-came.came c.in_ok-came.ensures.ok tells) (c.play.ensures.calm tells)

pub returns-in_err-came-clause-parted : goal.returns-in_err-came-clause-parted
returns-in_err-came-clause-parted g c =
    let p = err_from_is_err_and c.from_residual.result c.from_residual.ensures.1 in
    λ can. err_is IsPlain c.from_residual.result p.0 NoMemory p.1 p.2 tt

pub returns-in-Frame-clause-parted : goal.returns-in-Frame-clause-parted
returns-in-Frame-clause-parted g c = c.play.ensures.parted
