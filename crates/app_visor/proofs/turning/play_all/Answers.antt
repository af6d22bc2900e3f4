use Rattle.std.proofs.Common.{◌≡◌, ◌+◌, ◌-◌, zero, suc, refl, ◌∙◌, arith}
use Rattle.std.proofs.lemmas.Result.{err_from_is_err_and}
use Rattle.lego_model.specs.declared.fault.TxnFault.TheVariants.{NoMemory}
use Rattle.app_visor.specs.laws.ResultLaws.{err_is}
use Rattle.app_visor.specs.laws.BeatLaws.{Leads-refl, Leads-trans, stops_then, stops_breaking}
use Rattle.app_visor.specs.laws.PlayLaws.{goes_none, goes_more, ends_then, spent_then}
use Rattle.app_visor.specs.laws.LeadsOnLaws.{leads_on_breaking, leads_on_played}
use Rattle.app_visor.specs.laws.CalmLaws.{calm_none, calm_then, calm_comes, calm_breaking}
use Rattle.net_txn.specs.Causes.{IsPlain}
use Rattle.app_visor.proofs.turning.play_all.Goals as goal

pub loop-played-init : goal.loop-played-init
loop-played-init g c = record {
  on = goes_none c.args.app c.args.budget (c.args.budget - 0) c.args.intake.now (g.W.World.seen c.args.world.now) c.args.txn.now.net.now (omega arith);
  leads = Leads-refl c.args.app (g.W.World.seen c.args.world.now) c.args.txn.now.net.now;
  calm = λ tells. calm_none c.args.app (g.W.World.seen c.args.world.now);
  same_reference = refl;
  start = refl;
}

pub returns-in_err-end-clause-err : goal.returns-in_err-end-clause-err
returns-in_err-end-clause-err g c =
    let p = err_from_is_err_and c.from_residual.result c.from_residual.ensures.1 in
    err_is _ c.from_residual.result p.0 c.in_err-end.field-0.0 p.1 p.2 (stops_then c.loop-played.invariant.leads c.in_err-end.ensures.err)

pub returns-in-Some-clause-ok : goal.returns-in-Some-clause-ok
returns-in-Some-clause-ok g c =
    let left : c.args.budget - c.loop-played._played ≡ suc (c.args.budget - (c.loop-played._played + 1)) = omega arith in
    ends_then (c.args.budget - (c.loop-played._played + 1)) left c.loop-played.invariant.on (rw c.in-Some.is at c.in_ok-end.ensures.ok)

pub loop-played-preserved : goal.loop-played-preserved
loop-played-preserved g c =
    let left : c.args.budget - c.loop-played._played ≡ suc (c.args.budget - (c.loop-played._played + 1)) = omega arith in
    record {
      on = goes_more (c.args.budget - (c.loop-played._played + 1)) left c.loop-played.invariant.on (rw c.in_default.is at c.in_ok-end.ensures.ok);
      leads = Leads-trans c.loop-played.invariant.leads c.in_ok-end.ensures.leads;
      calm = λ tells. calm_then (c.loop-played.invariant.calm tells) (c.play_next.ensures.calm tells);
      same_reference = c.in_ok-end.ensures.same_reference ∙ c.loop-played.invariant.same_reference;
      start = c.in_ok-end.ensures.start ∙ c.loop-played.invariant.start;
    }

pub returns-in_err-next_frame-clause-err : goal.returns-in_err-next_frame-clause-err
returns-in_err-next_frame-clause-err g c =
    let p = err_from_is_err_and c.from_residual-in_err-next_frame.result c.from_residual-in_err-next_frame.ensures.1 in
    err_is _ c.from_residual-in_err-next_frame.result p.0 NoMemory p.1 p.2 (stops_then c.loop-played.invariant.leads (stops_breaking c.loop-played.txn.net.now c.in_err-next_frame.ensures.err))

pub returns-clause-ok : goal.returns-clause-ok
returns-clause-ok g c =
    let none : c.args.budget - c.loop-played._played ≡ zero = omega arith in
    rw c.cause_of.ensures (spent_then c.in_ok-next_frame.field-0 none c.loop-played.invariant.on c.in_ok-next_frame.ensures.ok)

pub returns-in_err-end-clause-talks : goal.returns-in_err-end-clause-talks
returns-in_err-end-clause-talks g c =
    let p = err_from_is_err_and c.from_residual.result c.from_residual.ensures.1 in
    rw p.1 (λ tells. leads_on_played (g.W.World.seen c.play_next.new.world) c.loop-played.invariant.on tells (c.in_err-end.ensures.talks tells))

pub returns-in_err-next_frame-clause-talks : goal.returns-in_err-next_frame-clause-talks
returns-in_err-next_frame-clause-talks g c =
    let p = err_from_is_err_and c.from_residual-in_err-next_frame.result c.from_residual-in_err-next_frame.ensures.1 in
    let new = g.W.World.seen c.next_frame.new.world in
    rw p.1 (λ tells. leads_on_played new c.loop-played.invariant.on tells
    (λ since. leads_on_breaking g.W.World.Tells c.args.app c.loop-played.intake since (g.W.World.seen c.loop-played.world) new c.in_err-next_frame.ensures.err tells))

pub returns-in_err-end-clause-calm : goal.returns-in_err-end-clause-calm
returns-in_err-end-clause-calm g c = λ tells. calm_then (c.loop-played.invariant.calm tells) (c.play_next.ensures.calm tells)

pub returns-in-Some-clause-calm : goal.returns-in-Some-clause-calm
returns-in-Some-clause-calm g c = λ tells. calm_then (c.loop-played.invariant.calm tells) (c.play_next.ensures.calm tells)

pub returns-in_err-next_frame-clause-calm : goal.returns-in_err-next_frame-clause-calm
returns-in_err-next_frame-clause-calm g c = λ tells. calm_then (c.loop-played.invariant.calm tells) (calm_breaking c.in_err-next_frame.ensures.err tells)

pub returns-clause-calm : goal.returns-clause-calm
returns-clause-calm g c = λ tells. calm_then (c.loop-played.invariant.calm tells) (calm_comes c.in_ok-next_frame.field-0 c.in_ok-next_frame.ensures.ok tells)

pub returns-in_err-end-clause-parted : goal.returns-in_err-end-clause-parted
returns-in_err-end-clause-parted g c =
    let p = err_from_is_err_and c.from_residual.result c.from_residual.ensures.1 in
    λ can. err_is IsPlain c.from_residual.result p.0 c.in_err-end.field-0.0 p.1 p.2 (c.in_err-end.ensures.parted can)

pub returns-in_err-next_frame-clause-parted : goal.returns-in_err-next_frame-clause-parted
returns-in_err-next_frame-clause-parted g c =
    let p = err_from_is_err_and c.from_residual-in_err-next_frame.result c.from_residual-in_err-next_frame.ensures.1 in
    λ can. err_is IsPlain c.from_residual-in_err-next_frame.result p.0 NoMemory p.1 p.2 tt
