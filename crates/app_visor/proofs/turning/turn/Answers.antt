use Rattle.std.proofs.Common.{ℕ, refl, ap, ◌∙◌, inl, inr}
use Rattle.std.proofs.lemmas.Result.{err_from_is_err_and}
use Rattle.lego_model.specs.Controller.{event_frame}
use Rattle.outside.specs.laws.SeenLaws.{Continues-refl, Continues-trans}
use Rattle.lego_model.specs.declared.fault.TxnFault.TheVariants.{NoMemory}
use Rattle.app_visor.specs.laws.ResultLaws.{err_is}
use Rattle.app_visor.specs.laws.ReadLaws.{Wants-refl}
use Rattle.app_visor.specs.laws.BeatLaws.{Leads-refl, Leads-trans, Leads-continues, stops_wanting, stops_then, Stops-continues, Leads-stays, Stops-stays}
use Rattle.app_visor.specs.laws.PlayLaws.{turns_gone, turns_given, leads_turn, leads_told}
use Rattle.journal_laws.specs.laws.FrameLaws.{event_is}
use Rattle.app_visor.specs.laws.LeadsOnLaws.{leads_on_here, leads_on_wanting, leads_on_event, leads_on_turned, talks_of}
use Rattle.app_visor.specs.laws.CalmLaws.{calm_none, calm_wanting, given_so}
use Rattle.net_txn.specs.Causes.{IsPlain}
use Rattle.app_visor.proofs.turning.turn.Goals as goal

pub returns-in_err-frame-clause-err : goal.returns-in_err-frame-clause-err
returns-in_err-frame-clause-err g c =
    let p = err_from_is_err_and c.from_residual.result c.from_residual.ensures.1 in
    let seen = g.W.World.seen c.args.world.now in
    err_is _ c.from_residual.result p.0 NoMemory p.1 p.2 (stops_wanting (Leads-refl c.args.app.now.index seen c.args.txn.now.net.now) (Wants-refl seen))

pub returns-in_err-intake-clause-err : goal.returns-in_err-intake-clause-err
returns-in_err-intake-clause-err g c =
    let p = err_from_is_err_and c.from_residual-in_err-intake.result c.from_residual-in_err-intake.ensures.1 in
    let seen = g.W.World.seen c.args.world.now in
    err_is _ c.from_residual-in_err-intake.result p.0 NoMemory p.1 p.2 (stops_wanting (Leads-refl c.args.app.now.index seen c.args.txn.now.net.now) (Wants-refl seen))

pub returns-in_err-give-clause-err : goal.returns-in_err-give-clause-err
returns-in_err-give-clause-err g c =
    let p = err_from_is_err_and c.from_residual-in_err-give.result c.from_residual-in_err-give.ensures.1 in
    err_is _ c.from_residual-in_err-give.result p.0 NoMemory p.1 p.2
    (stops_wanting (Leads-refl c.args.app.now.index (g.W.World.seen c.args.world.now) c.args.txn.now.net.now) c.in_err-give.ensures.err)

pub returns-then-not-branch-clause-ok : goal.returns-then-not-branch-clause-ok
returns-then-not-branch-clause-ok g c =
    let spelled = c.as_slice-2.ensures ∙ c.in_ok-frame.ensures ∙ ap (λ (m : ℕ). event_frame c.args.number m c.args.event.now) c.moment.ensures in
    turns_gone c.args.budget c.args.app.now.rest c.replace-rest.new.dest c.as_slice-2.result.now (event_frame c.args.number c.args.txn.now.net.now.moment c.args.event.now) c.args.txn.now.net.now c.args.store.now (c.replace-rest.ensures.after ∙ c.new.ensures) spelled
    (rw c.if-not-branch.true at c.in_ok-give.ensures.ok)

pub returns-in_err-end-clause-err : goal.returns-in_err-end-clause-err
returns-in_err-end-clause-err g c =
    let p = err_from_is_err_and c.from_residual-in_err-end.result c.from_residual-in_err-end.ensures.1 in
    err_is _ c.from_residual-in_err-end.result p.0 c.in_err-end.field-0.0 p.1 p.2 (stops_then (leads_told c.args.txn.now.net.now (rw c.if-not-branch.false at c.in_ok-give.ensures.ok)) c.in_err-end.ensures.err)

pub returns-in_err-end-clause-continues : goal.returns-in_err-end-clause-continues
returns-in_err-end-clause-continues g c =
    Continues-trans g.W.World.Tells (g.W.World.seen c.args.world.now) (g.W.World.seen c.give.new.world) (g.W.World.seen c.play_all.new.world) c.in_ok-give.ensures.ok.continues (Stops-continues c.in_err-end.ensures.err)

pub returns-in_err-rest-clause-err : goal.returns-in_err-rest-clause-err
returns-in_err-rest-clause-err g c =
    let p = err_from_is_err_and c.from_residual-in_err-rest.result c.from_residual-in_err-rest.ensures.1 in
    err_is _ c.from_residual-in_err-rest.result p.0 NoMemory p.1 p.2
    (stops_wanting (Leads-trans (leads_told c.args.txn.now.net.now (rw c.if-not-branch.false at c.in_ok-give.ensures.ok)) (leads_turn c.in_ok-end.ensures.ok)) (Wants-refl (g.W.World.seen c.play_all.new.world)))

pub returns-in_err-end-2-clause-err : goal.returns-in_err-end-2-clause-err
returns-in_err-end-2-clause-err g c =
    let p = err_from_is_err_and c.from_residual-in_err-end-2.result c.from_residual-in_err-end-2.ensures.1 in
    err_is _ c.from_residual-in_err-end-2.result p.0 NoMemory p.1 p.2
    (stops_wanting (Leads-trans (leads_told c.args.txn.now.net.now (rw c.if-not-branch.false at c.in_ok-give.ensures.ok)) (leads_turn c.in_ok-end.ensures.ok)) (Wants-refl (g.W.World.seen c.play_all.new.world)))

pub returns-in_err-rest-clause-continues : goal.returns-in_err-rest-clause-continues
returns-in_err-rest-clause-continues g c =
    Continues-trans g.W.World.Tells (g.W.World.seen c.args.world.now) (g.W.World.seen c.give.new.world) (g.W.World.seen c.play_all.new.world) c.in_ok-give.ensures.ok.continues
    (Leads-continues (leads_turn c.in_ok-end.ensures.ok))

pub returns-in_err-end-2-clause-continues : goal.returns-in_err-end-2-clause-continues
returns-in_err-end-2-clause-continues g c =
    Continues-trans g.W.World.Tells (g.W.World.seen c.args.world.now) (g.W.World.seen c.give.new.world) (g.W.World.seen c.play_all.new.world) c.in_ok-give.ensures.ok.continues
    (Leads-continues (leads_turn c.in_ok-end.ensures.ok))

pub returns-clause-ok : goal.returns-clause-ok
returns-clause-ok g c =
    let spelled = c.as_slice-2.ensures ∙ c.in_ok-frame.ensures ∙ ap (λ (m : ℕ). event_frame c.args.number m c.args.event.now) c.moment.ensures in
    turns_given _ _ c.as_slice-2.result.now (event_frame c.args.number c.args.txn.now.net.now.moment c.args.event.now) c.in_ok-intake.intake c.in_ok-end-2.ensures.end c.in_ok-rest.ensures spelled (c.in_ok-intake.ensures ∙ c.as_slice.ensures ∙ c.replace-rest.ensures.value) c.in_ok-end-2.ensures.ok
    (rw c.if-not-branch.false at c.in_ok-give.ensures.ok) c.in_ok-end.ensures.ok

pub returns-clause-continues : goal.returns-clause-continues
returns-clause-continues g c =
    Continues-trans g.W.World.Tells (g.W.World.seen c.args.world.now) (g.W.World.seen c.give.new.world) (g.W.World.seen c.play_all.new.world) c.in_ok-give.ensures.ok.continues
    (Leads-continues (leads_turn c.in_ok-end.ensures.ok))

pub returns-in_err-end-clause-stays : goal.returns-in_err-end-clause-stays
returns-in_err-end-clause-stays g c = Stops-stays c.in_err-end.ensures.err

pub returns-in_err-rest-clause-stays : goal.returns-in_err-rest-clause-stays
returns-in_err-rest-clause-stays g c = Leads-stays (leads_turn c.in_ok-end.ensures.ok)

pub returns-in_err-end-2-clause-stays : goal.returns-in_err-end-2-clause-stays
returns-in_err-end-2-clause-stays g c = Leads-stays (leads_turn c.in_ok-end.ensures.ok)

pub returns-clause-stays : goal.returns-clause-stays
returns-clause-stays g c = Leads-stays (leads_turn c.in_ok-end.ensures.ok)

pub returns-in_err-frame-clause-talks : goal.returns-in_err-frame-clause-talks
returns-in_err-frame-clause-talks g c =
    let p = err_from_is_err_and c.from_residual.result c.from_residual.ensures.1 in
    let seen = g.W.World.seen c.args.world.now in
    rw p.1 (λ tells s runs passes. talks_of (Continues-refl g.W.World.Tells seen) (leads_on_here c.args.app.now.index s seen seen refl))

pub returns-in_err-intake-clause-talks : goal.returns-in_err-intake-clause-talks
returns-in_err-intake-clause-talks g c =
    let p = err_from_is_err_and c.from_residual-in_err-intake.result c.from_residual-in_err-intake.ensures.1 in
    let seen = g.W.World.seen c.args.world.now in
    rw p.1 (λ tells s runs passes. talks_of (Continues-refl g.W.World.Tells seen) (leads_on_here c.args.app.now.index s seen seen refl))

pub returns-in_err-give-clause-talks : goal.returns-in_err-give-clause-talks
returns-in_err-give-clause-talks g c =
    let p = err_from_is_err_and c.from_residual-in_err-give.result c.from_residual-in_err-give.ensures.1 in
    rw p.1 (λ tells s runs passes. talks_of c.in_err-give.ensures.err.continues (leads_on_wanting c.args.app.now.index s c.in_err-give.ensures.err tells))

pub returns-in_err-end-clause-talks : goal.returns-in_err-end-clause-talks
returns-in_err-end-clause-talks g c =
    let p = err_from_is_err_and c.from_residual-in_err-end.result c.from_residual-in_err-end.ensures.1 in
    let old = g.W.World.seen c.args.world.now in
    let mid = g.W.World.seen c.give.new.world in
    let new = g.W.World.seen c.play_all.new.world in
    let spelled = c.as_slice-2.ensures ∙ c.in_ok-frame.ensures ∙ ap (λ (m : ℕ). event_frame c.args.number m c.args.event.now) c.moment.ensures in
    let told = rw c.if-not-branch.false at c.in_ok-give.ensures.ok in
    let continues = Continues-trans g.W.World.Tells old mid new told.continues (Stops-continues c.in_err-end.ensures.err) in
    rw p.1 (λ tells s runs passes. talks_of continues (leads_on_event g.W.World.Tells c.args.app.now.index c.as_slice-2.result.now (event_frame c.args.number c.args.txn.now.net.now.moment c.args.event.now) c.args.app.now.rest c.in_ok-intake.intake s
    old mid new told tells spelled (event_is c.args.number c.args.txn.now.net.now.moment c.args.event.now) (c.in_ok-intake.ensures ∙ c.as_slice.ensures ∙ c.replace-rest.ensures.value) runs passes (c.in_err-end.ensures.talks tells)))

pub returns-in_err-rest-clause-talks : goal.returns-in_err-rest-clause-talks
returns-in_err-rest-clause-talks g c =
    let p = err_from_is_err_and c.from_residual-in_err-rest.result c.from_residual-in_err-rest.ensures.1 in
    let old = g.W.World.seen c.args.world.now in
    let mid = g.W.World.seen c.give.new.world in
    let new = g.W.World.seen c.play_all.new.world in
    let spelled = c.as_slice-2.ensures ∙ c.in_ok-frame.ensures ∙ ap (λ (m : ℕ). event_frame c.args.number m c.args.event.now) c.moment.ensures in
    let told = rw c.if-not-branch.false at c.in_ok-give.ensures.ok in
    let continues = Continues-trans g.W.World.Tells old mid new told.continues (Leads-continues (leads_turn c.in_ok-end.ensures.ok)) in
    rw p.1 (λ tells s runs passes. talks_of continues (leads_on_event g.W.World.Tells c.args.app.now.index c.as_slice-2.result.now (event_frame c.args.number c.args.txn.now.net.now.moment c.args.event.now) c.args.app.now.rest c.in_ok-intake.intake s
    old mid new told tells spelled (event_is c.args.number c.args.txn.now.net.now.moment c.args.event.now) (c.in_ok-intake.ensures ∙ c.as_slice.ensures ∙ c.replace-rest.ensures.value) runs passes (leads_on_turned c.in_ok-end.ensures.ok tells)))

pub returns-in_err-end-2-clause-talks : goal.returns-in_err-end-2-clause-talks
returns-in_err-end-2-clause-talks g c =
    let p = err_from_is_err_and c.from_residual-in_err-end-2.result c.from_residual-in_err-end-2.ensures.1 in
    let old = g.W.World.seen c.args.world.now in
    let mid = g.W.World.seen c.give.new.world in
    let new = g.W.World.seen c.play_all.new.world in
    let spelled = c.as_slice-2.ensures ∙ c.in_ok-frame.ensures ∙ ap (λ (m : ℕ). event_frame c.args.number m c.args.event.now) c.moment.ensures in
    let told = rw c.if-not-branch.false at c.in_ok-give.ensures.ok in
    let continues = Continues-trans g.W.World.Tells old mid new told.continues (Leads-continues (leads_turn c.in_ok-end.ensures.ok)) in
    rw p.1 (λ tells s runs passes. talks_of continues (leads_on_event g.W.World.Tells c.args.app.now.index c.as_slice-2.result.now (event_frame c.args.number c.args.txn.now.net.now.moment c.args.event.now) c.args.app.now.rest c.in_ok-intake.intake s
    old mid new told tells spelled (event_is c.args.number c.args.txn.now.net.now.moment c.args.event.now) (c.in_ok-intake.ensures ∙ c.as_slice.ensures ∙ c.replace-rest.ensures.value) runs passes (leads_on_turned c.in_ok-end.ensures.ok tells)))

pub returns-in_err-frame-clause-later : goal.returns-in_err-frame-clause-later
returns-in_err-frame-clause-later g c = λ tells. record {
  mid = g.W.World.seen c.args.world.now;
  begins = inl refl;
  calm = calm_none c.args.app.now.index (g.W.World.seen c.args.world.now);
}

pub returns-in_err-intake-clause-later : goal.returns-in_err-intake-clause-later
returns-in_err-intake-clause-later g c = λ tells. record {
  mid = g.W.World.seen c.args.world.now;
  begins = inl refl;
  calm = calm_none c.args.app.now.index (g.W.World.seen c.args.world.now);
}

pub returns-in_err-give-clause-later : goal.returns-in_err-give-clause-later
returns-in_err-give-clause-later g c = λ tells. record {
  mid = g.W.World.seen c.args.world.now;
  begins = inl refl;
  calm = calm_wanting c.args.app.now.index c.in_err-give.ensures.err tells;
}

pub returns-then-not-branch-clause-later : goal.returns-then-not-branch-clause-later
returns-then-not-branch-clause-later g c =
    let spelled = c.as_slice-2.ensures ∙ c.in_ok-frame.ensures ∙ ap (λ (m : ℕ). event_frame c.args.number m c.args.event.now) c.moment.ensures in
    λ tells. record {
      mid = g.W.World.seen c.give.new.world;
      begins = inr (given_so c.in_ok-give.field-0 (event_frame c.args.number c.args.txn.now.net.now.moment c.args.event.now) spelled c.in_ok-give.ensures.ok tells);
      calm = calm_none c.args.app.now.index (g.W.World.seen c.give.new.world);
    }

pub returns-in_err-end-clause-later : goal.returns-in_err-end-clause-later
returns-in_err-end-clause-later g c =
    let spelled = c.as_slice-2.ensures ∙ c.in_ok-frame.ensures ∙ ap (λ (m : ℕ). event_frame c.args.number m c.args.event.now) c.moment.ensures in
    λ tells. record {
      mid = g.W.World.seen c.give.new.world;
      begins = inr (given_so c.in_ok-give.field-0 (event_frame c.args.number c.args.txn.now.net.now.moment c.args.event.now) spelled c.in_ok-give.ensures.ok tells);
      calm = c.play_all.ensures.calm tells;
    }

pub returns-in_err-rest-clause-later : goal.returns-in_err-rest-clause-later
returns-in_err-rest-clause-later g c =
    let spelled = c.as_slice-2.ensures ∙ c.in_ok-frame.ensures ∙ ap (λ (m : ℕ). event_frame c.args.number m c.args.event.now) c.moment.ensures in
    λ tells. record {
      mid = g.W.World.seen c.give.new.world;
      begins = inr (given_so c.in_ok-give.field-0 (event_frame c.args.number c.args.txn.now.net.now.moment c.args.event.now) spelled c.in_ok-give.ensures.ok tells);
      calm = c.play_all.ensures.calm tells;
    }

pub returns-in_err-end-2-clause-later : goal.returns-in_err-end-2-clause-later
returns-in_err-end-2-clause-later g c =
    let spelled = c.as_slice-2.ensures ∙ c.in_ok-frame.ensures ∙ ap (λ (m : ℕ). event_frame c.args.number m c.args.event.now) c.moment.ensures in
    λ tells. record {
      mid = g.W.World.seen c.give.new.world;
      begins = inr (given_so c.in_ok-give.field-0 (event_frame c.args.number c.args.txn.now.net.now.moment c.args.event.now) spelled c.in_ok-give.ensures.ok tells);
      calm = c.play_all.ensures.calm tells;
    }

pub returns-clause-later : goal.returns-clause-later
returns-clause-later g c =
    let spelled = c.as_slice-2.ensures ∙ c.in_ok-frame.ensures ∙ ap (λ (m : ℕ). event_frame c.args.number m c.args.event.now) c.moment.ensures in
    λ tells. record {
      mid = g.W.World.seen c.give.new.world;
      begins = inr (given_so c.in_ok-give.field-0 (event_frame c.args.number c.args.txn.now.net.now.moment c.args.event.now) spelled c.in_ok-give.ensures.ok tells);
      calm = c.play_all.ensures.calm tells;
    }

pub returns-in_err-frame-clause-parted : goal.returns-in_err-frame-clause-parted
returns-in_err-frame-clause-parted g c =
    let p = err_from_is_err_and c.from_residual.result c.from_residual.ensures.1 in
    λ can. err_is IsPlain c.from_residual.result p.0 NoMemory p.1 p.2 tt

pub returns-in_err-intake-clause-parted : goal.returns-in_err-intake-clause-parted
returns-in_err-intake-clause-parted g c =
    let p = err_from_is_err_and c.from_residual-in_err-intake.result c.from_residual-in_err-intake.ensures.1 in
    λ can. err_is IsPlain c.from_residual-in_err-intake.result p.0 NoMemory p.1 p.2 tt

pub returns-in_err-give-clause-parted : goal.returns-in_err-give-clause-parted
returns-in_err-give-clause-parted g c =
    let p = err_from_is_err_and c.from_residual-in_err-give.result c.from_residual-in_err-give.ensures.1 in
    λ can. err_is IsPlain c.from_residual-in_err-give.result p.0 NoMemory p.1 p.2 tt

pub returns-in_err-end-clause-parted : goal.returns-in_err-end-clause-parted
returns-in_err-end-clause-parted g c =
    let p = err_from_is_err_and c.from_residual-in_err-end.result c.from_residual-in_err-end.ensures.1 in
    λ can. err_is IsPlain c.from_residual-in_err-end.result p.0 c.in_err-end.field-0.0 p.1 p.2 (c.in_err-end.ensures.parted can)

pub returns-in_err-rest-clause-parted : goal.returns-in_err-rest-clause-parted
returns-in_err-rest-clause-parted g c =
    let p = err_from_is_err_and c.from_residual-in_err-rest.result c.from_residual-in_err-rest.ensures.1 in
    λ can. err_is IsPlain c.from_residual-in_err-rest.result p.0 NoMemory p.1 p.2 tt

pub returns-in_err-end-2-clause-parted : goal.returns-in_err-end-2-clause-parted
returns-in_err-end-2-clause-parted g c =
    let p = err_from_is_err_and c.from_residual-in_err-end-2.result c.from_residual-in_err-end-2.ensures.1 in
    λ can. err_is IsPlain c.from_residual-in_err-end-2.result p.0 NoMemory p.1 p.2 tt
