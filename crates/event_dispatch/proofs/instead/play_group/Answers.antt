use Rattle.std.proofs.Common.{rules, refl, sym, subst}
use Rattle.app_visor.specs.Beats.{Stops}
use Rattle.net_txn.specs.Net.{NetState}
use Rattle.event_dispatch.specs.GroupParts.{GroupFails}
use Rattle.event_dispatch.specs.Plain.{IsPlainEnd}
use Rattle.event_dispatch.specs.Why.{fault_of}
use Rattle.event_dispatch.specs.laws.CutLaws.{if_err}
use Rattle.event_dispatch.specs.laws.GroupLaws.{quiet_links}
use Rattle.event_dispatch.specs.laws.GroupPartLaws.{unreleased_passes, not_undone_passes, stopped_passes, leads_there, kept_there, back_there, unreleased_there, not_undone_there, stops_there, group_passes, own_among}
use Rattle.event_dispatch.specs.laws.PassesLaws.{at_fault}
use Rattle.event_dispatch.specs.laws.PlainLaws.{plain_fault}
use Rattle.event_dispatch.proofs.instead.play_group.Goals as goal

pub returns-in_ok-abort-in-Ok-clause-keeps : goal.returns-in_ok-abort-in-Ok-clause-keeps
returns-in_ok-abort-in-Ok-clause-keeps g c = record {
  index = c.play_all.ensures.keeps.keeps.index;
  alive = c.play_all.ensures.keeps.keeps.alive;
  slots = c.play_all.ensures.keeps.keeps.slots;
  quiet = quiet_links c.play_all.ensures.keeps.keeps.quiet c.abort.ensures.undoes.links;
}

pub returns-in_ok-abort-in-Ok-clause-done : goal.returns-in_ok-abort-in-Ok-clause-done
returns-in_ok-abort-in-Ok-clause-done g c =
    back_there c.args.net.now c.begin-txn.ensures.net c.begin-txn.ensures.start c.play_all.ensures.start c.in-Ok.ensures.done (search rules) c.if-played.true c.play_all.ensures.keeps.stays c.in_ok-abort-in-Ok.was c.abort.ensures.undoes

pub returns-in_ok-abort-in-Ok-clause-passes : goal.returns-in_ok-abort-in-Ok-clause-passes
returns-in_ok-abort-in-Ok-clause-passes g c = group_passes _ _ _ (own_among c.args.app.now.index c.requires.place (returns-in_ok-abort-in-Ok-clause-keeps g c).quiet) (returns-in_ok-abort-in-Ok-clause-done g c)

pub returns-in_ok-out-in-Ok-clause-keeps : goal.returns-in_ok-out-in-Ok-clause-keeps
returns-in_ok-out-in-Ok-clause-keeps g c = record {
  index = c.play_all.ensures.keeps.keeps.index;
  alive = c.play_all.ensures.keeps.keeps.alive;
  slots = c.play_all.ensures.keeps.keeps.slots;
  quiet = quiet_links c.play_all.ensures.keeps.keeps.quiet c.in_ok-out-in-Ok.ensures.commits.links;
}

pub returns-in_ok-out-in-Ok-clause-done : goal.returns-in_ok-out-in-Ok-clause-done
returns-in_ok-out-in-Ok-clause-done g c =
    kept_there c.args.net.now c.begin-txn.ensures.net c.begin-txn.ensures.start c.play_all.ensures.start c.in-Ok.ensures.done (search rules) c.if-played.false c.play_all.ensures.keeps.stays c.in_ok-out-in-Ok.ensures.commits

pub returns-in_ok-out-in-Ok-clause-passes : goal.returns-in_ok-out-in-Ok-clause-passes
returns-in_ok-out-in-Ok-clause-passes g c = group_passes _ _ _ (own_among c.args.app.now.index c.requires.place (returns-in_ok-out-in-Ok-clause-keeps g c).quiet) (returns-in_ok-out-in-Ok-clause-done g c)

pub returns-in_err-abort-in-Ok-clause-keeps : goal.returns-in_err-abort-in-Ok-clause-keeps
returns-in_err-abort-in-Ok-clause-keeps g c = record {
  index = c.play_all.ensures.keeps.keeps.index;
  alive = c.play_all.ensures.keeps.keeps.alive;
  slots = c.play_all.ensures.keeps.keeps.slots;
  quiet = quiet_links c.play_all.ensures.keeps.keeps.quiet c.abort.ensures.undoes.links;
}

pub returns-in_err-abort-in-Ok-clause-done : goal.returns-in_err-abort-in-Ok-clause-done
returns-in_err-abort-in-Ok-clause-done g c =
    at_fault _ (GroupFails g.W.World.Tells c.args.app.now.index c.args.group.rule.now.budget c.args.app.now.rest (g.W.World.seen c.args.world.now)
    (g.W.World.seen c.abort.new.world) c.args.net.now) (fault_of c.in_err-abort-in-Ok.field-0.0) c.from_residual.result c.from_residual.ensures.1
    (not_undone_there c.args.net.now c.begin-txn.ensures.net c.begin-txn.ensures.start c.play_all.ensures.start c.in-Ok.ensures.done c.in_err-abort-in-Ok.field-0.0 c.in_err-abort-in-Ok.was c.abort.ensures.undoes)

pub returns-in_err-abort-in-Ok-clause-passes : goal.returns-in_err-abort-in-Ok-clause-passes
returns-in_err-abort-in-Ok-clause-passes g c =
    not_undone_passes c.args.net.now _ c.from_residual.result (own_among c.args.app.now.index c.requires.place (returns-in_err-abort-in-Ok-clause-keeps g c).quiet)
    (leads_there c.args.net.now c.begin-txn.ensures.net c.in-Ok.ensures.done) c.from_residual.ensures.0 c.abort.ensures.undoes

pub returns-in_err-abort-in-Ok-clause-parted : goal.returns-in_err-abort-in-Ok-clause-parted
returns-in_err-abort-in-Ok-clause-parted g c =
    λ can. if_err IsPlainEnd (fault_of c.in_err-abort-in-Ok.field-0.0) c.from_residual.result c.from_residual.ensures.1
    (plain_fault c.in_err-abort-in-Ok.field-0.0 (c.in_err-abort-in-Ok.ensures.parted can))

pub returns-in_err-out-in-Ok-clause-keeps : goal.returns-in_err-out-in-Ok-clause-keeps
returns-in_err-out-in-Ok-clause-keeps g c = record {
  index = c.play_all.ensures.keeps.keeps.index;
  alive = c.play_all.ensures.keeps.keeps.alive;
  slots = c.play_all.ensures.keeps.keeps.slots;
  quiet = quiet_links c.play_all.ensures.keeps.keeps.quiet c.in_err-out-in-Ok.ensures.commits.links;
}

pub returns-in_err-out-in-Ok-clause-done : goal.returns-in_err-out-in-Ok-clause-done
returns-in_err-out-in-Ok-clause-done g c =
    at_fault _ (GroupFails g.W.World.Tells c.args.app.now.index c.args.group.rule.now.budget c.args.app.now.rest (g.W.World.seen c.args.world.now)
    (g.W.World.seen c.commit.new.world) c.args.net.now) (fault_of c.in_err-out-in-Ok.field-0.0) c.from_residual-in_err-out-in-Ok.result c.from_residual-in_err-out-in-Ok.ensures.1
    (unreleased_there c.args.net.now c.begin-txn.ensures.net c.begin-txn.ensures.start c.play_all.ensures.start c.in-Ok.ensures.done c.in_err-out-in-Ok.field-0.0 c.requires.some c.if-played.false c.in_err-out-in-Ok.ensures.commits)

pub returns-in_err-out-in-Ok-clause-passes : goal.returns-in_err-out-in-Ok-clause-passes
returns-in_err-out-in-Ok-clause-passes g c =
    unreleased_passes c.args.net.now _ c.from_residual-in_err-out-in-Ok.result (own_among c.args.app.now.index c.requires.place (returns-in_err-out-in-Ok-clause-keeps g c).quiet)
    (leads_there c.args.net.now c.begin-txn.ensures.net c.in-Ok.ensures.done) c.from_residual-in_err-out-in-Ok.ensures.0 c.in_err-out-in-Ok.ensures.commits

pub returns-in_err-out-in-Ok-clause-parted : goal.returns-in_err-out-in-Ok-clause-parted
returns-in_err-out-in-Ok-clause-parted g c =
    λ can. if_err IsPlainEnd (fault_of c.in_err-out-in-Ok.field-0.0) c.from_residual-in_err-out-in-Ok.result c.from_residual-in_err-out-in-Ok.ensures.1
    (plain_fault c.in_err-out-in-Ok.field-0.0 (c.in_err-out-in-Ok.ensures.parted can))

pub returns-in-Err-clause-keeps : goal.returns-in-Err-clause-keeps
returns-in-Err-clause-keeps g c = record {
  index = c.play_all.ensures.keeps.keeps.index;
  alive = c.play_all.ensures.keeps.keeps.alive;
  slots = c.play_all.ensures.keeps.keeps.slots;
  quiet = quiet_links c.play_all.ensures.keeps.keeps.quiet c.abort-in-Err.ensures.undoes.links;
}

pub returns-in-Err-clause-done : goal.returns-in-Err-clause-done
returns-in-Err-clause-done g c = subst (GroupFails g.W.World.Tells c.args.app.now.index c.args.group.rule.now.budget c.args.app.now.rest (g.W.World.seen c.args.world.now)
    (g.W.World.seen c.abort-in-Err.new.world) c.args.net.now) (sym c.from.ensures)
    (stops_there c.args.net.now c.in-Err.fault c.begin-txn.ensures.net c.begin-txn.ensures.start c.play_all.ensures.start c.in-Err.ensures.fails c.abort-in-Err.ensures.undoes)

pub returns-in-Err-clause-passes : goal.returns-in-Err-clause-passes
returns-in-Err-clause-passes g c =
    stopped_passes c.args.net.now _ _ (own_among c.args.app.now.index c.requires.place (returns-in-Err-clause-keeps g c).quiet) refl
    (subst (λ (n : NetState). Stops g.W.World.Tells c.args.app.now.index (g.W.World.seen c.args.world.now) (g.W.World.seen c.play_all.new.world) n c.play_all.new.txn.net.now c.in-Err.fault) c.begin-txn.ensures.net
    c.in-Err.ensures.fails.stops) c.abort-in-Err.ensures.undoes

pub returns-in-Err-clause-parted : goal.returns-in-Err-clause-parted
returns-in-Err-clause-parted g c = λ can. subst IsPlainEnd (sym c.from.ensures) (plain_fault c.in-Err.fault (c.in-Err.ensures.parted can))
