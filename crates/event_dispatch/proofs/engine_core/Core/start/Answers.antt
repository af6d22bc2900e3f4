use Rattle.std.proofs.Common.{refl}
use Rattle.std.proofs.lemmas.Result.{on_ok_weaker}
use Rattle.event_dispatch.specs.laws.PassesLaws.{next_of, if_failed}
use Rattle.event_dispatch.specs.laws.TalkingLaws.{keeps_tried, keeps_restarted}
use Rattle.event_dispatch.specs.laws.TurnPartLaws.{quiet_own}
use Rattle.event_dispatch.proofs.engine_core.Core.start.Goals as goal

pub returns-in_err-back-clause-passes : goal.returns-in_err-back-clause-passes
returns-in_err-back-clause-passes g c =
    quiet_own c.args.app.now.state.index c.args.self.now.net _ c.from_residual.result c.requires.place c.restart.ensures.continues c.restart.ensures.own
    (keeps_tried g.W.World.Tells c.args.app.now.state.index (g.W.World.seen c.args.world.now) (g.W.World.seen c.restart.new.world) c.restart.ensures.own
    c.in_err-back.ensures.talks) (if_failed _ c.from_residual.result c.from_residual.ensures.0)

pub returns-in_err-back-clause-keeps : goal.returns-in_err-back-clause-keeps
returns-in_err-back-clause-keeps g c = record {
  same = record { index = c.restart.ensures.index; rule = refl; done = refl; failed = refl };
  own = c.restart.ensures.own;
}

pub returns-clause-passes : goal.returns-clause-passes
returns-clause-passes g c =
    quiet_own c.args.app.now.state.index c.args.self.now.net _ c.note_start.result c.requires.place c.restart.ensures.continues c.restart.ensures.own
    (keeps_restarted g.W.World.Tells c.args.app.now.state.index (g.W.World.seen c.args.world.now) (g.W.World.seen c.restart.new.world) c.restart.ensures.own
    c.in_ok-back.ensures.ok)
    (on_ok_weaker c.note_start.result (λ noted. next_of noted.adds.stays.net) c.note_start.ensures)

pub returns-clause-keeps : goal.returns-clause-keeps
returns-clause-keeps g c = record { same = record { index = c.restart.ensures.index; rule = refl; done = refl; failed = refl }; own = c.restart.ensures.own }
