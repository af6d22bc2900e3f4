use Rattle.std.proofs.Common.{refl}
use Rattle.std.proofs.lemmas.Result.{on_ok_weaker}
use Rattle.outside.specs.laws.SeenLaws.{Ends-continues}
use Rattle.app_visor.specs.laws.OwnLaws.{own_ended}
use Rattle.event_dispatch.specs.laws.PassesLaws.{next_of}
use Rattle.event_dispatch.specs.laws.TalkingLaws.{keeps_ended}
use Rattle.event_dispatch.specs.laws.TurnPartLaws.{quiet_own}
use Rattle.event_dispatch.proofs.engine_core.Core.leave.Goals as goal

pub returns-clause-passes : goal.returns-clause-passes
returns-clause-passes g c =
    quiet_own c.args.app.now.state.index c.args.self.now.net _ c.note_gone.result c.requires.place (Ends-continues c.end.ensures) (own_ended c.end.ensures)
    (keeps_ended g.W.World.Tells c.args.app.now.state.index (g.W.World.seen c.args.world.now) (g.W.World.seen c.end.new.self) c.end.ensures)
    (on_ok_weaker c.note_gone.result (λ noted. next_of noted.adds.stays.net) c.note_gone.ensures)

pub returns-clause-keeps : goal.returns-clause-keeps
returns-clause-keeps g c = record { same = record { index = refl; rule = refl; done = refl; failed = refl }; own = own_ended c.end.ensures }
