use Rattle.outside.specs.laws.SeenLaws.{Ends-continues}
use Rattle.event_dispatch.proofs.whole.end_one.Goals as goal

pub returns : goal.returns
returns g c = record { continues = Ends-continues c.end.ensures; ends = c.end.ensures }
