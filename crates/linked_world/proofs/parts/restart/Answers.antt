use Rattle.std.proofs.Common.{sym, subst}
use Rattle.outside.specs.Calls.{Starts}
use Rattle.linked_world.proofs.parts.restart.Goals as goal

pub returns : goal.returns
returns g c = record {
  between = g.W.World.seen c.end.new.self;
  ends = c.end.ensures;
  starts = subst (λ (r : _). Starts g.W.World.Tells c.args.app (g.W.World.seen c.end.new.self) (g.W.World.seen c.start.new.self) r) (sym c.start_answer.ensures) c.start.ensures;
}
