use Rattle.std.proofs.Common.{sym, ◌∙◌}
use Rattle.linked_world.specs.laws.AppCallLaws.{end_none}
use Rattle.linked_world.proofs.parts.Parts.end.Goals as goal

pub returns-else-runs : goal.returns-else-runs
returns-else-runs g c = end_none g.W.World.seen c.args.app _ (sym c.runs.ensures ∙ c.if-runs.false)
