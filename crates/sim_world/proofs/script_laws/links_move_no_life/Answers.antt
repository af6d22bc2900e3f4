use Rattle.sim_world.specs.laws.ToldLaws.{TellSame-without_links}
use Rattle.sim_world.specs.laws.ScriptLaws.{same-will_start, same-will_give, same-next_taken, same-life_after}
use Rattle.sim_world.proofs.script_laws.links_move_no_life.Goals as goal

pub returns-clause-same : goal.returns-clause-same
returns-clause-same c = TellSame-without_links

pub returns-clause-start : goal.returns-clause-start
returns-clause-start c = same-will_start

pub returns-clause-give : goal.returns-clause-give
returns-clause-give c = same-will_give

pub returns-clause-take : goal.returns-clause-take
returns-clause-take c = same-next_taken

pub returns-clause-step : goal.returns-clause-step
returns-clause-step c = same-life_after
