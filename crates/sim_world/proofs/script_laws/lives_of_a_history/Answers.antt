use Rattle.sim_world.specs.laws.ScriptLaws.{running-state, FewCalls-history}
use Rattle.sim_world.proofs.script_laws.lives_of_a_history.Goals as goal

pub returns-clause-running : goal.returns-clause-running
returns-clause-running c = running-state

pub returns-clause-few : goal.returns-clause-few
returns-clause-few c = FewCalls-history
