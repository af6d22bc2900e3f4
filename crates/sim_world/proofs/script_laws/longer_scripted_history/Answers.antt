use Rattle.sim_world.specs.laws.ScriptLaws.{KeepsScripts-front, KeepsScripts-rest, KeepsScripts-append}
use Rattle.sim_world.proofs.script_laws.longer_scripted_history.Goals as goal

pub returns-clause-front : goal.returns-clause-front
returns-clause-front c = KeepsScripts-front

pub returns-clause-rest : goal.returns-clause-rest
returns-clause-rest c = KeepsScripts-rest

pub returns-clause-append : goal.returns-clause-append
returns-clause-append c = KeepsScripts-append
