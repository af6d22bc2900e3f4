use Rattle.netlog_inverse.specs.laws.MarkLaws.{stand-nothing, stand-says, stand-changed, stand-undone, stand-timed_out, stand-restores}
use Rattle.netlog_inverse.proofs.laws.marks_stand.Goals as goal

pub returns-clause-nothing : goal.returns-clause-nothing
returns-clause-nothing c = stand-nothing

pub returns-clause-says : goal.returns-clause-says
returns-clause-says c = stand-says

pub returns-clause-changed : goal.returns-clause-changed
returns-clause-changed c = stand-changed

pub returns-clause-undone : goal.returns-clause-undone
returns-clause-undone c = stand-undone

pub returns-clause-timed_out : goal.returns-clause-timed_out
returns-clause-timed_out c = stand-timed_out

pub returns-clause-restores : goal.returns-clause-restores
returns-clause-restores c = stand-restores
