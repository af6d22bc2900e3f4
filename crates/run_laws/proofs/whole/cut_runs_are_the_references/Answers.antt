use Rattle.run_laws.specs.laws.CutLaws.{cut-so, lines-so, some-so, none-so, start-so, loss-so, event-so, end-so}
use Rattle.run_laws.proofs.whole.cut_runs_are_the_references.Goals as goal

pub returns-clause-cut : goal.returns-clause-cut
returns-clause-cut g c = cut-so

pub returns-clause-lines : goal.returns-clause-lines
returns-clause-lines g c = lines-so

pub returns-clause-short : goal.returns-clause-short
returns-clause-short g c = some-so

pub returns-clause-unstarted : goal.returns-clause-unstarted
returns-clause-unstarted g c = none-so

pub returns-clause-start : goal.returns-clause-start
returns-clause-start g c = start-so

pub returns-clause-loss : goal.returns-clause-loss
returns-clause-loss g c = loss-so

pub returns-clause-event : goal.returns-clause-event
returns-clause-event g c = event-so

pub returns-clause-end : goal.returns-clause-end
returns-clause-end g c = end-so
