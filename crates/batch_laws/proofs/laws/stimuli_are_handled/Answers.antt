use Rattle.batch_laws.specs.laws.StimulusLaws.{stimulus-handled}
use Rattle.batch_laws.proofs.laws.stimuli_are_handled.Goals as goal

pub returns : goal.returns
returns g c = stimulus-handled
