use Rattle.outside.specs.laws.StimuliLaws.{begun-and-to_come}
use Rattle.outside.proofs.laws.stimuli_begin_in_order.Goals as goal

pub returns : goal.returns
returns g c = begun-and-to_come
