use Rattle.undo_laws.specs.laws.RevertingLaws.{revert-refusal}
use Rattle.undo_laws.proofs.reverting.no_inverse_is_refused.Goals as goal

pub returns : goal.returns
returns c = revert-refusal
