use Rattle.switch_laws.specs.laws.FlagLaws.{flags_in-added, flags_in-kept}
use Rattle.switch_laws.proofs.corrections.flags_are_kept.Goals as goal

pub returns-clause-added : goal.returns-clause-added
returns-clause-added c = flags_in-added

pub returns-clause-others : goal.returns-clause-others
returns-clause-others c = flags_in-kept
