use Rattle.switch_laws.specs.laws.CorrectionLaws.{goes_along, go_together, flags-shown, shown-but, new-shown}
use Rattle.switch_laws.proofs.corrections.entries_are_shown.Goals as goal

pub returns-clause-along : goal.returns-clause-along
returns-clause-along c = goes_along

pub returns-clause-together : goal.returns-clause-together
returns-clause-together c = go_together

pub returns-clause-flags : goal.returns-clause-flags
returns-clause-flags c = flags-shown

pub returns-clause-others : goal.returns-clause-others
returns-clause-others c = shown-but

pub returns-clause-added : goal.returns-clause-added
returns-clause-added c = new-shown
