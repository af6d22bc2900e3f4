use Rattle.undo_laws.specs.laws.ShownEntryLaws.{shown_entry-goes_along, shown_entry-together, rest-of_none, expiry-owned}
use Rattle.undo_laws.specs.laws.ShownStatisticsLaws.{statistics-owned}
use Rattle.undo_laws.proofs.shown.owners_see.Goals as goal

pub returns-clause-along : goal.returns-clause-along
returns-clause-along c = shown_entry-goes_along

pub returns-clause-together : goal.returns-clause-together
returns-clause-together c = shown_entry-together

pub returns-clause-nothing_lost : goal.returns-clause-nothing_lost
returns-clause-nothing_lost c = rest-of_none

pub returns-clause-notices : goal.returns-clause-notices
returns-clause-notices c = expiry-owned

pub returns-clause-statistics : goal.returns-clause-statistics
returns-clause-statistics c = statistics-owned
