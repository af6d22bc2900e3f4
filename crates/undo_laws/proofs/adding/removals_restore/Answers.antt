use Rattle.undo_laws.specs.laws.RemovalLaws.{removals-restore, is_key_among-reverse}
use Rattle.undo_laws.specs.laws.AddedLaws.{undone-added}
use Rattle.undo_laws.proofs.adding.removals_restore.Goals as goal

pub returns-clause-restores : goal.returns-clause-restores
returns-clause-restores c = removals-restore

pub returns-clause-newest_first : goal.returns-clause-newest_first
returns-clause-newest_first c = is_key_among-reverse

pub returns-clause-undone : goal.returns-clause-undone
returns-clause-undone c = undone-added
