use Rattle.netlog_inverse.specs.laws.PlannedLaws.{right-stay, right-mended, right-more, stand-planned}
use Rattle.netlog_inverse.proofs.laws.planned_changes_keep_marks.Goals as goal

pub returns-clause-stay : goal.returns-clause-stay
returns-clause-stay c = right-stay

pub returns-clause-mended : goal.returns-clause-mended
returns-clause-mended c = right-mended

pub returns-clause-more : goal.returns-clause-more
returns-clause-more c = right-more

pub returns-clause-planned : goal.returns-clause-planned
returns-clause-planned c = stand-planned
