use Rattle.netlog_inverse.specs.laws.FirstLaws.{first-pushed, length-pushed, length-pushed-most}
use Rattle.netlog_inverse.specs.laws.RestoringLaws.{Says-more}
use Rattle.netlog_inverse.proofs.laws.first_images_stay.Goals as goal

pub returns-clause-first : goal.returns-clause-first
returns-clause-first c = first-pushed

pub returns-clause-longer : goal.returns-clause-longer
returns-clause-longer c = length-pushed

pub returns-clause-room : goal.returns-clause-room
returns-clause-room c = length-pushed-most

pub returns-clause-says : goal.returns-clause-says
returns-clause-says c = Says-more
