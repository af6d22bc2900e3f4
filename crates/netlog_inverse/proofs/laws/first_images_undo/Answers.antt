use Rattle.netlog_inverse.specs.laws.RestoringLaws.{Stands-images_sent, images-restore}
use Rattle.netlog_inverse.proofs.laws.first_images_undo.Goals as goal

pub returns-clause-stands : goal.returns-clause-stands
returns-clause-stands c = Stands-images_sent

pub returns-clause-restores : goal.returns-clause-restores
returns-clause-restores c = images-restore
