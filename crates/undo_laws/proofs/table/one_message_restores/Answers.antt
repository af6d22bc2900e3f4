use Rattle.undo_laws.specs.laws.StandsLaws.{undo-restores}
use Rattle.undo_laws.specs.laws.TableLaws.{Stands-alike, Stands-sent}
use Rattle.undo_laws.proofs.table.one_message_restores.Goals as goal

pub returns-clause-alike : goal.returns-clause-alike
returns-clause-alike c = Stands-alike

pub returns-clause-stands : goal.returns-clause-stands
returns-clause-stands c = Stands-sent

pub returns-clause-restores : goal.returns-clause-restores
returns-clause-restores c = λ now same earlier log sent t test is h. undo-restores now earlier sent t (Stands-sent now same earlier log sent t test is h)
