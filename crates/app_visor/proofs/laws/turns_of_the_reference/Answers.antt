use Rattle.lego_model.specs.Controller.{table_of}
use Rattle.app_visor.specs.laws.TableLaws.{turn_alike}
use Rattle.app_visor.proofs.laws.turns_of_the_reference.Goals as goal

pub returns : goal.returns
returns g c = λ allows accepts app budget rest frame unread old new net now_net end before after t agrees judged. turn_alike (table_of allows) before after t agrees judged
