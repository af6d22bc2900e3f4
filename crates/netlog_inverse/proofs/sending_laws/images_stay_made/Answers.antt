use Rattle.netlog_inverse.specs.laws.MadeLaws.{made-planned, made-pushed, made-drop, made-take, made-set_right, made-says}
use Rattle.netlog_inverse.proofs.sending_laws.images_stay_made.Goals as goal

pub returns-clause-planned : goal.returns-clause-planned
returns-clause-planned c = made-planned

pub returns-clause-pushed : goal.returns-clause-pushed
returns-clause-pushed c = made-pushed

pub returns-clause-since : goal.returns-clause-since
returns-clause-since c = made-drop

pub returns-clause-cut : goal.returns-clause-cut
returns-clause-cut c = made-take

pub returns-clause-mended : goal.returns-clause-mended
returns-clause-mended c = made-set_right

pub returns-clause-says : goal.returns-clause-says
returns-clause-says c = made-says
