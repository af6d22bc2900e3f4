use Rattle.session_text.proofs.Sound.{sound, named}
use Rattle.session_text.proofs.whole_text.parse_session.Goals as goal

pub returns-clause-sound : goal.returns-clause-sound
returns-clause-sound c = sound c.args.names.now c.args.first_line c.args.text.now c.read_text.result c.read_text.ensures

pub returns-clause-named : goal.returns-clause-named
returns-clause-named c = named c.args.names.now c.args.first_line c.args.text.now c.read_text.result c.read_text.ensures
