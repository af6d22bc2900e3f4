use Rattle.session_gen.specs.laws.SessionGenLaws.{drawn_is_sound, drawn_is_of_one}
use Rattle.session_gen.proofs.laws.drawn_sessions_are_sound.Goals as goal

pub returns-clause-sound : goal.returns-clause-sound
returns-clause-sound c = drawn_is_sound

pub returns-clause-named : goal.returns-clause-named
returns-clause-named c = drawn_is_of_one
