-- A session that is drawn, as one that a world may be given.
use Rattle.std.proofs.Common.{◌≡◌, ℕ, ◌≤◌, refl, sym, subst}
use Rattle.lego_model.specs.declared.session.Session.{Session}
use Rattle.lego_model.specs.SessionFacts.{IsSession}
use Rattle.session_gen.specs.Sessions.{session_drawn, IsDrawn}
use Rattle.session_gen.specs.laws.SessionGenLaws.{drawn_is_sound}
use Rattle.session_text.specs.SessionView.{view_session}

pub drawn_view : (start count : ℕ) (s : Session) → IsDrawn start count s → view_session s ≡ session_drawn start count
unfolding session_drawn
drawn_view start count s is =
    rw (is.switches, is.starts, is.replies, is.faults, is.stimuli) refl

pub drawn_session : (start count : ℕ) (s : Session) → count ≤ 100000 → IsDrawn start count s → IsSession (view_session s)
drawn_session start count s few is = subst IsSession (sym (drawn_view start count s is)) (drawn_is_sound start count few)
