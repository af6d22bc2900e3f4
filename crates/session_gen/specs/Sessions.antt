-- The session that is drawn: what the command `gen` runs. All of this is our own choice.
use Rattle.std.specs.Prelude.{◌≡◌, ℕ, List, [], ◌∷◌, map}
use Rattle.of_types.specs.declared.journal.WorldStim.{WorldStim}
use Rattle.of_types.specs.declared.journal.WorldStim.TheVariants.{Join}
use Rattle.app_frames.specs.declared.script.ScriptStep.{ScriptStep}
use Rattle.lego_model.specs.declared.session.Session.{Session}
use Rattle.lego_model.specs.SessionLines.{SessionValue}
use Rattle.session_gen.specs.Turns.{plain_end}
use Rattle.session_gen.specs.Rounds.{turns_drawn, happenings_drawn}

-- a switch with room for 64 entries, and four ports
abbrev pub switch_numbered : ℕ → ℕ × ℕ × List ℕ
switch_numbered dpid = (dpid, 64, 1 ∷ 2 ∷ 3 ∷ 4 ∷ [])

-- what the one application gives in its turns: nothing at the two joins, then the turns of the rounds
abbrev pub replies_drawn : ℕ → ℕ → List (ℕ × List ScriptStep)
replies_drawn count start = (0, plain_end ∷ []) ∷ (0, plain_end ∷ []) ∷ map (λ turn. (0, turn)) (turns_drawn count start)

-- two switches join, and then happens what is drawn, from moment 0 on
abbrev pub stimuli_drawn : ℕ → ℕ → List WorldStim
stimuli_drawn count start = Join 1 ∷ Join 2 ∷ happenings_drawn count 0 start

-- the start is the state before the first draw, and the count that of the rounds
unfoldable pub session_drawn : ℕ → ℕ → SessionValue
session_drawn start count = record {
  switches = switch_numbered 1 ∷ switch_numbered 2 ∷ [];
  starts = [];
  replies = replies_drawn count start;
  faults = [];
  stimuli = stimuli_drawn count start;
}

-- a session of the code is it
pub record IsDrawn (start count : ℕ) (s : Session) : Type 0 where
  pub switches : map (λ d. (d.0, d.1, d.2.items)) s.switches.items ≡ switch_numbered 1 ∷ switch_numbered 2 ∷ []
  pub starts : s.starts.items ≡ []
  pub replies : s.replies ≡ replies_drawn count start
  pub faults : s.faults.items ≡ []
  pub stimuli : s.stimuli ≡ stimuli_drawn count start
