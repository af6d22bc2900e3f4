-- What happens in a session that is drawn. Which numbers are drawn, and in which order, is our own choice.
use Rattle.std.specs.Prelude.{ℕ, zero, suc, ◌+◌, ◌==◌, List, [], ◌∷◌, if◌then◌else◌}
use Rattle.of_types.specs.declared.journal.PortChange.{PortChange}
use Rattle.of_types.specs.declared.journal.PortChange.TheVariants.{Up, Down}
use Rattle.of_types.specs.declared.journal.Stimulus.TheVariants.{Frame, Port}
use Rattle.of_types.specs.declared.journal.WorldStim.{WorldStim}
use Rattle.of_types.specs.declared.journal.WorldStim.TheVariants.{At, Of}
use Rattle.app_frames.specs.declared.script.ScriptStep.{ScriptStep}
use Rattle.outside.specs.State.{moment_after}
use Rattle.session_gen.specs.Draws.{behind, drawn}
use Rattle.session_gen.specs.Turns.{turn_drawn}

-- ---- What happens in a round

-- an Ethernet header (IEEE 802.3) alone: from 02:00:00:00:00:01 to all stations, of the type for local experiments
abbrev pub broadcast : List ℕ
broadcast = 0xff ∷ 0xff ∷ 0xff ∷ 0xff ∷ 0xff ∷ 0xff ∷ 0x02 ∷ 0 ∷ 0 ∷ 0 ∷ 0 ∷ 0x01 ∷ 0x88 ∷ 0xb5 ∷ []

-- that frame arrives at one of four ports of one of two switches
abbrev pub frame_drawn : ℕ → WorldStim
frame_drawn x = Of (1 + drawn 0 2 x) (Frame (1 + drawn 1 4 x) broadcast)

-- up to four seconds pass
abbrev pub moment_drawn : ℕ → ℕ → WorldStim
moment_drawn moment x = At (moment + drawn 0 5 x)

abbrev pub change_drawn : ℕ → PortChange
change_drawn x = if drawn 0 2 x == 0 then Down else Up

-- the link of one of four ports goes or comes
abbrev pub port_drawn : ℕ → WorldStim
port_drawn x = Of (1 + drawn 0 2 x) (Port (1 + drawn 1 4 x) (change_drawn (behind 2 x)))

-- the first number says which of these it is
unfoldable pub happening_drawn : ℕ → ℕ → WorldStim
happening_drawn moment x =
    if drawn 0 4 x == 1 then moment_drawn moment (behind 1 x)
    else if drawn 0 4 x == 2 then port_drawn (behind 1 x)
    else frame_drawn (behind 1 x)

-- the state behind it
unfoldable pub behind_happening : ℕ → ℕ
behind_happening x = if drawn 0 4 x == 1 then behind 2 x else if drawn 0 4 x == 2 then behind 4 x else behind 3 x

-- ---- Rounds: in each a turn is drawn, and then what happens

-- the turns of so many rounds
abbrev pub turns_drawn : ℕ → ℕ → List (List ScriptStep)
turns_drawn zero x = []
turns_drawn (suc n) x = turn_drawn x ∷ turns_drawn n (behind_happening (behind 17 x))

-- and what happens in them, behind a moment
abbrev pub happenings_drawn : ℕ → ℕ → ℕ → List WorldStim
happenings_drawn zero moment x = []
happenings_drawn (suc n) moment x =
    let happening = happening_drawn moment (behind 17 x) in
    happening ∷ happenings_drawn n (moment_after happening moment) (behind_happening (behind 17 x))
