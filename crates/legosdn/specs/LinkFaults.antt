-- What is known of the simulated world: that it tells in order, and as it was told; and where switches are lost there: at the calls of links of
-- which `fault` lines of the session say that they fail. All of this is our own choice.
use Rattle.std.specs.Prelude.{◌≡◌, ◌==◌, ℕ, ◌+◌, Bool, true, false, ◌&&◌, List, ◌∷◌, ◌++◌, length, filter, map, Some}
use Rattle.std.specs.List.{list_any}
use Rattle.of_types.specs.declared.journal.Act.TheVariants.{Sent, Got, Lost}
use Rattle.outside.specs.declared.step.WorldStep.{WorldStep}
use Rattle.outside.specs.declared.step.WorldStep.TheVariants.{Acted, SendLost, RecvLost, SendFailed, RecvFailed}
use Rattle.outside.specs.Seen.{Seen, act_of}
use Rattle.outside.specs.InOrder.{InOrder}
use Rattle.sim_world.specs.Scripts.{Scripts}
use Rattle.sim_world.specs.World.{IsHistory}
use Rattle.session_text.specs.Loading.{fail_of}

-- a call of the link of this switch: a message was sent or taken by it, or it failed
abbrev pub is_call_of : ℕ → WorldStep → Bool
is_call_of d (Acted (Sent e bytes)) = e == d
is_call_of d (Acted (Got e bytes)) = e == d
is_call_of d (SendLost e) = e == d
is_call_of d (RecvLost e) = e == d
is_call_of d (SendFailed e) = e == d
is_call_of d (RecvFailed e) = e == d
is_call_of d other = false

-- how many there were
abbrev pub calls_of : ℕ → List WorldStep → ℕ
calls_of d steps = length (filter (is_call_of d) steps)

-- Lines `fault link DPID N` name each call at which a switch is lost, by its number N among the calls of that link, from 1 on.
abbrev pub LostAtFaults : List (ℕ × ℕ) → List WorldStep → Type 0
LostAtFaults faults history =
    (d : ℕ) (front behind : List WorldStep) (step : WorldStep) → history ≡ front ++ step ∷ behind → act_of step ≡ Some (Lost d)
    → (is_call_of d step ≡ true) × (list_any (λ f. f.0 == d && f.1 == calls_of d front + 1) faults ≡ true)

-- so it is with the lines that the world was given
abbrev pub LosesAsTold : Seen Scripts → Type 0
LosesAsTold seen = (faults : List (ℕ × ℕ)) → seen.given.fails ≡ map fail_of faults → LostAtFaults faults seen.history

-- It tells what its switches send in order, its applications keep to their lines, and what fails is what is told to, links apart.
pub record TellsAsTold (seen : Seen Scripts) : Type 0 where
  pub order : InOrder seen
  pub as_told : IsHistory seen.given seen.history
