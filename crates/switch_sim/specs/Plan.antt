-- Outputs of a PACKET_OUT that are planned before anything is counted.
use Rattle.std.specs.Prelude.{◌≡◌, ◌==◌, ℕ, List, [], if◌then◌else◌}
use Rattle.flow_table.specs.Switch.{SwitchState, table_number}
use Rattle.flow_table.specs.Frames.{hit_outputs, entry_hit}
use Rattle.switch_sim.specs.declared.packet_out.Planned.{Planned}

abbrev pub planned_output : Planned → ℕ × List ℕ
planned_output p = (p.to, p.frame)

-- the outputs of the entry that a frame hits, for an output to TABLE
abbrev pub hit_by_output : ℕ → ℕ × List ℕ → SwitchState → List (ℕ × List ℕ)
hit_by_output in_port output s = if output.0 == table_number then hit_outputs (entry_hit in_port output.1 s) output.1 else []

-- a plan that holds for a state
abbrev pub IsPlanned : ℕ → SwitchState → Planned → Type 0
IsPlanned in_port s p = p.hit ≡ hit_by_output in_port (planned_output p) s
