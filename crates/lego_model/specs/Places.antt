-- The declared switches as a controller sees them: what a message of an application makes of them and how it is answered, and what an
-- undo gives back. Errors are those of OpenFlow 1.0.0, 5.4.4 Error Message; which of them answers is our own choice.
use Rattle.std.specs.Prelude.{◌==◌, ℕ, List, [], ◌∷◌, Option, Some, None, Result, Ok, Err, if◌then◌else◌}
use Rattle.of_wire.specs.declared.message.Envelope.{Envelope}
use Rattle.of_wire.specs.declared.fault.WireFault.{WireFault}
use Rattle.of_wire.specs.Reading.{reading_of}
use Rattle.flow_table.specs.Undone.{undone}
use Rattle.flow_table.specs.Switch.{Declared, SwitchState}
use Rattle.flow_table.specs.Step.{after_message}
use Rattle.app_frames.specs.declared.frame.Answer.{Answer}
use Rattle.app_frames.specs.declared.frame.Answer.TheVariants.{Unknown}
use Rattle.lego_model.specs.Answers.{Rows, rows_of_table, host_answer, switch_answer}

-- a declared switch, and its state while it is joined
pub record Place : Type 0 where
  pub declared : Declared
  pub switch : Option SwitchState

abbrev pub switch_at : ℕ → List Place → Option SwitchState
switch_at dpid [] = None
switch_at dpid (p ∷ ps) = if p.declared.dpid == dpid then p.switch else switch_at dpid ps

abbrev pub with_place : ℕ → (Option SwitchState → Option SwitchState) → List Place → List Place
with_place dpid change [] = []
with_place dpid change (p ∷ ps) = if p.declared.dpid == dpid then record p { switch = change p.switch } ∷ ps else p ∷ with_place dpid change ps

-- ---- A message

abbrev pub table_rows : SwitchState → Rows
table_rows s = rows_of_table s.table.entries

-- what the host knows of a switch that is joined
abbrev pub rows_at : Option SwitchState → Option Rows
rows_at None = None
rows_at (Some s) = Some (table_rows s)

-- The switch answers a message that the host let pass, with the application's own flags: what the host adds to them, so that it hears of
-- each removal, is no concern of the application.
abbrev pub by_switch : ℕ → Result Envelope WireFault → Option SwitchState → List Place → Answer × List Place
by_switch dpid (Ok e) (Some s) ps = (switch_answer s e.message, with_place dpid (λ o. Some (after_message e.message s)) ps)
by_switch dpid (Ok e) None ps = (Unknown, ps)
by_switch dpid (Err fault) s ps = (Unknown, ps)

abbrev pub by_host : Option Answer → ℕ → List ℕ → List Place → Answer × List Place
by_host (Some answer) dpid bytes ps = (answer, ps)
by_host None dpid bytes ps = by_switch dpid (reading_of bytes) (switch_at dpid ps) ps

-- the answer to a message of an application, and the switches then
unfoldable pub answer : List Place → ℕ → List ℕ → Answer × List Place
answer ps dpid bytes = by_host (host_answer (rows_at (switch_at dpid ps)) bytes) dpid bytes ps

-- ---- An undo

-- each switch with its earlier table given back, ports and configuration included
abbrev pub switch_undone : Option SwitchState → Option SwitchState → Option SwitchState
switch_undone (Some before) (Some after) = Some (record before { table = undone before.table after.table after.moment })
switch_undone before None = None
switch_undone None (Some after) = Some after

unfoldable pub undone_places : List Place → List Place → List Place
undone_places [] after = after
undone_places (p ∷ ps) [] = []
undone_places (p ∷ ps) (q ∷ qs) = record q { switch = switch_undone p.switch q.switch } ∷ undone_places ps qs
