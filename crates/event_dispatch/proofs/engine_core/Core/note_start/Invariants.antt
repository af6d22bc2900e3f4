use Rattle.std.proofs.Common.{take}
use Rattle.std.specs.List.{flat_map}
use Rattle.lego_model.specs.RunReport.{start_line}
use Rattle.event_dispatch.specs.Lines.{OnlyNotes}
use Rattle.event_dispatch.proofs.engine_core.Core.note_start.Given as goal

abbrev pub invariant-loop-tried : goal.invariant-loop-tried
invariant-loop-tried l = OnlyNotes (flat_map (start_line (l.name)) (take l.tried-index l.tried-items)) l.fn.self l.self
