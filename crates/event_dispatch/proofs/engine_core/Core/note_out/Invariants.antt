use Rattle.std.proofs.Common.{take}
use Rattle.run_laws.specs.Facts.{out_text}
use Rattle.event_dispatch.specs.Lines.{OnlyNotes}
use Rattle.event_dispatch.proofs.engine_core.Core.note_out.Given as goal

abbrev pub invariant-loop-dpid : goal.invariant-loop-dpid
invariant-loop-dpid l = OnlyNotes (out_text (take l.dpid-index l.out)) l.fn.self l.self
