use Rattle.std.proofs.Common.{length, take}
use Rattle.event_dispatch.specs.Runs.{WaitsAtEnd}
use Rattle.event_dispatch.specs.Passes.{PassesQuietlySoFar}
use Rattle.event_dispatch.specs.ReportEnd.{TablesShown}
use Rattle.event_dispatch.proofs.engine_core.Core.note_tables.Given as goal

abbrev pub invariant-loop-dpid : goal.invariant-loop-dpid
invariant-loop-dpid g l = record {
  waits : WaitsAtEnd l.fn.self l.self;
  passes : PassesQuietlySoFar g.W.World.Tells (length l.fn.self.store) (g.W.World.seen l.fn.world) (g.W.World.seen l.world) l.fn.self.net l.self.net;
  shown : TablesShown g.W.World.Tells (take l.dpid-index l.dpid-items) (g.W.World.seen l.fn.world) (g.W.World.seen l.world) l.fn.self l.self;
}
