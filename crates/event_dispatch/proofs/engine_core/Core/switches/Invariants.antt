use Rattle.std.proofs.Common.{◌≡◌, map, take}
use Rattle.event_dispatch.proofs.engine_core.Core.switches.Given as goal

abbrev pub invariant-loop-view : goal.invariant-loop-view
invariant-loop-view l = l.switches.items ≡ map (λ v. v.dpid) (take l.view-index l.self.net.views)
