use Rattle.std.proofs.Common.{◌≡◌, take}
use Rattle.outside.specs.State.{link_at_first}
use Rattle.sim_world.proofs.builders.new_link.Given as goal

abbrev pub invariant-loop-fail : goal.invariant-loop-fail
invariant-loop-fail l = l.link.link ≡ link_at_first (take l.fail-index l.fails) (record { dpid = l.dpid; cap = l.cap; ports = l.ports })
