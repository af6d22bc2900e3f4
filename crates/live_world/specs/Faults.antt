-- How often each fault came. Our own choice.
use Rattle.std.specs.Prelude.{ℕ, unwrap_or}
use Rattle.std.specs.Ordering.{nat_cmp}
use Rattle.std.specs.BTreeMap.{get}
use Rattle.live_world.specs.declared.counts.FaultCounts.{FaultCounts}
use Rattle.live_world.specs.declared.counts.SwitchFaults.{SwitchFaults}

-- the faults of a switch: its own count, or the one that all switches share that are not known
abbrev faults_of : FaultCounts → ℕ → SwitchFaults
faults_of counts d = unwrap_or (get nat_cmp counts.known d) counts.unknown

abbrev pub link_faults_of : FaultCounts → ℕ → ℕ
link_faults_of counts d = (faults_of counts d).links

abbrev pub shorts_of : FaultCounts → ℕ → ℕ
shorts_of counts d = (faults_of counts d).shorts
