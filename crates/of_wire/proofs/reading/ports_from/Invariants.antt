use Rattle.std.proofs.Common.{◌≡◌, ◌+◌, ◌-◌, ◌*◌, ◌++◌, drop}
use Rattle.of_wire.specs.Reading.{ports_of}
use Rattle.of_wire.proofs.reading.ports_from.Given as goal

abbrev pub invariant-loop-i : goal.invariant-loop-i
invariant-loop-i l = l.ports.items ++ ports_of (l.count - l.i) (drop (l.at + 48 * l.i) l.bytes) ≡ ports_of l.count (drop l.at l.bytes)
