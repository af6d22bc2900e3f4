use Rattle.std.proofs.Common.{◌≡◌, ℕ, ◌+◌, ◌*◌, List, ◌++◌, take}
use Rattle.of_wire.specs.Spelling.{ports_bytes}
use Rattle.of_wire.proofs.writing.put_ports.Given as goal

pub record IsSoFar (at count : ℕ) (out bytes : List ℕ) : Type 0 where
  pub place : at ≡ 32 + 48 * count
  pub written : take at out ≡ bytes

abbrev pub invariant-loop-port : goal.invariant-loop-port
invariant-loop-port l = IsSoFar l.at l.port-index l.out (take 32 l.initial.out ++ ports_bytes (take l.port-index l.ports))
