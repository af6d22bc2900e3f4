use Rattle.std.proofs.Common.{◌≤◌, ◌++◌, List, length}
use Rattle.std.specs.Prelude.{All}
use Rattle.of_stats.specs.Parts.{Part, room, AreParts}
use Rattle.of_stats.proofs.parts.split_reply.Given as goal

abbrev pub invariant-loop-parts : goal.invariant-loop-parts
invariant-loop-parts l = record {
  fit : All (λ row. length row ≤ room) l.rest;
  so_far : (later : List Part) → AreParts l.kind l.rest later → AreParts l.kind l.fn.rows (l.parts.items ++ later);
}

abbrev pub decreases-loop-parts : goal.decreases-loop-parts
decreases-loop-parts l = length l.rest
