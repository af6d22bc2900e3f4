use Rattle.std.proofs.Common.{◌≡◌, ◌*◌, ◌≤◌, take}
use Rattle.vote_world.specs.Voting.{numbered, copies_before}
use Rattle.vote_world.proofs.world.applications.Given as goal

abbrev pub invariant-loop-number : goal.invariant-loop-number
invariant-loop-number l = record {
  all : l.all.items ≡ numbered 0 (take l.number-index l.copies);
  first : l.first ≡ copies_before 0 (take l.number-index l.copies);
  few : l.first ≤ 3 * l.number-index;
}
