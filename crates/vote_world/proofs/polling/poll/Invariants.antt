use Rattle.linked_world.specs.Linked.{seen_of}
use Rattle.std.specs.Prelude.{[]}
use Rattle.linked_world.specs.Still.{Still}
use Rattle.vote_world.specs.Lives.{Goes}
use Rattle.vote_world.specs.Voting.{HearsAt}
use Rattle.vote_world.proofs.polling.poll.Given as goal

abbrev pub invariant-loop-piece : goal.invariant-loop-piece
invariant-loop-piece g l = record {
  still : Still g.W.World.Tells (seen_of g.W.World.seen l.fn.linked) (seen_of g.W.World.seen l.linked);
  heard : HearsAt l.place l.fn.ballot l.ballot;
  goes : Goes g.W.World.Tells g.W.World.seen l.first [] l.fn.ballot l.ballot l.fn.linked l.linked;
}
