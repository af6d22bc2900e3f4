use Rattle.std.proofs.Common.{rules}
use Rattle.linked_world.specs.laws.AppCallLaws.{first_stands, none_there}
use Rattle.linked_world.proofs.linked.Linked.new.Goals as goal

pub invariant_of-result : goal.invariant_of-result
invariant_of-result g c = first_stands g.W.World.seen _ (search rules) (search rules) (search rules) (none_there _ (search rules))
