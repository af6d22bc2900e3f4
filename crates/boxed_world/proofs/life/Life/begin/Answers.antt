use Rattle.boxed_world.proofs.life.Life.begin.Goals as goal

pub returns-clause-begins : goal.returns-clause-begins
returns-clause-begins g c = record {
  next = c.in-Some.next;
  spares = rw c.take_up.ensures.spares c.in-Some.ensures.items;
  object_is = c.take_up.ensures.object;
  none_held = c.take_up.ensures.held;
}
