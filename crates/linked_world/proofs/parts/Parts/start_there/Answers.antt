use Rattle.linked_world.proofs.parts.Parts.start_there.Goals as goal

pub returns-clause-call : goal.returns-clause-call
returns-clause-call g c = rw (← c.self.view_is) c.restart-started.ensures
