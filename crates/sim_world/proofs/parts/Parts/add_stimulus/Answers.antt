use Rattle.sim_world.specs.laws.BuildingLaws.{Gets-same, Gets-stimulus}
use Rattle.std.proofs.lemmas.Result.{on_ok_weaker}
use Rattle.sim_world.proofs.parts.Parts.add_stimulus.Goals as goal

pub returns-clause-ok : goal.returns-clause-ok
returns-clause-ok c =
    on_ok_weaker c.put_stimulus.result (λ same. Gets-same _ _ _ _ same (Gets-stimulus c.args.x c.args.self.now c.requires.new)) c.put_stimulus.ensures.ok
