use Rattle.std.proofs.Common.{[], ◌∷◌, ◌++◌}
use Rattle.sim_world.specs.laws.BuildingLaws.{Gets-same, Gets-start, put_lines}
use Rattle.std.proofs.lemmas.Result.{on_ok_weaker}
use Rattle.sim_world.proofs.parts.Parts.add_start.Goals as goal

pub returns-clause-ok : goal.returns-clause-ok
returns-clause-ok c =
    on_ok_weaker c.add_start.result
    (λ same.
    let put = put_lines _ _ _ (λ own. record own { starts = own.starts ++ (c.args.app, c.args.start) ∷ [] }) c.self.view_is same in
    Gets-same _ _ _ _ put (Gets-start c.args.app c.args.start c.args.self.now c.requires.new))
    c.add_start.ensures.ok
