use Rattle.sim_world.specs.laws.BuildingLaws.{Gets-same, Gets-replies, put_lines}
use Rattle.sim_world.proofs.parts.Parts.add_replies.Goals as goal

pub returns : goal.returns
returns c =
    let put = put_lines _ _ _ (λ own. record own { replies = c.args.replies }) c.self.view_is c.add_replies.ensures in
    Gets-same _ _ _ _ put (Gets-replies c.args.replies c.args.self.now c.requires.none c.requires.new)
