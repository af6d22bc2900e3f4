use Rattle.std.proofs.Common.{[], ◌∷◌, ◌++◌, ◌∙◌, ap}
use Rattle.sim_world.specs.laws.BuildingLaws.{Gets-same, Gets-reply, put_lines}
use Rattle.std.proofs.lemmas.Result.{on_ok_weaker}
use Rattle.sim_world.proofs.parts.Parts.add_reply.Goals as goal

pub returns-clause-ok : goal.returns-clause-ok
returns-clause-ok c =
    let lives = c.self.inside.lives in
    on_ok_weaker c.add_reply-2.result
    (λ same.
    let said = same ∙ ap (λ steps. record lives { own = record lives.own { replies = lives.own.replies ++ (c.args.app, steps) ∷ [] } }) c.in_ok-from_script.ensures in
    let put = put_lines _ _ _ (λ own. record own { replies = own.replies ++ (c.args.app, c.args.reply) ∷ [] }) c.self.view_is said in
    Gets-same _ _ _ _ put (Gets-reply c.args.app c.args.reply c.args.self.now c.requires.new))
    c.add_reply-2.ensures.ok
