use Rattle.std.proofs.Common.{ap, ◌∙◌}
use Rattle.sim_world.specs.World.{WorldData}
use Rattle.sim_world.specs.laws.BuildingLaws.{put_back, counting-removed, link-absent, links-few}
use Rattle.std.proofs.lemmas.Result.{on_err_weaker}
use Rattle.sim_world.proofs.parts.Parts.put_switch.Goals as goal

pub insert-put-requires-clause-absent : goal.insert-put-requires-clause-absent
insert-put-requires-clause-absent c =
    link-absent c.args.self.now c.self.inside.links c.args.link.link.declared.dpid (ap (λ (w : WorldData). w.state.links) c.self.view_is) c.requires.absent

pub insert-put-requires-clause-room : goal.insert-put-requires-clause-room
insert-put-requires-clause-room c = links-few c.args.self.now c.self.inside.links (ap (λ (w : WorldData). w.state.links) c.self.view_is) c.requires.few

pub returns-then-is_err-clause-err : goal.returns-then-is_err-clause-err
returns-then-is_err-clause-err c =
    let tally = c.remove_last.ensures ∙ counting-removed c.self.inside.tally c.add.new.self c.dpid.result c.in_ok-add.ensures.ok in
    on_err_weaker c.insert-put.result (λ kept. put_back _ _ _ _ c.self.view_is tally kept) c.insert-put.ensures.err
