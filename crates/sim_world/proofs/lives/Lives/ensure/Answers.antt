use Rattle.std.proofs.Common.{refl, sym, ap, ◌∙◌}
use Rattle.sim_world.specs.Scripts.{fresh}
use Rattle.sim_world.specs.Lives.{life_in, has_life, life_of, is_known}
use Rattle.sim_world.specs.laws.CellLaws.{pushed, has_life-new, has_life-kept, has_life-cell, first_known, life_in-fresh, seen_life, seen_known}
use Rattle.sim_world.proofs.lives.Lives.ensure.Goals as goal

pub returns-in_ok-push-in-None-clause-known : goal.returns-in_ok-push-in-None-clause-known
unfolding is_known
returns-in_ok-push-in-None-clause-known c =
    let more = pushed c.self.inside.lines.replies c.self.inside.cells.items _ c.fresh.result c.args.app c.in_ok-push-in-None.ensures.items c.fresh.ensures.app (c.fresh.ensures.life c.self.inside.lines.replies) in
    ap (has_life c.args.app) more ∙ has_life-new c.args.app fresh _

pub returns-in_ok-push-in-None-clause-kept : goal.returns-in_ok-push-in-None-clause-kept
unfolding is_known
returns-in_ok-push-in-None-clause-kept c = λ a known.
    let more = pushed c.self.inside.lines.replies c.self.inside.cells.items _ c.fresh.result c.args.app c.in_ok-push-in-None.ensures.items c.fresh.ensures.app (c.fresh.ensures.life c.self.inside.lines.replies) in
    ap (has_life a) more ∙ has_life-kept a _ _ (seen_known a c.args.self.now c.self.inside.lines c.self.inside.cells.items _ c.self.view_is refl ∙ known)

pub returns-in_ok-push-in-None-clause-lives : goal.returns-in_ok-push-in-None-clause-lives
unfolding life_of
returns-in_ok-push-in-None-clause-lives c = λ a.
    let more = pushed c.self.inside.lines.replies c.self.inside.cells.items _ c.fresh.result c.args.app c.in_ok-push-in-None.ensures.items c.fresh.ensures.app (c.fresh.ensures.life c.self.inside.lines.replies) in
    ap (life_in a) more ∙ life_in-fresh a c.args.app _ ∙ seen_life a c.args.self.now c.self.inside.lines c.self.inside.cells.items _ c.self.view_is refl

pub returns-in-Some-clause-known : goal.returns-in-Some-clause-known
returns-in-Some-clause-known c =
    sym (seen_known c.args.app c.args.self.now c.self.inside.lines c.self.inside.cells.items _ c.self.view_is c.deref.ensures.value)
    ∙ has_life-cell c.self.inside.lines.replies c.args.app _
    ∙ first_known c.args.app c.in-Some.field-0 _ c.in-Some.ensures.some
