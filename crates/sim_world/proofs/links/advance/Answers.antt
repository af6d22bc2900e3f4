use Rattle.std.proofs.Common.{List, length, sym, ap, subst, ◌∙◌, arith}
use Rattle.of_types.specs.declared.journal.Stimulus.TheVariants.{Advance}
use Rattle.outside.specs.State.{Link, link_stimulated, declared_in, waiting_in}
use Rattle.outside.specs.laws.LinkKeptLaws.{declared_in-map, keeps_stimulated}
use Rattle.sim_world.specs.Links.{AreLinks, links_in}
use Rattle.sim_world.specs.laws.LinksLaws.{few_passed}
use Rattle.sim_world.proofs.links.advance.Goals as goal

pub returns-clause-few : goal.returns-clause-few
returns-clause-few c =
    let same = c.in_ok-prepare.ensures.same in
    let few = few_passed c.args.moment c.prepare.new.links c.in_ok-prepare.ensures.ready (subst AreLinks (sym same) c.requires.links) in
    omega (arith, few, ap (λ (ls : List Link). length (waiting_in ls)) c.pass.ensures, ap (λ (ls : List Link). length (waiting_in ls)) same)

pub returns-clause-declared : goal.returns-clause-declared
returns-clause-declared c =
    let step = Advance c.args.moment in
    ap declared_in c.pass.ensures ∙ declared_in-map (link_stimulated step) (keeps_stimulated step) (links_in c.prepare.new.links) ∙ ap declared_in c.in_ok-prepare.ensures.same
