use Rattle.std.proofs.Common.{sym, subst, arith}
use Rattle.of_types.specs.declared.journal.Stimulus.TheVariants.{Advance}
use Rattle.outside.specs.State.{Link, link_stimulated}
use Rattle.sim_world.specs.Links.{Held, StandsBy}
use Rattle.sim_world.specs.laws.LinksLaws.{All-at, links_in-mapped}
use Rattle.sim_world.proofs.links.pass.Goals as goal

pub pass-requires-clause-after : goal.pass-requires-clause-after
pass-requires-clause-after c =
    let i = c.loop-link.link-index in
    let x = c.link-item.result in
    subst (λ (h : Held). StandsBy c.args.moment h.link.switch) (sym (c.loop-link.invariant.rest i x (omega arith)))
    (All-at (λ (l : Link). StandsBy c.args.moment l.switch) c.args.links.now i x (omega arith) c.requires.after)

pub returns : goal.returns
returns c =
    links_in-mapped (link_stimulated (Advance c.args.moment)) c.args.links.now c.loop-link.links (omega arith) (λ k h g less. c.loop-link.invariant.passed k h g (omega arith))
