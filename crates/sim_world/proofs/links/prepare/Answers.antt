use Rattle.std.proofs.Common.{sym, subst, ◌∙◌, arith}
use Rattle.std.specs.List.{AllByRecursion}
use Rattle.outside.specs.State.{Link}
use Rattle.sim_world.specs.Links.{StandsBy, IsReady}
use Rattle.sim_world.specs.laws.LinksLaws.{All-at, below_set, links_in-kept}
use Rattle.sim_world.proofs.links.prepare.Goals as goal

pub prepare-requires-clause-after : goal.prepare-requires-clause-after
prepare-requires-clause-after c =
    let P = λ (l : Link). StandsBy c.args.moment l.switch in
    All-at P c.loop-link.links c.loop-link.link-index c.link-item.result (omega arith) (subst (AllByRecursion P) (sym c.loop-link.invariant.same) c.requires.after)

pub returns-in_err-prepare-clause-same : goal.returns-in_err-prepare-clause-same
returns-in_err-prepare-clause-same c =
    links_in-kept c.loop-link.links c.loop-link.link-index c.prepare.new.self c.link-item.result c.prepare.ensures.same ∙ c.loop-link.invariant.same

pub loop-link-preserved : goal.loop-link-preserved
loop-link-preserved c = record {
  same = links_in-kept c.loop-link.links c.loop-link.link-index c.prepare.new.self c.link-item.result c.prepare.ensures.same ∙ c.loop-link.invariant.same;
  ready =
      below_set (λ k h. IsReady c.args.moment h) c.loop-link.links c.loop-link.link-index c.prepare.new.self (omega arith) c.loop-link.invariant.ready c.in_ok-prepare.ensures.ready;
}
