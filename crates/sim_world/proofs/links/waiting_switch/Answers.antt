use Rattle.std.proofs.Common.{ap, ◌∙◌}
use Rattle.sim_world.specs.Links.{Held}
use Rattle.sim_world.specs.laws.LinksLaws.{waiting_in-none, waiting_next, waits_at_first}
use Rattle.sim_world.proofs.links.waiting_switch.Goals as goal

pub returns-in_err-place-clause-none : goal.returns-in_err-place-clause-none
returns-in_err-place-clause-none c = rw c.from_residual.ensures (waiting_in-none c.args.links.now c.in_err-place.ensures)

pub returns-clause-some : goal.returns-clause-some
returns-clause-some c =
    let x = c.index-links-place.result in
    let own = c.dpid.ensures ∙ ap (λ (h : Held). h.link.declared.dpid) c.index-links-place.is in
    waits_at_first c.args.links.now c.in_ok-place.place x c.dpid.result c.requires c.in_ok-place.ensures own

pub returns-clause-next : goal.returns-clause-next
returns-clause-next c =
    let x = c.index-links-place.result in
    let own = c.dpid.ensures ∙ ap (λ (h : Held). h.link.declared.dpid) c.index-links-place.is in
    waiting_next c.args.links.now c.in_ok-place.place x c.dpid.result c.requires c.in_ok-place.ensures own
