use Rattle.std.proofs.Common.{◌≡◌, Some, refl, sym, ◌∙◌, subst}
use Rattle.outside.specs.declared.step.WorldStep.TheVariants.{From}
use Rattle.sim_world.specs.Links.{HasPlace}
use Rattle.std.specs.Prelude.{slice_get}
use Rattle.outside.specs.State.{link_told, waiting_in}
use Rattle.sim_world.specs.Links.{links_in}
use Rattle.sim_world.specs.laws.LinksLaws.{links_in-changed, declared_in-set, HasPlace-ascending, waiting_in-first, waiting_in-none}
use Rattle.sim_world.proofs.links.told.Goals as goal

pub returns-in_err-place-clause-none : goal.returns-in_err-place-clause-none
returns-in_err-place-clause-none c = rw c.from_residual.ensures (waiting_in-none c.args.links.now c.in_err-place.ensures, refl)

pub returns-clause-item : goal.returns-clause-item
returns-clause-item c =
    let held = c.args.links.now in
    let place = c.in_ok-place.place in
    let x = c.index-links-place.result in
    let y = c.index-links-place-2.result in
    let has = HasPlace-ascending 1 held place x c.requires c.in_ok-place.ensures.within in
    let own = has.here y ∙ sym c.dpid-dpid.ensures in
    subst (λ d. slice_get (waiting_in (links_in held)) 0 ≡ Some (From d c.in_ok-message.message)) own
    (waiting_in-first held place y c.in_ok-message.message c.in_ok-place.ensures c.in_ok-message.ensures.message)

pub returns-clause-some : goal.returns-clause-some
returns-clause-some c =
    let held = c.args.links.now in
    let place = c.in_ok-place.place in
    let x = c.index-links-place.result in
    let has = HasPlace-ascending 1 held place x c.requires c.in_ok-place.ensures.within in
    let own = c.dpid-dpid.ensures in
    links_in-changed c.dpid-dpid.result link_told held place c.told.new.self c.index-links-place-2.result (subst (λ d. HasPlace d held place) (sym own) has) c.in_ok-message.ensures.some

pub returns-clause-declared : goal.returns-clause-declared
returns-clause-declared c = declared_in-set c.args.links.now c.in_ok-place.place c.told.new.self c.index-links-place-2.result c.told.ensures.declared
