use Rattle.std.proofs.Common.{◌≡◌, [], Some, IfSome, refl}
use Rattle.std.specs.Prelude.{slice_get}
use Rattle.outside.specs.State.{Link, waits_in, link_got}
use Rattle.sim_world.specs.Links.{MayCall}
use Rattle.sim_world.specs.laws.LinksLaws.{links_in-changed, links_in-kept, declared_in-set}
use Rattle.sim_world.proofs.Places.{if_some, if_none, at_place, from_position, at_none}
use Rattle.std.proofs.Common.{Option}
use Rattle.sim_world.proofs.links.got.Goals as goal

pub returns-in_err-place-clause-none : goal.returns-in_err-place-clause-none
returns-in_err-place-clause-none c =
    rw c.from_residual.ensures (at_none (λ (o : Option Link). waits_in o ≡ []) c.args.dpid c.args.links.now c.in_err-place.ensures refl, refl)

pub got-requires : goal.got-requires
got-requires c =
    from_position (λ (o : Option Link). IfSome o MayCall) c.args.dpid c.args.links.now c.in_ok-place.place c.index-links-place.result c.in_ok-place.ensures c.requires

pub returns-clause-message : goal.returns-clause-message
returns-clause-message c =
    if_some c.got.result (λ m found. at_place (λ (o : Option Link). slice_get (waits_in o) 0 ≡ Some m) c.args.dpid c.args.links.now c.in_ok-place.place c.index-links-place.result c.in_ok-place.ensures found) c.got.ensures.message

pub returns-clause-some : goal.returns-clause-some
returns-clause-some c =
    if_some c.got.result (λ m changed. links_in-changed c.args.dpid link_got c.args.links.now c.in_ok-place.place c.got.new.self c.index-links-place.result c.in_ok-place.ensures changed) c.got.ensures.some

pub returns-clause-none : goal.returns-clause-none
returns-clause-none c =
    let x = c.index-links-place.result in
    if_none c.got.result (λ none. (
      at_place (λ (o : Option Link). waits_in o ≡ []) c.args.dpid c.args.links.now c.in_ok-place.place x c.in_ok-place.ensures none.0,
      links_in-kept c.args.links.now c.in_ok-place.place c.got.new.self x none.1,
    )) c.got.ensures.none

pub returns-clause-declared : goal.returns-clause-declared
returns-clause-declared c = declared_in-set c.args.links.now c.in_ok-place.place c.got.new.self c.index-links-place.result c.got.ensures.declared
