use Rattle.std.proofs.Common.{◌≡◌, refl, sym}
use Rattle.std.proofs.Common.{None}
use Rattle.outside.specs.State.{Link, link_joined}
use Rattle.sim_world.specs.Links.{features_of_join}
use Rattle.sim_world.specs.laws.LinksLaws.{links_in-changed, links_in-kept, declared_in-set, with_link-not_held}
use Rattle.std.proofs.lemmas.Result.{on_ok_weaker, on_err_weaker}
use Rattle.sim_world.proofs.Places.{if_ok, at_place, at_none}
use Rattle.std.proofs.Common.{Option}
use Rattle.sim_world.proofs.links.join.Goals as goal

pub returns-in-None-clause-ok : goal.returns-in-None-clause-ok
returns-in-None-clause-ok c = sym (with_link-not_held c.args.dpid (link_joined c.args.moment) c.args.links.now c.in-None.ensures)

pub returns-in-Some-clause-ok : goal.returns-in-Some-clause-ok
returns-in-Some-clause-ok c =
    on_ok_weaker c.join.result (λ changed. links_in-changed c.args.dpid (link_joined c.args.moment) c.args.links.now c.in-Some.place c.join.new.self c.index-links-place.result c.in-Some.ensures changed) c.join.ensures.ok

pub returns-in-Some-clause-err : goal.returns-in-Some-clause-err
returns-in-Some-clause-err c =
    on_err_weaker c.join.result (λ kept. links_in-kept c.args.links.now c.in-Some.place c.join.new.self c.index-links-place.result kept) c.join.ensures.err

pub returns-in-Some-clause-declared : goal.returns-in-Some-clause-declared
returns-in-Some-clause-declared c = declared_in-set c.args.links.now c.in-Some.place c.join.new.self c.index-links-place.result c.join.ensures.declared

pub returns-in-None-clause-told : goal.returns-in-None-clause-told
returns-in-None-clause-told c = at_none (λ (o : Option Link). None ≡ features_of_join c.args.moment o) c.args.dpid c.args.links.now c.in-None.ensures refl

pub returns-in-Some-clause-told : goal.returns-in-Some-clause-told
returns-in-Some-clause-told c =
    if_ok c.join.result (λ features told. at_place (λ (o : Option Link). features ≡ features_of_join c.args.moment o) c.args.dpid c.args.links.now c.in-Some.place c.index-links-place.result c.in-Some.ensures told) c.join.ensures.told
