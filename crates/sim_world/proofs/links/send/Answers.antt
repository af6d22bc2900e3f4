use Rattle.std.proofs.Common.{IfSome, sym}
use Rattle.outside.specs.State.{Link, link_sent}
use Rattle.sim_world.specs.Links.{MayCall}
use Rattle.sim_world.specs.laws.LinksLaws.{links_in-changed, links_in-kept, declared_in-set, with_link-not_held}
use Rattle.std.proofs.lemmas.Result.{on_ok_weaker, on_err_weaker}
use Rattle.sim_world.proofs.Places.{from_position}
use Rattle.std.proofs.Common.{Option}
use Rattle.sim_world.proofs.links.send.Goals as goal

pub send-requires-clause-may : goal.send-requires-clause-may
send-requires-clause-may c =
    from_position (λ (o : Option Link). IfSome o MayCall) c.args.dpid c.args.links.now c.in-Some.place c.index-links-place.result c.in-Some.ensures c.requires.may

pub returns-in-None-clause-ok : goal.returns-in-None-clause-ok
returns-in-None-clause-ok c = sym (with_link-not_held c.args.dpid (link_sent c.args.frame.now) c.args.links.now c.in-None.ensures)

pub returns-in-Some-clause-ok : goal.returns-in-Some-clause-ok
returns-in-Some-clause-ok c =
    on_ok_weaker c.send.result (λ changed. links_in-changed c.args.dpid (link_sent c.args.frame.now) c.args.links.now c.in-Some.place c.send.new.self c.index-links-place.result c.in-Some.ensures changed) c.send.ensures.ok

pub returns-in-Some-clause-err : goal.returns-in-Some-clause-err
returns-in-Some-clause-err c =
    on_err_weaker c.send.result (λ kept. links_in-kept c.args.links.now c.in-Some.place c.send.new.self c.index-links-place.result kept) c.send.ensures.err

pub returns-in-Some-clause-declared : goal.returns-in-Some-clause-declared
returns-in-Some-clause-declared c = declared_in-set c.args.links.now c.in-Some.place c.send.new.self c.index-links-place.result c.send.ensures.declared
