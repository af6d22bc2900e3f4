use Rattle.std.proofs.Common.{sym, arith}
use Rattle.std.proofs.Common.{slice_index_or}
use Rattle.outside.specs.State.{link_stimulated}
use Rattle.sim_world.specs.laws.LinksLaws.{links_in-changed, links_in-kept, declared_in-set, with_link-not_held, cap_at, few-set, few_after}
use Rattle.std.proofs.lemmas.Result.{on_ok_weaker, on_err_weaker}
use Rattle.sim_world.proofs.links.stimulate.Goals as goal

pub returns-in-None-clause-ok : goal.returns-in-None-clause-ok
returns-in-None-clause-ok c = sym (with_link-not_held c.args.dpid (link_stimulated c.args.x.now) c.args.links.now c.in-None.ensures)

pub returns-in-Some-clause-ok : goal.returns-in-Some-clause-ok
returns-in-Some-clause-ok c =
    on_ok_weaker c.stimulate.result (λ changed. links_in-changed c.args.dpid (link_stimulated c.args.x.now) c.args.links.now c.in-Some.place c.stimulate.new.self c.index-links-place.result c.in-Some.ensures changed) c.stimulate.ensures.ok

pub returns-in-Some-clause-err : goal.returns-in-Some-clause-err
returns-in-Some-clause-err c =
    on_err_weaker c.stimulate.result (λ kept. links_in-kept c.args.links.now c.in-Some.place c.stimulate.new.self c.index-links-place.result kept) c.stimulate.ensures.err

pub returns-in-Some-clause-declared : goal.returns-in-Some-clause-declared
returns-in-Some-clause-declared c = declared_in-set c.args.links.now c.in-Some.place c.stimulate.new.self c.index-links-place.result c.stimulate.ensures.declared

pub returns-in-Some-clause-few : goal.returns-in-Some-clause-few
returns-in-Some-clause-few c =
    let held = c.args.links.now in
    let place = c.in-Some.place in
    let x = c.index-links-place.result in
    let cap = cap_at 1 held place x c.requires.order c.in-Some.ensures.within in
    let few = few_after c.stimulate.result 8192 (slice_index_or held place x).link c.stimulate.new.self.link (c.stimulate.ensures.few cap) c.stimulate.ensures.err in
    omega (arith, few-set 8192 held place c.stimulate.new.self x c.in-Some.ensures.within few)
