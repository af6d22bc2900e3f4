use Rattle.std.proofs.Common.{sym}
use Rattle.sim_world.specs.Links.{fails_at}
use Rattle.sim_world.specs.laws.LinksLaws.{links_in-changed, links_in-kept, declared_in-set, with_link-not_held}
use Rattle.std.proofs.lemmas.Result.{on_ok_weaker, on_err_weaker}
use Rattle.sim_world.proofs.links.fail_at.Goals as goal

pub returns-in-None-clause-ok : goal.returns-in-None-clause-ok
returns-in-None-clause-ok c = sym (with_link-not_held c.args.dpid (fails_at c.args.number) c.args.links.now c.in-None.ensures)

pub returns-in-Some-clause-ok : goal.returns-in-Some-clause-ok
returns-in-Some-clause-ok c =
    on_ok_weaker c.fail_at.result (λ changed. links_in-changed c.args.dpid (fails_at c.args.number) c.args.links.now c.in-Some.place c.fail_at.new.self c.index-links-place.result c.in-Some.ensures changed) c.fail_at.ensures.ok

pub returns-in-Some-clause-err : goal.returns-in-Some-clause-err
returns-in-Some-clause-err c =
    on_err_weaker c.fail_at.result (λ kept. links_in-kept c.args.links.now c.in-Some.place c.fail_at.new.self c.index-links-place.result kept) c.fail_at.ensures.err

pub returns-in-Some-clause-declared : goal.returns-in-Some-clause-declared
returns-in-Some-clause-declared c = declared_in-set c.args.links.now c.in-Some.place c.fail_at.new.self c.index-links-place.result c.fail_at.ensures.declared
