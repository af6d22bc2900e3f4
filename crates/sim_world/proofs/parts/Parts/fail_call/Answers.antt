use Rattle.std.proofs.Common.{sym, ◌∙◌, subst}
use Rattle.outside.specs.Conforming.{AreDeclaredFrom}
use Rattle.outside.specs.declared.call.FailCall.{FailCall}
use Rattle.sim_world.specs.World.{WorldData, given_of, all_declared}
use Rattle.sim_world.specs.laws.BuildingLaws.{Gets-same, Gets-link_fail, Gets-other_fail}
use Rattle.std.proofs.lemmas.Result.{on_ok_weaker}
use Rattle.sim_world.proofs.parts.Parts.fail_call.Goals as goal

pub returns-then-is_link_call-clause-ok : goal.returns-then-is_link_call-clause-ok
unfolding given_of all_declared
returns-then-is_link_call-clause-ok c =
    let old = c.args.self.now in
    let fail : FailCall = record { kind = c.args.kind; of = c.args.of; number = c.args.number } in
    let order = subst (λ (w : WorldData). AreDeclaredFrom 1 (given_of w).declared) c.self.view_is c.are_in_order.ensures.order in
    on_ok_weaker c.put_link_fail.result (λ same. Gets-same _ _ _ _ same (Gets-link_fail fail old (sym c.is_link_call.ensures ∙ c.if-is_link_call.true) order c.requires.new)) c.put_link_fail.ensures.ok

pub returns-else-is_link_call-clause-ok : goal.returns-else-is_link_call-clause-ok
returns-else-is_link_call-clause-ok c =
    let old = c.args.self.now in
    let fail : FailCall = record { kind = c.args.kind; of = c.args.of; number = c.args.number } in
    on_ok_weaker c.put_other_fail.result (λ same. Gets-same _ _ _ _ same (Gets-other_fail fail old (sym c.is_link_call.ensures ∙ c.if-is_link_call.false) c.requires.new)) c.put_other_fail.ensures.ok
