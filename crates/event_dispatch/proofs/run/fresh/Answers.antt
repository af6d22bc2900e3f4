use Rattle.std.proofs.Common.{◌+◌, List, take, refl, sym, subst}
use Rattle.event_dispatch.specs.declared.run.Managed.{Managed}
use Rattle.event_dispatch.specs.Runs.{AreFresh}
use Rattle.event_dispatch.specs.laws.BeginLaws.{fresh_more}
use Rattle.event_dispatch.proofs.run.fresh.Goals as goal

pub loop-at-preserved : goal.loop-at-preserved
loop-at-preserved c =
    subst (λ (ms : List Managed). AreFresh 0 (take (c.loop-at.at + 1) c.args.rules.now) ms) (sym c.in_ok-push.ensures.items)
    (fresh_more c.args.rules.now c.loop-at.apps.items c.loop-at.at c.index-rules-at.result _ c.loop-at-test.true c.loop-at.invariant (record { rule_is = c.index-rules-at.is; state_is = c.new.ensures; done = refl; failed = refl }))
