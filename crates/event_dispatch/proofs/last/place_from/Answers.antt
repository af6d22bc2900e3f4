use Rattle.std.proofs.Common.{◌∙◌, ℕ, drop, Some, sym, ap, arith, true≢false}
use Rattle.flow_table.specs.declared.view.ViewRow.{ViewRow}
use Rattle.event_dispatch.specs.laws.LastLaws.{drop_head, drop_inside, key_same}
use Rattle.event_dispatch.proofs.last.place_from.Goals as goal

pub loop-at-preserved : goal.loop-at-preserved
loop-at-preserved c = λ v later is key.
    let rows = c.args.rows.now in
    let there = ap (λ (n : ℕ). drop n rows) (c.loop-at.invariant v later is key) ∙ is in
    let row = drop_head c.loop-at.at rows v c.index-rows-at.result later there in
    absurd (true≢false (sym (key_same _ c.args.key.now (ap (λ (r : ViewRow). r.key) row ∙ key)) ∙ sym c.eq.ensures ∙ c.if-eq.false))

pub returns-then-eq : goal.returns-then-eq
returns-then-eq c = record { within = omega (arith, c.loop-at-test.true); here = λ v later is key. ap (λ (n : ℕ). Some n) (c.loop-at.invariant v later is key) }

pub returns : goal.returns
returns c = record {
  within = tt;
  here = λ v later is key. absurd (omega (arith, drop_inside c.args.from c.args.rows.now v later is, c.loop-at.invariant v later is key, c.loop-at-test.false));
}
