use Rattle.std.proofs.Common.{◌≡◌, ◌∙◌, ◌≤◌, ◌+◌, Bool, true, false, arith, ap}
use Rattle.of_stats.specs.declared.sum.Sum.{Sum}
use Rattle.flow_table.specs.declared.entry.Entry.{Entry}
use Rattle.flow_table.specs.Rows.{is_selected, selected}
use Rattle.switch_sim.specs.Words.{counted_in}
use Rattle.switch_sim.specs.laws.SumLaws.{IsSumBefore-more, sum_of-whole}
use Rattle.switch_sim.proofs.statistics.sum.Goals as goal

one_at_most : (counts : Bool) (sum : Sum) (e : Entry) → (counted_in counts sum e).flows ≤ sum.flows + 1
one_at_most true sum e = omega arith
one_at_most false sum e = omega arith

pub loop-entry-preserved : goal.loop-entry-preserved
loop-entry-preserved c =
    let e = c.entry-item.result in
    let is : c.add-sum.result ≡ counted_in (is_selected c.args.m.now c.args.out_port e) c.loop-entry.sum e = c.add-sum.ensures ∙ ap (λ (b : Bool). counted_in b c.loop-entry.sum e) c.is_selected.ensures in
    rw is (record {
      few = omega (arith, one_at_most (is_selected c.args.m.now c.args.out_port e) c.loop-entry.sum e, c.loop-entry.invariant.few);
      before = IsSumBefore-more c.args.m.now c.args.out_port c.args.entries.now c.loop-entry.entry-index e c.loop-entry.sum (selected c.args.m.now c.args.out_port c.args.entries.now) c.loop-entry-test.true c.entry-item.is c.loop-entry.invariant.before;
    })

pub returns : goal.returns
returns c =
    sum_of-whole c.args.m.now c.args.out_port c.args.entries.now c.loop-entry.entry-index c.loop-entry.sum (selected c.args.m.now c.args.out_port c.args.entries.now) c.loop-entry-test.false c.loop-entry.invariant.before
