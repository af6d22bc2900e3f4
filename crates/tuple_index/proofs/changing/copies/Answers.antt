use Rattle.std.proofs.Common.{◌≡◌, sym, ◌∙◌, ap, arith}
use Rattle.std.proofs.lemmas.Grind.{common_steps}
use Rattle.std.proofs.lemmas.List.Sums.{count_by_more_yes, count_by_more_no}
use Rattle.std.proofs.lemmas.List.Elements.{All-push}
use Rattle.flow_table.specs.Change.{means}
use Rattle.tuple_index.proofs.changing.copies.Goals as goal
use Rattle.tuple_index.proofs.changing.copies.Goals.{then-is_described+in_ok-copy_actions+in_ok-push, else-is_described}

pub loop-entry-preserved : goal.loop-entry-preserved
loop-entry-preserved c =
    elim c.if-is_described.branch [
      | then-is_described+in_ok-copy_actions+in_ok-push w ↦ (
          let counts = count_by_more_yes (means c.args.m.now) c.args.entries.now c.loop-entry.entry-index c.entry-item.result (omega arith) (ap (means c.args.m.now) (sym c.entry-item.is) ∙ sym c.is_described.ensures ∙ w.if-is_described.true) in
          rw w.copies-is (record {
            enough = grind (arith, common_steps, counts);
            same = rw w.in_ok-push.ensures.items (All-push (λ copy. copy ≡ c.args.m.now.actions) c.loop-entry.copies.items w.in_ok-copy_actions.field-0 c.loop-entry.invariant.same w.in_ok-copy_actions.ensures);
          }))
      | else-is_described w ↦ (
          let counts = count_by_more_no (means c.args.m.now) c.args.entries.now c.loop-entry.entry-index c.entry-item.result (omega arith) (ap (means c.args.m.now) (sym c.entry-item.is) ∙ sym c.is_described.ensures ∙ w.if-is_described.false) in
          rw w.copies-is (record { enough = omega (arith, counts); same = c.loop-entry.invariant.same }))
    ]
