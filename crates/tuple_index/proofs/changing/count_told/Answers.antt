use Rattle.std.proofs.Common.{◌≡◌, ◌∙◌, true, false, filter, length, sym, ap}
use Rattle.std.proofs.lemmas.List.{length-map}
use Rattle.std.specs.List.{list_any}
use Rattle.flow_table.specs.Change.{is_delete, means, tells, notice}
use Rattle.flow_table.specs.laws.ChangeLaws.{notices_of-kept, notices_of-delete}
use Rattle.tuple_index.specs.laws.ReachLaws.{unmet-notices}
use Rattle.tuple_index.proofs.changing.count_told.Goals as goal
use Rattle.tuple_index.proofs.changing.count_told.Goals.{else-is_delete-via-then-is_delete+else-is_met, else-is_delete-via-else-is_delete}

pub returns-then-is_met : goal.returns-then-is_met
returns-then-is_met c = λ now.
    let delete : is_delete c.args.m.now ≡ true = sym c.is_delete.ensures ∙ c.if-is_delete.true in
    c.count_among.ensures ∙ ap length c.candidates.ensures.kept ∙ sym (length-map (filter (tells c.args.m.now) c.args.entries.now) (notice 2 now))
    ∙ sym (ap length (notices_of-delete now c.args.m.now c.args.entries.now delete))

pub returns-else-is_delete : goal.returns-else-is_delete
returns-else-is_delete c = λ now. elim c.else-is_delete.branch [
  | else-is_delete-via-then-is_delete+else-is_met w ↦
      let delete : is_delete c.args.m.now ≡ true = sym c.is_delete.ensures ∙ w.if-is_delete.true in
      let unmet : list_any (means c.args.m.now) c.args.entries.now ≡ false = sym w.is_met.ensures ∙ w.if-is_met.false in
      sym (ap length (unmet-notices now c.args.m.now c.args.entries.now delete unmet))
  | else-is_delete-via-else-is_delete w ↦
      sym (ap length (notices_of-kept now c.args.m.now c.args.entries.now (sym c.is_delete.ensures ∙ w.if-is_delete.false)))
]
