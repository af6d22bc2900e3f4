use Rattle.std.proofs.Common.{sym, ◌∙◌, arith}
use Rattle.of_match.specs.laws.KeyLaws.{key_number-cmp}
use Rattle.tuple_index.proofs.grouping.key_order.Goals as goal

pub returns : goal.returns
returns c =
    c.cmp.ensures ∙ sym (key_number-cmp c.args.a.now c.args.b.now (record { priority = omega arith }) (record { priority = omega arith }))
