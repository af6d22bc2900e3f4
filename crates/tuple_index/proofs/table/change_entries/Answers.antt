use Rattle.flow_table.specs.laws.ChangeLaws.{refusal-delete}
use Rattle.tuple_index.proofs.table.change_entries.Goals as goal

pub returns-in-Some-clause-without_notices : goal.returns-in-Some-clause-without_notices
returns-in-Some-clause-without_notices c = λ deletes none.
    let free = refusal-delete c.args.cap c.args.m.now c.args.entries.now.items deletes in
    let refused = c.in-Some.ensures.value in
    let same = c.deref-2.ensures.value in
    cc
