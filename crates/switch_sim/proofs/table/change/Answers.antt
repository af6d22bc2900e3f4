use Rattle.std.proofs.Common.{◌≡◌, ◌∙◌, length, ap, arith}
use Rattle.flow_table.specs.Change.{notices_of}
use Rattle.switch_sim.specs.laws.NoticeLaws.{AreShort-notices_of}
use Rattle.switch_sim.proofs.table.change.Goals as goal

pub write_all-requires-clause-len : goal.write_all-requires-clause-len
write_all-requires-clause-len c =
    let given : length c.as_slice.result.now ≡ length (notices_of c.args.now c.args.m.now c.args.table.now.entries) = ap length (c.as_slice.ensures ∙ c.in_ok-notices.ensures.answer.1) in
    omega (arith, given, c.count_told.ensures c.args.now, c.in_ok-room.ensures.len)

pub write_all-requires-clause-room : goal.write_all-requires-clause-room
write_all-requires-clause-room c =
    let given : length c.as_slice.result.now ≡ length (notices_of c.args.now c.args.m.now c.args.table.now.entries) = ap length (c.as_slice.ensures ∙ c.in_ok-notices.ensures.answer.1) in
    omega (arith, given, c.count_told.ensures c.args.now, c.in_ok-room.ensures.room)

pub write_all-requires-clause-short : goal.write_all-requires-clause-short
write_all-requires-clause-short c =
    rw (c.as_slice.ensures, c.in_ok-notices.ensures.answer.1) (AreShort-notices_of c.args.now c.args.m.now c.args.table.now.entries (omega (arith, c.requires.now.within)))
