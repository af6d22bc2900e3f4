use Rattle.std.proofs.Common.{◌≡◌, ◌∙◌, ◌&&◌, List, length, filter, ap, arith}
use Rattle.flow_table.specs.declared.entry.Entry.{Entry}
use Rattle.flow_table.specs.Change.{asks_notice}
use Rattle.flow_table.specs.Expiry.{is_due, expiry_notices}
use Rattle.switch_sim.specs.laws.NoticeLaws.{length-expiry_notices, AreShort-expiry_notices}
use Rattle.switch_sim.proofs.table.due.Goals as goal

pub write_all-requires-clause-len : goal.write_all-requires-clause-len
write_all-requires-clause-len c =
    let es = c.args.table.now.entries in
    let given : length c.as_slice.result.now ≡ length (expiry_notices c.args.now es) = ap length (c.as_slice.ensures ∙ c.in_ok-notices.ensures) in
    let counted : c.count_due.result ≡ length (filter (λ e. is_due c.args.now e && asks_notice e.flags) es) = c.count_due.ensures ∙ ap (λ (xs : List Entry). length (filter (λ e. is_due c.args.now e && asks_notice e.flags) xs)) c.entries.ensures.all in
    omega (arith, given, counted, length-expiry_notices c.args.now es, c.in_ok-room.ensures.len)

pub write_all-requires-clause-room : goal.write_all-requires-clause-room
write_all-requires-clause-room c =
    let es = c.args.table.now.entries in
    let given : length c.as_slice.result.now ≡ length (expiry_notices c.args.now es) = ap length (c.as_slice.ensures ∙ c.in_ok-notices.ensures) in
    let counted : c.count_due.result ≡ length (filter (λ e. is_due c.args.now e && asks_notice e.flags) es) = c.count_due.ensures ∙ ap (λ (xs : List Entry). length (filter (λ e. is_due c.args.now e && asks_notice e.flags) xs)) c.entries.ensures.all in
    omega (arith, given, counted, length-expiry_notices c.args.now es, c.in_ok-room.ensures.room)

pub write_all-requires-clause-short : goal.write_all-requires-clause-short
write_all-requires-clause-short c =
    rw (c.as_slice.ensures, c.in_ok-notices.ensures) (AreShort-expiry_notices c.args.now c.args.table.now.entries (omega (arith, c.requires.now.within)))
