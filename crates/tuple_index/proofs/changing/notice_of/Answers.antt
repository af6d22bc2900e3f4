use Rattle.std.proofs.Common.{◌≡◌, ◌-◌, refl}
use Rattle.tuple_index.proofs.changing.notice_of.Goals as goal

pub returns : goal.returns
returns c =
    let copied : c.in_ok-copy_entry.field-0 ≡ c.args.entry.now = c.in_ok-copy_entry.ensures in
    let stood : c.saturating_sub.result ≡ c.args.now - c.args.entry.now.installed = c.saturating_sub.ensures in
    rw (copied, stood) refl
