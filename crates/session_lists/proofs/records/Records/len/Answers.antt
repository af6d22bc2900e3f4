use Rattle.std.proofs.Common.{length, sym, ap, ◌∙◌}
use Rattle.session_lists.specs.laws.RecordLaws.{records_count}
use Rattle.session_lists.proofs.records.Records.len.Goals as goal

pub returns : goal.returns
returns g c =
    let inside = c.self.inside in
    ap (λ kinds. length kinds) c.as_slice.ensures.value
    ∙ sym (records_count 0 inside.kinds.items inside.ends.items inside.bytes.items (length inside.bytes.items) c.self.invariant)
    ∙ ap (λ rows. length rows) c.self.view_is
