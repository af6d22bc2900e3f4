use Rattle.std.proofs.Common.{length, ap, arith}
use Rattle.session_lists.specs.laws.RecordLaws.{records_count}
use Rattle.session_lists.proofs.records.Records.get.Goals as goal

pub record_of-requires-clause-within : goal.record_of-requires-clause-within
record_of-requires-clause-within g c =
    let inside = c.self.inside in
    omega (
      arith,
      c.requires,
      ap (λ rows. length rows) c.self.view_is,
      ap (λ kinds. length kinds) c.deref.ensures.value,
      records_count 0 inside.kinds.items inside.ends.items inside.bytes.items (length inside.bytes.items) c.self.invariant,
    )
