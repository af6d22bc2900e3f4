use Rattle.std.proofs.Common.{◌≤◌, ◌-◌, length, take, drop, Some, sym, ap, ◌∙◌, arith, subst, get_or}
use Rattle.std.proofs.lemmas.Option.{slice_get_read}
use Rattle.std.proofs.Common.{refl}
use Rattle.session_lists.specs.laws.RecordLaws.{ends_count, record_at, record_within}
use Rattle.session_lists.proofs.records.record_of.Goals as goal

pub start_in-start-requires : goal.start_in-start-requires
start_in-start-requires g c = omega (arith, c.requires.within, ends_count 0 c.args.kinds.now c.args.ends.now (length c.args.bytes.now) c.requires.cut)

pub offset_bounds-ends-number : goal.offset_bounds-ends-number
offset_bounds-ends-number g c = omega (arith, c.requires.within, c.type_inv.ends, ends_count 0 c.args.kinds.now c.args.ends.now (length c.args.bytes.now) c.requires.cut)

pub bounds-ends-number : goal.bounds-ends-number
bounds-ends-number g c = omega (arith, c.requires.within, ends_count 0 c.args.kinds.now c.args.ends.now (length c.args.bytes.now) c.requires.cut)

pub piece_of-requires-clause-rises : goal.piece_of-requires-clause-rises
piece_of-requires-clause-rises g c =
    subst (λ start. start ≤ get_or c.args.ends.now c.args.number 0) (sym c.start_in-start.ensures)
    (record_within 0 c.args.kinds.now c.args.ends.now (length c.args.bytes.now) c.args.number c.requires.cut c.requires.within).0

pub piece_of-requires-clause-within : goal.piece_of-requires-clause-within
piece_of-requires-clause-within g c =
    (record_within 0 c.args.kinds.now c.args.ends.now (length c.args.bytes.now) c.args.number c.requires.cut c.requires.within).1

pub returns : goal.returns
returns g c =
    let kind = c.index-kinds-number.result in
    let bytes = c.args.bytes.now in
    let end = get_or c.args.ends.now c.args.number 0 in
    record_at 0 c.args.kinds.now c.args.ends.now bytes (length bytes) c.args.number kind c.requires.cut
    (slice_get_read c.args.kinds.now (length c.args.kinds.now) c.args.number kind refl c.requires.within c.index-kinds-number.is)
    ∙ ap (λ piece. Some (kind, piece)) (sym (c.piece_of.ensures ∙ ap (λ start. take (end - start) (drop start bytes)) c.start_in-start.ensures))
