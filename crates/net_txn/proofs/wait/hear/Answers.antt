use Rattle.std.proofs.Common.{take, sym, ◌∙◌}
use Rattle.std.proofs.lemmas.Result.{err_from_is_err_and}
use Rattle.of_types.specs.laws.FieldLaws.{IsBytes-take}
use Rattle.net_txn.specs.Undos.{inverses_in}
use Rattle.net_txn.specs.Said.{HearsMessage}
use Rattle.net_txn.specs.laws.ExchangeLaws.{hears_none, hears_refusal, hears_parts, hears_then}
use Rattle.net_txn.specs.laws.SizeLaws.{header-read}
use Rattle.net_txn.specs.laws.PartingLaws.{behind_plain, untreated_plain, err_of}
use Rattle.net_txn.proofs.wait.hear.Goals as goal

pub get_u32-requires : goal.get_u32-requires
get_u32-requires g c = header-read (take c.in_ok-len.len c.receive.new.buf) c.in_ok-len.ensures.read

pub returns-in_err-len-clause-hears : goal.returns-in_err-len-clause-hears
returns-in_err-len-clause-hears g c =
    let p = err_from_is_err_and c.from_residual.result c.from_residual.ensures.1 in
    rw (p.1, p.2) (hears_none c.args.storage (inverses_in c.args.awaited.now.dpid c.args.reverted.now) c.receive.new.buf c.args.kept.now c.in_err-len.field-0.0 c.in_err-len.ensures.hears)

pub returns-in-Some-clause-hears : goal.returns-in-Some-clause-hears
returns-in-Some-clause-hears g c =
    let h : HearsMessage g.W.World.Tells c.args.awaited.now.dpid (g.W.World.seen c.args.world.now) (g.W.World.seen c.receive.new.world) c.receive.new.buf c.in_ok-len.len =
    record { read = (IsBytes-take c.in_ok-len.len c.receive.new.buf c.in_ok-len.ensures.bytes, c.in_ok-len.ensures.read); calls = c.in_ok-len.ensures.hears } in
    hears_refusal c.args.storage (inverses_in c.args.awaited.now.dpid c.args.reverted.now) c.args.kept.now c.in-Some.key c.get_u32.result h c.in-Some.ensures c.get_u32.ensures

pub returns-clause-hears : goal.returns-clause-hears
returns-clause-hears g c =
    let h : HearsMessage g.W.World.Tells c.args.awaited.now.dpid (g.W.World.seen c.args.world.now) (g.W.World.seen c.receive.new.world) c.receive.new.buf c.in_ok-len.len =
    record { read = (IsBytes-take c.in_ok-len.len c.receive.new.buf c.in_ok-len.ensures.bytes, c.in_ok-len.ensures.read); calls = c.in_ok-len.ensures.hears } in
    hears_then c.args.awaited.now (g.W.World.seen c.treat.new.world) c.args.storage (inverses_in c.args.awaited.now.dpid c.args.reverted.now) c.args.kept.now c.treat.new.kept c.args.answer.now c.treat.new.answer c.treat.result h (sym c.in_default.is ∙ c.key_refused.ensures) _ c.treat.ensures

pub treat-requires-clause-bytes : goal.treat-requires-clause-bytes
treat-requires-clause-bytes g c = IsBytes-take c.in_ok-len.len c.receive.new.buf c.in_ok-len.ensures.bytes

pub returns-then-can_part-clause-hears : goal.returns-then-can_part-clause-hears
returns-then-can_part-clause-hears g c =
    let h : HearsMessage g.W.World.Tells c.args.awaited.now.dpid (g.W.World.seen c.args.world.now) (g.W.World.seen c.receive.new.world) c.receive.new.buf c.in_ok-len.len =
    record { read = (IsBytes-take c.in_ok-len.len c.receive.new.buf c.in_ok-len.ensures.bytes, c.in_ok-len.ensures.read); calls = c.in_ok-len.ensures.hears } in
    hears_parts c.args.awaited.now (g.W.World.seen c.part_behind.new.world) c.args.storage (inverses_in c.args.awaited.now.dpid c.args.reverted.now) c.args.kept.now c.part_behind.new.kept c.part_behind.result c.in-Some.key h c.in-Some.ensures _ c.part_behind.ensures

pub part_behind-requires-clause-bytes : goal.part_behind-requires-clause-bytes
part_behind-requires-clause-bytes g c = IsBytes-take c.in_ok-len.len c.receive.new.buf c.in_ok-len.ensures.bytes

pub returns-in_err-len-clause-parted : goal.returns-in_err-len-clause-parted
returns-in_err-len-clause-parted g c =
    let p = err_from_is_err_and c.from_residual.result c.from_residual.ensures.1 in
    λ can. rw (p.1, p.2) (c.in_err-len.ensures.parted can)

pub returns-then-can_part-clause-parted : goal.returns-then-can_part-clause-parted
returns-then-can_part-clause-parted g c = λ can. behind_plain c.part_behind.result c.part_behind.ensures

pub returns-in-Some-clause-parted : goal.returns-in-Some-clause-parted
returns-in-Some-clause-parted g c = λ can. absurd (let is = rw c.if-can_part.false at (c.can_part.ensures.1 can) in cc)

pub returns-clause-parted : goal.returns-clause-parted
returns-clause-parted g c = λ can. err_of _ _ _ c.treat.result (λ t not. untreated_plain _ _ t not.why) c.treat.ensures
