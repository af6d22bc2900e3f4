use Rattle.std.proofs.Common.{◌≡◌, length, Some, refl, sym, ap, ◌∙◌}
use Rattle.std.proofs.lemmas.Bool.{le-ltb}
use Rattle.std.proofs.lemmas.List.{take_rest}
use Rattle.of_types.specs.Fields.{number_at}
use Rattle.app_frames.specs.Kinds.{event_kind_of}
use Rattle.app_frames.specs.Bodies.{event_of}
use Rattle.app_frames.proofs.host.event.Goals as goal

pub returns : goal.returns
unfolding event_of
returns c =
    let body = c.args.body.now in
    let enough = le-ltb (length body) 25 c.if-body-lt-EVENT.false in
    let kind : event_kind_of (number_at 1 16 body) ≡ Some c.in-Some.kind =
    ap event_kind_of (sym c.get_u8.ensures) ∙ sym c.from_number.ensures ∙ c.in-Some.is in
    let rest = c.in_ok-from_slice.ensures ∙ take_rest body 25 in
    rw (enough, kind, c.get_u64.ensures, c.get_u64-2.ensures, c.get_u64-3.ensures, rest) refl
