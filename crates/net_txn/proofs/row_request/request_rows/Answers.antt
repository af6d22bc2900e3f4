use Rattle.std.proofs.Common.{[], ◌∷◌, Ok, Err, refl, inl, inr, sym, ap, subst, ◌∙◌, arith}
use Rattle.std.proofs.lemmas.Result.{err_from_is_err_and}
use Rattle.of_wire.specs.declared.message.Message.TheVariants.{BarrierReply}
use Rattle.of_wire.specs.Spelling.{message_bytes}
use Rattle.outside.specs.Seen.{Seen}
use Rattle.lego_model.specs.declared.wait.Awaited.{Awaited}
use Rattle.net_txn.specs.declared.halt.Halt.TheVariants.{Fault}
use Rattle.net_txn.specs.AskSteps.{AsksFrom}
use Rattle.net_txn.specs.Asks.{IsAskCause}
use Rattle.net_txn.specs.laws.AskLaws.{long_parts, sorted_more, sorted_some, came_more, asked_waits, answer_by_replies}
use Rattle.net_txn.specs.Asks.{rows_inquiry}
use Rattle.net_txn.specs.laws.AskStepLaws.{IsMessage-asking}
use Rattle.net_txn.specs.laws.AskLaws.{no_flood_of}
use Rattle.net_txn.specs.laws.AskFaultLaws.{request_ascends, inquiry_halts, inquiry_short, inquiry_parted, inquiry_parted_speaks, inquiry_broke}
use Rattle.net_txn.specs.laws.WaitLaws.{none_kept}
use Rattle.net_txn.specs.laws.TalkLaws.{speaks_none, talks_speak, talks_ok, talks_err, talks_waits}
use Rattle.net_txn.proofs.row_request.request_rows.Goals as goal

pub returns-in_err-request-clause-asks : goal.returns-in_err-request-clause-asks
returns-in_err-request-clause-asks g c =
    let p = err_from_is_err_and c.from_residual.result c.from_residual.ensures.1 in
    rw (p.1, p.2) (record { speaks = speaks_none g.W.World.Tells c.args.dpid c.args.xid 2 (g.W.World.seen c.args.world.now); kept_more = none_kept c.args.dpid c.args.kept.now; answer = record { cause = inl tt; flooded = tt; losses = λ told. refl; still = λ told e. refl } })

pub returns-in_err-came-clause-asks : goal.returns-in_err-came-clause-asks
returns-in_err-came-clause-asks g c =
    let p = err_from_is_err_and c.from_residual-in_err-came.result c.from_residual-in_err-came.ensures.1 in
    rw (p.1, p.2) (record { speaks = speaks_none g.W.World.Tells c.args.dpid c.args.xid 2 (g.W.World.seen c.args.world.now); kept_more = none_kept c.args.dpid c.args.kept.now; answer = record { cause = inl tt; flooded = tt; losses = λ told. refl; still = λ told e. refl } })

pub returns-in_err-ask-clause-asks : goal.returns-in_err-ask-clause-asks
returns-in_err-ask-clause-asks g c =
    let p = err_from_is_err_and c.from_residual-in_err-ask.result c.from_residual-in_err-ask.ensures.1 in
    rw (p.1, p.2) (record {
      speaks = talks_speak c.args.xid 2 _ _ _ c.args.dpid (c.as_slice.result.now ∷ []) c.ask.result (ap (λ (a : Awaited). a.dpid) c.asked-awaited.ensures) c.ask.ensures.talks (request_ascends (rows_inquiry c.args.dpid c.args.xid) c.asked-awaited.result c.as_slice.result.now c.asked-awaited.ensures (c.as_slice.ensures ∙ c.in_ok-request.ensures.bytes));
      kept_more = none_kept c.args.dpid c.args.kept.now;
      answer = inquiry_halts (rows_inquiry c.args.dpid c.args.xid) c.asked-awaited.result c.as_slice.result.now (g.W.World.seen c.args.world.now) (g.W.World.seen c.ask.new.world) _ c.ask.new.kept
          (IsAskCause g.W.World.Tells c.args.dpid c.args.xid (g.W.World.seen c.args.world.now) (g.W.World.seen c.ask.new.world) c.args.kept.now c.args.kept.now) c.in_err-ask.field-0.0 IsMessage-asking (omega arith)
          c.asked-awaited.ensures (c.as_slice.ensures ∙ c.in_ok-request.ensures.bytes) (λ fault cause. inl cause) c.in_err-ask.ensures.talks;
    })

pub returns-in_err-replies-clause-asks : goal.returns-in_err-replies-clause-asks
returns-in_err-replies-clause-asks g c =
    let p = err_from_is_err_and c.from_residual-in_err-replies.result c.from_residual-in_err-replies.ensures.1 in
    let came = c.ask.new.kept in
    let old = g.W.World.seen c.args.world.now in
    let new = g.W.World.seen c.ask.new.world in
    let more = came_more g.W.World.Tells c.args.dpid c.args.xid c.asked-awaited.result _ old new c.in_ok-came.came came c.ask.result c.asked-awaited.ensures c.in_ok-came.ensures (talks_ok _ _ _ _ _ _ (c.as_slice.result.now ∷ []) c.ask.result c.ask.ensures.talks) (talks_err _ _ _ _ _ _ (c.as_slice.result.now ∷ []) c.ask.result c.ask.ensures.talks) in
    let (n, kept) = c.in_err-replies.ensures.kept_err in
    rw (p.1, p.2) (record {
      speaks = talks_speak c.args.xid 2 _ _ _ c.args.dpid (c.as_slice.result.now ∷ []) c.ask.result (ap (λ (a : Awaited). a.dpid) c.asked-awaited.ensures) c.ask.ensures.talks (request_ascends (rows_inquiry c.args.dpid c.args.xid) c.asked-awaited.result c.as_slice.result.now c.asked-awaited.ensures (c.as_slice.ensures ∙ c.in_ok-request.ensures.bytes));
      kept_more = sorted_some c.args.dpid c.args.xid n came c.args.kept.now c.sort_out.new.kept more kept;
      answer = inquiry_short (rows_inquiry c.args.dpid c.args.xid) c.asked-awaited.result c.as_slice.result.now old new _ came (IsAskCause g.W.World.Tells c.args.dpid c.args.xid old new c.args.kept.now c.sort_out.new.kept) _ IsMessage-asking (omega arith)
          c.asked-awaited.ensures (c.as_slice.ensures ∙ c.in_ok-request.ensures.bytes) (λ fault cause. inl cause) c.in_ok-ask.ensures.talks;
    })

pub read_replies-requires : goal.read_replies-requires
read_replies-requires g c = rw c.in_ok-replies.ensures.parts (long_parts c.args.xid c.ask.new.kept)

pub returns-in-Ok-clause-asks : goal.returns-in-Ok-clause-asks
returns-in-Ok-clause-asks g c =
    let came = c.ask.new.kept in
    let old = g.W.World.seen c.args.world.now in
    let new = g.W.World.seen c.ask.new.world in
    let more = came_more g.W.World.Tells c.args.dpid c.args.xid c.asked-awaited.result _ old new c.in_ok-came.came came c.ask.result c.asked-awaited.ensures c.in_ok-came.ensures (talks_ok _ _ _ _ _ _ (c.as_slice.result.now ∷ []) c.ask.result c.ask.ensures.talks) (talks_err _ _ _ _ _ _ (c.as_slice.result.now ∷ []) c.ask.result c.ask.ensures.talks) in
    let waits = asked_waits (rows_inquiry c.args.dpid c.args.xid) c.asked-awaited.result c.as_slice.result.now old new c.in_ok-came.came came c.in_ok-ask.field-0 c.asked-awaited.ensures (c.as_slice.ensures ∙ c.in_ok-request.ensures.bytes) c.in_ok-came.ensures (talks_waits (c.as_slice.result.now ∷ []) c.in_ok-ask.ensures.talks) in
    record {
      speaks = talks_speak c.args.xid 2 _ _ _ c.args.dpid (c.as_slice.result.now ∷ []) c.ask.result (ap (λ (a : Awaited). a.dpid) c.asked-awaited.ensures) c.ask.ensures.talks (request_ascends (rows_inquiry c.args.dpid c.args.xid) c.asked-awaited.result c.as_slice.result.now c.asked-awaited.ensures (c.as_slice.ensures ∙ c.in_ok-request.ensures.bytes));
      kept_more = sorted_more c.args.dpid c.args.xid came c.args.kept.now c.sort_out.new.kept more c.in_ok-replies.ensures.kept;
      answer = answer_by_replies c.args.dpid c.args.xid old new c.args.kept.now c.sort_out.new.kept came c.in_ok-replies.replies.parts.items c.in_ok-replies.replies.refusals.items c.in_ok-request.request c.asked-awaited.result.barrier (Ok c.in-Ok.rows)
          (record { brought = c.in_ok-ask.field-0; waits = waits; kept_is = c.in_ok-replies.ensures.kept })
          c.in_ok-replies.ensures.parts c.in_ok-replies.ensures.refusals c.in_ok-request.ensures.bytes (ap (λ (x : Awaited). x.barrier) c.asked-awaited.ensures)
          c.in-Ok.ensures.rows c.in-Ok.ensures.no_refusal tt;
    }

pub returns-in-Err-clause-asks : goal.returns-in-Err-clause-asks
returns-in-Err-clause-asks g c =
    let came = c.ask.new.kept in
    let old = g.W.World.seen c.args.world.now in
    let mid = g.W.World.seen c.ask.new.world in
    let new = g.W.World.seen c.part_or_fail.new.world in
    let more = came_more g.W.World.Tells c.args.dpid c.args.xid c.asked-awaited.result _ old mid c.in_ok-came.came came c.ask.result c.asked-awaited.ensures c.in_ok-came.ensures (talks_ok _ _ _ _ _ _ (c.as_slice.result.now ∷ []) c.ask.result c.ask.ensures.talks) (talks_err _ _ _ _ _ _ (c.as_slice.result.now ∷ []) c.ask.result c.ask.ensures.talks) in
    let waits = asked_waits (rows_inquiry c.args.dpid c.args.xid) c.asked-awaited.result c.as_slice.result.now old mid c.in_ok-came.came came c.in_ok-ask.field-0 c.asked-awaited.ensures (c.as_slice.ensures ∙ c.in_ok-request.ensures.bytes) c.in_ok-came.ensures (talks_waits (c.as_slice.result.now ∷ []) c.in_ok-ask.ensures.talks) in
    let cause = answer_by_replies c.args.dpid c.args.xid old mid c.args.kept.now c.sort_out.new.kept came c.in_ok-replies.replies.parts.items c.in_ok-replies.replies.refusals.items c.in_ok-request.request c.asked-awaited.result.barrier (Err c.in-Err.fault)
    (record { brought = c.in_ok-ask.field-0; waits = waits; kept_is = c.in_ok-replies.ensures.kept })
    c.in_ok-replies.ensures.parts c.in_ok-replies.ensures.refusals c.in_ok-request.ensures.bytes (ap (λ (x : Awaited). x.barrier) c.asked-awaited.ensures)
    tt tt c.in-Err.ensures.err in
    let kept_more = sorted_more c.args.dpid c.args.xid came c.args.kept.now c.sort_out.new.kept more c.in_ok-replies.ensures.kept in
    let broke : AsksFrom g.W.World.Tells c.args.dpid c.args.xid old mid c.args.kept.now c.sort_out.new.kept (Err (Fault c.in-Err.fault)) = record {
      speaks = talks_speak c.args.xid 2 _ _ _ c.args.dpid (c.as_slice.result.now ∷ []) c.ask.result (ap (λ (a : Awaited). a.dpid) c.asked-awaited.ensures) c.ask.ensures.talks (request_ascends (rows_inquiry c.args.dpid c.args.xid) c.asked-awaited.result c.as_slice.result.now c.asked-awaited.ensures (c.as_slice.ensures ∙ c.in_ok-request.ensures.bytes));
      kept_more = kept_more;
      answer = inquiry_broke (rows_inquiry c.args.dpid c.args.xid) c.asked-awaited.result c.as_slice.result.now old mid _ came (IsAskCause g.W.World.Tells c.args.dpid c.args.xid old mid c.args.kept.now c.sort_out.new.kept) _ c.in-Err.fault IsMessage-asking (omega arith)
          c.asked-awaited.ensures (c.as_slice.ensures ∙ c.in_ok-request.ensures.bytes) c.in_ok-ask.ensures.talks cause
          (no_flood_of g.W.World.Tells c.args.dpid c.args.xid _ _ old mid c.in_ok-request.request (message_bytes c.asked-awaited.result.barrier BarrierReply) c.in_ok-replies.replies.parts.items c.in_ok-replies.replies.refusals.items c.in-Err.fault c.in-Err.ensures.err);
    } in
    elim c.part_or_fail.ensures.parts_or_fails [
      | inl fails ↦ rw fails.0 (subst (λ (s : Seen _). AsksFrom g.W.World.Tells c.args.dpid c.args.xid old s c.args.kept.now c.sort_out.new.kept (Err (Fault c.in-Err.fault))) (sym fails.1) broke)
      | inr parts ↦ rw parts.1 (record {
        speaks = inquiry_parted_speaks (rows_inquiry c.args.dpid c.args.xid) c.asked-awaited.result c.as_slice.result.now old mid new _ came _ c.asked-awaited.ensures (c.as_slice.ensures ∙ c.in_ok-request.ensures.bytes) c.in_ok-ask.ensures.talks parts.2;
        kept_more = kept_more;
        answer = inquiry_parted (rows_inquiry c.args.dpid c.args.xid) c.asked-awaited.result c.as_slice.result.now old mid new _ came (IsAskCause g.W.World.Tells c.args.dpid c.args.xid old new c.args.kept.now c.sort_out.new.kept) _ IsMessage-asking (omega arith) c.asked-awaited.ensures (c.as_slice.ensures ∙ c.in_ok-request.ensures.bytes) c.in_ok-ask.ensures.talks parts.2;
      })
    ]

pub returns-in_err-ask-clause-parted : goal.returns-in_err-ask-clause-parted
returns-in_err-ask-clause-parted g c =
    let p = err_from_is_err_and c.from_residual-in_err-ask.result c.from_residual-in_err-ask.ensures.1 in
    λ can. rw (p.1, p.2) (c.in_err-ask.ensures.parted can)
