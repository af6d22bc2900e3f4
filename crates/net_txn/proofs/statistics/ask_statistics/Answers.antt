use Rattle.std.proofs.Common.{[], ◌∷◌, Ok, Err, refl, inl, inr, sym, ap, subst, ◌∙◌, arith}
use Rattle.std.proofs.lemmas.Result.{err_from_is_err_and}
use Rattle.of_wire.specs.declared.message.Message.TheVariants.{BarrierReply}
use Rattle.of_wire.specs.Spelling.{message_bytes}
use Rattle.outside.specs.Seen.{Seen}
use Rattle.lego_model.specs.declared.wait.Awaited.{Awaited}
use Rattle.net_txn.specs.declared.halt.Halt.TheVariants.{Fault}
use Rattle.net_txn.specs.Queries.{IsQueryCause, QueriesFrom}
use Rattle.net_txn.specs.laws.AskLaws.{long_parts, long_refusals, sorted_more, sorted_some, came_more, asked_waits, answer_by_parts}
use Rattle.of_wire.specs.declared.message.Message.TheVariants.{StatsRequest}
use Rattle.of_wire.specs.laws.ReadingLaws.{reading_of-message_bytes}
use Rattle.net_txn.specs.laws.AskLaws.{no_flood_by}
use Rattle.net_txn.specs.laws.AskFaultLaws.{request_ascends, inquiry_halts, inquiry_short, inquiry_parted, inquiry_parted_speaks, inquiry_broke, replied_still}
use Rattle.net_txn.specs.laws.WaitLaws.{none_kept}
use Rattle.net_txn.specs.laws.TalkLaws.{speaks_none, talks_speak, talks_ok, talks_err, talks_waits}
use Rattle.net_txn.proofs.statistics.ask_statistics.Goals as goal

pub returns-in_err-request-clause-queries : goal.returns-in_err-request-clause-queries
returns-in_err-request-clause-queries g c =
    let p = err_from_is_err_and c.from_residual.result c.from_residual.ensures.1 in
    rw (p.1, p.2) (record { speaks = speaks_none g.W.World.Tells c.args.dpid c.args.xid 2 (g.W.World.seen c.args.world.now); kept_more = none_kept c.args.dpid c.args.kept.now; answer = record { cause = inl tt; flooded = tt; losses = λ told. refl; still = λ told e. refl }; still = tt })

pub returns-in_err-came-clause-queries : goal.returns-in_err-came-clause-queries
returns-in_err-came-clause-queries g c =
    let p = err_from_is_err_and c.from_residual-in_err-came.result c.from_residual-in_err-came.ensures.1 in
    rw (p.1, p.2) (record { speaks = speaks_none g.W.World.Tells c.args.dpid c.args.xid 2 (g.W.World.seen c.args.world.now); kept_more = none_kept c.args.dpid c.args.kept.now; answer = record { cause = inl tt; flooded = tt; losses = λ told. refl; still = λ told e. refl }; still = tt })

pub returns-in_err-ask-clause-queries : goal.returns-in_err-ask-clause-queries
returns-in_err-ask-clause-queries g c =
    let p = err_from_is_err_and c.from_residual-in_err-ask.result c.from_residual-in_err-ask.ensures.1 in
    rw (p.1, p.2) (record {
      speaks = talks_speak c.args.xid 2 _ _ _ c.args.dpid (c.as_slice.result.now ∷ []) c.ask.result (ap (λ (a : Awaited). a.dpid) c.asked-awaited.ensures) c.ask.ensures.talks (request_ascends (record { dpid = c.args.dpid; xid = c.args.xid; query = c.args.query }) c.asked-awaited.result c.as_slice.result.now c.asked-awaited.ensures (c.as_slice.ensures ∙ c.in_ok-request.ensures));
      kept_more = none_kept c.args.dpid c.args.kept.now;
      answer = inquiry_halts (record { dpid = c.args.dpid; xid = c.args.xid; query = c.args.query }) c.asked-awaited.result c.as_slice.result.now (g.W.World.seen c.args.world.now) (g.W.World.seen c.ask.new.world) _ c.ask.new.kept
          (IsQueryCause g.W.World.Tells (record { dpid = c.args.dpid; xid = c.args.xid; query = c.args.query }) (g.W.World.seen c.args.world.now) (g.W.World.seen c.ask.new.world) c.args.kept.now c.args.kept.now) c.in_err-ask.field-0.0 c.requires.message (omega arith)
          c.asked-awaited.ensures (c.as_slice.ensures ∙ c.in_ok-request.ensures) (λ fault cause. inl cause) c.in_err-ask.ensures.talks;
      still = tt;
    })

pub returns-in_err-replies-clause-queries : goal.returns-in_err-replies-clause-queries
returns-in_err-replies-clause-queries g c =
    let p = err_from_is_err_and c.from_residual-in_err-replies.result c.from_residual-in_err-replies.ensures.1 in
    let came = c.ask.new.kept in
    let old = g.W.World.seen c.args.world.now in
    let new = g.W.World.seen c.ask.new.world in
    let more = came_more g.W.World.Tells c.args.dpid c.args.xid c.asked-awaited.result _ old new c.in_ok-came.came came c.ask.result c.asked-awaited.ensures c.in_ok-came.ensures (talks_ok _ _ _ _ _ _ (c.as_slice.result.now ∷ []) c.ask.result c.ask.ensures.talks) (talks_err _ _ _ _ _ _ (c.as_slice.result.now ∷ []) c.ask.result c.ask.ensures.talks) in
    let (n, kept) = c.in_err-replies.ensures.kept_err in
    rw (p.1, p.2) (record {
      speaks = talks_speak c.args.xid 2 _ _ _ c.args.dpid (c.as_slice.result.now ∷ []) c.ask.result (ap (λ (a : Awaited). a.dpid) c.asked-awaited.ensures) c.ask.ensures.talks (request_ascends (record { dpid = c.args.dpid; xid = c.args.xid; query = c.args.query }) c.asked-awaited.result c.as_slice.result.now c.asked-awaited.ensures (c.as_slice.ensures ∙ c.in_ok-request.ensures));
      kept_more = sorted_some c.args.dpid c.args.xid n came c.args.kept.now c.sort_out.new.kept more kept;
      answer = inquiry_short (record { dpid = c.args.dpid; xid = c.args.xid; query = c.args.query }) c.asked-awaited.result c.as_slice.result.now old new _ came (IsQueryCause g.W.World.Tells (record { dpid = c.args.dpid; xid = c.args.xid; query = c.args.query }) old new c.args.kept.now c.sort_out.new.kept) _ c.requires.message (omega arith)
          c.asked-awaited.ensures (c.as_slice.ensures ∙ c.in_ok-request.ensures) (λ fault cause. inl cause) c.in_ok-ask.ensures.talks;
      still = tt;
    })

pub ask-requires-clause-read : goal.ask-requires-clause-read
ask-requires-clause-read g c = rw (c.as_slice.ensures, c.in_ok-request.ensures, reading_of-message_bytes c.args.xid (StatsRequest c.args.query) (omega arith) c.requires.message) refl

pub answer_replies-requires-clause-parts : goal.answer_replies-requires-clause-parts
answer_replies-requires-clause-parts g c = rw c.in_ok-replies.ensures.parts (long_parts c.args.xid c.ask.new.kept)

pub answer_replies-requires-clause-refusals : goal.answer_replies-requires-clause-refusals
answer_replies-requires-clause-refusals g c = rw c.in_ok-replies.ensures.refusals (long_refusals c.args.xid c.ask.new.kept)

pub returns-in-Ok-clause-queries : goal.returns-in-Ok-clause-queries
returns-in-Ok-clause-queries g c =
    let came = c.ask.new.kept in
    let old = g.W.World.seen c.args.world.now in
    let new = g.W.World.seen c.ask.new.world in
    let more = came_more g.W.World.Tells c.args.dpid c.args.xid c.asked-awaited.result _ old new c.in_ok-came.came came c.ask.result c.asked-awaited.ensures c.in_ok-came.ensures (talks_ok _ _ _ _ _ _ (c.as_slice.result.now ∷ []) c.ask.result c.ask.ensures.talks) (talks_err _ _ _ _ _ _ (c.as_slice.result.now ∷ []) c.ask.result c.ask.ensures.talks) in
    let waits = asked_waits (record { dpid = c.args.dpid; xid = c.args.xid; query = c.args.query }) c.asked-awaited.result c.as_slice.result.now old new c.in_ok-came.came came c.in_ok-ask.field-0 c.asked-awaited.ensures (c.as_slice.ensures ∙ c.in_ok-request.ensures) c.in_ok-came.ensures (talks_waits (c.as_slice.result.now ∷ []) c.in_ok-ask.ensures.talks) in
    record {
      speaks = talks_speak c.args.xid 2 _ _ _ c.args.dpid (c.as_slice.result.now ∷ []) c.ask.result (ap (λ (a : Awaited). a.dpid) c.asked-awaited.ensures) c.ask.ensures.talks (request_ascends (record { dpid = c.args.dpid; xid = c.args.xid; query = c.args.query }) c.asked-awaited.result c.as_slice.result.now c.asked-awaited.ensures (c.as_slice.ensures ∙ c.in_ok-request.ensures));
      kept_more = sorted_more c.args.dpid c.args.xid came c.args.kept.now c.sort_out.new.kept more c.in_ok-replies.ensures.kept;
      answer = answer_by_parts (record { dpid = c.args.dpid; xid = c.args.xid; query = c.args.query }) old new c.args.kept.now c.sort_out.new.kept came c.in_ok-replies.replies.parts.items c.in_ok-replies.replies.refusals.items c.in_ok-request.request c.asked-awaited.result.barrier (Ok c.in-Ok.answer)
          (record { brought = c.in_ok-ask.field-0; waits = waits; kept_is = c.in_ok-replies.ensures.kept })
          c.in_ok-replies.ensures.parts c.in_ok-replies.ensures.refusals c.in_ok-request.ensures (ap (λ (x : Awaited). x.barrier) c.asked-awaited.ensures)
          c.in-Ok.ensures.answer c.in-Ok.ensures.fits tt;
      still = replied_still (record { dpid = c.args.dpid; xid = c.args.xid; query = c.args.query }) c.asked-awaited.result c.as_slice.result.now old new _ came _ c.requires.message (omega arith) c.asked-awaited.ensures (c.as_slice.ensures ∙ c.in_ok-request.ensures) c.in_ok-ask.ensures.talks;
    }

pub returns-in-Err-clause-queries : goal.returns-in-Err-clause-queries
returns-in-Err-clause-queries g c =
    let came = c.ask.new.kept in
    let old = g.W.World.seen c.args.world.now in
    let mid = g.W.World.seen c.ask.new.world in
    let new = g.W.World.seen c.part_or_fail.new.world in
    let more = came_more g.W.World.Tells c.args.dpid c.args.xid c.asked-awaited.result _ old mid c.in_ok-came.came came c.ask.result c.asked-awaited.ensures c.in_ok-came.ensures (talks_ok _ _ _ _ _ _ (c.as_slice.result.now ∷ []) c.ask.result c.ask.ensures.talks) (talks_err _ _ _ _ _ _ (c.as_slice.result.now ∷ []) c.ask.result c.ask.ensures.talks) in
    let waits = asked_waits (record { dpid = c.args.dpid; xid = c.args.xid; query = c.args.query }) c.asked-awaited.result c.as_slice.result.now old mid c.in_ok-came.came came c.in_ok-ask.field-0 c.asked-awaited.ensures (c.as_slice.ensures ∙ c.in_ok-request.ensures) c.in_ok-came.ensures (talks_waits (c.as_slice.result.now ∷ []) c.in_ok-ask.ensures.talks) in
    let cause = answer_by_parts (record { dpid = c.args.dpid; xid = c.args.xid; query = c.args.query }) old mid c.args.kept.now c.sort_out.new.kept came c.in_ok-replies.replies.parts.items c.in_ok-replies.replies.refusals.items c.in_ok-request.request c.asked-awaited.result.barrier (Err c.in-Err.fault)
    (record { brought = c.in_ok-ask.field-0; waits = waits; kept_is = c.in_ok-replies.ensures.kept })
    c.in_ok-replies.ensures.parts c.in_ok-replies.ensures.refusals c.in_ok-request.ensures (ap (λ (x : Awaited). x.barrier) c.asked-awaited.ensures)
    tt tt c.in-Err.ensures.err in
    let kept_more = sorted_more c.args.dpid c.args.xid came c.args.kept.now c.sort_out.new.kept more c.in_ok-replies.ensures.kept in
    let broke : QueriesFrom g.W.World.Tells (record { dpid = c.args.dpid; xid = c.args.xid; query = c.args.query }) old mid c.args.kept.now c.sort_out.new.kept (Err (Fault c.in-Err.fault)) = record {
      speaks = talks_speak c.args.xid 2 _ _ _ c.args.dpid (c.as_slice.result.now ∷ []) c.ask.result (ap (λ (a : Awaited). a.dpid) c.asked-awaited.ensures) c.ask.ensures.talks (request_ascends (record { dpid = c.args.dpid; xid = c.args.xid; query = c.args.query }) c.asked-awaited.result c.as_slice.result.now c.asked-awaited.ensures (c.as_slice.ensures ∙ c.in_ok-request.ensures));
      kept_more = kept_more;
      answer = inquiry_broke (record { dpid = c.args.dpid; xid = c.args.xid; query = c.args.query }) c.asked-awaited.result c.as_slice.result.now old mid _ came (IsQueryCause g.W.World.Tells (record { dpid = c.args.dpid; xid = c.args.xid; query = c.args.query }) old mid c.args.kept.now c.sort_out.new.kept) _ c.in-Err.fault c.requires.message (omega arith)
          c.asked-awaited.ensures (c.as_slice.ensures ∙ c.in_ok-request.ensures) c.in_ok-ask.ensures.talks cause
          (no_flood_by g.W.World.Tells c.args.query.kind c.args.dpid _ _ old mid c.in_ok-request.request (message_bytes c.asked-awaited.result.barrier BarrierReply) c.in_ok-replies.replies.parts.items c.in_ok-replies.replies.refusals.items c.in-Err.fault c.in-Err.ensures.err);
      still = tt;
    } in
    elim c.part_or_fail.ensures.parts_or_fails [
      | inl fails ↦ rw fails.0 (subst (λ (s : Seen _). QueriesFrom g.W.World.Tells (record { dpid = c.args.dpid; xid = c.args.xid; query = c.args.query }) old s c.args.kept.now c.sort_out.new.kept (Err (Fault c.in-Err.fault))) (sym fails.1) broke)
      | inr parts ↦ rw parts.1 (record {
        speaks = inquiry_parted_speaks (record { dpid = c.args.dpid; xid = c.args.xid; query = c.args.query }) c.asked-awaited.result c.as_slice.result.now old mid new _ came _ c.asked-awaited.ensures (c.as_slice.ensures ∙ c.in_ok-request.ensures) c.in_ok-ask.ensures.talks parts.2;
        kept_more = kept_more;
        answer = inquiry_parted (record { dpid = c.args.dpid; xid = c.args.xid; query = c.args.query }) c.asked-awaited.result c.as_slice.result.now old mid new _ came (IsQueryCause g.W.World.Tells (record { dpid = c.args.dpid; xid = c.args.xid; query = c.args.query }) old new c.args.kept.now c.sort_out.new.kept) _ c.requires.message (omega arith) c.asked-awaited.ensures (c.as_slice.ensures ∙ c.in_ok-request.ensures) c.in_ok-ask.ensures.talks parts.2;
        still = tt;
      })
    ]

pub returns-in_err-ask-clause-parted : goal.returns-in_err-ask-clause-parted
returns-in_err-ask-clause-parted g c =
    let p = err_from_is_err_and c.from_residual-in_err-ask.result c.from_residual-in_err-ask.ensures.1 in
    λ can. rw (p.1, p.2) (c.in_err-ask.ensures.parted can)
