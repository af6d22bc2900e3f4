use Rattle.std.proofs.Common.{refl, sym, subst, ◌∙◌}
use Rattle.std.proofs.lemmas.Result.{err_from_is_err_and}
use Rattle.lego_model.specs.declared.wait.Heard.TheVariants as heards
use Rattle.lego_model.specs.BarrierWaits.{heard}
use Rattle.net_txn.specs.declared.trouble.Trouble.{Trouble}
use Rattle.net_txn.specs.Waits.{held_notice}
use Rattle.net_txn.specs.Said.{Calls, unsaid, IsUntreated}
use Rattle.net_txn.specs.laws.WaitLaws.{echo_is, brings_none, brings_refusal, brings_notice}
use Rattle.net_txn.specs.laws.SaidLaws.{Calls-none}
use Rattle.net_txn.specs.laws.ExchangeLaws.{none_kept, untreated_by, treats_by}
use Rattle.net_txn.proofs.wait.treat.Goals as goal

pub make_reply-requires-clause-kind : goal.make_reply-requires-clause-kind
make_reply-requires-clause-kind g c = echo_is c.args.awaited.now c.args.message.now (sym c.classify.ensures ∙ c.in-Echo.is)

pub returns-in-Reply : goal.returns-in-Reply
returns-in-Reply g c =
    treats_by heards.Reply (sym c.classify.ensures ∙ c.in-Reply.is) refl (Calls-none g.W.World.Tells c.args.awaited.now.dpid (g.W.World.seen c.args.world.now)) (none_kept c.args.storage c.args.kept.now) (brings_none c.args.answer.now)

pub returns-in-Refused : goal.returns-in-Refused
returns-in-Refused g c =
    treats_by (heards.Refused c.in-Refused.refusal) (sym c.classify.ensures ∙ c.in-Refused.is) refl (Calls-none g.W.World.Tells c.args.awaited.now.dpid (g.W.World.seen c.args.world.now)) (none_kept c.args.storage c.args.kept.now) (brings_refusal c.in-Refused.refusal c.args.answer.now c.note.new.self c.note.ensures)

pub returns-in_ok-hold-in-Notice : goal.returns-in_ok-hold-in-Notice
returns-in_ok-hold-in-Notice g c =
    treats_by heards.Notice (sym c.classify.ensures ∙ c.in-Notice.is) refl (Calls-none g.W.World.Tells c.args.awaited.now.dpid (g.W.World.seen c.args.world.now)) (none_kept c.args.storage c.args.kept.now)
    (brings_notice (held_notice c.args.awaited.now.notices c.args.message.now) c.args.answer.now c.hold.new.self c.in_ok-hold-in-Notice.ensures.ok)

pub returns-in_err-hold-in-Notice : goal.returns-in_err-hold-in-Notice
returns-in_err-hold-in-Notice g c =
    let p = err_from_is_err_and c.from_residual.result c.from_residual.ensures.1 in
    let e = c.in_err-hold-in-Notice.ensures in
    let seen = g.W.World.seen c.args.world.now in
    let d = c.args.awaited.now.dpid in
    rw (p.1, p.2) (record {
      why = subst (λ (t : Trouble). IsUntreated c.args.storage (heard c.args.awaited.now c.args.message.now) t) (sym e.full) (c.requires.growing e.err);
      calls = subst (λ (t : Trouble). Calls g.W.World.Tells d (unsaid d t) seen seen) (sym e.full) (Calls-none g.W.World.Tells d seen);
      kept_is = refl;
    })

pub returns-in_err-send-in-Echo : goal.returns-in_err-send-in-Echo
returns-in_err-send-in-Echo g c =
    let p = err_from_is_err_and c.from_residual-in_err-send-in-Echo.result c.from_residual-in_err-send-in-Echo.ensures.1 in
    rw (p.1, p.2) (record { why = untreated_by c.args.storage _ c.in_err-send-in-Echo.field-0.0 (sym c.classify.ensures ∙ c.in-Echo.is) c.in_err-send-in-Echo.ensures.0; calls = c.in_err-send-in-Echo.ensures.1; kept_is = refl })

pub returns-in_ok-send-in-Echo : goal.returns-in_ok-send-in-Echo
returns-in_ok-send-in-Echo g c =
    treats_by heards.Echo (sym c.classify.ensures ∙ c.in-Echo.is) refl (rw c.make_reply.ensures.reply at c.in_ok-send-in-Echo.ensures) (none_kept c.args.storage c.args.kept.now) (brings_none c.args.answer.now)

pub returns-in_ok-keep-in-Other : goal.returns-in_ok-keep-in-Other
returns-in_ok-keep-in-Other g c =
    treats_by heards.Other (sym c.classify.ensures ∙ c.in-Other.is) refl (Calls-none g.W.World.Tells c.args.awaited.now.dpid (g.W.World.seen c.args.world.now)) c.in_ok-keep-in-Other.ensures.ok (brings_none c.args.answer.now)

pub returns-in_err-keep-in-Other : goal.returns-in_err-keep-in-Other
returns-in_err-keep-in-Other g c =
    let p = err_from_is_err_and c.from_residual-in_err-keep-in-Other.result c.from_residual-in_err-keep-in-Other.ensures.1 in
    let e = c.in_err-keep-in-Other.ensures in
    let seen = g.W.World.seen c.args.world.now in
    let d = c.args.awaited.now.dpid in
    rw (p.1, p.2) (record {
      why = subst (λ (t : Trouble). IsUntreated c.args.storage (heard c.args.awaited.now c.args.message.now) t) (sym e.full) e.err.0;
      calls = subst (λ (t : Trouble). Calls g.W.World.Tells d (unsaid d t) seen seen) (sym e.full) (Calls-none g.W.World.Tells d seen);
      kept_is = e.err.1;
    })
