use Rattle.std.proofs.Common.{◌≡◌, ℕ, ◌≤◌, ◌<◌, ◌^◌, List, [], ◌∷◌, ◌++◌, Option, None, Some, refl, sym, ap, ◌∙◌, inl, inr, arith}
use Rattle.std.proofs.lemmas.Result.{err_from_is_err_and}
use Rattle.lego_model.specs.declared.wait.Awaited.{Awaited}
use Rattle.lego_model.specs.declared.wait.Refusal.{Refusal}
use Rattle.net_txn.specs.Waits.{Brought}
use Rattle.net_txn.specs.Arriving.{notices_told}
use Rattle.net_txn.specs.Views.{rows_after}
use Rattle.net_txn.specs.Net.{NetState, awaited_from}
use Rattle.lego_model.specs.BarrierWaits.{next_xid}
use Rattle.net_txn.specs.laws.WaitLaws.{waits_kept}
use Rattle.net_txn.specs.laws.ChangeLaws.{change_ascends, sent_waits, given_up, kept_for, same_log, same_views, log_cut, held_same, held_more, brought_as}
use Rattle.net_txn.specs.laws.ChangeFlightLaws.{replied_then, halts_then}
use Rattle.net_txn.specs.laws.TalkLaws.{speaks_none, talks_speak, talks_waits, talks_cause, talks_flooded, talks_kept}
use Rattle.net_txn.proofs.net.Net.make.Goals as goal

pub returns-in_err-take_effect-in-None-clause-result : goal.returns-in_err-take_effect-in-None-clause-result
unfolding rows_after
returns-in_err-take_effect-in-None-clause-result g c =
    let p = err_from_is_err_and c.from_residual-in_err-take_effect-in-None.result c.from_residual-in_err-take_effect-in-None.ensures.1 in
    let v = c.self.view_is in
    let a : c.await_from-awaited.result ≡ awaited_from c.args.dpid c.args.self.now.xid = c.await_from-awaited.ensures ∙ ap (λ (n : NetState). awaited_from c.args.dpid n.xid) v in
    let small : c.args.self.now.xid < 2 ^ 32 = rw (← ap (λ (n : NetState). n.xid) v) (omega arith) in
    rw (p.1, p.2) (inr (record {
      message = c.requires;
      is_xid = small;
      said = replied_then c.args.dpid c.args.flow c.args.self.now c.await_from-awaited.result c.as_slice.result.now _ c.ask.new.kept (g.W.World.seen c.args.world.now) (g.W.World.seen c.ask.new.world) _
          a (c.as_slice.ensures ∙ c.in_ok-frame.ensures.frame) (ap (λ (n : NetState). n.kept) v) c.in_ok-answer.answer (sym (ap (λ (b : Brought). b.refusal) c.answer.view_is) ∙ c.in-None.is) c.in_ok-answer.ensures.talks;
      views = elim c.in_err-take_effect-in-None.ensures.err [
        | inl same ↦ inl (same ∙ c.make_room.ensures ∙ ap (λ (n : NetState). n.views) v)
        | inr moved ↦ inr (moved ∙ same_views c.args.dpid _ _ _ _ c.in_ok-frame.ensures.row (c.make_room.ensures ∙ ap (λ (n : NetState). n.views) v))
      ];
      log_is = c.in_ok-push_logged.ensures.ok ∙ same_log _ _ _ _ c.in_ok-frame.ensures.logged (ap (λ (n : NetState). n.log) v);
      kept = kept_for c.args.dpid c.await_from-awaited.result.dpid _ c.args.self.now.kept c.ask.new.kept (ap (λ (a : Awaited). a.dpid) c.await_from-awaited.ensures) (ap (λ (n : NetState). n.kept) v) (waits_kept (talks_waits (c.as_slice.result.now ∷ []) c.in_ok-answer.ensures.talks));
      held = held_same c.self.inside.held.items c.take_effect.new.held c.self.inside.notices c.args.self.now.held c.in_err-take_effect-in-None.ensures.unheld (ap (λ (n : NetState). n.held) v);
    }))

pub returns-in-None-clause-result : goal.returns-in-None-clause-result
unfolding rows_after
returns-in-None-clause-result g c =
    let v = c.self.view_is in
    let a : c.await_from-awaited.result ≡ awaited_from c.args.dpid c.args.self.now.xid = c.await_from-awaited.ensures ∙ ap (λ (n : NetState). awaited_from c.args.dpid n.xid) v in
    let is_xid : (1 ≤ c.args.self.now.xid) × (c.args.self.now.xid < 2 ^ 32) = rw (← ap (λ (n : NetState). n.xid) v) (c.self.invariant.1, omega arith) in
    let items = c.answer.inside.notices.items in
    let brought : Brought = record { refusal = None; notices = items } in
    let is_brought : c.in_ok-answer.answer ≡ brought = sym c.answer.view_is ∙ ap (λ (o : Option Refusal). record { refusal = o; notices = items }) c.in-None.is in
    record {
      message = c.requires;
      is_xid = is_xid;
      refusal = None;
      notices = c.answer.inside.notices.items;
      waits = sent_waits c.args.dpid c.args.flow c.args.self.now c.await_from-awaited.result c.as_slice.result.now _ c.ask.new.kept (g.W.World.seen c.args.world.now) (g.W.World.seen c.ask.new.world) brought
          a (c.as_slice.ensures ∙ c.in_ok-frame.ensures.frame) (ap (λ (n : NetState). n.kept) v) (talks_waits (c.as_slice.result.now ∷ []) (brought_as c.in_ok-answer.answer brought is_brought c.in_ok-answer.ensures.talks));
      answer_is = refl;
      views = c.in_ok-take_effect-in-None.ensures.ok ∙ same_views c.args.dpid _ _ _ _ c.in_ok-frame.ensures.row (c.make_room.ensures ∙ ap (λ (n : NetState). n.views) v);
      log = c.in_ok-push_logged.ensures.ok ∙ same_log _ _ _ _ c.in_ok-frame.ensures.logged (ap (λ (n : NetState). n.log) v);
      held = held_more c.args.dpid c.answer.inside.notices.items c.self.inside.held.items c.take_effect.new.held c.self.inside.notices _ c.args.self.now.views c.args.self.now.held
          (c.in_ok-take_effect-in-None.ensures.held ∙ ap (λ (more : List (List ℕ)). c.self.inside.notices ++ notices_told c.args.dpid c.make_room.new.self more) c.deref.ensures.value)
          (c.make_room.ensures ∙ ap (λ (n : NetState). n.views) v) (ap (λ (n : NetState). n.held) v);
      xid = c.following-self-inside.ensures.next ∙ ap (λ (x : Awaited). next_xid x.barrier) a;
    }

pub returns-clause-result : goal.returns-clause-result
returns-clause-result g c =
    let v = c.self.view_is in
    let a : c.await_from-awaited.result ≡ awaited_from c.args.dpid c.args.self.now.xid = c.await_from-awaited.ensures ∙ ap (λ (n : NetState). awaited_from c.args.dpid n.xid) v in
    let is_xid : (1 ≤ c.args.self.now.xid) × (c.args.self.now.xid < 2 ^ 32) = rw (← ap (λ (n : NetState). n.xid) v) (c.self.invariant.1, omega arith) in
    let items = c.answer.inside.notices.items in
    let brought : Brought = record { refusal = Some c.in-Some.refusal; notices = items } in
    let is_brought : c.in_ok-answer.answer ≡ brought = sym c.answer.view_is ∙ ap (λ (o : Option Refusal). record { refusal = o; notices = items }) c.in-Some.is in
    record {
      message = c.requires;
      is_xid = is_xid;
      refusal = Some c.in-Some.refusal;
      notices = c.answer.inside.notices.items;
      waits = sent_waits c.args.dpid c.args.flow c.args.self.now c.await_from-awaited.result c.as_slice.result.now _ c.ask.new.kept (g.W.World.seen c.args.world.now) (g.W.World.seen c.ask.new.world) brought
          a (c.as_slice.ensures ∙ c.in_ok-frame.ensures.frame) (ap (λ (n : NetState). n.kept) v) (talks_waits (c.as_slice.result.now ∷ []) (brought_as c.in_ok-answer.answer brought is_brought c.in_ok-answer.ensures.talks));
      answer_is = refl;
      views = c.make_room.ensures ∙ ap (λ (n : NetState). n.views) v;
      log = c.truncate.ensures.items ∙ log_cut _ c.self.inside.log.items _ c.len-before.result (c.len-before.ensures ∙ c.self.inside.log.ok.0) c.in_ok-push_logged.ensures.ok ∙ ap (λ (n : NetState). n.log) v;
      held = ap (λ (n : NetState). n.held) v;
      xid = c.following-self-inside.ensures.next ∙ ap (λ (x : Awaited). next_xid x.barrier) a;
    }

pub returns-in_err-answer-clause-flooded : goal.returns-in_err-answer-clause-flooded
returns-in_err-answer-clause-flooded g c =
    let p = err_from_is_err_and c.from_residual-in_err-answer.result c.from_residual-in_err-answer.ensures.1 in
    let v = c.self.view_is in
    let a : c.await_from-awaited.result ≡ awaited_from c.args.dpid c.args.self.now.xid = c.await_from-awaited.ensures ∙ ap (λ (n : NetState). awaited_from c.args.dpid n.xid) v in
    let small : c.args.self.now.xid < 2 ^ 32 = rw (← ap (λ (n : NetState). n.xid) v) (omega arith) in
    rw (p.1, p.2) (given_up g.W.World.Tells c.args.dpid c.args.flow c.args.self.now c.await_from-awaited.result c.as_slice.result.now (g.W.World.seen c.args.world.now) (g.W.World.seen c.ask.new.world) c.in_err-answer.field-0.0
    a (c.as_slice.ensures ∙ c.in_ok-frame.ensures.frame) c.requires small (talks_flooded (c.as_slice.result.now ∷ []) c.in_err-answer.field-0.0 c.in_err-answer.ensures.talks))

pub returns-in_err-answer-clause-result : goal.returns-in_err-answer-clause-result
returns-in_err-answer-clause-result g c =
    let p = err_from_is_err_and c.from_residual-in_err-answer.result c.from_residual-in_err-answer.ensures.1 in
    let v = c.self.view_is in
    let a : c.await_from-awaited.result ≡ awaited_from c.args.dpid c.args.self.now.xid = c.await_from-awaited.ensures ∙ ap (λ (n : NetState). awaited_from c.args.dpid n.xid) v in
    let small : c.args.self.now.xid < 2 ^ 32 = rw (← ap (λ (n : NetState). n.xid) v) (omega arith) in
    rw (p.1, p.2) (halts_then c.args.dpid c.args.flow _ c.args.self.now _ c.await_from-awaited.result c.as_slice.result.now _ (g.W.World.seen c.args.world.now) (g.W.World.seen c.ask.new.world) c.in_err-answer.field-0.0
    a (c.as_slice.ensures ∙ c.in_ok-frame.ensures.frame) (ap (λ (n : NetState). n.kept) v) c.requires small (c.make_room.ensures ∙ ap (λ (n : NetState). n.views) v)
    (c.in_ok-push_logged.ensures.ok ∙ same_log _ _ _ _ c.in_ok-frame.ensures.logged (ap (λ (n : NetState). n.log) v))
    (kept_for c.args.dpid c.await_from-awaited.result.dpid _ c.args.self.now.kept c.ask.new.kept (ap (λ (a : Awaited). a.dpid) c.await_from-awaited.ensures) (ap (λ (n : NetState). n.kept) v) (talks_kept c.in_err-answer.ensures.talks))
    (ap (λ (n : NetState). n.held) v) c.in_err-answer.ensures.talks)

pub returns-in_err-answer-clause-cause : goal.returns-in_err-answer-clause-cause
returns-in_err-answer-clause-cause g c =
    let p = err_from_is_err_and c.from_residual-in_err-answer.result c.from_residual-in_err-answer.ensures.1 in
    rw (p.1, p.2) (talks_cause c.args.dpid (c.as_slice.result.now ∷ []) c.in_err-answer.field-0.0 (ap (λ (a : Awaited). a.dpid) c.await_from-awaited.ensures) c.in_err-answer.ensures.talks)

pub returns-in_err-answer-clause-speaks : goal.returns-in_err-answer-clause-speaks
returns-in_err-answer-clause-speaks g c = talks_speak c.args.self.now.xid 2 _ _ _ c.args.dpid (c.as_slice.result.now ∷ []) c.ask.result (ap (λ (a : Awaited). a.dpid) c.await_from-awaited.ensures) c.ask.ensures.talks
    (change_ascends c.args.flow c.args.self.now c.await_from-awaited.result c.as_slice.result.now (c.await_from-awaited.ensures ∙ ap (λ (n : NetState). awaited_from c.args.dpid n.xid) c.self.view_is) (c.as_slice.ensures ∙ c.in_ok-frame.ensures.frame))

pub returns-in_err-take_effect-in-None-clause-speaks : goal.returns-in_err-take_effect-in-None-clause-speaks
returns-in_err-take_effect-in-None-clause-speaks g c = talks_speak c.args.self.now.xid 2 _ _ _ c.args.dpid (c.as_slice.result.now ∷ []) c.ask.result (ap (λ (a : Awaited). a.dpid) c.await_from-awaited.ensures) c.ask.ensures.talks
    (change_ascends c.args.flow c.args.self.now c.await_from-awaited.result c.as_slice.result.now (c.await_from-awaited.ensures ∙ ap (λ (n : NetState). awaited_from c.args.dpid n.xid) c.self.view_is) (c.as_slice.ensures ∙ c.in_ok-frame.ensures.frame))

pub returns-in-None-clause-speaks : goal.returns-in-None-clause-speaks
returns-in-None-clause-speaks g c = talks_speak c.args.self.now.xid 2 _ _ _ c.args.dpid (c.as_slice.result.now ∷ []) c.ask.result (ap (λ (a : Awaited). a.dpid) c.await_from-awaited.ensures) c.ask.ensures.talks
    (change_ascends c.args.flow c.args.self.now c.await_from-awaited.result c.as_slice.result.now (c.await_from-awaited.ensures ∙ ap (λ (n : NetState). awaited_from c.args.dpid n.xid) c.self.view_is) (c.as_slice.ensures ∙ c.in_ok-frame.ensures.frame))

pub returns-clause-speaks : goal.returns-clause-speaks
returns-clause-speaks g c = talks_speak c.args.self.now.xid 2 _ _ _ c.args.dpid (c.as_slice.result.now ∷ []) c.ask.result (ap (λ (a : Awaited). a.dpid) c.await_from-awaited.ensures) c.ask.ensures.talks
    (change_ascends c.args.flow c.args.self.now c.await_from-awaited.result c.as_slice.result.now (c.await_from-awaited.ensures ∙ ap (λ (n : NetState). awaited_from c.args.dpid n.xid) c.self.view_is) (c.as_slice.ensures ∙ c.in_ok-frame.ensures.frame))

pub returns-in_err-frame-clause-speaks : goal.returns-in_err-frame-clause-speaks
returns-in_err-frame-clause-speaks g c = speaks_none g.W.World.Tells c.args.dpid c.args.self.now.xid 2 (g.W.World.seen c.args.world.now)

pub returns-in_err-make_room-clause-speaks : goal.returns-in_err-make_room-clause-speaks
returns-in_err-make_room-clause-speaks g c = speaks_none g.W.World.Tells c.args.dpid c.args.self.now.xid 2 (g.W.World.seen c.args.world.now)

pub returns-in_err-push_logged-clause-speaks : goal.returns-in_err-push_logged-clause-speaks
returns-in_err-push_logged-clause-speaks g c = speaks_none g.W.World.Tells c.args.dpid c.args.self.now.xid 2 (g.W.World.seen c.args.world.now)

pub returns-in_err-answer-clause-parted : goal.returns-in_err-answer-clause-parted
returns-in_err-answer-clause-parted g c =
    let p = err_from_is_err_and c.from_residual-in_err-answer.result c.from_residual-in_err-answer.ensures.1 in
    λ can. rw (p.1, p.2) (c.in_err-answer.ensures.parted can)
