use Rattle.std.proofs.Common.{rules, ◌≡◌, ℕ, [], ◌∷◌, ap, ◌∙◌, subst, arith}
use Rattle.std.proofs.lemmas.Result.{err_from_is_err_and}
use Rattle.of_wire.specs.declared.message.Message.TheVariants.{FlowMod, SetConfig}
use Rattle.of_wire.specs.Spelling.{message_bytes}
use Rattle.flow_table.specs.Switch.{first_config}
use Rattle.lego_model.specs.declared.wait.Awaited.{Awaited}
use Rattle.lego_model.specs.BarrierWaits.{next_xid}
use Rattle.net_txn.specs.Joining.{delete_all, greeted_from, greeting}
use Rattle.net_txn.specs.Losing.{WaitHalts}
use Rattle.net_txn.specs.Net.{NetState}
use Rattle.net_txn.specs.Ports.{PortLists}
use Rattle.net_txn.specs.laws.WaitLaws.{waits_kept}
use Rattle.net_txn.specs.laws.ChangeLaws.{kept_for}
use Rattle.net_txn.specs.laws.JoiningFaultLaws.{greeting_ascends, greeted_halts, greeted_waits, short_behind}
use Rattle.net_txn.specs.laws.LostLaws.{replied_none_lost}
use Rattle.net_txn.specs.laws.TalkLaws.{talks_speak, talks_waits, talks_kept}
use Rattle.net_txn.proofs.net.Net.join.Goals as goal

pub returns-in_err-greet-clause-halts : goal.returns-in_err-greet-clause-halts
returns-in_err-greet-clause-halts g c =
    let p = err_from_is_err_and c.from_residual-in_err-greet.result c.from_residual-in_err-greet.ensures.1 in
    let v = c.self.view_is in
    let x : c.self.inside.xid ≡ c.args.self.now.xid = ap (λ (n : NetState). n.xid) v in
    let old = g.W.World.seen c.args.world.now in
    let new = g.W.World.seen c.greet.new.world in
    let halt = c.in_err-greet.field-0.0 in
    let halts = greeted_halts {Tells = g.W.World.Tells} c.args.dpid c.self.inside.xid c.greeted-awaited.result c.as_slice.result.now c.as_slice-2.result.now old new _ c.greet.new.kept halt (omega arith)
    c.greeted-awaited.ensures (c.as_slice.ensures ∙ c.in_ok-emptying.ensures.bytes) (c.as_slice-2.ensures ∙ c.configuring.ensures.bytes ∙ ap (λ (n : ℕ). message_bytes n (SetConfig first_config)) c.following.ensures.next) c.in_err-greet.ensures.talks in
    rw (p.1, p.2) (record {
      not_joined = record {
        views = c.reserve.ensures ∙ ap (λ (n : NetState). n.views) v;
        known = ap (λ (ps : PortLists). ps.known) c.reserve-2.ensures ∙ ap (λ (n : NetState). n.ports) v;
        kept = kept_for c.args.dpid c.greeted-awaited.result.dpid _ c.args.self.now.kept c.greet.new.kept (ap (λ (a : Awaited). a.dpid) c.greeted-awaited.ensures) (ap (λ (n : NetState). n.kept) v) (talks_kept c.in_err-greet.ensures.talks);
      };
      halts = subst (λ (n : ℕ). WaitHalts g.W.World.Tells (greeted_from c.args.dpid n) (greeting c.args.dpid n) old new halt) x halts;
    })

pub returns-in_err-admit-clause-halts : goal.returns-in_err-admit-clause-halts
returns-in_err-admit-clause-halts g c =
    let p = err_from_is_err_and c.from_residual-in_err-admit.result c.from_residual-in_err-admit.ensures.1 in
    let v = c.self.view_is in
    rw (p.1, p.2) (short_behind c.args.dpid _ _ (g.W.World.seen c.args.world.now) (g.W.World.seen c.greet.new.world) c.args.self.now _ _ c.greet.new.kept _ c.in_ok-greet.ensures.talks (record {
      views = c.in_err-admit.ensures.views_err ∙ c.reserve.ensures ∙ ap (λ (n : NetState). n.views) v;
      known = c.in_err-admit.ensures.ports_err ∙ ap (λ (ps : PortLists). ps.known) c.reserve-2.ensures ∙ ap (λ (n : NetState). n.ports) v;
      kept = kept_for c.args.dpid c.greeted-awaited.result.dpid _ c.args.self.now.kept c.greet.new.kept (ap (λ (a : Awaited). a.dpid) c.greeted-awaited.ensures) (ap (λ (n : NetState). n.kept) v) (waits_kept (talks_waits (c.as_slice.result.now ∷ c.as_slice-2.result.now ∷ []) c.in_ok-greet.ensures.talks));
    }))

pub returns-in_err-greet-clause-speaks : goal.returns-in_err-greet-clause-speaks
returns-in_err-greet-clause-speaks g c = talks_speak c.args.self.now.xid 3 _ _ _ c.args.dpid (c.as_slice.result.now ∷ c.as_slice-2.result.now ∷ []) c.greet.result (ap (λ (a : Awaited). a.dpid) c.greeted-awaited.ensures) c.greet.ensures.talks
    (greeting_ascends c.args.dpid c.args.self.now.xid c.greeted-awaited.result c.as_slice.result.now c.as_slice-2.result.now (c.greeted-awaited.ensures ∙ ap (λ (n : NetState). greeted_from c.args.dpid n.xid) c.self.view_is)
    (c.as_slice.ensures ∙ c.in_ok-emptying.ensures.bytes ∙ ap (λ (n : NetState). message_bytes n.xid (FlowMod delete_all)) c.self.view_is)
    (c.as_slice-2.ensures ∙ c.configuring.ensures.bytes ∙ ap (λ (x : ℕ). message_bytes x (SetConfig first_config)) c.following.ensures.next ∙ ap (λ (n : NetState). message_bytes (next_xid n.xid) (SetConfig first_config)) c.self.view_is))

pub returns-in_err-admit-clause-speaks : goal.returns-in_err-admit-clause-speaks
returns-in_err-admit-clause-speaks g c = talks_speak c.args.self.now.xid 3 _ _ _ c.args.dpid (c.as_slice.result.now ∷ c.as_slice-2.result.now ∷ []) c.greet.result (ap (λ (a : Awaited). a.dpid) c.greeted-awaited.ensures) c.greet.ensures.talks
    (greeting_ascends c.args.dpid c.args.self.now.xid c.greeted-awaited.result c.as_slice.result.now c.as_slice-2.result.now (c.greeted-awaited.ensures ∙ ap (λ (n : NetState). greeted_from c.args.dpid n.xid) c.self.view_is)
    (c.as_slice.ensures ∙ c.in_ok-emptying.ensures.bytes ∙ ap (λ (n : NetState). message_bytes n.xid (FlowMod delete_all)) c.self.view_is)
    (c.as_slice-2.ensures ∙ c.configuring.ensures.bytes ∙ ap (λ (x : ℕ). message_bytes x (SetConfig first_config)) c.following.ensures.next ∙ ap (λ (n : NetState). message_bytes (next_xid n.xid) (SetConfig first_config)) c.self.view_is))

pub returns-clause-speaks : goal.returns-clause-speaks
returns-clause-speaks g c = talks_speak c.args.self.now.xid 3 _ _ _ c.args.dpid (c.as_slice.result.now ∷ c.as_slice-2.result.now ∷ []) c.greet.result (ap (λ (a : Awaited). a.dpid) c.greeted-awaited.ensures) c.greet.ensures.talks
    (greeting_ascends c.args.dpid c.args.self.now.xid c.greeted-awaited.result c.as_slice.result.now c.as_slice-2.result.now (c.greeted-awaited.ensures ∙ ap (λ (n : NetState). greeted_from c.args.dpid n.xid) c.self.view_is)
    (c.as_slice.ensures ∙ c.in_ok-emptying.ensures.bytes ∙ ap (λ (n : NetState). message_bytes n.xid (FlowMod delete_all)) c.self.view_is)
    (c.as_slice-2.ensures ∙ c.configuring.ensures.bytes ∙ ap (λ (x : ℕ). message_bytes x (SetConfig first_config)) c.following.ensures.next ∙ ap (λ (n : NetState). message_bytes (next_xid n.xid) (SetConfig first_config)) c.self.view_is))

pub returns-clause-joins : goal.returns-clause-joins
returns-clause-joins g c =
    let v = c.self.view_is in
    let first = c.as_slice.result.now in
    let second = c.as_slice-2.result.now in
    record {
      answer = c.in_ok-greet.field-0;
      waits = greeted_waits g.W.World.Tells c.args.dpid c.args.self.now.xid c.greeted-awaited.result first second (g.W.World.seen c.args.world.now) (g.W.World.seen c.greet.new.world) _ c.args.self.now.kept c.greet.new.kept c.in_ok-greet.field-0
          (c.greeted-awaited.ensures ∙ ap (λ (n : NetState). greeted_from c.args.dpid n.xid) v)
          (c.as_slice.ensures ∙ c.in_ok-emptying.ensures.bytes ∙ ap (λ (n : NetState). message_bytes n.xid (FlowMod delete_all)) v)
          (c.as_slice-2.ensures ∙ c.configuring.ensures.bytes ∙ ap (λ (x : ℕ). message_bytes x (SetConfig first_config)) c.following.ensures.next ∙ ap (λ (n : NetState). message_bytes (next_xid n.xid) (SetConfig first_config)) v)
          (ap (λ (n : NetState). n.kept) v)
          (talks_waits (first ∷ second ∷ []) c.in_ok-greet.ensures.talks);
      views = search rules;
      known = search rules;
      xid = search rules;
      losses = replied_none_lost _ _ c.in_ok-greet.ensures.talks;
    }

pub returns-in_err-greet-clause-parted : goal.returns-in_err-greet-clause-parted
returns-in_err-greet-clause-parted g c =
    let p = err_from_is_err_and c.from_residual-in_err-greet.result c.from_residual-in_err-greet.ensures.1 in
    λ can. rw (p.1, p.2) (c.in_err-greet.ensures.parted can)
