use Rattle.std.proofs.Common.{refl, ap, ◌∙◌}
use Rattle.net_txn.specs.Net.{NetState}
use Rattle.batch_laws.specs.laws.HandleLaws.{left_departs, left_ignored}
use Rattle.net_txn.specs.Leaving.{without}
use Rattle.event_dispatch.specs.laws.KeptLaws.{read_left, read_same}
use Rattle.event_dispatch.specs.laws.PassesLaws.{waits_none}
use Rattle.event_dispatch.proofs.engine_core.Core.take_out.Goals as goal

pub returns-in_ok-push-clause-done : goal.returns-in_ok-push-clause-done
returns-in_ok-push-clause-done c =
    let left = c.in_ok-event.ensures.ok in
    record {
      waits = record { room = ap (λ (n : NetState). n.room) left; events = refl; store = refl; left = λ none. ap (λ (n : NetState). n.left) left ∙ none };
      xid = ap (λ (n : NetState). n.xid) left;
      read = λ read. read_same (without c.args.dpid c.args.self.now.net) c.left.new.self left (read_left c.args.dpid c.args.self.now.net.kept read);
      departs = left_departs c.args.dpid c.args.self.now.net c.left.new.self c.args.self.now.queue c.push.new.self c.in_ok-event.event (c.if-is_joined.ensures.joined refl) c.in_ok-event.ensures.event left c.in_ok-push.ensures.ok;
    }

pub returns-else-is_joined-clause-done : goal.returns-else-is_joined-clause-done
returns-else-is_joined-clause-done c = record {
  waits = waits_none c.args.self.now;
  xid = refl;
  read = λ read. read;
  departs = left_ignored c.args.dpid c.args.self.now.net c.args.self.now.queue (c.if-is_joined.ensures.out refl);
}
