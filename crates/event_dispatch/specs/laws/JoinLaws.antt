-- Laws of a switch that joins, or is lost as it does.
use Rattle.std.specs.Prelude.{◌≡◌, ◌==◌, ℕ, Bool, true, false, not, List, [], ◌∷◌, ◌++◌, filter, refl}
use Rattle.std.proofs.Common.{sym, ap, ◌∙◌, subst, inl, inr, true≢false}
use Rattle.std.proofs.lemmas.List.{append-nil}
use Rattle.of_types.specs.declared.port_desc.PortDesc.{PortDesc}
use Rattle.of_wire.specs.declared.bodies.FeaturesReply.{FeaturesReply as Features}
use Rattle.of_wire.specs.declared.message.Message.{Message}
use Rattle.of_wire.specs.declared.message.Message.TheVariants as messages
use Rattle.of_wire.specs.Spelling.{message_bytes}
use Rattle.flow_table.specs.View.{TableView}
use Rattle.app_frames.specs.declared.frame.Event.{Event}
use Rattle.app_frames.specs.declared.frame.EventKind.TheVariants as kinds
use Rattle.outside.specs.Seen.{Seen}
use Rattle.outside.specs.State.{state, waits_of}
use Rattle.outside.specs.Conforming.{Conforming}
use Rattle.lego_model.specs.RunReport.{lost_line}
use Rattle.net_txn.specs.declared.ports.KnownPorts.{KnownPorts}
use Rattle.net_txn.specs.Net.{NetState}
use Rattle.net_txn.specs.Joining.{JoinsOrNot}
use Rattle.net_txn.specs.JoiningSteps.{JoinedInStep}
use Rattle.batch_laws.specs.Knowledge.{knowledge_of, joined_by}
use Rattle.batch_laws.specs.Items.{TakesIn, EntersStill}
use Rattle.event_dispatch.specs.declared.engine_core.Core.{Core}
use Rattle.event_dispatch.specs.Shows.{Adds}
use Rattle.event_dispatch.specs.Batch.{TakesJoin}

-- ---- It describes itself by no message of its features

other_enters : {Own : Type 0} (Tells : Type 0) (d : ℕ) (m : Message) → ((features : Features) → m ≡ messages.FeaturesReply features → ⊥) → (seen : Seen Own) (net : NetState) (queue : List Event) → EntersStill Tells d m [] seen seen net net queue queue
other_enters Tells d (messages.Hello payload) other seen net queue = record { knowledge = refl; takes = record { seen = refl; kept = refl }; text_is = refl }
other_enters Tells d (messages.Error kind code payload) other seen net queue = record { knowledge = refl; takes = record { seen = refl; kept = refl }; text_is = refl }
other_enters Tells d (messages.EchoRequest payload) other seen net queue = record { knowledge = refl; takes = record { seen = refl; kept = refl }; text_is = refl }
other_enters Tells d (messages.EchoReply payload) other seen net queue = record { knowledge = refl; takes = record { seen = refl; kept = refl }; text_is = refl }
other_enters Tells d (messages.Vendor payload) other seen net queue = record { knowledge = refl; takes = record { seen = refl; kept = refl }; text_is = refl }
other_enters Tells d messages.FeaturesRequest other seen net queue = record { knowledge = refl; takes = record { seen = refl; kept = refl }; text_is = refl }
other_enters Tells d messages.GetConfigRequest other seen net queue = record { knowledge = refl; takes = record { seen = refl; kept = refl }; text_is = refl }
other_enters Tells d (messages.GetConfigReply config) other seen net queue = record { knowledge = refl; takes = record { seen = refl; kept = refl }; text_is = refl }
other_enters Tells d (messages.SetConfig config) other seen net queue = record { knowledge = refl; takes = record { seen = refl; kept = refl }; text_is = refl }
other_enters Tells d (messages.PacketIn packet) other seen net queue = record { knowledge = refl; takes = record { seen = refl; kept = refl }; text_is = refl }
other_enters Tells d (messages.FlowRemoved flow) other seen net queue = record { knowledge = refl; takes = record { seen = refl; kept = refl }; text_is = refl }
other_enters Tells d (messages.PortStatus status) other seen net queue = record { knowledge = refl; takes = record { seen = refl; kept = refl }; text_is = refl }
other_enters Tells d (messages.PacketOut packet) other seen net queue = record { knowledge = refl; takes = record { seen = refl; kept = refl }; text_is = refl }
other_enters Tells d (messages.FlowMod m) other seen net queue = record { knowledge = refl; takes = record { seen = refl; kept = refl }; text_is = refl }
other_enters Tells d (messages.PortMod port) other seen net queue = record { knowledge = refl; takes = record { seen = refl; kept = refl }; text_is = refl }
other_enters Tells d (messages.StatsRequest m) other seen net queue = record { knowledge = refl; takes = record { seen = refl; kept = refl }; text_is = refl }
other_enters Tells d (messages.StatsReply m) other seen net queue = record { knowledge = refl; takes = record { seen = refl; kept = refl }; text_is = refl }
other_enters Tells d messages.BarrierRequest other seen net queue = record { knowledge = refl; takes = record { seen = refl; kept = refl }; text_is = refl }
other_enters Tells d messages.BarrierReply other seen net queue = record { knowledge = refl; takes = record { seen = refl; kept = refl }; text_is = refl }
other_enters Tells d (messages.QueueGetConfigRequest payload) other seen net queue = record { knowledge = refl; takes = record { seen = refl; kept = refl }; text_is = refl }
other_enters Tells d (messages.QueueGetConfigReply payload) other seen net queue = record { knowledge = refl; takes = record { seen = refl; kept = refl }; text_is = refl }
other_enters Tells d (messages.FeaturesReply features) other seen net queue = absurd (other features refl)

pub other_taken : {Own Tells : Type 0} (d : ℕ) (m : Message) (seen : Seen Own) (run : Core) → ((features : Features) → m ≡ messages.FeaturesReply features → ⊥) → TakesJoin Tells d m seen seen run run
other_taken {Tells = Tells} d m seen run other = record {
  text = [];
  enters = record { log = refl; room = refl; held = refl; left = refl; went = inl (other_enters Tells d m other seen run.net run.queue) };
  lines = sym (append-nil run.lines.items);
}

-- ---- It joins

-- what a call leaves as it was
pub record StaysSo (net now_net : NetState) : Type 0 where
  pub log : now_net.log ≡ net.log
  pub moment : now_net.moment ≡ net.moment
  pub room : now_net.room ≡ net.room
  pub held : now_net.held ≡ net.held
  pub left : now_net.left ≡ net.left

known_by : (d : ℕ) (features : Features) (net now_net : NetState) (queue now_queue : List Event) → now_net.moment ≡ net.moment → now_net.views ≡ (joined_by d (messages.FeaturesReply features) (knowledge_of net queue)).views → now_net.ports ≡ (joined_by d (messages.FeaturesReply features) (knowledge_of net queue)).ports
    → now_queue ≡ (joined_by d (messages.FeaturesReply features) (knowledge_of net queue)).queue → knowledge_of now_net now_queue ≡ joined_by d (messages.FeaturesReply features) (knowledge_of net queue)
known_by d features net now_net queue now_queue moment views ports waits =
    ap (λ (v : List TableView). record { views = v; ports = now_net.ports; moment = now_net.moment; queue = now_queue }) views
    ∙ ap (λ (p : List KnownPorts). record { views = (joined_by d (messages.FeaturesReply features) (knowledge_of net queue)).views; ports = p; moment = now_net.moment; queue = now_queue }) ports
    ∙ ap (λ (t : ℕ). record { views = (joined_by d (messages.FeaturesReply features) (knowledge_of net queue)).views; ports = (joined_by d (messages.FeaturesReply features) (knowledge_of net queue)).ports; moment = t; queue = now_queue }) moment
    ∙ ap (λ (q : List Event). record { views = (joined_by d (messages.FeaturesReply features) (knowledge_of net queue)).views; ports = (joined_by d (messages.FeaturesReply features) (knowledge_of net queue)).ports; moment = net.moment; queue = q }) waits

pub joins_taken : {Own Tells : Type 0} (d : ℕ) (m : Message) (features : Features) (joined : Bool) (old new : Seen Own) (run : Core) (mid_net : NetState) (now_run : Core) → m ≡ messages.FeaturesReply features → joined ≡ true → JoinsOrNot Tells d features.ports joined old new run.net mid_net
    → (Tells → Conforming new → waits_of d (state old) ≡ [] → JoinedInStep d joined old new run.net mid_net) → StaysSo run.net mid_net → now_run.net ≡ mid_net → now_run.queue ≡ run.queue ++ record { kind = kinds.Join; dpid = d; body = message_bytes 0 m } ∷ [] → now_run.lines.items ≡ run.lines.items
    → TakesJoin Tells d m old new run now_run
joins_taken d m features false old new run mid_net now_run is not joins in_step stays net waits lines = absurd (true≢false (sym not))
joins_taken {Tells = Tells} d m features true old new run mid_net now_run is same joins in_step stays net waits lines =
    subst (λ (x : Message). TakesJoin Tells d x old new run now_run) (sym is) (record {
      text = [];
      enters = record {
        log = ap (λ (n : NetState). n.log) net ∙ stays.log;
        room = ap (λ (n : NetState). n.room) net ∙ stays.room;
        held = ap (λ (n : NetState). n.held) net ∙ stays.held;
        left = ap (λ (n : NetState). n.left) net ∙ stays.left;
        went = inl (record {
          knowledge = ap (λ (n : NetState). knowledge_of n now_run.queue) net
              ∙ known_by d features run.net mid_net run.queue now_run.queue stays.moment joins.views joins.known (waits ∙ ap (λ (x : Message). run.queue ++ record { kind = kinds.Join; dpid = d; body = message_bytes 0 x } ∷ []) is);
          takes = subst (λ (n : NetState). TakesIn Tells d features.ports old new run.net n) (sym net) (record { joins = joins; in_step = in_step });
          text_is = refl;
        });
      };
      lines = lines ∙ sym (append-nil run.lines.items);
    })

-- ---- It is lost

pub lost_taken : {Own Tells : Type 0} (d : ℕ) (m : Message) (ports : List PortDesc) (joined : Bool) (old new : Seen Own) (run mid now_run : Core) → joined ≡ false → JoinsOrNot Tells d ports joined old new run.net mid.net → mid.queue ≡ run.queue → mid.lines.items ≡ run.lines.items → Adds (lost_line d) mid now_run → TakesJoin Tells d m old new run now_run
lost_taken d m ports true old new run mid now_run not gone waits lines adds = absurd (true≢false not)
lost_taken {Tells = Tells} d m ports false old new run mid now_run same gone waits lines adds =
    let net : now_run.net ≡ record run.net { xid = mid.net.xid; kept = filter (λ m. not (m.0 == d)) run.net.kept } = adds.stays.net ∙ gone.net_is in
    let queue : now_run.queue ≡ run.queue = adds.stays.queue ∙ waits in
    record {
      text = lost_line d;
      enters = record {
        log = ap (λ (n : NetState). n.log) net;
        room = ap (λ (n : NetState). n.room) net;
        held = ap (λ (n : NetState). n.held) net;
        left = ap (λ (n : NetState). n.left) net;
        went = inr (record {
          is_lost = gone.is_lost;
          knowledge = ap (λ (n : NetState). knowledge_of n now_run.queue) net ∙ ap (λ (q : List Event). knowledge_of run.net q) queue;
          kept = ap (λ (n : NetState). n.kept) net;
          text_is = refl;
        });
      };
      lines = adds.lines ∙ ap (λ (t : List ℕ). t ++ lost_line d) lines;
    }
