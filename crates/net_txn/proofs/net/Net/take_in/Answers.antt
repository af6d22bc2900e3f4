use Rattle.std.proofs.Common.{◌≡◌, ◌++◌, ℕ, List, [], refl, sym, ap, ◌∙◌}
use Rattle.std.proofs.lemmas.List.{append-nil}
use Rattle.std.proofs.lemmas.Result.{err_from_is_err_and}
use Rattle.of_wire.specs.declared.message.Message.{Message}
use Rattle.of_wire.specs.declared.message.Message.TheVariants as messages
use Rattle.outside.specs.declared.step.WorldStep.{WorldStep}
use Rattle.net_txn.specs.Arriving.{arrival_steps}
use Rattle.net_txn.specs.laws.TalkLaws.{speaks_none}
use Rattle.net_txn.proofs.net.Net.take_in.Goals as goal

unanswered : (d xid : ℕ) (m : Message) → ((payload : List ℕ) → m ≡ messages.EchoRequest payload → ⊥) → arrival_steps d xid m ≡ []
unanswered d xid (messages.EchoRequest payload) other = absurd (other payload refl)
unanswered d xid (messages.Hello payload) other = refl
unanswered d xid (messages.Error kind code payload) other = refl
unanswered d xid (messages.EchoReply payload) other = refl
unanswered d xid (messages.Vendor payload) other = refl
unanswered d xid messages.FeaturesRequest other = refl
unanswered d xid (messages.FeaturesReply features) other = refl
unanswered d xid messages.GetConfigRequest other = refl
unanswered d xid (messages.GetConfigReply config) other = refl
unanswered d xid (messages.SetConfig config) other = refl
unanswered d xid (messages.PacketIn packet) other = refl
unanswered d xid (messages.FlowRemoved flow) other = refl
unanswered d xid (messages.PortStatus status) other = refl
unanswered d xid (messages.PacketOut packet) other = refl
unanswered d xid (messages.FlowMod flow) other = refl
unanswered d xid (messages.PortMod port) other = refl
unanswered d xid (messages.StatsRequest stats) other = refl
unanswered d xid (messages.StatsReply stats) other = refl
unanswered d xid messages.BarrierRequest other = refl
unanswered d xid messages.BarrierReply other = refl
unanswered d xid (messages.QueueGetConfigRequest payload) other = refl
unanswered d xid (messages.QueueGetConfigReply payload) other = refl

pub returns-in_err-take_news-in_default : goal.returns-in_err-take_news-in_default
returns-in_err-take_news-in_default g c =
    let p = err_from_is_err_and c.from_residual-in_err-take_news-in_default.result c.from_residual-in_err-take_news-in_default.ensures.1 in
    rw (p.1, p.2) (record { ok = tt; err = c.in_err-take_news-in_default.ensures.err; speaks = speaks_none g.W.World.Tells c.args.dpid 0 0 (g.W.World.seen c.args.world.now); halts = record { halts = (refl, λ told. refl); request = λ lost. absurd cc } })

pub returns-in_ok-take_news-in_default : goal.returns-in_ok-take_news-in_default
returns-in_ok-take_news-in_default g c =
    let old = g.W.World.seen c.args.world.now in
    record {
      ok = record {
        event_is = c.in_ok-take_news-in_default.ensures.event;
        net_is = c.in_ok-take_news-in_default.ensures.ok;
        told = λ told. sym (append-nil old.history) ∙ ap (λ (steps : List WorldStep). old.history ++ steps) (sym (unanswered c.args.dpid c.args.xid c.args.message.now c.in_default.not-EchoRequest));
      };
      err = tt;
      speaks = speaks_none g.W.World.Tells c.args.dpid 0 0 old;
      halts = tt;
    }
