-- A FLOW_MOD and a request of statistics are left for the switch to judge: every other message is answered by the host.
use Rattle.std.specs.Prelude.{◌⊎◌}
use Rattle.std.proofs.Common.{inl, inr, ◌≡◌, ℕ, true, List, Option, Some, None, Result, Ok, Err, refl, ap, ◌∙◌}
use Rattle.of_types.specs.declared.errors.OfError.{OfError}
use Rattle.of_wire.specs.declared.bodies.FlowMod.{FlowMod as Change}
use Rattle.of_wire.specs.declared.bodies.Stats.{Stats as Query}
use Rattle.of_wire.specs.declared.message.Message.{Message}
use Rattle.of_wire.specs.declared.message.Message.TheVariants.{Hello, Error, EchoRequest, EchoReply, Vendor, FeaturesRequest, FeaturesReply, GetConfigRequest, GetConfigReply, SetConfig, PacketIn, FlowRemoved, PortStatus, PacketOut, FlowMod, PortMod, StatsRequest, StatsReply, BarrierRequest, BarrierReply, QueueGetConfigRequest, QueueGetConfigReply}
use Rattle.of_wire.specs.declared.message.Envelope.{Envelope}
use Rattle.of_wire.specs.declared.fault.WireFault.{WireFault}
use Rattle.of_wire.specs.Reading.{reading_of}
use Rattle.of_wire.specs.Grammar.{enveloped}
use Rattle.flow_table.specs.Refusals.{stats_refusal}
use Rattle.app_frames.specs.declared.frame.Answer.{Answer}
use Rattle.app_frames.specs.declared.frame.Answer.TheVariants.{Fine}
use Rattle.lego_model.specs.Answers.{Rows, packet_refused, host_refusal, host_answer_to, refused_or, host_answer_read, host_answer}
use Rattle.net_txn.specs.Answering.{answer_of_host}
use Rattle.net_txn.specs.Net.{NetState}
use Rattle.net_txn.specs.Views.{rows_at, is_viewed}
use Rattle.net_txn.specs.laws.ChangeLaws.{some_is_some, host_known}
use Rattle.net_txn.specs.laws.ViewLaws.{viewed}
use Rattle.switch_laws.specs.Asked.{ReadAsAsked}
use Rattle.switch_laws.specs.laws.ShownChangeLaws.{no_refusal}

fine_answer : (o : Option OfError) (answer : Answer) → refused_or o (Some answer) ≡ None → ⊥
fine_answer None answer h = cc
fine_answer (Some x) answer h = cc

-- a change, or a request that every switch takes
abbrev pub IsAskedAs : Message → Type 0
IsAskedAs m = ((c : Change) × (m ≡ FlowMod c)) ⊎ ((q : Query) × ((m ≡ StatsRequest q) × (stats_refusal q ≡ None)))

pub asked-change : (rows : Rows) (m : Message) → refused_or (host_refusal rows m) (host_answer_to rows m) ≡ None → IsAskedAs m
unfolding host_refusal
asked-change rows (FlowMod c) h = inl (c, refl)
asked-change rows (StatsRequest s) h = inr (s, (refl, no_refusal (stats_refusal s) h))
asked-change rows BarrierRequest h = absurd cc
asked-change rows (Hello payload) h = absurd cc
asked-change rows (Error kind code payload) h = absurd cc
asked-change rows (EchoRequest payload) h = absurd cc
asked-change rows (EchoReply payload) h = absurd cc
asked-change rows (Vendor payload) h = absurd cc
asked-change rows FeaturesRequest h = absurd cc
asked-change rows (FeaturesReply features) h = absurd cc
asked-change rows GetConfigRequest h = absurd cc
asked-change rows (GetConfigReply config) h = absurd cc
asked-change rows (SetConfig config) h = absurd cc
asked-change rows (PacketIn packet) h = absurd cc
asked-change rows (FlowRemoved flow) h = absurd cc
asked-change rows (PortStatus status) h = absurd cc
asked-change rows (PacketOut packet) h = absurd (fine_answer (packet_refused packet) Fine h)
asked-change rows (PortMod port) h = absurd cc
asked-change rows (StatsReply s) h = absurd cc
asked-change rows BarrierReply h = absurd cc
asked-change rows (QueueGetConfigRequest payload) h = absurd cc
asked-change rows (QueueGetConfigReply payload) h = absurd cc

asked-read : (rows : Rows) (bytes : List ℕ) (r : Result Envelope WireFault) → reading_of bytes ≡ r → host_answer_read rows r ≡ None → ReadAsAsked bytes
asked-read rows bytes (Err fault) read h = absurd cc
asked-read rows bytes (Ok e) read h =
    elim (asked-change rows e.message h) [
      | inl c ↦ inl (record { xid = e.xid; change = c.0; read = read ∙ ap (λ (m : Message). ok_with e.xid m) c.1 })
      | inr q ↦ inr (record { xid = e.xid; query = q.0; read = read ∙ ap (λ (m : Message). ok_with e.xid m) q.1.0; passed = q.1.1 })
    ]
  where
    ok_with : ℕ → Message → Result Envelope WireFault
    ok_with xid m = Ok (enveloped xid m)

pub asked : (rows : Option Rows) (bytes : List ℕ) → host_answer rows bytes ≡ None → ReadAsAsked bytes
unfolding host_answer
asked None bytes h = absurd cc
asked (Some rows) bytes h = asked-read rows bytes (reading_of bytes) refl h

-- the view of a switch for which the host let a message pass
pub passed-viewed : (d : ℕ) (bytes : List ℕ) (net : NetState) → answer_of_host d bytes net ≡ None → is_viewed d net.views ≡ true
passed-viewed d bytes net host = viewed d net.views ∙ some_is_some (rows_at d net.views) (host_known d bytes net host)
