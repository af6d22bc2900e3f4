-- What is spelled is read.
use Rattle.std.proofs.Common.{◌≡◌, ℕ, ◌+◌, ◌-◌, ◌*◌, ◌/◌, ◌%◌, ◌^◌, ◌≤◌, ◌<◌, true, false, eqb, ltb, List, [], ◌∷◌, ◌++◌, length, drop, Some, Result, Ok, refl, sym, ap, ◌∙◌, arith, eq-eqb}
use Rattle.std.specs.List.{AllByRecursion}
use Rattle.std.proofs.lemmas.Bool.{le-leb, le-ltb, and_from}
use Rattle.std.proofs.lemmas.List.{drop_at, drop-drop}
use Rattle.of_types.specs.Fields.{number_at, piece}
use Rattle.of_types.specs.laws.FieldLaws.{number_at-drop, piece-drop}
use Rattle.of_types.specs.Layout.{spelled, AreFields}
use Rattle.of_types.specs.laws.LayoutLaws.{IsLaidOut-spelled, length-spelled}
use Rattle.of_types.specs.declared.port_desc.PortDesc.{PortDesc}
use Rattle.of_action.specs.Spelling.{list_size}
use Rattle.of_action.specs.laws.ActionLaws.{actions_of-Spell}
use Rattle.of_wire.specs.declared.kind.MessageKind.{MessageKind}
use Rattle.of_wire.specs.declared.kind.MessageKind.TheVariants as kinds
use Rattle.of_wire.specs.declared.bodies.FeaturesReply.{FeaturesReply as Features}
use Rattle.of_wire.specs.declared.bodies.PacketOut.{PacketOut as OutPacket}
use Rattle.of_wire.specs.declared.bodies.FlowMod.{FlowMod as FlowChange}
use Rattle.of_wire.specs.declared.fault.WireFault.{WireFault}
use Rattle.of_wire.specs.declared.message.Envelope.{Envelope}
use Rattle.of_wire.specs.declared.message.Message.{Message}
use Rattle.of_wire.specs.declared.message.Message.TheVariants.{Hello, Error, EchoRequest, EchoReply, Vendor, FeaturesRequest, FeaturesReply, GetConfigRequest, GetConfigReply, SetConfig, PacketIn, FlowRemoved, PortStatus, PacketOut, FlowMod, PortMod, StatsRequest, StatsReply, BarrierRequest, BarrierReply, QueueGetConfigRequest, QueueGetConfigReply}
use Rattle.of_wire.specs.Kinds.{number_of_kind, kind_of_number}
use Rattle.of_wire.specs.Spelling.{kind_of, port_fields, ports_bytes, message_size, message_bytes}
use Rattle.of_wire.specs.Reading.{has_length, front_of, port_of, ports_of, packet_out_of, flow_mod_of, body_of, reading_of}
use Rattle.of_wire.specs.Grammar.{IsMessage, SpellMessage, enveloped}
use Rattle.of_wire.specs.laws.SpellingLaws.{SpellMessage-message_bytes}

kind_of_number-number_of_kind : (kind : MessageKind) → kind_of_number (number_of_kind kind) ≡ Some kind
unfolding kind_of_number
kind_of_number-number_of_kind kinds.Hello = refl
kind_of_number-number_of_kind kinds.Error = refl
kind_of_number-number_of_kind kinds.EchoRequest = refl
kind_of_number-number_of_kind kinds.EchoReply = refl
kind_of_number-number_of_kind kinds.Vendor = refl
kind_of_number-number_of_kind kinds.FeaturesRequest = refl
kind_of_number-number_of_kind kinds.FeaturesReply = refl
kind_of_number-number_of_kind kinds.GetConfigRequest = refl
kind_of_number-number_of_kind kinds.GetConfigReply = refl
kind_of_number-number_of_kind kinds.SetConfig = refl
kind_of_number-number_of_kind kinds.PacketIn = refl
kind_of_number-number_of_kind kinds.FlowRemoved = refl
kind_of_number-number_of_kind kinds.PortStatus = refl
kind_of_number-number_of_kind kinds.PacketOut = refl
kind_of_number-number_of_kind kinds.FlowMod = refl
kind_of_number-number_of_kind kinds.PortMod = refl
kind_of_number-number_of_kind kinds.StatsRequest = refl
kind_of_number-number_of_kind kinds.StatsReply = refl
kind_of_number-number_of_kind kinds.BarrierRequest = refl
kind_of_number-number_of_kind kinds.BarrierReply = refl
kind_of_number-number_of_kind kinds.QueueGetConfigRequest = refl
kind_of_number-number_of_kind kinds.QueueGetConfigReply = refl

-- ---- the front

has_length-message_size : (message : Message) → IsMessage message → has_length (kind_of message) (message_size message) ≡ true
unfolding message_size
has_length-message_size (Hello payload) is = le-leb _ _ (omega (arith))
has_length-message_size (Error kind code payload) is = le-leb _ _ (omega (arith))
has_length-message_size (EchoRequest payload) is = le-leb _ _ (omega (arith))
has_length-message_size (EchoReply payload) is = le-leb _ _ (omega (arith))
has_length-message_size (Vendor payload) is = le-leb _ _ (omega (arith, is.tail))
has_length-message_size FeaturesRequest is = refl
has_length-message_size (FeaturesReply features) is =
    let whole : (32 + 48 * length features.ports - 32) % 48 ≡ 0 = omega arith in
    and_from _ _ (le-leb _ _ (omega arith)) (eq-eqb _ _ whole)
has_length-message_size GetConfigRequest is = refl
has_length-message_size (GetConfigReply config) is = refl
has_length-message_size (SetConfig config) is = refl
has_length-message_size (PacketIn packet) is = le-leb _ _ (omega (arith))
has_length-message_size (FlowRemoved flow) is = refl
has_length-message_size (PortStatus status) is = refl
has_length-message_size (PacketOut packet) is = le-leb _ _ (omega (arith))
has_length-message_size (FlowMod flow) is = le-leb _ _ (omega (arith))
has_length-message_size (PortMod port) is = refl
has_length-message_size (StatsRequest stats) is = le-leb _ _ (omega (arith))
has_length-message_size (StatsReply stats) is = le-leb _ _ (omega (arith))
has_length-message_size BarrierRequest is = refl
has_length-message_size BarrierReply is = refl
has_length-message_size (QueueGetConfigRequest payload) is = eq-eqb _ _ (omega (arith, is.tail))
has_length-message_size (QueueGetConfigReply payload) is = le-leb _ _ (omega (arith, is.tail))

eight-le : (message : Message) → 8 ≤ message_size message
unfolding message_size
eight-le message = omega arith

front_of-spelled : (xid : ℕ) (message : Message) (bytes : List ℕ) → IsMessage message → SpellMessage xid message bytes → front_of bytes ≡ Ok (kind_of message)
unfolding front_of
front_of-spelled xid message bytes is h =
    let least : 8 ≤ length bytes = rw h.size (eight-le message) in
    let enough : ltb (length bytes) 8 ≡ false = le-ltb _ _ least in
    let number : number_at 1 1 bytes ≡ number_of_kind (kind_of message) = h.header.1.0 in
    let kind = kind_of_number-number_of_kind (kind_of message) in
    let size : eqb (number_at 2 2 bytes) (length bytes) ≡ true = eq-eqb _ _ (h.header.1.1.0 ∙ sym h.size) in
    let sized : has_length (kind_of message) (length bytes) ≡ true = rw h.size (has_length-message_size message is) in
    rw (enough, h.header.0, number, kind, size, sized) refl

-- ---- ports

port_of-spelled : (port : PortDesc) (rest : List ℕ) → AreFields (port_fields port) → port_of (spelled (port_fields port) ++ rest) ≡ port
port_of-spelled port rest fit =
    let h = IsLaidOut-spelled 0 (port_fields port) [] rest refl fit in
    rw (h.0, h.1.0, h.1.1.0, h.1.1.1.0, h.1.1.1.1.0, h.1.1.1.1.1.0, h.1.1.1.1.1.1.0, h.1.1.1.1.1.1.1.0, h.1.1.1.1.1.1.1.1.0) refl

ports_of-ports_bytes : (ports : List PortDesc) → AllByRecursion (λ port. AreFields (port_fields port)) ports → ports_of (length ports) (ports_bytes ports) ≡ ports
ports_of-ports_bytes [] fit = refl
ports_of-ports_bytes (port ∷ ports) fit =
    let first = port_of-spelled port (ports_bytes ports) fit.0 in
    let rest : drop 48 (spelled (port_fields port) ++ ports_bytes ports) ≡ ports_bytes ports = drop_at (spelled (port_fields port)) (ports_bytes ports) 48 (length-spelled (port_fields port) fit.0) in
    ap (λ (p : PortDesc). p ∷ ports_of (length ports) (drop 48 (spelled (port_fields port) ++ ports_bytes ports))) first
    ∙ ap (λ (b : List ℕ). port ∷ ports_of (length ports) b) rest ∙ ap (λ (ps : List PortDesc). port ∷ ps) (ports_of-ports_bytes ports fit.1)

-- ---- the body

features_count : (features : Features) (bytes : List ℕ) → length bytes ≡ message_size (FeaturesReply features) → (length bytes - 32) / 48 ≡ length features.ports
unfolding message_size
features_count features bytes size = omega (arith, size)

packet_out_of-spelled : (xid : ℕ) (packet : OutPacket) (bytes : List ℕ) → IsMessage (PacketOut packet) → SpellMessage xid (PacketOut packet) bytes → packet_out_of bytes ≡ Ok (PacketOut packet)
unfolding packet_out_of message_size
packet_out_of-spelled xid packet bytes is h =
    let len = list_size packet.actions in
    let within : ltb (length bytes) (16 + len) ≡ false = le-ltb _ _ (omega (arith, h.size)) in
    let actions = actions_of-Spell packet.actions (piece len 16 bytes) is.tail h.tail.0 in
    let payload : drop (16 + len) bytes ≡ packet.payload = sym (drop-drop len 16 bytes) ∙ h.tail.1 in
    rw (h.fields.0, h.fields.1.0, h.fields.1.1.0, within, actions, payload) refl

flow_mod_of-spelled : (xid : ℕ) (flow : FlowChange) (bytes : List ℕ) → IsMessage (FlowMod flow) → SpellMessage xid (FlowMod flow) bytes → flow_mod_of bytes ≡ Ok (FlowMod flow)
unfolding flow_mod_of
flow_mod_of-spelled xid flow bytes is h =
    let actions = actions_of-Spell flow.actions (drop 72 bytes) is.tail h.tail in
    let f = h.fields in
    rw (actions, h.matching, f.0, f.1.0, f.1.1.0, f.1.1.1.0, f.1.1.1.1.0, f.1.1.1.1.1.0, f.1.1.1.1.1.1.0, f.1.1.1.1.1.1.1.0) refl

body_of-spelled : (xid : ℕ) (message : Message) (bytes : List ℕ) → IsMessage message → SpellMessage xid message bytes → body_of (kind_of message) bytes ≡ Ok message
unfolding body_of
body_of-spelled xid (Hello payload) bytes is h = rw h.tail refl
body_of-spelled xid (Error kind code payload) bytes is h = rw (h.fields.0, h.fields.1.0, h.tail) refl
body_of-spelled xid (EchoRequest payload) bytes is h = rw h.tail refl
body_of-spelled xid (EchoReply payload) bytes is h = rw h.tail refl
body_of-spelled xid (Vendor payload) bytes is h = rw h.tail refl
body_of-spelled xid FeaturesRequest bytes is h = refl
body_of-spelled xid (FeaturesReply features) bytes is h =
    let count : (length bytes - 32) / 48 ≡ length features.ports = features_count features bytes h.size in
    let ports = ports_of-ports_bytes features.ports is.tail in
    let f = h.fields in
    rw (f.0, f.1.0, f.1.1.0, f.1.1.1.0, f.1.1.1.1.0, count, h.tail, ports) refl
body_of-spelled xid GetConfigRequest bytes is h = refl
body_of-spelled xid (GetConfigReply config) bytes is h = rw (h.fields.0, h.fields.1.0) refl
body_of-spelled xid (SetConfig config) bytes is h = rw (h.fields.0, h.fields.1.0) refl
body_of-spelled xid (PacketIn packet) bytes is h = let f = h.fields in rw (f.0, f.1.0, f.1.1.0, f.1.1.1.0, h.tail) refl
body_of-spelled xid (FlowRemoved flow) bytes is h =
    let f = h.fields in
    rw (h.matching, f.0, f.1.0, f.1.1.0, f.1.1.1.0, f.1.1.1.1.0, f.1.1.1.1.1.0, f.1.1.1.1.1.1.0, f.1.1.1.1.1.1.1.0) refl
body_of-spelled xid (PortStatus status) bytes is h =
    let f = h.fields.1 in
    rw (
      h.fields.0,
      number_at-drop 2 0 16 bytes ∙ f.0,
      piece-drop 6 2 16 bytes ∙ f.1.0,
      piece-drop 16 8 16 bytes ∙ f.1.1.0,
      number_at-drop 4 24 16 bytes ∙ f.1.1.1.0,
      number_at-drop 4 28 16 bytes ∙ f.1.1.1.1.0,
      number_at-drop 4 32 16 bytes ∙ f.1.1.1.1.1.0,
      number_at-drop 4 36 16 bytes ∙ f.1.1.1.1.1.1.0,
      number_at-drop 4 40 16 bytes ∙ f.1.1.1.1.1.1.1.0,
      number_at-drop 4 44 16 bytes ∙ f.1.1.1.1.1.1.1.1.0,
    ) refl
body_of-spelled xid (PacketOut packet) bytes is h = packet_out_of-spelled xid packet bytes is h
body_of-spelled xid (FlowMod flow) bytes is h = flow_mod_of-spelled xid flow bytes is h
body_of-spelled xid (PortMod port) bytes is h = let f = h.fields in rw (f.0, f.1.0, f.1.1.0, f.1.1.1.0, f.1.1.1.1.0) refl
body_of-spelled xid (StatsRequest stats) bytes is h = rw (h.fields.0, h.fields.1.0, h.tail) refl
body_of-spelled xid (StatsReply stats) bytes is h = rw (h.fields.0, h.fields.1.0, h.tail) refl
body_of-spelled xid BarrierRequest bytes is h = refl
body_of-spelled xid BarrierReply bytes is h = refl
body_of-spelled xid (QueueGetConfigRequest payload) bytes is h = rw h.tail refl
body_of-spelled xid (QueueGetConfigReply payload) bytes is h = rw h.tail refl

-- ---- the message

pub reading_of-SpellMessage : (xid : ℕ) (message : Message) (bytes : List ℕ) → IsMessage message → SpellMessage xid message bytes → reading_of bytes ≡ Ok (enveloped xid message)
unfolding reading_of
reading_of-SpellMessage xid message bytes is h =
    rw (front_of-spelled xid message bytes is h, body_of-spelled xid message bytes is h, h.header.1.1.1.0) refl

pub reading_of-message_bytes : (xid : ℕ) (message : Message) → xid < 2 ^ 32 → IsMessage message → reading_of (message_bytes xid message) ≡ Ok (enveloped xid message)
reading_of-message_bytes xid message small is = reading_of-SpellMessage xid message (message_bytes xid message) is (SpellMessage-message_bytes xid message small is)

abbrev pub the_envelope : Envelope → Result Envelope WireFault
the_envelope envelope = Ok envelope

pub same_envelope : (x y : Envelope) → the_envelope x ≡ the_envelope y → x ≡ y
same_envelope x y e = cc

pub same_from_SpellMessage : (xid other_xid : ℕ) (message other : Message) (bytes : List ℕ) → IsMessage message → IsMessage other → SpellMessage xid message bytes → SpellMessage other_xid other bytes → enveloped xid message ≡ enveloped other_xid other
same_from_SpellMessage xid other_xid message other bytes is is' h g =
    same_envelope _ _ (sym (reading_of-SpellMessage xid message bytes is h) ∙ reading_of-SpellMessage other_xid other bytes is' g)
