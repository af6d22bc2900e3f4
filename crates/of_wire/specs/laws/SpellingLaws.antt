-- A message's spelling spells it.
use Rattle.std.proofs.Common.{◌≡◌, ℕ, ◌*◌, ◌^◌, ◌<◌, List, [], ◌∷◌, ◌++◌, length, take, drop, Option, Some, None, refl, sym, ap, subst, ◌∙◌, append_assoc, arith}
use Rattle.std.specs.List.{AllByRecursion}
use Rattle.std.proofs.lemmas.List.{take_at, drop_at, length-append}
use Rattle.of_types.specs.Fields.{piece}
use Rattle.of_types.specs.Layout.{spelled, width, AreFields, IsLaidOut}
use Rattle.of_types.specs.laws.LayoutLaws.{IsLaidOut-spelled, length-spelled}
use Rattle.of_types.specs.declared.port_desc.PortDesc.{PortDesc}
use Rattle.of_match.specs.declared.flow_match.Match.{Match}
use Rattle.of_match.specs.Fields.{bytes_of}
use Rattle.of_match.specs.Match.{match_of, fields_in}
use Rattle.of_match.specs.laws.MatchLaws.{match_of-bytes_of}
use Rattle.of_action.specs.Spelling.{list_bytes, list_size, Spell}
use Rattle.of_action.specs.laws.ActionLaws.{length-list_bytes, Spell-list_bytes}
use Rattle.of_wire.specs.declared.kind.MessageKind.{MessageKind}
use Rattle.of_wire.specs.declared.kind.MessageKind.TheVariants as kinds
use Rattle.of_wire.specs.declared.message.Message.{Message}
use Rattle.of_wire.specs.declared.message.Message.TheVariants.{Hello, Error, EchoRequest, EchoReply, Vendor, FeaturesRequest, FeaturesReply, GetConfigRequest, GetConfigReply, SetConfig, PacketIn, FlowRemoved, PortStatus, PacketOut, FlowMod, PortMod, StatsRequest, StatsReply, BarrierRequest, BarrierReply, QueueGetConfigRequest, QueueGetConfigReply}
use Rattle.of_wire.specs.Kinds.{number_of_kind}
use Rattle.of_wire.specs.Spelling.{kind_of, matching_in, match_bytes, match_size, header_fields, port_fields, body_fields, ports_bytes, tail_bytes, tail_size, message_size, body_bytes, message_bytes}
use Rattle.of_wire.specs.Grammar.{IsTail, IsMessage, SpellMatch, SpellTail, fields_place, tail_place, SpellMessage}
use Rattle.of_match.specs.laws.FieldsLaws.{bytes_of-length}

pub number_of_kind-lt : (kind : MessageKind) → number_of_kind kind < 256
number_of_kind-lt kinds.Hello = omega arith
number_of_kind-lt kinds.Error = omega arith
number_of_kind-lt kinds.EchoRequest = omega arith
number_of_kind-lt kinds.EchoReply = omega arith
number_of_kind-lt kinds.Vendor = omega arith
number_of_kind-lt kinds.FeaturesRequest = omega arith
number_of_kind-lt kinds.FeaturesReply = omega arith
number_of_kind-lt kinds.GetConfigRequest = omega arith
number_of_kind-lt kinds.GetConfigReply = omega arith
number_of_kind-lt kinds.SetConfig = omega arith
number_of_kind-lt kinds.PacketIn = omega arith
number_of_kind-lt kinds.FlowRemoved = omega arith
number_of_kind-lt kinds.PortStatus = omega arith
number_of_kind-lt kinds.PacketOut = omega arith
number_of_kind-lt kinds.FlowMod = omega arith
number_of_kind-lt kinds.PortMod = omega arith
number_of_kind-lt kinds.StatsRequest = omega arith
number_of_kind-lt kinds.StatsReply = omega arith
number_of_kind-lt kinds.BarrierRequest = omega arith
number_of_kind-lt kinds.BarrierReply = omega arith
number_of_kind-lt kinds.QueueGetConfigRequest = omega arith
number_of_kind-lt kinds.QueueGetConfigReply = omega arith

-- ---- lengths

pub length-match_bytes : (matching : Option Match) → length (match_bytes matching) ≡ match_size matching
length-match_bytes None = refl
length-match_bytes (Some matching) = bytes_of-length (fields_in matching)

pub length-ports_bytes : (ports : List PortDesc) → AllByRecursion (λ port. AreFields (port_fields port)) ports → length (ports_bytes ports) ≡ 48 * length ports
length-ports_bytes [] fit = refl
length-ports_bytes (port ∷ ports) fit =
    let first : length (spelled (port_fields port)) ≡ 48 = length-spelled (port_fields port) fit.0 in
    omega (arith, first, length-ports_bytes ports fit.1, length-append (spelled (port_fields port)) (ports_bytes ports))

pub length-tail_bytes : (message : Message) → IsTail message → length (tail_bytes message) ≡ tail_size message
length-tail_bytes (Hello payload) is = refl
length-tail_bytes (Error kind code payload) is = refl
length-tail_bytes (EchoRequest payload) is = refl
length-tail_bytes (EchoReply payload) is = refl
length-tail_bytes (Vendor payload) is = refl
length-tail_bytes FeaturesRequest is = refl
length-tail_bytes (FeaturesReply features) is = length-ports_bytes features.ports is
length-tail_bytes GetConfigRequest is = refl
length-tail_bytes (GetConfigReply config) is = refl
length-tail_bytes (SetConfig config) is = refl
length-tail_bytes (PacketIn packet) is = refl
length-tail_bytes (FlowRemoved flow) is = refl
length-tail_bytes (PortStatus status) is = refl
length-tail_bytes (PacketOut packet) is =
    omega (arith, length-append (list_bytes packet.actions) packet.payload, length-list_bytes packet.actions is)
length-tail_bytes (FlowMod flow) is = length-list_bytes flow.actions is
length-tail_bytes (PortMod port) is = refl
length-tail_bytes (StatsRequest stats) is = refl
length-tail_bytes (StatsReply stats) is = refl
length-tail_bytes BarrierRequest is = refl
length-tail_bytes BarrierReply is = refl
length-tail_bytes (QueueGetConfigRequest payload) is = refl
length-tail_bytes (QueueGetConfigReply payload) is = refl

-- ---- parts

SpellTail-tail_bytes : (message : Message) → IsTail message → SpellTail message (tail_bytes message)
SpellTail-tail_bytes (Hello payload) is = refl
SpellTail-tail_bytes (Error kind code payload) is = refl
SpellTail-tail_bytes (EchoRequest payload) is = refl
SpellTail-tail_bytes (EchoReply payload) is = refl
SpellTail-tail_bytes (Vendor payload) is = refl
SpellTail-tail_bytes FeaturesRequest is = refl
SpellTail-tail_bytes (FeaturesReply features) is = refl
SpellTail-tail_bytes GetConfigRequest is = refl
SpellTail-tail_bytes (GetConfigReply config) is = refl
SpellTail-tail_bytes (SetConfig config) is = refl
SpellTail-tail_bytes (PacketIn packet) is = refl
SpellTail-tail_bytes (FlowRemoved flow) is = refl
SpellTail-tail_bytes (PortStatus status) is = refl
SpellTail-tail_bytes (PacketOut packet) is =
    let len = length-list_bytes packet.actions is in (
      subst (λ (b : List ℕ). Spell packet.actions b) (sym (take_at (list_bytes packet.actions) packet.payload (list_size packet.actions) len)) (Spell-list_bytes packet.actions is),
      drop_at (list_bytes packet.actions) packet.payload (list_size packet.actions) len,
    )
SpellTail-tail_bytes (FlowMod flow) is = Spell-list_bytes flow.actions is
SpellTail-tail_bytes (PortMod port) is = refl
SpellTail-tail_bytes (StatsRequest stats) is = refl
SpellTail-tail_bytes (StatsReply stats) is = refl
SpellTail-tail_bytes BarrierRequest is = refl
SpellTail-tail_bytes BarrierReply is = refl
SpellTail-tail_bytes (QueueGetConfigRequest payload) is = refl
SpellTail-tail_bytes (QueueGetConfigReply payload) is = refl

SpellMatch-match_bytes : (matching : Option Match) (front rest : List ℕ) → length front ≡ 8 → SpellMatch matching (front ++ (match_bytes matching ++ rest))
SpellMatch-match_bytes None front rest len = tt
SpellMatch-match_bytes (Some matching) front rest len =
    let there : piece 40 8 (front ++ (bytes_of (fields_in matching) ++ rest)) ≡ bytes_of (fields_in matching) =
    ap (λ (b : List ℕ). take 40 b) (drop_at front (bytes_of (fields_in matching) ++ rest) 8 len)
    ∙ take_at (bytes_of (fields_in matching)) rest 40 (bytes_of-length (fields_in matching)) in
    ap match_of there ∙ match_of-bytes_of matching

-- ---- the message

pub header_fits : (xid : ℕ) (message : Message) → xid < 2 ^ 32 → IsMessage message → AreFields (header_fields (kind_of message) (message_size message) xid)
header_fits xid message small is = (omega arith, (number_of_kind-lt (kind_of message), (is.size, (small, tt))))

whole_size : (message : Message) (h m b t : List ℕ) → length h ≡ 8 → length m ≡ match_size (matching_in message) → length b ≡ width (body_fields message) → length t ≡ tail_size message → length (h ++ (m ++ (b ++ t))) ≡ message_size message
unfolding message_size
whole_size message h m b t h-len m-len b-len t-len =
    omega (arith, length-append h (m ++ (b ++ t)), length-append m (b ++ t), length-append b t)

pub SpellMessage-message_bytes : (xid : ℕ) (message : Message) → xid < 2 ^ 32 → IsMessage message → SpellMessage xid message (message_bytes xid message)
unfolding message_bytes body_bytes
SpellMessage-message_bytes xid message small is =
    let fields = header_fields (kind_of message) (message_size message) xid in
    let fit = header_fits xid message small is in
    let h = spelled fields in
    let m = match_bytes (matching_in message) in
    let b = spelled (body_fields message) in
    let t = tail_bytes message in
    let h-len : length h ≡ 8 = length-spelled fields fit in
    let m-len = length-match_bytes (matching_in message) in
    let b-len = length-spelled (body_fields message) is.fields in
    let hm-len : length (h ++ m) ≡ fields_place message = omega (arith, h-len, m-len, length-append h m) in
    let hmb-len : length ((h ++ m) ++ b) ≡ tail_place message = omega (arith, hm-len, b-len, length-append (h ++ m) b) in
    let behind_header : drop 8 (h ++ (m ++ (b ++ t))) ≡ m ++ (b ++ t) = drop_at h (m ++ (b ++ t)) 8 h-len in
    let grouped : (h ++ m) ++ (b ++ t) ≡ h ++ (m ++ (b ++ t)) = append_assoc h m (b ++ t) in
    let behind_fields : drop (tail_place message) (h ++ (m ++ (b ++ t))) ≡ t =
    ap (λ (x : List ℕ). drop (tail_place message) x) (sym grouped ∙ sym (append_assoc (h ++ m) b t)) ∙ drop_at ((h ++ m) ++ b) t (tail_place message) hmb-len in
    record {
      size = whole_size message h m b t h-len m-len b-len (length-tail_bytes message is.tail);
      header = subst (λ (rest : List ℕ). IsLaidOut 0 fields rest (h ++ (m ++ (b ++ t)))) (sym behind_header) (IsLaidOut-spelled 0 fields [] (m ++ (b ++ t)) refl fit);
      matching = SpellMatch-match_bytes (matching_in message) h (b ++ t) h-len;
      fields = subst (λ (rest : List ℕ). IsLaidOut (fields_place message) (body_fields message) rest (h ++ (m ++ (b ++ t)))) (sym behind_fields)
          (subst (λ (bytes : List ℕ). IsLaidOut (fields_place message) (body_fields message) t bytes) grouped (IsLaidOut-spelled (fields_place message) (body_fields message) (h ++ m) t hm-len is.fields));
      tail = subst (λ (rest : List ℕ). SpellTail message rest) (sym behind_fields) (SpellTail-tail_bytes message is.tail);
    }
