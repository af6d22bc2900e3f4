-- What was read is written as it was, but in its match and in pads.
use Rattle.std.proofs.Common.{◌≡◌, ℕ, ◌+◌, ◌-◌, ◌^◌, ◌≤◌, ◌<◌, List, [], ◌++◌, length, take, drop, get_or, Ok, refl, sym, ap, ◌∙◌, append_assoc, inl, inr, arith}
use Rattle.std.proofs.lemmas.Bool.{cases_lt}
use Rattle.std.proofs.lemmas.List.{get_or-take, get_or-drop, get_or-append_right, get_or_append_left, length-append, length-drop}
use Rattle.of_types.specs.Fields.{IsBytes}
use Rattle.of_types.specs.laws.FieldLaws.{IsBytes-drop, IsBytes-take}
use Rattle.of_types.specs.Layout.{spelled}
use Rattle.of_types.specs.laws.LayoutLaws.{length-spelled, same_but_pads}
use Rattle.of_action.specs.Spelling.{list_bytes, list_size}
use Rattle.of_action.specs.laws.ActionLaws.{length-list_bytes, length-Spell, same_list_but_pads}
use Rattle.of_wire.specs.declared.message.Envelope.{Envelope}
use Rattle.of_wire.specs.declared.message.Message.{Message}
use Rattle.of_wire.specs.declared.message.Message.TheVariants.{Hello, Error, EchoRequest, EchoReply, Vendor, FeaturesRequest, FeaturesReply, GetConfigRequest, GetConfigReply, SetConfig, PacketIn, FlowRemoved, PortStatus, PacketOut, FlowMod, PortMod, StatsRequest, StatsReply, BarrierRequest, BarrierReply, QueueGetConfigRequest, QueueGetConfigReply}
use Rattle.of_wire.specs.Spelling.{kind_of, matching_in, match_bytes, header_fields, body_fields, tail_bytes, message_size, body_bytes, message_bytes}
use Rattle.of_wire.specs.Reading.{reading_of}
use Rattle.of_wire.specs.Grammar.{IsTail, IsMessage, SpellTail, fields_place, tail_place, SpellMessage, InTailPad, IsIgnored, SameButIgnored}
use Rattle.of_wire.specs.laws.SpellingLaws.{length-match_bytes, header_fits, SpellMessage-message_bytes}
use Rattle.of_wire.specs.laws.GrammarLaws.{IsRead-reading_of}

-- ---- behind the fields

same : (payload rest : List ℕ) (i : ℕ) → rest ≡ payload → get_or payload i 0 ≡ get_or rest i 0
same payload rest i e = ap (λ (b : List ℕ). get_or b i 0) (sym e)

same_tail : (message : Message) (rest : List ℕ) (i : ℕ) → IsTail message → IsBytes rest → SpellTail message rest → i < length rest → ¬ InTailPad message i → get_or (tail_bytes message) i 0 ≡ get_or rest i 0
same_tail (Hello payload) rest i is fit h lt says = same payload rest i h
same_tail (Error kind code payload) rest i is fit h lt says = same payload rest i h
same_tail (EchoRequest payload) rest i is fit h lt says = same payload rest i h
same_tail (EchoReply payload) rest i is fit h lt says = same payload rest i h
same_tail (Vendor payload) rest i is fit h lt says = same payload rest i h
same_tail FeaturesRequest rest i is fit h lt says = same [] rest i h
same_tail (FeaturesReply features) rest i is fit h lt says = same (tail_bytes (FeaturesReply features)) rest i h
same_tail GetConfigRequest rest i is fit h lt says = same [] rest i h
same_tail (GetConfigReply config) rest i is fit h lt says = same [] rest i h
same_tail (SetConfig config) rest i is fit h lt says = same [] rest i h
same_tail (PacketIn packet) rest i is fit h lt says = same packet.payload rest i h
same_tail (FlowRemoved flow) rest i is fit h lt says = same [] rest i h
same_tail (PortStatus status) rest i is fit h lt says = same [] rest i h
same_tail (PacketOut packet) rest i is fit h lt says =
    let size = list_size packet.actions in
    let wide : length (list_bytes packet.actions) ≡ size = length-list_bytes packet.actions is in
    let front : length (take size rest) ≡ size = length-Spell packet.actions (take size rest) h.0 in
    elim (cases_lt i size) [
      | inl here ↦ get_or_append_left (list_bytes packet.actions) packet.payload 0 i (omega (arith, wide, here))
          ∙ same_list_but_pads packet.actions (take size rest) i is (IsBytes-take size rest fit) h.0 (omega (arith, front, here)) says ∙ get_or-take size rest i 0 here
      | inr later ↦
          let place : size + (i - size) ≡ i = omega (arith, later) in
          get_or-append_right (list_bytes packet.actions) packet.payload size i 0 wide later
          ∙ same packet.payload (drop size rest) (i - size) h.1 ∙ get_or-drop size rest (i - size) 0 ∙ ap (λ (k : ℕ). get_or rest k 0) place
    ]
same_tail (FlowMod flow) rest i is fit h lt says = same_list_but_pads flow.actions rest i is fit h lt says
same_tail (PortMod port) rest i is fit h lt says = same [] rest i h
same_tail (StatsRequest stats) rest i is fit h lt says = same stats.body rest i h
same_tail (StatsReply stats) rest i is fit h lt says = same stats.body rest i h
same_tail BarrierRequest rest i is fit h lt says = same [] rest i h
same_tail BarrierReply rest i is fit h lt says = same [] rest i h
same_tail (QueueGetConfigRequest payload) rest i is fit h lt says = same payload rest i h
same_tail (QueueGetConfigReply payload) rest i is fit h lt says = same payload rest i h

-- ---- the message

-- where the fields end is within
tail_within : (message : Message) (bytes : List ℕ) → length bytes ≡ message_size message → tail_place message ≤ length bytes
unfolding message_size
tail_within message bytes size = omega (arith, size)

same_places : (xid : ℕ) (message : Message) (bytes : List ℕ) (i : ℕ) → xid < 2 ^ 32 → IsMessage message → IsBytes bytes → SpellMessage xid message bytes → i < length bytes → ¬ IsIgnored message i
    → get_or (message_bytes xid message) i 0 ≡ get_or bytes i 0
unfolding message_bytes body_bytes
same_places xid message bytes i small is fit h lt says =
    let fields = header_fields (kind_of message) (message_size message) xid in
    let fits = header_fits xid message small is in
    let f = spelled fields in
    let m = match_bytes (matching_in message) in
    let b = spelled (body_fields message) in
    let t = tail_bytes message in
    let f-len : length f ≡ 8 = length-spelled fields fits in
    let fm-len : length (f ++ m) ≡ fields_place message = omega (arith, f-len, length-match_bytes (matching_in message), length-append f m) in
    let fmb-len : length ((f ++ m) ++ b) ≡ tail_place message = omega (arith, fm-len, length-spelled (body_fields message) is.fields, length-append (f ++ m) b) in
    let within = tail_within message bytes h.size in
    let grouped : f ++ (m ++ (b ++ t)) ≡ (f ++ m) ++ (b ++ t) = sym (append_assoc f m (b ++ t)) in
    elim (cases_lt i 8) [
      | inl in_header ↦ same_but_pads 0 fields [] (m ++ (b ++ t)) bytes (drop 8 bytes) i refl fits fit (omega (arith, within)) h.header (omega arith) in_header (λ p. p)
      | inr behind ↦ elim (cases_lt i (fields_place message)) [
        | inl in_match ↦ absurd (says (inl (behind, in_match)))
        | inr after ↦ elim (cases_lt i (tail_place message)) [
          | inl in_fields ↦ ap (λ (x : List ℕ). get_or x i 0) grouped
              ∙ same_but_pads (fields_place message) (body_fields message) (f ++ m) t bytes (drop (tail_place message) bytes) i fm-len is.fields fit within h.fields after in_fields (λ p. says (inr (inl p)))
          | inr in_tail ↦
              let place : tail_place message + (i - tail_place message) ≡ i = omega (arith, in_tail) in
              ap (λ (x : List ℕ). get_or x i 0) (grouped ∙ sym (append_assoc (f ++ m) b t)) ∙ get_or-append_right ((f ++ m) ++ b) t (tail_place message) i 0 fmb-len in_tail
              ∙ same_tail message (drop (tail_place message) bytes) (i - tail_place message) is.tail (IsBytes-drop (tail_place message) bytes fit) h.tail (omega (arith, in_tail, lt, length-drop (tail_place message) bytes)) (λ p. says (inr (inr (in_tail, p))))
              ∙ get_or-drop (tail_place message) bytes (i - tail_place message) 0 ∙ ap (λ (k : ℕ). get_or bytes k 0) place
        ]
      ]
    ]

pub SameButIgnored-message_bytes : (bytes : List ℕ) (envelope : Envelope) → IsBytes bytes → reading_of bytes ≡ Ok envelope → SameButIgnored envelope.message bytes (message_bytes envelope.xid envelope.message)
SameButIgnored-message_bytes bytes envelope fit e =
    let read = IsRead-reading_of bytes envelope fit e in
    let written = SpellMessage-message_bytes envelope.xid envelope.message read.xid read.message in
    record {
      size = written.size ∙ sym read.spelled_is.size;
      old_match = read.spelled_is.matching;
      new_match = written.matching;
      places = λ i lt says. same_places envelope.xid envelope.message bytes i read.xid read.message fit read.spelled_is lt says;
    }
