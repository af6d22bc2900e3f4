-- Which messages the grammar has, and which bytes spell one: those of its spelling, whatever stands in pads and in
-- the ignored bits of a match (OpenFlow 1.0.0, 5).
use Rattle.std.specs.Prelude.{◌≡◌, ℕ, ◌+◌, ◌-◌, ◌^◌, ◌<◌, ◌≤◌, ◌⊎◌, List, [], length, take, drop, slice_index, Option, Some, None}
use Rattle.std.specs.List.{AllByRecursion}
use Rattle.of_types.specs.Fields.{piece}
use Rattle.of_types.specs.Layout.{width, AreFields, IsLaidOut, InPad}
use Rattle.of_match.specs.declared.flow_match.Match.{Match}
use Rattle.of_match.specs.Match.{match_of}
use Rattle.of_action.specs.Spelling.{list_size, AreActions, Spell, InPads}
use Rattle.of_wire.specs.declared.message.Envelope.{Envelope}
use Rattle.of_wire.specs.declared.message.Message.{Message}
use Rattle.of_wire.specs.declared.message.Message.TheVariants.{Hello, Error, EchoRequest, EchoReply, Vendor, FeaturesReply, PacketIn, PacketOut, FlowMod, StatsRequest, StatsReply, QueueGetConfigRequest, QueueGetConfigReply}
use Rattle.of_wire.specs.Spelling.{kind_of, matching_in, match_size, header_fields, port_fields, body_fields, ports_bytes, message_size}

-- ---- values

-- what must hold of what follows a message's fields
abbrev pub IsTail : Message → Type 0
IsTail (Vendor payload) = 4 ≤ length payload
IsTail (FeaturesReply features) = AllByRecursion (λ port. AreFields (port_fields port)) features.ports
IsTail (PacketOut packet) = AreActions packet.actions
IsTail (FlowMod flow) = AreActions flow.actions
IsTail (QueueGetConfigRequest payload) = length payload ≡ 4
IsTail (QueueGetConfigReply payload) = 8 ≤ length payload
IsTail other = Unit {0}

pub record IsMessage (message : Message) : Type 0 where
  pub fields : AreFields (body_fields message)
  pub tail : IsTail message
  pub size : message_size message < 2 ^ 16

-- ---- bytes

abbrev pub SpellMatch : Option Match → List ℕ → Type 0
SpellMatch None bytes = Unit {0}
SpellMatch (Some matching) bytes = match_of (piece 40 8 bytes) ≡ matching

-- the bytes behind the fields
abbrev pub SpellTail : Message → List ℕ → Type 0
SpellTail (Hello payload) rest = rest ≡ payload
SpellTail (Error kind code payload) rest = rest ≡ payload
SpellTail (EchoRequest payload) rest = rest ≡ payload
SpellTail (EchoReply payload) rest = rest ≡ payload
SpellTail (Vendor payload) rest = rest ≡ payload
SpellTail (FeaturesReply features) rest = rest ≡ ports_bytes features.ports
SpellTail (PacketIn packet) rest = rest ≡ packet.payload
SpellTail (PacketOut packet) rest =
    Spell packet.actions (take (list_size packet.actions) rest) × (drop (list_size packet.actions) rest ≡ packet.payload)
SpellTail (FlowMod flow) rest = Spell flow.actions rest
SpellTail (StatsRequest stats) rest = rest ≡ stats.body
SpellTail (StatsReply stats) rest = rest ≡ stats.body
SpellTail (QueueGetConfigRequest payload) rest = rest ≡ payload
SpellTail (QueueGetConfigReply payload) rest = rest ≡ payload
SpellTail other rest = rest ≡ []

-- where the fields begin, and where they end
abbrev pub fields_place : Message → ℕ
fields_place message = 8 + match_size (matching_in message)

abbrev pub tail_place : Message → ℕ
tail_place message = fields_place message + width (body_fields message)

pub record SpellMessage (xid : ℕ) (message : Message) (bytes : List ℕ) : Type 0 where
  pub size : length bytes ≡ message_size message
  pub header : IsLaidOut 0 (header_fields (kind_of message) (message_size message) xid) (drop 8 bytes) bytes
  pub matching : SpellMatch (matching_in message) bytes
  pub fields : IsLaidOut (fields_place message) (body_fields message) (drop (tail_place message) bytes) bytes
  pub tail : SpellTail message (drop (tail_place message) bytes)

abbrev pub enveloped : ℕ → Message → Envelope
enveloped xid message = record { xid = xid; message = message }

-- ---- what is ignored when bytes are read

-- the place i behind the fields lies in a pad of an action
abbrev pub InTailPad : Message → ℕ → Type 0
InTailPad (PacketOut packet) i = InPads packet.actions i
InTailPad (FlowMod flow) i = InPads flow.actions i
InTailPad other i = ⊥

-- the place i lies in the match, some of whose bits say nothing, or in a pad
abbrev pub IsIgnored : Message → ℕ → Type 0
IsIgnored message i =
    ((8 ≤ i) × (i < fields_place message)) ⊎ (InPad (fields_place message) (body_fields message) i
    ⊎ ((tail_place message ≤ i) × InTailPad message (i - tail_place message)))

-- Bytes that spell one match, if any, and differ but there in pads alone.
pub record SameButIgnored (message : Message) (old new : List ℕ) : Type 0 where
  pub size : length new ≡ length old
  pub old_match : SpellMatch (matching_in message) old
  pub new_match : SpellMatch (matching_in message) new
  pub places : (i : ℕ) → i < length old → ¬ IsIgnored message i → slice_index new i ≡ slice_index old i
