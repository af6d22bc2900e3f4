-- Messages that can be read: what a switch sends is what `of_wire` reads (OpenFlow 1.0.0, 5.1 OpenFlow Header).
use Rattle.std.specs.Prelude.{ℕ, ◌≤◌, List, length, map, All, IsOk}
use Rattle.of_types.specs.declared.journal.Stimulus.{Stimulus}
use Rattle.of_types.specs.declared.journal.Stimulus.TheVariants.{Raw}
use Rattle.of_wire.specs.declared.message.Message.{Message}
use Rattle.of_wire.specs.declared.message.Message.TheVariants.{FeaturesReply}
use Rattle.of_wire.specs.Reading.{reading_of}
use Rattle.flow_table.specs.Switch.{PortState, port_desc}

-- the bytes are read as one message, and its length field can say how many they are
pub record IsReadable (bytes : List ℕ) : Type 0 where
  pub read : IsOk (reading_of bytes)
  pub short : length bytes ≤ 65535

abbrev pub AreReadable : List (List ℕ) → Type 0
AreReadable list = All IsReadable list

abbrev pub AreShort : List (List ℕ) → Type 0
AreShort list = All (λ bytes. length bytes ≤ 65535) list

-- ---- Bytes that a switch sends of its own need not be a message.

abbrev pub IsShortIfRaw : Stimulus → Type 0
IsShortIfRaw (Raw bytes) = length bytes ≤ 65535
IsShortIfRaw other = Unit {0}

-- ---- The FEATURES_REPLY of a switch (5.3.1 Handshake)

abbrev pub features_message : ℕ → List PortState → Message
features_message dpid ports = FeaturesReply (record {
  dpid = dpid;
  n_buffers = 0;
  n_tables = 1;
  capabilities = 0x87;
  actions = 0x7ff;
  ports = map (port_desc dpid) ports;
})
