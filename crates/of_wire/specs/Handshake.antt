-- The FEATURES_REPLY of a switch (OpenFlow 1.0.0, 5.3.1 Handshake).
use Rattle.std.specs.Prelude.{◌≡◌, ℕ, List, IsOkAnd}
use Rattle.of_wire.specs.declared.message.Message.{Message}
use Rattle.of_wire.specs.declared.message.Message.TheVariants.{FeaturesReply}
use Rattle.of_wire.specs.Reading.{reading_of}

abbrev pub IsFeatures : ℕ → Message → Type 0
IsFeatures d (FeaturesReply features) = features.dpid ≡ d
IsFeatures d other = ⊥

-- the bytes are read as the FEATURES_REPLY of the switch
abbrev pub IsFeaturesOf : ℕ → List ℕ → Type 0
IsFeaturesOf d bytes = IsOkAnd (reading_of bytes) (λ e. IsFeatures d e.message)
