-- Switches that are lost in a run, since their links fail, each with its place in the run. All of this is our own choice.
use Rattle.std.specs.Prelude.{ℕ, Bool, false, List, [], ◌∷◌, drop}

-- what becomes of the switch of a packet that is released: it stays, or is lost before the packet is sent, or behind it
pub data PacketLoss : Type 0 where
  Stays : PacketLoss
  BeforeSent : PacketLoss
  AfterSent : PacketLoss

-- In a turn: whether the switch of a message is lost at it, message by message; what becomes of the switches of the packets that are
-- released, packet by packet; those that are lost in each undo that the application asks for, undo by undo; and those that are lost in the
-- undoing of the turn, in order.
pub record TurnLosses : Type 0 where
  pub messages : List Bool
  pub packets : List PacketLoss
  pub inner : List (List ℕ)
  pub undone : List ℕ

-- In a run: whether the switch of a stimulus is lost while its items are handled, stimulus by stimulus; turn by turn; and those that are
-- lost at the end, when they are asked for their rows, in order.
pub record Losses : Type 0 where
  pub batches : List Bool
  pub turns : List TurnLosses
  pub last : List ℕ

-- ---- What comes next: behind the last one that is said, none is lost

abbrev pub no_loss : TurnLosses
no_loss = record { messages = []; packets = []; inner = []; undone = [] }

abbrev pub next_flag : List Bool → Bool
next_flag [] = false
next_flag (lost ∷ more) = lost

abbrev pub next_undo : List (List ℕ) → List ℕ
next_undo [] = []
next_undo (lost ∷ more) = lost

abbrev pub next_packet : List PacketLoss → PacketLoss
next_packet [] = Stays
next_packet (loss ∷ more) = loss

abbrev pub next_turn : List TurnLosses → TurnLosses
next_turn [] = no_loss
next_turn (losses ∷ more) = losses

-- one batch fewer is to come, or one turn
abbrev pub batch_fewer : Losses → Losses
batch_fewer l = record l { batches = drop 1 l.batches }

abbrev pub turn_fewer : Losses → Losses
turn_fewer l = record l { turns = drop 1 l.turns }
