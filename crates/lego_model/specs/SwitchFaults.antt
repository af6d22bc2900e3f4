-- Why a run ends that a switch is at fault for: each cause stands in the history, which tells what came from the switch, and what was sent to
-- it before. All of this is our own choice but for the messages of OpenFlow 1.0.0.
use Rattle.std.specs.Prelude.{◌≡◌, ℕ, ◌≤◌, ◌⊎◌, false, List, [], ◌∷◌, ◌++◌, length, Some, IsErr}
use Rattle.std.specs.List.{AllByRecursion}
use Rattle.of_types.specs.Fields.{number_at}
use Rattle.of_types.specs.declared.journal.Act.TheVariants.{Sent, Got}
use Rattle.of_match.specs.declared.key.Key.{Key}
use Rattle.of_wire.specs.Reading.{reading_of}
use Rattle.of_wire.specs.Spelling.{message_bytes}
use Rattle.of_wire.specs.declared.bodies.PacketOut.{PacketOut as Packet}
use Rattle.of_wire.specs.declared.bodies.Stats.{Stats as Query}
use Rattle.of_wire.specs.declared.message.Message.TheVariants.{PacketOut, BarrierReply}
use Rattle.flow_table.specs.Switch.{SwitchState}
use Rattle.flow_table.specs.Step.{sent_by_message}
use Rattle.outside.specs.declared.step.WorldStep.{WorldStep}
use Rattle.outside.specs.declared.step.WorldStep.TheVariants.{Acted, From}
use Rattle.outside.specs.Seen.{Seen, Longer}
use Rattle.outside.specs.State.{state, switch_of}
use Rattle.lego_model.specs.declared.fault.TxnFault.{TxnFault}
use Rattle.lego_model.specs.declared.fault.TxnFault.TheVariants.{SwitchBroke, Diverged, Flooded, NoMemory}
use Rattle.lego_model.specs.declared.wait.Awaited.{Awaited}
use Rattle.lego_model.specs.BarrierWaits.{flood, next_xid, heard, is_reply, kept_of, wait_steps, barrier_sent, reply_got}
use Rattle.lego_model.specs.UndoFaults.{inverse_bytes}
use Rattle.lego_model.specs.FlowQueries.{query_bytes, query_sent, flows_query, flows_request, asked_from, parts_in, refusals_in, IsBroken}

-- ---- What a history tells of a switch

-- these steps happened since then, each right behind the one before it
pub record Happened (steps old new : List WorldStep) : Type 0 where
  pub before : List WorldStep
  pub behind : List WorldStep
  pub told : new ≡ old ++ (before ++ (steps ++ behind))

-- the bytes came from the switch: they were told as what comes next, or got by a call for it
abbrev pub CameFrom : ℕ → List ℕ → List WorldStep → List WorldStep → Type 0
CameFrom d bytes old new = Happened (From d bytes ∷ []) old new ⊎ Happened (Acted (Got d bytes) ∷ []) old new

-- a message was sent to the switch, and behind it these bytes were got from it
abbrev pub SentThenGot : ℕ → List ℕ → List ℕ → List WorldStep → List WorldStep → Type 0
SentThenGot d sent got old new = (between : List WorldStep) × Happened (Acted (Sent d sent) ∷ (between ++ Acted (Got d got) ∷ [])) old new

-- ---- A request of statistics (5.3.5 Read State Messages): it was sent, then a barrier, and behind these messages the barrier's reply was got.

abbrev pub query_steps : ℕ → ℕ → Query → List (List ℕ) → List WorldStep
query_steps d xid q got = query_sent d xid q ∷ barrier_sent (asked_from d xid) ∷ (wait_steps (asked_from d xid) got ++ reply_got (asked_from d xid) ∷ [])

-- of the rows of all flows
abbrev pub rows_steps : ℕ → ℕ → List (List ℕ) → List WorldStep
rows_steps d xid got = query_steps d xid flows_query got

-- those of the messages that may answer it
abbrev pub came_for : ℕ → ℕ → List (List ℕ) → List (ℕ × List ℕ)
came_for d xid got = kept_of (asked_from d xid) got

-- No ERROR answered, and the bytes are a part of the reply, a STATS_REPLY (17), that is at fault in it.
pub record IsBadPart {Own : Type 0} (Tells : Type 0) (d : ℕ) (bytes : List ℕ) (old new : Seen Own) : Type 0 where
  pub xid : ℕ
  pub query : Query
  pub got : List (List ℕ)
  pub kind : number_at 1 1 bytes ≡ 17
  pub no_refusal : refusals_in xid (came_for d xid got) ≡ []
  pub broken : IsBroken query.kind (parts_in xid (came_for d xid got)) bytes
  pub told : Tells → Happened (query_steps d xid query got) old.history new.history

-- The reply to the barrier was got, and nothing that came before it answered.
pub record IsUnanswered {Own : Type 0} (Tells : Type 0) (d : ℕ) (sent reply : List ℕ) (old new : Seen Own) : Type 0 where
  pub xid : ℕ
  pub query : Query
  pub got : List (List ℕ)
  pub sent_is : sent ≡ query_bytes xid query
  pub reply_is : reply ≡ message_bytes (next_xid xid) BarrierReply
  pub no_part : parts_in xid (came_for d xid got) ≡ []
  pub no_refusal : refusals_in xid (came_for d xid got) ≡ []
  pub told : Tells → Happened (query_steps d xid query got) old.history new.history

-- ---- What else a switch is at fault for

-- what the controller asks of its own, with this transaction id: an inverse, or a request of rows
abbrev pub IsOwn : ℕ → List ℕ → Type 0
IsOwn xid sent = ((key : Key) × (sent ≡ inverse_bytes xid key)) ⊎ (sent ≡ flows_request xid)

-- an ERROR (1, in 5.4.4) with the transaction id of what was asked
pub record IsErrorFor (sent got : List ℕ) : Type 0 where
  pub kind : number_at 1 1 got ≡ 1
  pub sent_is : IsOwn (number_at 4 4 got) sent

-- So many messages were got behind a barrier that was sent to the switch, and none of them is its reply (5.3.7 Barrier Message).
pub record IsFlood {Own : Type 0} (Tells : Type 0) (d n : ℕ) (old new : Seen Own) : Type 0 where
  pub awaited : Awaited
  pub of_switch : awaited.dpid ≡ d
  pub got : List (List ℕ)
  pub many : length got ≡ n
  pub before_reply : AllByRecursion (λ b. is_reply (heard awaited b) ≡ false) got
  pub told : Tells → Happened (barrier_sent awaited ∷ wait_steps awaited got) old.history new.history

-- ---- A flood that the controller brings about in a world that keeps its word

-- A packet was sent to the switch (5.3.6 Send Packet Message) as it stood then, which made it send at least as many messages as are too many.
pub record FloodedByPacket {Own : Type 0} (d : ℕ) (old new : Seen Own) : Type 0 where
  pub mid : Seen Own
  pub given : mid.given ≡ new.given
  pub before : Longer old.history mid.history
  pub packet : Packet
  pub switch : SwitchState
  pub stands : switch_of d (state mid) ≡ Some switch
  pub many : flood ≤ length (sent_by_message 0 (PacketOut packet) switch)
  pub xid : ℕ
  pub sent : Longer (mid.history ++ Acted (Sent d (message_bytes xid (PacketOut packet))) ∷ []) new.history

-- ---- The cause of a fault

-- Of a switch: bytes came from it that are no message, or a bad part of a reply to a request of statistics; an inverse or a request of rows was
-- answered by an ERROR, or a request of statistics by nothing; or too many messages came from it, behind a barrier.
abbrev pub IsWhyTxn : {Own : Type 0} → Type 0 → Seen Own → Seen Own → TxnFault → Type 0
IsWhyTxn Tells old new (Flooded d n) = (n ≡ flood) × IsFlood Tells d n old new
IsWhyTxn Tells old new NoMemory = ⊥
IsWhyTxn Tells old new (SwitchBroke d bytes) = (Tells → CameFrom d bytes old.history new.history) × (IsErr (reading_of bytes) ⊎ IsBadPart Tells d bytes old new)
IsWhyTxn Tells old new (Diverged d sent got) = (Tells → SentThenGot d sent got old.history new.history) × (IsErrorFor sent got ⊎ IsUnanswered Tells d sent got old new)
