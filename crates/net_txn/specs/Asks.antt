-- What `rows` does: a switch is asked for the statistics of all its flows, behind a barrier (OpenFlow 1.0.0, 5.3.5 Read State Messages:
-- Individual Flow Statistics, and 5.3.7 Barrier Message). Which messages answer, and what is a fault of the switch, is our own choice.
use Rattle.std.specs.Prelude.{◌≡◌, ℕ, List, [], ◌∷◌, ◌++◌, slice_get, Option, Some, None, Result, Ok, Err, IsOk, IfErr, MatchResult, ◌⊎◌}
use Rattle.of_wire.specs.declared.message.Message.TheVariants.{StatsRequest, BarrierReply}
use Rattle.of_wire.specs.Grammar.{IsMessage}
use Rattle.flow_table.specs.Refusals.{stats_refusal}
use Rattle.of_wire.specs.Spelling.{message_bytes}
use Rattle.of_stats.specs.declared.flow_row.FlowRow.{FlowRow}
use Rattle.of_stats.specs.Flows.{AreRows, SpellRows}
use Rattle.of_stats.specs.Parts.{part_at, IsWhole, joined}
use Rattle.of_stats.specs.Reading.{rows_of}
use Rattle.outside.specs.Seen.{Seen, Continues}
use Rattle.lego_model.specs.AfterFault.{SwitchesStay}
use Rattle.outside.specs.InOrder.{MessagesSince}
use Rattle.lego_model.specs.declared.fault.TxnFault.{TxnFault}
use Rattle.lego_model.specs.declared.fault.TxnFault.TheVariants.{SwitchBroke, Diverged, Flooded, NoMemory}
use Rattle.net_txn.specs.declared.halt.Halt.{Halt}
use Rattle.net_txn.specs.declared.halt.Halt.TheVariants.{Lost, Fault}
use Rattle.net_txn.specs.LinkSteps.{OnLinks, AsksWithoutStrays}
use Rattle.net_txn.specs.OwnIds.{KeepsIds}
use Rattle.net_txn.specs.Causes.{IsCause}
use Rattle.net_txn.specs.Net.{NetState}
use Rattle.lego_model.specs.History.{lost_of}
use Rattle.net_txn.specs.Losing.{IsLost, lost_net}
use Rattle.net_txn.specs.Waits.{Brought, Waits, IfFlooded, KeptMore}
use Rattle.lego_model.specs.BarrierWaits.{barrier_sent, next_xid}
use Rattle.of_wire.specs.declared.bodies.Stats.{Stats as Query}
use Rattle.outside.specs.declared.step.WorldStep.{WorldStep}
use Rattle.lego_model.specs.FlowQueries.{query_sent, flows_query, flows_request, request_sent, asked_from, parts_in, refusals_in, others_in, all_parts, IsBroken}

-- ---- A request of statistics to a switch, with its transaction id

-- one that every switch takes
pub record IsAsked (q : Query) : Type 0 where
  pub message : IsMessage (StatsRequest q)
  pub passed : stats_refusal q ≡ None

pub record Inquiry : Type 0 where
  pub dpid : ℕ
  pub xid : ℕ
  pub query : Query

-- what is sent for it: the request, and a barrier
abbrev pub inquiry_sent : Inquiry → List WorldStep
inquiry_sent i = query_sent i.dpid i.xid i.query ∷ barrier_sent (asked_from i.dpid i.xid) ∷ []

-- of the rows of all flows
abbrev pub rows_inquiry : ℕ → ℕ → Inquiry
rows_inquiry d xid = record { dpid = d; xid = xid; query = flows_query }

-- ---- What parts say

-- a whole reply of flows, which spells these rows
pub record AreRowsOf (messages : List (List ℕ)) (rows : List FlowRow) : Type 0 where
  pub whole : IsWhole (all_parts messages)
  pub kind : (part_at 0 (all_parts messages)).0 ≡ 1
  pub read : rows_of (joined (all_parts messages)) ≡ Ok rows
  pub fit : AreRows rows
  pub spelled_is : SpellRows rows (joined (all_parts messages))

-- of parts of a reply of a type, one at least; memory may be wanting at any time
abbrev pub IsPartsFault : ℕ → ℕ → List (List ℕ) → TxnFault → Type 0
IsPartsFault kind d messages (SwitchBroke of bytes) = (of ≡ d) × IsBroken kind messages bytes
IsPartsFault kind d messages NoMemory = Unit {0}
IsPartsFault kind d messages (Diverged of sent got) = ⊥
IsPartsFault kind d messages (Flooded of n) = ⊥

-- the first ERROR, or the reply to the barrier where nothing answered
abbrev pub IsRefusal : List (List ℕ) → List (List ℕ) → List ℕ → List ℕ → Type 0
IsRefusal parts refusals reply got = (slice_get refusals 0 ≡ Some got) ⊎ ((refusals ≡ []) × (parts ≡ []) × (got ≡ reply))

-- of what came for a request
abbrev pub IsRepliesFault : ℕ → List ℕ → List ℕ → List (List ℕ) → List (List ℕ) → TxnFault → Type 0
IsRepliesFault d request reply parts refusals (SwitchBroke of bytes) = (of ≡ d) × (refusals ≡ []) × IsBroken 1 parts bytes
IsRepliesFault d request reply parts refusals (Diverged of sent got) = (of ≡ d) × (sent ≡ request) × IsRefusal parts refusals reply got
IsRepliesFault d request reply parts refusals NoMemory = Unit {0}
IsRepliesFault d request reply parts refusals (Flooded of n) = ⊥

-- ---- The whole, from a transaction id on

-- The request was sent, then a barrier, and its reply came; of what came before it, what does not answer the request is kept.
pub record AnsweredFor {Own : Type 0} (Tells : Type 0) (i : Inquiry) (old new : Seen Own) (kept now_kept came : List (ℕ × List ℕ)) : Type 0 where
  pub brought : Brought
  pub waits : Waits Tells (asked_from i.dpid i.xid) (inquiry_sent i) old new [] came brought
  pub kept_is : now_kept ≡ kept ++ others_in i.xid came

abbrev pub Answered : {Own : Type 0} → Type 0 → ℕ → ℕ → Seen Own → Seen Own → List (ℕ × List ℕ) → List (ℕ × List ℕ) → List (ℕ × List ℕ) → Type 0
Answered Tells d xid old new kept now_kept came = AnsweredFor Tells (rows_inquiry d xid) old new kept now_kept came

-- It ends by a fault, with such a cause: no switch is lost, and none moves.
pub record InquiryFails {Own : Type 0} (Tells : Type 0) (i : Inquiry) (old new : Seen Own) (Cause : TxnFault → Type 0) (fault : TxnFault) : Type 0 where
  pub cause : Cause fault
  pub flooded : IfFlooded Tells (asked_from i.dpid i.xid) (inquiry_sent i) old new fault
  pub losses : Tells → lost_of new ≡ lost_of old
  pub still : Tells → SwitchesStay old new

-- how it ends before its end: its switch was lost, or a fault came
abbrev pub InquiryHalts : {Own : Type 0} → Type 0 → Inquiry → Seen Own → Seen Own → (TxnFault → Type 0) → Halt → Type 0
InquiryHalts Tells i old new Cause Lost = IsLost Tells i.dpid [] old new × (Tells → MessagesSince old new)
InquiryHalts Tells i old new Cause (Fault fault) = InquiryFails Tells i old new Cause fault

-- no ERROR answered, and the rows are those of the parts
pub record GivesRows {Own : Type 0} (Tells : Type 0) (d xid : ℕ) (old new : Seen Own) (kept now_kept : List (ℕ × List ℕ)) (rows : List FlowRow) : Type 0 where
  pub came : List (ℕ × List ℕ)
  pub answered : Answered Tells d xid old new kept now_kept came
  pub no_refusal : refusals_in xid came ≡ []
  pub rows_is : AreRowsOf (parts_in xid came) rows

-- a fault of the wait, or of what came
abbrev pub IsAskCause : {Own : Type 0} → Type 0 → ℕ → ℕ → Seen Own → Seen Own → List (ℕ × List ℕ) → List (ℕ × List ℕ) → TxnFault → Type 0
IsAskCause Tells d xid old new kept now_kept fault =
    IsCause Tells d old new fault
    ⊎ ((came : List (ℕ × List ℕ)) × Answered Tells d xid old new kept now_kept came
    × IsRepliesFault d (flows_request xid) (message_bytes (next_xid xid) BarrierReply) (parts_in xid came) (refusals_in xid came) fault)

-- The rows, or why there are none; more messages of the switch may be kept. Flooded comes only where 65,536 messages were got behind the
-- barrier, none of them its reply.
pub record AsksJoined {Own : Type 0} (Tells : Type 0) (d : ℕ) (old new : Seen Own) (net now_net : NetState) (result : Result (List FlowRow) TxnFault) : Type 0 where
  pub kept_more : KeptMore d net.kept now_net.kept
  pub answer : MatchResult result (GivesRows Tells d net.xid old new net.kept now_net.kept) (IsAskCause Tells d net.xid old new net.kept now_net.kept)
  pub flooded : IfErr result (IfFlooded Tells (asked_from d net.xid) (request_sent d net.xid ∷ barrier_sent (asked_from d net.xid) ∷ []) old new)
  -- no switch is lost; views, ports, log and moment stay
  pub losses : Tells → lost_of new ≡ lost_of old
  pub stays : now_net ≡ record net { xid = next_xid (next_xid net.xid); kept = now_net.kept }

-- the switch was lost
pub record AsksLost {Own : Type 0} (Tells : Type 0) (d : ℕ) (old new : Seen Own) (net now_net : NetState) : Type 0 where
  pub is_lost : IsLost Tells d [] old new
  pub net_is : now_net ≡ record (lost_net d net) { xid = now_net.xid }

abbrev pub AsksSo : {Own : Type 0} → Type 0 → ℕ → Seen Own → Seen Own → NetState → NetState → Result (Option (List FlowRow)) TxnFault → Type 0
AsksSo Tells d old new net now_net (Ok (Some rows)) = AsksJoined Tells d old new net now_net (Ok rows)
AsksSo Tells d old new net now_net (Ok None) = AsksLost Tells d old new net now_net
AsksSo Tells d old new net now_net (Err fault) = AsksJoined Tells d old new net now_net (Err fault)

-- The rows; or none, where the switch was lost; or why there are none. The calls are those of links alone, and in place where the world tells in
-- order and the switch is joined; after Ok all bytes that came were messages.
pub record Asks {Own : Type 0} (Tells : Type 0) (d : ℕ) (old new : Seen Own) (net now_net : NetState) (result : Result (Option (List FlowRow)) TxnFault) : Type 0 where
  pub continues : Continues Tells old new
  pub links : OnLinks Tells old new
  pub no_strays : AsksWithoutStrays Tells d old new
  pub read : IsOk result → Tells → MessagesSince old new
  pub ids : KeepsIds Tells 2 old new net.xid now_net.xid result
  pub asks : AsksSo Tells d old new net now_net result
