-- What becomes of an application's request of statistics: its switch is asked, behind a barrier, and the answer is the switch's own (OpenFlow
-- 1.0.0, 5.3.5 Read State Messages and 5.3.7 Barrier Message). Which messages answer, and what is a fault of the switch, is our own choice.
use Rattle.std.specs.Prelude.{◌≡◌, ◌≢◌, ◌⊎◌, ℕ, List, [], ◌++◌, drop, Bool, true, false, Some, Result, Ok, IsOk, IsErr, IfOk, IfErr, MatchResult}
use Rattle.of_wire.specs.declared.message.Message.TheVariants.{StatsRequest, BarrierReply}
use Rattle.of_wire.specs.Spelling.{message_bytes}
use Rattle.of_stats.specs.Parts.{joined}
use Rattle.of_stats.specs.Reading.{rows_of}
use Rattle.flow_table.specs.Switch.{SwitchState}
use Rattle.app_frames.specs.declared.frame.Answer.{Answer}
use Rattle.app_frames.specs.declared.frame.Answer.TheVariants.{Unknown}
use Rattle.app_frames.specs.declared.frame.HostFrame.TheVariants as host
use Rattle.app_frames.specs.Frames.{HostFits}
use Rattle.outside.specs.declared.step.WorldStep.{WorldStep}
use Rattle.outside.specs.Seen.{Seen, Continues, journal}
use Rattle.outside.specs.State.{state, switch_of, waits_of}
use Rattle.outside.specs.Conforming.{Conforming}
use Rattle.outside.specs.InOrder.{MessagesSince}
use Rattle.lego_model.specs.declared.fault.TxnFault.{TxnFault}
use Rattle.lego_model.specs.declared.fault.TxnFault.TheVariants.{SwitchBroke, Diverged, Flooded, NoMemory}
use Rattle.lego_model.specs.Answers.{switch_answer}
use Rattle.lego_model.specs.AtOnce.{all_got, AsksAtOnce}
use Rattle.lego_model.specs.BarrierWaits.{next_xid}
use Rattle.lego_model.specs.History.{lost_of}
use Rattle.lego_model.specs.FlowQueries.{query_bytes, asked_from, parts_in, refusals_in, all_parts, IsBadBody, IsBroken, IsReplyOf, IsAnswerTo}
use Rattle.net_txn.specs.declared.halt.Halt.{Halt}
use Rattle.net_txn.specs.Causes.{IsCause}
use Rattle.net_txn.specs.AskSteps.{IsAskFault}
use Rattle.net_txn.specs.Said.{Speaks}
use Rattle.net_txn.specs.Waits.{IfFlooded, KeptMore}
use Rattle.net_txn.specs.Losing.{IsLost, lost_net}
use Rattle.net_txn.specs.LinkSteps.{OnLinks, AsksWithoutStrays}
use Rattle.net_txn.specs.OwnIds.{KeepsIds}
use Rattle.net_txn.specs.Net.{NetState}
use Rattle.lego_model.specs.AfterFault.{SwitchesStay}
use Rattle.net_txn.specs.Asks.{Inquiry, inquiry_sent, AnsweredFor, InquiryHalts}

-- ---- The answer, by what came

pub record GivesAnswer {Own : Type 0} (Tells : Type 0) (i : Inquiry) (old new : Seen Own) (kept now_kept : List (ℕ × List ℕ)) (answer : Answer) : Type 0 where
  pub came : List (ℕ × List ℕ)
  pub answered : AnsweredFor Tells i old new kept now_kept came
  pub answers : IsAnswerTo i.query.kind (refusals_in i.xid came) (parts_in i.xid came) answer
  -- its frame can be written
  pub fits : HostFits (host.Answer answer)

-- ---- What is looked at in a reply

-- rows of flows are read of these bytes, or not
abbrev pub IsRowsTold : List ℕ → Bool → Type 0
IsRowsTold body true = IsErr (rows_of body) → ⊥
IsRowsTold body false = IsErr (rows_of body)

-- the body is as that of a reply of a type is, or not
abbrev pub IsBodyTold : ℕ → List ℕ → Bool → Type 0
IsBodyTold kind body true = IsBadBody kind body → ⊥
IsBodyTold kind body false = IsBadBody kind body

-- the body of a whole reply of that type
abbrev pub IsBodyOf : ℕ → List (List ℕ) → List ℕ → Type 0
IsBodyOf kind parts body = IsReplyOf kind parts × (body ≡ joined (all_parts parts))

-- ---- Faults

-- no ERROR came, and a part is at fault, or none came; or memory was wanting
abbrev pub IsFaultOf : ℕ → ℕ → List ℕ → List ℕ → List (List ℕ) → List (List ℕ) → TxnFault → Type 0
IsFaultOf kind d request reply parts refusals (SwitchBroke of bytes) = (of ≡ d) × (refusals ≡ []) × IsBroken kind parts bytes
IsFaultOf kind d request reply parts refusals (Diverged of sent got) = (of ≡ d) × (sent ≡ request) × (refusals ≡ []) × (parts ≡ []) × (got ≡ reply)
IsFaultOf kind d request reply parts refusals NoMemory = Unit {0}
IsFaultOf kind d request reply parts refusals (Flooded of n) = ⊥

abbrev pub IsReplyFault : Inquiry → List (List ℕ) → List (List ℕ) → TxnFault → Type 0
IsReplyFault i parts refusals fault = IsFaultOf i.query.kind i.dpid (query_bytes i.xid i.query) (message_bytes (next_xid i.xid) BarrierReply) parts refusals fault

-- of what came
pub record IsReplyCause {Own : Type 0} (Tells : Type 0) (i : Inquiry) (old new : Seen Own) (kept now_kept : List (ℕ × List ℕ)) (fault : TxnFault) : Type 0 where
  pub came : List (ℕ × List ℕ)
  pub answered : AnsweredFor Tells i old new kept now_kept came
  pub why : IsReplyFault i (parts_in i.xid came) (refusals_in i.xid came) fault

-- of the wait, or of what came
abbrev pub IsQueryCause : {Own : Type 0} → Type 0 → Inquiry → Seen Own → Seen Own → List (ℕ × List ℕ) → List (ℕ × List ℕ) → TxnFault → Type 0
IsQueryCause Tells i old new kept now_kept fault = IsCause Tells i.dpid old new fault ⊎ IsReplyCause Tells i old new kept now_kept fault

-- its switch was lost, or a fault came, which loses no switch
abbrev pub QueryHalts : {Own : Type 0} → Type 0 → Inquiry → Seen Own → Seen Own → List (ℕ × List ℕ) → List (ℕ × List ℕ) → Halt → Type 0
QueryHalts Tells i old new kept now_kept halt = InquiryHalts Tells i old new (IsQueryCause Tells i old new kept now_kept) halt

-- ---- From a transaction id on

pub record QueriesFrom {Own : Type 0} (Tells : Type 0) (i : Inquiry) (old new : Seen Own) (kept now_kept : List (ℕ × List ℕ)) (result : Result Answer Halt) : Type 0 where
  pub speaks : Speaks Tells i.dpid i.xid 2 old new
  pub kept_more : KeptMore i.dpid kept now_kept
  pub answer : MatchResult result (GivesAnswer Tells i old new kept now_kept) (QueryHalts Tells i old new kept now_kept)
  pub still : IfOk result (λ answer. Tells → SwitchesStay old new)

-- ---- In a world that tells

-- Since then the request reached its switch, behind it a barrier, and the barrier's reply came; the answer is by what came.
pub record AskedSince (i : Inquiry) (answer : Answer) (old new : List WorldStep) : Type 0 where
  pub steps : List WorldStep
  pub since : new ≡ old ++ steps
  pub asks : AsksAtOnce i.dpid i.query (journal steps)
  pub answers : IsAnswerTo i.query.kind (refusals_in asks.xid (all_got i.dpid (drop asks.sent (journal steps)))) (parts_in asks.xid (all_got i.dpid (drop asks.sent (journal steps)))) answer

-- ---- In a world that keeps its word

-- The answer is the switch's own; nothing of the switch waits, no switch moves, and nothing is kept.
pub record AnsweredInStep {Own : Type 0} (i : Inquiry) (s : SwitchState) (old new : Seen Own) (kept now_kept : List (ℕ × List ℕ)) (answer : Answer) : Type 0 where
  pub answer_is : answer ≡ switch_answer s (StatsRequest i.query)
  pub waits : waits_of i.dpid (state new) ≡ []
  pub stays : switch_of i.dpid (state new) ≡ Some s
  pub others : (e : ℕ) → e ≢ i.dpid → switch_of e (state new) ≡ switch_of e (state old)
  pub others_wait : (e : ℕ) → e ≢ i.dpid → waits_of e (state new) ≡ waits_of e (state old)
  pub kept_is : now_kept ≡ kept

-- where it was joined and nothing of it waited; a fault is then one of memory, or the switch's own rows have no spelling
abbrev pub QuerySteps : {Own : Type 0} → Type 0 → Inquiry → Seen Own → Seen Own → List (ℕ × List ℕ) → List (ℕ × List ℕ) → Result Answer TxnFault → Type 0
QuerySteps Tells i old new kept now_kept result =
    (s : SwitchState) → Tells → Conforming new → switch_of i.dpid (state old) ≡ Some s → waits_of i.dpid (state old) ≡ [] → MatchResult result (AnsweredInStep i s old new kept now_kept) (IsAskFault i.dpid s)

-- ---- The whole, where its switch was not lost: the answer, or why there is none; nothing changes but the transaction id, and more messages of
-- the switch may be kept.

pub record Queries {Own : Type 0} (Tells : Type 0) (i : Inquiry) (old new : Seen Own) (net now_net : NetState) (result : Result Answer TxnFault) : Type 0 where
  pub kept_more : KeptMore i.dpid net.kept now_net.kept
  pub answer : MatchResult result (GivesAnswer Tells i old new net.kept now_net.kept) (IsQueryCause Tells i old new net.kept now_net.kept)
  pub flooded : IfErr result (IfFlooded Tells (asked_from i.dpid i.xid) (inquiry_sent i) old new)
  pub stays : now_net ≡ record net { xid = now_net.xid; kept = now_net.kept }
  pub losses : Tells → lost_of new ≡ lost_of old
  pub still : Tells → SwitchesStay old new
  pub reached : Tells → IfOk result (λ answer. AskedSince i answer old.history new.history)
  pub in_step : QuerySteps Tells i old new net.kept now_net.kept result

-- its switch was lost: nothing else changes of what the host keeps but the transaction id
pub record QueryLost {Own : Type 0} (Tells : Type 0) (i : Inquiry) (old new : Seen Own) (net now_net : NetState) : Type 0 where
  pub is_lost : IsLost Tells i.dpid [] old new
  pub net_is : now_net ≡ record (lost_net i.dpid net) { xid = now_net.xid }

-- Answered, or a fault; or its switch was lost, and it is answered by Unknown. The calls are those of links alone, and in place where the world tells
-- in order and the switch is joined; after Ok all bytes that came were messages.
pub record Queried {Own : Type 0} (Tells : Type 0) (i : Inquiry) (old new : Seen Own) (net now_net : NetState) (result : Result Answer TxnFault) : Type 0 where
  pub continues : Continues Tells old new
  pub links : OnLinks Tells old new
  pub no_strays : AsksWithoutStrays Tells i.dpid old new
  pub read : IsOk result → Tells → MessagesSince old new
  pub ids : KeepsIds Tells 2 old new net.xid now_net.xid result
  pub queried : Queries Tells i old new net now_net result ⊎ ((result ≡ Ok Unknown) × QueryLost Tells i old new net now_net)
