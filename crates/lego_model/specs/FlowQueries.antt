-- A switch is asked for statistics, behind a barrier (OpenFlow 1.0.0, 5.3.5 Read State Messages and 5.3.7 Barrier Message): by the controller
-- for all its flows, and by an application for what it likes. The request, which messages answer it, and which of these are a fault of the
-- switch. Which messages answer, and what is a fault, is our own choice.
use Rattle.std.specs.Prelude.{◌≡◌, ◌≢◌, ◌==◌, ℕ, ◌+◌, Bool, ◌&&◌, ◌||◌, nat_le, List, [], ◌∷◌, length, drop, map, slice_get, Some, IsErr, ◌⊎◌, if◌then◌else◌}
use Rattle.std.specs.List.{flat_map}
use Rattle.of_types.specs.Fields.{number_at}
use Rattle.of_types.specs.Layout.{spelled}
use Rattle.of_types.specs.declared.journal.Act.TheVariants.{Sent}
use Rattle.of_match.specs.Fields.{bytes_of, any_fields}
use Rattle.of_match.specs.Match.{match_of}
use Rattle.of_wire.specs.declared.bodies.Stats.{Stats as Query}
use Rattle.of_wire.specs.declared.message.Message.TheVariants.{StatsRequest}
use Rattle.app_frames.specs.declared.frame.Answer.{Answer}
use Rattle.app_frames.specs.declared.frame.Answer.TheVariants.{Error, Statistics}
use Rattle.of_wire.specs.Spelling.{message_bytes}
use Rattle.of_wire.specs.Stats.{flow_query_fields}
use Rattle.of_stats.specs.Parts.{Part, part_at, IsWhole, IsFirstBad, joined}
use Rattle.of_stats.specs.Reading.{rows_of}
use Rattle.outside.specs.declared.step.WorldStep.{WorldStep}
use Rattle.outside.specs.declared.step.WorldStep.TheVariants.{Acted}
use Rattle.lego_model.specs.declared.wait.Awaited.{Awaited}
use Rattle.lego_model.specs.declared.wait.Notices.TheVariants as notices
use Rattle.lego_model.specs.BarrierWaits.{next_xid, refusal_of}

-- ---- A request, with a transaction id

abbrev pub query_bytes : ℕ → Query → List ℕ
query_bytes xid q = message_bytes xid (StatsRequest q)

abbrev pub query_sent : ℕ → ℕ → Query → WorldStep
query_sent d xid q = Acted (Sent d (query_bytes xid q))

-- ---- The controller's own: flows of any match, in all tables, whatever their outputs

unfoldable pub all_flows : List ℕ
all_flows = spelled (flow_query_fields (record { matching = match_of (bytes_of any_fields); table_id = 0xff; out_port = 0xffff }))

abbrev pub flows_query : Query
flows_query = record { kind = 1; flags = 0; body = all_flows }

abbrev pub flows_request : ℕ → List ℕ
flows_request xid = query_bytes xid flows_query

abbrev pub request_sent : ℕ → ℕ → WorldStep
request_sent d xid = query_sent d xid flows_query

-- the request is sent, and then a barrier; no refusal is awaited, so that an ERROR comes as a part does
abbrev pub asked_from : ℕ → ℕ → Awaited
asked_from d xid = record { dpid = d; first = next_xid xid; barrier = next_xid xid; notices = notices.Kept }

-- ---- Which of the messages that came answer it: those of its transaction id that are a STATS_REPLY (17) or an ERROR (1), which both
-- have 12 bytes at least.

unfoldable pub is_about : ℕ → ℕ → List ℕ → Bool
is_about xid kind bytes = nat_le 12 (length bytes) && (number_at 4 4 bytes == xid && number_at 1 1 bytes == kind)

abbrev pub part_in : ℕ → ℕ × List ℕ → List (List ℕ)
part_in xid m = if is_about xid 17 m.1 then m.1 ∷ [] else []

abbrev pub refusal_in : ℕ → ℕ × List ℕ → List (List ℕ)
refusal_in xid m = if is_about xid 1 m.1 then m.1 ∷ [] else []

abbrev pub parts_in : ℕ → List (ℕ × List ℕ) → List (List ℕ)
parts_in xid came = flat_map (part_in xid) came

abbrev pub refusals_in : ℕ → List (ℕ × List ℕ) → List (List ℕ)
refusals_in xid came = flat_map (refusal_in xid) came

-- the others are kept
abbrev pub other_in : ℕ → ℕ × List ℕ → List (ℕ × List ℕ)
other_in xid m = if is_about xid 17 m.1 || is_about xid 1 m.1 then [] else m ∷ []

abbrev pub others_in : ℕ → List (ℕ × List ℕ) → List (ℕ × List ℕ)
others_in xid came = flat_map (other_in xid) came

-- ---- What parts say

-- type, flags and body
unfoldable pub part_of : List ℕ → Part
part_of bytes = (number_at 2 8 bytes, number_at 2 10 bytes, drop 12 bytes)

abbrev pub all_parts : List (List ℕ) → List Part
all_parts messages = map part_of messages

-- what the parts of a reply of a type spell is at fault: rows of flows (1) are not read, or a sum (2) has not 24 bytes
abbrev pub IsBadBody : ℕ → List ℕ → Type 0
IsBadBody kind body = ((kind ≡ 1) × IsErr (rows_of body)) ⊎ ((kind ≡ 2) × (length body ≢ 24))

-- why the message at a position is at fault for a request of a type: as a part, or by its type, or as the last one of a whole that spells what
-- no such reply does
abbrev pub WhyBroken : ℕ → List (List ℕ) → ℕ → Type 0
WhyBroken kind messages position =
    IsFirstBad position (all_parts messages)
    ⊎ (IsWhole (all_parts messages) × ((part_at position (all_parts messages)).0 ≢ kind))
    ⊎ (IsWhole (all_parts messages) × (position + 1 ≡ length messages) × IsBadBody kind (joined (all_parts messages)))

abbrev pub IsBroken : ℕ → List (List ℕ) → List ℕ → Type 0
IsBroken kind messages bytes = (position : ℕ) × (slice_get messages position ≡ Some bytes) × WhyBroken kind messages position

-- ---- What an application is answered: the first ERROR, or the type and the bodies of the parts, one after the other

-- the parts are a whole reply of that type
pub record IsReplyOf (kind : ℕ) (parts : List (List ℕ)) : Type 0 where
  pub whole : IsWhole (all_parts parts)
  pub kind_is : (part_at 0 (all_parts parts)).0 ≡ kind
  pub body : IsBadBody kind (joined (all_parts parts)) → ⊥

abbrev pub IsAnswerTo : ℕ → List (List ℕ) → List (List ℕ) → Answer → Type 0
IsAnswerTo kind (refusal ∷ others) parts answer = answer ≡ Error (refusal_of refusal).error
IsAnswerTo kind [] parts answer = IsReplyOf kind parts × (answer ≡ Statistics kind (joined (all_parts parts)))
