-- What becomes of a notice that an entry was deleted (FLOW_REMOVED with the reason DELETE: OpenFlow 1.0.0, 5.4.2 Flow Removed Message) where the host
-- has a row of its key. A notice may come long behind what it tells, and names an entry by its key alone: so it may be of an entry that the host deleted
-- itself, while a later one stands. The switch is asked for the rows of the key (5.3.5 Read State Messages: Individual Flow Statistics), and the notice is
-- taken in only where none of them has it. All of this is our own choice.
use Rattle.std.specs.Prelude.{◌≡◌, ◌⊎◌, ◌==◌, ℕ, Bool, true, false, not, ◌&&◌, List, Option, Some, None, Result, Ok, Err, if◌then◌else◌}
use Rattle.std.specs.List.{list_any}
use Rattle.of_types.specs.Layout.{spelled}
use Rattle.of_match.specs.declared.key.Key.{Key}
use Rattle.of_match.specs.Key.{key_number}
use Rattle.of_wire.specs.declared.bodies.Stats.{Stats as Query}
use Rattle.of_wire.specs.declared.message.Message.{Message}
use Rattle.of_wire.specs.declared.message.Message.TheVariants.{FlowRemoved}
use Rattle.of_wire.specs.declared.message.Envelope.{Envelope}
use Rattle.of_wire.specs.declared.fault.WireFault.{WireFault}
use Rattle.of_wire.specs.Stats.{flow_query_fields}
use Rattle.of_stats.specs.declared.flow_row.FlowRow.{FlowRow}
use Rattle.of_stats.specs.declared.fault.StatsFault.{StatsFault}
use Rattle.of_stats.specs.Reading.{rows_of}
use Rattle.flow_table.specs.View.{TableView}
use Rattle.flow_table.specs.RowKeys.{key_removed}
use Rattle.app_frames.specs.declared.frame.Answer.{Answer}
use Rattle.app_frames.specs.declared.frame.Answer.TheVariants.{Statistics}
use Rattle.app_frames.specs.declared.frame.Event.{Event}
use Rattle.outside.specs.Seen.{Seen}
use Rattle.lego_model.specs.declared.fault.TxnFault.{TxnFault}
use Rattle.lego_model.specs.declared.fault.TxnFault.TheVariants.{NoMemory}
use Rattle.net_txn.specs.Net.{NetState}
use Rattle.net_txn.specs.Views.{is_row_at}
use Rattle.net_txn.specs.Asks.{Inquiry}
use Rattle.net_txn.specs.Queries.{Queried}
use Rattle.net_txn.specs.Arriving.{Arrives}

-- ---- Which notices are in doubt

-- the key, where the message tells that its entry was deleted (2), and a row of the switch has it
abbrev pub doubted_in : ℕ → List TableView → Message → Option Key
doubted_in d views (FlowRemoved f) = if f.reason == 2 && is_row_at d (key_removed f) views then Some (key_removed f) else None
doubted_in d views other = None

abbrev pub doubted : ℕ → List TableView → Result Envelope WireFault → Option Key
doubted d views (Ok e) = doubted_in d views e.message
doubted d views (Err fault) = None

-- ---- What is asked: the flows that the match of the key subsumes, in all tables (0xff), whatever their outputs (NONE, 0xffff)

unfoldable pub key_flows : Key → List ℕ
key_flows k = spelled (flow_query_fields (record { matching = k.matching; table_id = 0xff; out_port = 0xffff }))

abbrev pub key_query : Key → Query
key_query k = record { kind = 1; flags = 0; body = key_flows k }

abbrev pub key_inquiry : ℕ → ℕ → Key → Inquiry
key_inquiry d xid k = record { dpid = d; xid = xid; query = key_query k }

-- ---- Whether the entry is gone

abbrev pub has_row : Key → List FlowRow → Bool
has_row k rows = list_any (λ r. key_number r.key == key_number k) rows

abbrev pub lacks_row : Key → Result (List FlowRow) StatsFault → Bool
lacks_row k (Ok rows) = not (has_row k rows)
lacks_row k (Err fault) = false

-- the answer is rows, none of which has the key; an ERROR, or that the switch was lost, says nothing of it
abbrev pub shows_gone : Key → Answer → Bool
shows_gone k (Statistics kind body) = lacks_row k (rows_of body)
shows_gone k other = false

-- ---- The whole

-- what is done behind the answer: where the entry is gone the notice is taken in as any other message; else it is dropped, and nothing is done
abbrev pub TakesIfGone : {Own : Type 0} → Type 0 → ℕ → List ℕ → Bool → Seen Own → Seen Own → NetState → NetState → Result (Option Event) TxnFault → Type 0
TakesIfGone Tells d frame true old new net now_net result = Arrives Tells d frame old new net now_net result
TakesIfGone Tells d frame false old new net now_net result = (result ≡ Ok None) × (new ≡ old) × (now_net ≡ net)

-- memory was wanting, and nothing was done
abbrev pub RunsShort : {Own : Type 0} → Seen Own → Seen Own → NetState → NetState → Result (Option Event) TxnFault → Type 0
RunsShort old new net now_net result = (result ≡ Err NoMemory) × (new ≡ old) × (now_net ≡ net)

-- the switch was asked and there is an answer, by which the notice is taken in or dropped, unless memory is wanting to read it
pub record SettlesBy {Own : Type 0} (Tells : Type 0) (d : ℕ) (frame : List ℕ) (key : Key) (old new : Seen Own) (net now_net : NetState) (result : Result (Option Event) TxnFault) : Type 0 where
  pub answer : Answer
  pub mid : Seen Own
  pub mid_net : NetState
  pub asked : Queried Tells (key_inquiry d net.xid key) old mid net mid_net (Ok answer)
  pub takes : TakesIfGone Tells d frame (shows_gone key answer) mid new mid_net now_net result ⊎ RunsShort mid new mid_net now_net result

-- it was asked, and there is no answer: what it sent is at fault, or memory was wanting
pub record AskedInVain {Own : Type 0} (Tells : Type 0) (d : ℕ) (key : Key) (old new : Seen Own) (net now_net : NetState) (result : Result (Option Event) TxnFault) : Type 0 where
  pub fault : TxnFault
  pub result_is : result ≡ Err fault
  pub asked : Queried Tells (key_inquiry d net.xid key) old new net now_net (Err fault)

-- The switch is asked, unless memory is wanting before that.
abbrev pub Settles : {Own : Type 0} → Type 0 → ℕ → List ℕ → Key → Seen Own → Seen Own → NetState → NetState → Result (Option Event) TxnFault → Type 0
Settles Tells d frame key old new net now_net result =
    RunsShort old new net now_net result ⊎ AskedInVain Tells d key old new net now_net result ⊎ SettlesBy Tells d frame key old new net now_net result

-- A message that is in no doubt is taken in, and the switch is not asked.
abbrev pub ArrivesOrSettles : {Own : Type 0} → Type 0 → ℕ → List ℕ → Option Key → Seen Own → Seen Own → NetState → NetState → Result (Option Event) TxnFault → Type 0
ArrivesOrSettles Tells d frame None old new net now_net result = Arrives Tells d frame old new net now_net result
ArrivesOrSettles Tells d frame (Some key) old new net now_net result = Settles Tells d frame key old new net now_net result
