-- What becomes of the messages that switches send: the events that they make, those that are kept where something else is awaited, and those
-- that find no room in an undo (OpenFlow 1.0.0, 4.2 Message Handling, 5.3.7 Barrier Message and 5.4 Asynchronous Messages). What is kept, and
-- the room, is our own choice.
use Rattle.std.specs.Prelude.{◌≡◌, ◌⊎◌, ℕ, Bool, true, false, not, List, [], ◌∷◌, ◌++◌, map, filter, Option, Result, Ok, Err, if◌then◌else◌}
use Rattle.std.specs.List.{list_any}
use Rattle.of_types.specs.declared.journal.Act.TheVariants.{Sent}
use Rattle.of_match.specs.Fields.{bytes_of, any_fields}
use Rattle.of_match.specs.Match.{match_of}
use Rattle.of_wire.specs.declared.bodies.FlowMod.{FlowMod as Change}
use Rattle.of_wire.specs.declared.message.Message.{Message}
use Rattle.of_wire.specs.declared.message.Message.TheVariants.{EchoReply, EchoRequest, FlowRemoved}
use Rattle.of_wire.specs.declared.message.Envelope.{Envelope}
use Rattle.of_wire.specs.declared.fault.WireFault.{WireFault}
use Rattle.of_wire.specs.Reading.{reading_of}
use Rattle.of_wire.specs.Spelling.{message_bytes}
use Rattle.flow_table.specs.declared.view.ViewRow.{ViewRow}
use Rattle.app_frames.specs.declared.frame.Event.{Event}
use Rattle.outside.specs.declared.step.WorldStep.{WorldStep}
use Rattle.outside.specs.declared.step.WorldStep.TheVariants.{Acted}
use Rattle.lego_model.specs.declared.wait.Awaited.{Awaited}
use Rattle.lego_model.specs.declared.wait.Notices.TheVariants as notices
use Rattle.lego_model.specs.declared.wait.Heard.{Heard}
use Rattle.lego_model.specs.declared.wait.Heard.TheVariants.{Refused}
use Rattle.lego_model.specs.Events.{event_of_message, event_list}
use Rattle.lego_model.specs.BarrierWaits.{heard, kept_by, barrier_sent, wait_steps, reply_got}
use Rattle.lego_model.specs.KeptMessages.{got_in, fits}
use Rattle.lego_model.specs.ViewRows.{rows_without, is_asked}
use Rattle.run_course.specs.Tables.{Tables, with_table}
use Rattle.flow_table.specs.RowKeys.{key_removed}
use Rattle.of_types.specs.Membership.{is_among}

-- ---- The events that a message makes

-- The events that a message of a joined switch makes, by the rows of that switch. A notice makes one if the owner of the entry asked for it (5.4.2
-- Flow Removed Message). An ERROR makes one with its type and code (5.4.4 Error Message).
abbrev pub events_made : ℕ → Option (List ViewRow) → Message → List Event
events_made d rows (FlowRemoved f) = if is_asked (key_removed f) rows then event_list (event_of_message d (FlowRemoved f)) else []
events_made d rows m = event_list (event_of_message d m)

abbrev pub events_read : ℕ → Option (List ViewRow) → Result Envelope WireFault → List Event
events_read d rows (Ok e) = events_made d rows e.message
events_read d rows (Err fault) = []

-- the tables behind it: with a notice the entry is gone
abbrev pub tables_left : ℕ → Message → Tables → Tables
tables_left d (FlowRemoved f) tables = with_table d (rows_without (key_removed f ∷ [])) tables
tables_left d m tables = tables

abbrev pub tables_read : ℕ → Result Envelope WireFault → Tables → Tables
tables_read d (Ok e) tables = tables_left d e.message tables
tables_read d (Err fault) tables = tables

-- messages, each with its switch, one after the other: the events that they make, and the tables behind them
abbrev pub all_events : List (ℕ × List ℕ) → Tables → List Event
all_events [] tables = []
all_events (m ∷ more) tables = events_read m.0 (tables m.0) (reading_of m.1) ++ all_events more (tables_read m.0 (reading_of m.1) tables)

abbrev pub tables_behind : List (ℕ × List ℕ) → Tables → Tables
tables_behind [] tables = tables
tables_behind (m ∷ more) tables = tables_behind more (tables_read m.0 (reading_of m.1) tables)

-- ---- What a controller says by itself

-- an ECHO_REQUEST is answered with its transaction id and what it carries, and no other message (5.5.2 Echo Request)
abbrev pub replies_to : Message → List Message
replies_to (EchoRequest payload) = EchoReply payload ∷ []
replies_to m = []

abbrev pub replies_read : Result Envelope WireFault → List (List ℕ)
replies_read (Ok e) = map (message_bytes e.xid) (replies_to e.message)
replies_read (Err fault) = []

-- it deletes all entries of a table, whatever they match and wherever they send packets: DELETE is 3, OFPP_NONE 0xffff (5.3.3 Modify State Messages)
pub record EmptiesTable (m : Change) : Type 0 where
  pub deletes : m.command ≡ 3
  pub any_match : m.matching ≡ match_of (bytes_of any_fields)
  pub any_output : m.out_port ≡ 0xffff

-- ---- Steps of a history

-- the history went on, and no message came that was awaited
pub record GotNone (before after : List WorldStep) : Type 0 where
  pub steps : List WorldStep
  pub history : after ≡ before ++ steps
  pub none : got_in steps ≡ []

-- ---- A wait for the reply to a barrier

-- some message that came is an ERROR that refuses what the wait is about (5.4.4 Error Message)
abbrev pub is_refusal : Heard → Bool
is_refusal (Refused refusal) = true
is_refusal _ = false

abbrev pub is_refused : Awaited → List (List ℕ) → Bool
is_refused a got = list_any (λ b. is_refusal (heard a b)) got

abbrev pub sent_steps : ℕ → List (List ℕ) → List WorldStep
sent_steps d sent = map (λ bytes. Acted (Sent d bytes)) sent

-- Messages were sent to a switch, and then a barrier; these messages came, and then its reply.
pub record Waited (before after : List WorldStep) : Type 0 where
  pub awaited : Awaited
  pub sent : List (List ℕ)
  pub got : List (List ℕ)
  pub history : after ≡ before ++ (sent_steps awaited.dpid sent ++ (barrier_sent awaited ∷ (wait_steps awaited got ++ reply_got awaited ∷ [])))

-- ---- In an undo messages are kept in a store of fixed size, and a switch that is lost takes its own with it.

-- messages but for those of the switches
abbrev pub but_of : List ℕ → List (ℕ × List ℕ) → List (ℕ × List ℕ)
but_of switches messages = filter (λ m. not (is_among m.0 switches)) messages

-- An undo awaits the reply to a barrier alone, and this is kept of a message that comes meanwhile: nothing of the reply, of an ECHO_REQUEST, which
-- is answered, and of a notice of an entry that was deleted; all others are kept.
pub record HeardInUndo (m : ℕ × List ℕ) (kept : List (ℕ × List ℕ)) : Type 0 where
  pub awaited : Awaited
  pub of_switch : awaited.dpid ≡ m.0
  pub no_refusal : awaited.first ≡ awaited.barrier
  pub notices : awaited.notices ≡ notices.Dropped
  pub kept_is : kept ≡ kept_by m.0 (heard awaited m.1) m.1

-- Each of the messages that came is put behind those that are stored, but for those that are not kept, and those for which there is no room.
abbrev pub AreStored : List (ℕ × List ℕ) → List (ℕ × List ℕ) → List (ℕ × List ℕ) → Type 0
AreStored [] stored now_stored = now_stored ≡ stored
AreStored (m ∷ more) stored now_stored =
    (HeardInUndo m (m ∷ []) × AreStored more (stored ++ m ∷ []) now_stored) ⊎ (HeardInUndo m [] × AreStored more stored now_stored) ⊎ ((fits stored m.1 ≡ false) × AreStored more stored now_stored)
